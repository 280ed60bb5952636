-- Allowed reserves, and the ticks that a reserve supplies in the worst window of a length.
-- Document 01, "Demand, supply, and the report's test" (RULES 2.3).
use Rattle.std.specs.Prelude.{ℕ, ◌+◌, ◌*◌, ◌-◌, ◌/◌, ◌%◌, ◌≤◌, ◌≡◌, cond, ◌⊎◌, eqb}

-- L + 1 ≤ R ≤ S − 1
pub record Ring (S L R : ℕ) : Type 0 where
  pub enters : L + 1 ≤ R
  pub parts : R + 1 ≤ S

-- a reserve is allowed on the ring, or as a whole processor
abbrev pub Allowed : (S L R : ℕ) → Type 0
Allowed S L R = Ring S L R ⊎ (R ≡ S)

-- f = S − R + L for a ring reserve: the longest stretch with nothing usable. A whole processor has none.
unfoldable pub gap : (S L R : ℕ) → ℕ
gap S L R = cond (eqb R S) 0 (S - R + L)

-- with t = kS + x and 0 ≤ x < S: k·(S − f) + max(0, x − f)
unfoldable pub supply_past : (S f t : ℕ) → ℕ
supply_past S f t = t / S * (S - f) + (t % S - f)

-- with v = k(S − f) + x and 0 ≤ x < S − f: kS + f + x, the last length whose supply past the gap is v
unfoldable pub last_with : (S f v : ℕ) → ℕ
last_with S f v = v / (S - f) * S + (f + v % (S - f))

-- supply at t of a ring reserve; t itself for R = S
unfoldable pub supply : (S L R t : ℕ) → ℕ
supply S L R t = cond (eqb R S) t (supply_past S (S - R + L) t)

-- The lengths where a demand steps, for any demand. Document 02, Req 02 (RULES 4.2).
use Rattle.std.specs.Prelude.{ℕ, ◌-◌, ◌<◌, min, Bool, cond, ltb}

-- the demand steps at t: it is more than at the length before
abbrev pub StepsAt : (g : ℕ → ℕ) → ℕ → Type 0
StepsAt g t = g (t - 1) < g t

-- the same as a test
unfoldable pub steps : (g : ℕ → ℕ) → ℕ → Bool
steps g t = ltb (g (t - 1)) (g t)

-- of two demands, the greater: where it comes to what it is at a bound. They are a and b there and step last at x and y: the larger of
-- the two decides, and where they are equal the sooner.
unfoldable pub last_of_greater : (a x b y : ℕ) → ℕ
last_of_greater a x b y = cond (ltb a b) y (cond (ltb b a) x (min x y))

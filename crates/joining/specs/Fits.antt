-- Which of the servers that take a task it joins, by the room that each has: by first fit the lowest-numbered, by best fit the one with
-- the least room, by worst fit the one with the most; of several the lowest-numbered. Document 02, Req 05 (source document 003).
use Rattle.std.specs.Prelude.{ℕ, zero, suc, ◌≤◌, ◌<◌, ◌≡◌, ◌⊎◌, Bool, false, cond, ◌&&◌, ◌||◌, eqb, ltb}
use Rattle.packing.specs.declared.Fit.{Fit}
use Rattle.packing.specs.declared.Fit.TheVariants.{First, Best, Worst}
use Rattle.joining.specs.Join.{FitRule}

-- server t is better than q, which has a lower number
abbrev pub better : Fit → (room : ℕ → ℕ) → (t q : ℕ) → Bool
better First room t q = false
better Best room t q = ltb (room t) (room q)
better Worst room t q = ltb (room q) (room t)

-- t, where it has p and nothing was found before or it is better than what was found; else what was found
unfoldable pub preferred : (better : ℕ → ℕ → Bool) → (p : ℕ → Bool) → (found t : ℕ) → ℕ
preferred better p zero t = cond (p t) t 0
preferred better p (suc found) t = cond (p t && better t (suc found)) t (suc found)

-- of the numbers in 1..n that have p the one that no other is better than, the lowest of several, or 0
unfoldable pub best_up_to : (better : ℕ → ℕ → Bool) → (p : ℕ → Bool) → ℕ → ℕ
best_up_to better p zero = 0
best_up_to better p (suc n) = preferred better p (best_up_to better p n) (suc n)

-- the rule of a fit
unfoldable pub fit_by : Fit → (room : ℕ → ℕ) → FitRule
fit_by fit room candidate lo hi = best_up_to (better fit room) (λ (q : ℕ). ltb lo q && candidate q) hi

-- the fit names q rather than x: by first fit the lower number, by best fit less room, by worst fit more; with as much room the lower
-- number
abbrev pub Rather : Fit → (room : ℕ → ℕ) → (q x : ℕ) → Type 0
Rather First room q x = q ≤ x
Rather Best room q x = (room q < room x) ⊎ ((room q ≡ room x) × (q ≤ x))
Rather Worst room q x = (room x < room q) ⊎ ((room q ≡ room x) × (q ≤ x))

-- a server of this room is worth asking: nothing was found before, or it is better than what was found, which has the room `held`
unfoldable pub worth_asking : Fit → (found room held : ℕ) → Bool
worth_asking fit found room held = eqb found 0 || better fit (λ (x : ℕ). x) room held

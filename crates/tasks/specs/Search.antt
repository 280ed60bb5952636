-- A test over the tasks in their order: whether it holds of some, and the first for which it does.
-- Document 01, "Refusal numbers and their order" (RULES 6): first task first.
use Rattle.std.specs.Prelude.{ℕ, zero, suc, List, [], ◌∷◌, Bool, false, cond, ◌||◌, Err, Ok}
use Rattle.refusals.specs.declared.Refusal.{Refusal}
use Rattle.refusals.specs.Refused.{Outcome}

-- whether a test holds of some of these, and the place from 1 of the first for which it does (0: none)
unfoldable pub some : {A : Type 0} → (A → Bool) → List A → Bool
some p [] = false
some p (t ∷ ts) = p t || some p ts

unfoldable pub first_from : {A : Type 0} → (A → Bool) → ℕ → List A → ℕ
first_from p k [] = 0
first_from p k (t ∷ ts) = cond (p t) k (first_from p (suc k) ts)

abbrev pub first_task : {A : Type 0} → (A → Bool) → List A → ℕ
first_task p ts = first_from p 1 ts

-- a refusal at the first task, where there is one
abbrev pub at_task : (ℕ → Refusal) → ℕ → Outcome
at_task r zero = Ok tt
at_task r (suc k) = Err (r (suc k))

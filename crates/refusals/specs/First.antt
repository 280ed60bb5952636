-- The first refusal of several rows in order.
-- Document 01, "where several hold, only the first in this order is given" (RULES 6.2).
use Rattle.std.specs.Prelude.{ℕ, zero, suc, Bool, true, false, Err, Ok}
use Rattle.refusals.specs.declared.Refusal.{Refusal}
use Rattle.refusals.specs.Refused.{Outcome}

-- the first outcome that refuses
abbrev pub first_of : Outcome → Outcome → Outcome
first_of (Ok _) later = later
first_of (Err r) later = Err r

-- a refusal where its row holds
abbrev pub when : Bool → Refusal → Outcome
when true r = Err r
when false r = Ok tt

-- the first of the outcomes 1 to n that refuses
unfoldable pub till : (ℕ → Outcome) → ℕ → Outcome
till out zero = Ok tt
till out (suc n) = first_of (till out n) (out (suc n))

-- The answer under a limit, both ways: what makes each of the two answers, and what each says of the number.
-- Assumes nothing.
use Rattle.std.specs.Prelude.{None, Some}
use Prim.Native.Nat.{ℕ, ◌≤◌, ◌<◌}
use mathlib.Core.Path.{◌≡◌, refl}
use mathlib.Core.Bool.{Bool, true, false, cond}
use borrow.Author.Tests.{le-leb, lt-leb, leb-true, leb-false}
use lib.Dec.{leb}
use Rattle.laws.proofs.Tests.{clash}
use Rattle.laws.proofs.Choices.{cond_true, cond_false}
use Rattle.wholes.specs.Multiple.{within}

module _ (limit m : ℕ) where
  -- at most the limit: the number
  pub within_is : m ≤ limit → within limit m ≡ Some m
  unfolding within
  within_is h = cond_true _ _ (le-leb m limit h)

  -- past the limit: none
  pub past_is : limit < m → within limit m ≡ None
  unfolding within
  past_is h = cond_false _ _ (lt-leb m limit h)

  value_by : (n : ℕ) (t : Bool) → leb m limit ≡ t → cond t (Some m) None ≡ Some n → (n ≡ m) × (m ≤ limit)
  value_by n true e p = (cc, leb-true m limit e)
  value_by n false e p = clash (cc)

  -- the answer is a number: it is that number, at most the limit
  pub within_value : (n : ℕ) → within limit m ≡ Some n → (n ≡ m) × (m ≤ limit)
  unfolding within
  within_value n p = value_by n (leb m limit) refl p

  past_by : (t : Bool) → leb m limit ≡ t → cond t (Some m) None ≡ None → limit < m
  past_by true e p = clash (cc)
  past_by false e p = leb-false m limit e

  -- the answer is none: the number is past the limit
  pub past_value : within limit m ≡ None → limit < m
  unfolding within
  past_value p = past_by (leb m limit) refl p

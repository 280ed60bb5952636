-- A law of tests.
use Prim.Native.Nat.{ℕ, ◌≤◌}
use native.Mathlib.Omega.{arith}
use native.Mathlib.Decide.{dec_lt}
use mathlib.Core.Bool.{not}
use mathlib.Core.Path.{◌≡◌, sym, ◌∙◌, ap}
use lib.Dec.{leb, ltb}
use borrow.Author.Tests.{lt-ltb, le-ltb, le-leb, lt-leb}

-- below is not at most, the other way round
pub below_not_most : (a b : ℕ) → ltb a b ≡ not (leb b a)
below_not_most a b =
    elim (dec_lt a b) [
      | yes h ↦ lt-ltb a b h ∙ sym (ap not (lt-leb b a h))
      | no h ↦ let le : b ≤ a = omega (arith, h) in le-ltb a b le ∙ sym (ap not (le-leb b a le))
    ]

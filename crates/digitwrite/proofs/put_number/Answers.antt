-- `digitwrite::put_number` meets its contract: the digits set so far, with the rest yet to be stored, are the whole number stored.
-- Assumes nothing.
use Prim.Native.Nat.{ℕ, suc, ◌+◌, ◌-◌, ◌/◌, ◌%◌}
use mathlib.Core.Path.{◌≡◌, sym, ◌∙◌, ap}
use native.Mathlib.Omega.{arith}
use lib.ListN.{length-set, set}
use Rattle.digits.specs.Digit.{digit_of}
use Rattle.digits.specs.Number.{hex}
use Rattle.digits.specs.Stored.{stored}
use Rattle.digits.proofs.Numbers.{digit_stored}
use Rattle.digits.proofs.Stored.{stored_nil}
use Rattle.digitwrite.proofs.put_number.Goals as goal

-- one digit more is set, and one less is yet to be stored
pub loop-j-preserved : goal.loop-j-preserved
loop-j-preserved c =
    let a = c.args in
    let l = c.loop-j in
    let left : ℕ = l.j - 1 - a.at in
    let place : l.j - 1 ≡ a.at + left = omega arith in
    let one_less : suc left ≡ l.j - a.at = omega arith in (
      omega arith,
      omega arith,
      simp length-set (omega arith),
      rw c.digit.ensures
          (ap (λ (n : ℕ). stored (set l.out n (digit_of (l.rest % 16))) a.at (hex left (l.rest / 16))) place
          ∙ digit_stored l.out a.at left l.rest (omega arith)
          ∙ ap (λ (n : ℕ). stored l.out a.at (hex n l.rest)) one_less
          ∙ l.invariant.3),
    )

pub returns : goal.returns
unfolding hex
returns c =
    let a = c.args in
    let l = c.loop-j in
    let none : l.j - a.at ≡ 0 = omega arith in
    sym (ap (λ (n : ℕ). stored l.out a.at (hex n l.rest)) none ∙ stored_nil l.out a.at) ∙ l.invariant.3

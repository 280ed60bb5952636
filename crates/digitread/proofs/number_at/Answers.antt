-- `digitread::number_at` meets its contract: the digits read so far stand for the number so far, which sixteen of them keep below 64 bits.
-- Assumes nothing.
use Prim.Native.Nat.{ℕ, ◌+◌, ◌-◌, ◌*◌, ◌^◌, ◌≤◌, ◌<◌}
use mathlib.Core.Path.{◌≡◌, refl, ◌∙◌, ap}
use mathlib.Core.Bool.{true}
use mathlib.Core.List.{List}
use native.Mathlib.Omega.{arith}
use lib.ListN.{length, take, drop, get_or, length-drop}
use lib.Seq.{length-take-le, take_all}
use Rattle.digits.specs.Digit.{legal, value_of, all_legal}
use Rattle.digits.specs.Number.{number_from, number}
use Rattle.digits.proofs.Numbers.{legal_at, number_next, number_fits}
use Rattle.digitread.proofs.number_at.Goals as goal

-- the digits that are read: they are legal, and the number with the next one fits 64 bits
module _ (text : List ℕ) (at width : ℕ) where
  abbrev part : List ℕ
  part = take (at + width - at) (drop at text)

  part_is : part ≡ take width (drop at text)
  part_is = let same : at + width - at ≡ width = omega arith in ap (λ (n : ℕ). take n (drop at text)) same

  module _ (p : all_legal (take width (drop at text)) ≡ true) (i : ℕ) (h : i < length part) where
    next_legal : legal (get_or part i 0) ≡ true
    next_legal = legal_at part i (ap all_legal part_is ∙ p) h

    next_fits : at + width ≤ length text → width ≤ 16 → number (take i part) * 16 + value_of (get_or part i 0) < 16 ^ 16
    next_fits within few = number_fits part i h (ap all_legal part_is ∙ p)
        (omega (arith, h, few, ap length part_is, length-take-le width (drop at text) (omega (arith, length-drop at text, within))))

pub loop-b-init : goal.loop-b-init
unfolding number_from
loop-b-init c = refl

pub overflow_mul-sum : goal.overflow_mul-sum
overflow_mul-sum c =
    let a = c.args in
    omega (arith, next_fits a.text.now a.at a.width c.requires.text_value c.loop-b.b-index c.loop-b-test.true c.requires.width_in_bounds c.requires.width_bound, c.loop-b.invariant)

pub value-requires : goal.value-requires
value-requires c =
    let a = c.args in
    next_legal a.text.now a.at a.width c.requires.text_value c.loop-b.b-index c.loop-b-test.true

pub overflow_add-sum : goal.overflow_add-sum
overflow_add-sum c =
    let a = c.args in
    omega (arith, next_fits a.text.now a.at a.width c.requires.text_value c.loop-b.b-index c.loop-b-test.true c.requires.width_in_bounds c.requires.width_bound, c.loop-b.invariant, c.value.ensures)

pub loop-b-preserved : goal.loop-b-preserved
loop-b-preserved c =
    let a = c.args in
    omega (arith, number_next (part a.text.now a.at a.width) c.loop-b.b-index c.loop-b-test.true, c.loop-b.invariant, c.value.ensures)

pub returns : goal.returns
returns c =
    let a = c.args in
    c.loop-b.invariant
    ∙ ap number (take_all c.loop-b.b-index (part a.text.now a.at a.width) (omega (arith, c.loop-b-test.false)) ∙ part_is a.text.now a.at a.width)

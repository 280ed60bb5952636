-- `wholes::least_multiple` meets its contract: the quotient is at most the limit's exactly when the multiple is at most the limit.
-- Assumes nothing.
use Rattle.std.specs.Prelude.{Some}
use Prim.Native.Nat.{ℕ, ◌*◌, ◌/◌, ◌≤◌, ◌<◌}
use mathlib.Core.Path.{◌≡◌, sym, ap, ◌∙◌}
use native.Mathlib.Nat.{pos_of_ne-zero, le-div_iff_mul-le, div-lt_iff_lt-mul}
use native.Mathlib.Omega.{arith}
use Rattle.wholes.specs.Measure.{common_measure}
use Rattle.wholes.specs.Multiple.{least_multiple, within}
use Rattle.wholes.proofs.MeasureLaws.{measure_pos}
use Rattle.wholes.proofs.MultipleLaws.{multiple_zero, multiple_by}
use Rattle.wholes.proofs.WithinLaws.{within_is, past_is}
use Rattle.least_multiple.proofs.least_multiple.Goals as goal

-- the number computed is the multiple, and is at most the limit
answer : (limit m n : ℕ) → n ≡ m → n ≤ limit → Some n ≡ within limit m
answer limit m n e h = ap Some e ∙ sym (within_is limit m (omega arith))

-- the quotient is at most the limit's, so the multiple is at most the limit
fits : (q b limit : ℕ) → (b ≡ 0 → ⊥) → q ≤ limit / b → q * b ≤ limit
fits q b limit z h = (le-div_iff_mul-le (pos_of_ne-zero z)).0 h

-- the quotient is past the limit's
past : (a b limit g : ℕ) → (b ≡ 0 → ⊥) → g ≡ common_measure a b → limit / b < a / g → limit < least_multiple a b
past a b limit g z e h = omega (arith, (div-lt_iff_lt-mul {k = b} {x = limit} {y = a / g} (pos_of_ne-zero z)).0 h, multiple_by a b e)

pub returns-then-b-eq0 : goal.returns-then-b-eq0
returns-then-b-eq0 c = answer _ _ 0 (multiple_zero c.args.a c.args.b c.if-b-eq0.true) (omega arith)

pub nonzero_div-q : goal.nonzero_div-q
nonzero_div-q c =
    omega (arith, c.common_measure-g.ensures, measure_pos c.args.a c.args.b (pos_of_ne-zero c.if-b-eq0.false))

pub overflow_mul-result : goal.overflow_mul-result
overflow_mul-result c =
    let x = c.args in
    omega (arith, fits (x.a / c.common_measure-g.result) x.b x.limit c.if-b-eq0.false (omega arith))

pub returns-then-q-limit : goal.returns-then-q-limit
returns-then-q-limit c =
    let x = c.args in
    answer x.limit (least_multiple x.a x.b) (x.a / c.common_measure-g.result * x.b)
    (multiple_by x.a x.b c.common_measure-g.ensures)
    (fits (x.a / c.common_measure-g.result) x.b x.limit c.if-b-eq0.false (omega arith))

pub returns-else-q-limit : goal.returns-else-q-limit
returns-else-q-limit c =
    let x = c.args in
    sym
    (past_is x.limit (least_multiple x.a x.b)
    (past x.a x.b x.limit c.common_measure-g.result c.if-b-eq0.false
    c.common_measure-g.ensures (omega arith)))

-- `digitwrite::too_large` meets its contract: what is left after as many digits as the width is nothing exactly when the number fits.
-- Assumes nothing.
use Prim.Native.Nat.{ℕ, ◌/◌, ◌^◌}
use mathlib.Core.Path.{◌≡◌, sym, ◌∙◌, ap}
use mathlib.Core.Bool.{not}
use native.Mathlib.Nat.{div-one, div-div-eq-div-mul, pow-suc}
use native.Mathlib.Numerals.{add-one}
use native.Mathlib.Omega.{arith}
use lib.Dec.{eqb}
use Rattle.digits.proofs.Numbers.{digits_left}
use Rattle.digitwrite.proofs.too_large.Goals as goal

pub loop-init : goal.loop-init
loop-init c = (omega arith, sym (div-one c.args.value))

pub loop-preserved : goal.loop-preserved
loop-preserved c =
    let v = c.args.value in
    let l = c.loop in
    (omega arith, ap (λ (n : ℕ). n / 16) l.invariant.1 ∙ div-div-eq-div-mul v (16 ^ l.counter) 16 ∙ ap (λ (n : ℕ). v / n) (sym (pow-suc 16 l.counter) ∙ ap (λ (n : ℕ). 16 ^ n) (sym (add-one l.counter))))

pub returns : goal.returns
returns c =
    let a = c.args in
    let l = c.loop in
    let all : l.counter ≡ a.width = omega arith in
    ap (λ (n : ℕ). not (eqb n 0)) (l.invariant.1 ∙ ap (λ (n : ℕ). a.value / 16 ^ n) all) ∙ digits_left a.width a.value

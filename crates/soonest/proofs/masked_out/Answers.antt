-- `masked_out` meets its contract: of two deadlines the smaller decides. Assumes nothing.
use Prim.Native.Nat.{ℕ, ◌≤◌}
use mathlib.Core.Path.{◌≡◌, sym}
use mathlib.Core.Logic.{⊎_elim}
use native.Mathlib.Omega.{arith}
use Rattle.laws.proofs.Orders.{le_or_lt}
use Rattle.joining.proofs.SoonestLaws.{out_none, out_same, out_apart}
use Rattle.soonest.proofs.masked_out.Goals as goal

-- a number that is not 0
some : (n : ℕ) → (n ≡ 0 → ⊥) → 1 ≤ n
some n h = ⊎_elim (λ (p : 1 ≤ n). p) (λ z. absurd (h (omega arith))) (le_or_lt 1 n)

pub returns-then-soonest-eq0 : goal.returns-then-soonest-eq0
returns-then-soonest-eq0 c = sym (out_none _ _ _ c.if-soonest-eq0.true)

pub returns-then-due-soonest : goal.returns-then-due-soonest
returns-then-due-soonest c =
    let a = c.args in
    sym (out_apart a.masked a.due a.soonest (some _ c.if-soonest-eq0.false) (omega (arith, c.if-due-soonest.true)) (omega (arith, c.if-due-soonest.true)))

pub returns-then-soonest-due : goal.returns-then-soonest-due
returns-then-soonest-due c =
    let a = c.args in
    sym (out_apart a.masked a.due a.soonest (some _ c.if-soonest-eq0.false) (omega (arith, c.if-soonest-due.true)) (omega (arith, c.if-soonest-due.true)))

pub returns : goal.returns
returns c = sym (out_same _ _ _ (omega (arith, c.if-soonest-due.false, c.if-due-soonest.false)))

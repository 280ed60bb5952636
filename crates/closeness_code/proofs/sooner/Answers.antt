-- `sooner` meets its contract.
-- Assumes nothing.
use Prim.Native.Nat.{ℕ, zero, suc, min}
use mathlib.Core.Path.{◌≡◌, sym, ap}
use native.Mathlib.Omega.{arith}
use Rattle.closeness.specs.Begins.{sooner_of}
use Rattle.closeness_code.proofs.sooner.Goals as goal

-- the smaller, where there is a first one
smaller : (first d : ℕ) → (first ≡ 0 → ⊥) → sooner_of first d ≡ min first d
smaller zero d n = absurd (n (omega arith))
smaller (suc first) d n = omega arith

pub returns-then-first-eq0 : goal.returns-then-first-eq0
returns-then-first-eq0 c = let a = c.args in sym (ap (λ (x : ℕ). sooner_of x a.d) c.if-first-eq0.true)

pub returns-then-earlier : goal.returns-then-earlier
returns-then-earlier c = let a = c.args in omega (arith, c.if-earlier.true, smaller a.first a.d c.if-first-eq0.false)

pub returns : goal.returns
returns c = let a = c.args in omega (arith, c.if-earlier.false, smaller a.first a.d c.if-first-eq0.false)

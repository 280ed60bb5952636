-- `last_of_greater` meets its contract.
-- Assumes nothing.
use Prim.Native.Nat.{min}
use mathlib.Core.Path.{◌≡◌, sym, ◌∙◌}
use mathlib.Core.Bool.{cond}
use native.Mathlib.Omega.{arith}
use lib.Dec.{ltb}
use Rattle.laws.proofs.Choices.{cond_ltb, cond_ltb_not}
use Rattle.steps.specs.Stepping.{last_of_greater}
use Rattle.last_of_greatest.proofs.last_of_greater.Statement.{statement}
use Rattle.last_of_greatest.proofs.last_of_greater.Tie as tie

returns-then-a-b : tie.Need-returns-then-a-b
unfolding last_of_greater
returns-then-a-b c = let a = c.args in sym (cond_ltb a.y (cond (ltb a.b a.a) a.x (min a.x a.y)) c.if-a-b.true)

-- past the first test the second decides
rest : (c : tie.Else-a-b) → let a = c.args in last_of_greater a.a a.x a.b a.y ≡ cond (ltb a.b a.a) a.x (min a.x a.y)
unfolding last_of_greater
rest c = let a = c.args in cond_ltb_not a.y (cond (ltb a.b a.a) a.x (min a.x a.y)) c.if-a-b.false

returns-then-b-a : tie.Need-returns-then-b-a
returns-then-b-a c = let a = c.args in sym (rest c.before ∙ cond_ltb a.x (min a.x a.y) c.if-b-a.true)

equally : (c : tie.Else-b-a) → let a = c.args in last_of_greater a.a a.x a.b a.y ≡ min a.x a.y
equally c = let a = c.args in rest c.before ∙ cond_ltb_not a.x (min a.x a.y) c.if-b-a.false

returns-then-later : tie.Need-returns-then-later
returns-then-later c = omega (arith, c.if-later.true, equally c.before)

returns : tie.Need-returns
returns c = omega (arith, c.if-later.false, equally c.before)

pub last_of_greater_spec : {M : Type 1} → statement M
last_of_greater_spec =
    tie.close
    (tie.spec
    returns-then-a-b
    returns-then-b-a
    returns-then-later
    returns)

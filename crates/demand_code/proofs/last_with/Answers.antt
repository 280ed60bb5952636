-- `last_with` meets its contract: what it adds up is at most the length, and so is the supply, so nothing wraps.
-- Assumes nothing.
use Prim.Native.Nat.{ℕ, ◌+◌, ◌%◌, ◌^◌, ◌<◌}
use native.Mathlib.Nat.{mod-le, div-add-mod'}
use native.Mathlib.Numerals.{unary_clauses}
use native.Mathlib.Omega.{arith}
use mathlib.Core.Path.{◌≡◌, sym, ap, ◌∙◌}
use Rattle.demand.specs.Supply.{last_with}
use Rattle.demand.proofs.Reach.{last_reaches}
use Rattle.demand_code.proofs.last_with.Goals as goal

-- a remainder fits where the whole does
rest-fits : (a v u : ℕ) → a + v < 2 ^ 64 → a + v % u < 2 ^ 64
rest-fits a v u h = omega (arith, mod-le v u)

-- without a gap the last length with a supply is that supply
no_gap : (S v : ℕ) → last_with S 0 v ≡ v
unfolding last_with
no_gap S v = simp unary_clauses (omega (arith, div-add-mod' v S))

pub returns-then-gap-eq0 : goal.returns-then-gap-eq0
returns-then-gap-eq0 c = sym (ap (λ (f : ℕ). last_with c.args.slot f c.args.supply) c.if-gap-eq0.true ∙ no_gap c.args.slot c.args.supply)

pub overflow_mul-result : goal.overflow_mul-result
unfolding last_with
overflow_mul-result c = omega arith

pub overflow_add-result : goal.overflow_add-result
unfolding last_with
overflow_add-result c = omega arith

pub overflow_add-result-2 : goal.overflow_add-result-2
unfolding last_with
overflow_add-result-2 c =
    let reaches = last_reaches c.args.slot c.args.gap c.args.supply c.requires.0 in
    record { fits = rest-fits _ _ _ (omega (arith, reaches)) }

pub returns : goal.returns
unfolding last_with
returns c = omega arith

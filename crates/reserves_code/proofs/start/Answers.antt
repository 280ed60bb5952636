-- `sums::start` meets its contract: the ring reserves of lower number are the first q − 1.
-- Assumes nothing.
use Prim.Native.Nat.{ℕ, ◌-◌}
use mathlib.Core.Path.{sym, ap, ◌∙◌}
use native.Mathlib.Numerals.{sub-one}
use native.Mathlib.Omega.{arith}
use lib.ListN.{take}
use Rattle.reserves.specs.Reserves.{ring_ticks}
use Rattle.reserves.proofs.Starts.{fewer, taken_start}
use Rattle.reserves_code.proofs.start.Goals as goal

pub ring_ticks-requires : goal.ring_ticks-requires
ring_ticks-requires c = fewer c.requires.0 _ (omega arith)

pub returns : goal.returns
returns c =
    let a = c.args in
    c.ring_ticks.ensures ∙ sym (taken_start c.requires.0 (a.q - 1) (omega arith)) ∙
    ap (λ (i : ℕ). ring_ticks a.slot (take i (take a.n a.reserves.now))) (sub-one a.q)

-- The sum of those below a slot is the ring's ticks, of which there are few.
-- Assumes nothing.
use Rattle.std.proofs.Common.{ℕ, ◌<◌, List, take, ◌∙◌, rules, tests, arith}
use Rattle.std.specs.List.{sum, filter}
use Rattle.std.proofs.lemmas.Iterator.{YieldsList-from_slice}
use Rattle.std.proofs.lemmas.Iterator.Consumers.{YieldsList-from_filter, fits_from_yields_list, sum_from_yields_List}
use native.Mathlib.Nat.{le_refl}
use lib.Dec.{ltb}
use Rattle.reserves.specs.Slotted.{SlottedFirst}
use Rattle.reserves.proofs.Starts.{ring_room}
use Rattle.reserves_code.proofs.ChainLaws.{ticks_chain}
use Rattle.reserves_code.proofs.ring_ticks.Goals as goal

-- the sum has room
small : (S : ℕ) (rs : List ℕ) (n : ℕ) → SlottedFirst S rs n → sum (filter (λ (R : ℕ). ltb R S) (take n rs)) < 18446744073709551616
small S rs n laid = omega (arith, ticks_chain S (take n rs), ring_room laid n (le_refl n), laid.slot_below)

pub sum-requires-clause-fits : goal.sum-requires-clause-fits
sum-requires-clause-fits c =
    let rs = take c.args.n c.args.reserves.now in
    fits_from_yields_list c.filter.result _
    (YieldsList-from_filter _ (λ (R : ℕ). ltb R c.args.slot) (YieldsList-from_slice rs (search rules)) c.filter.ensures.closure (λ x r q k. search (rules, tests)))
    (small _ _ _ c.requires)

pub returns : goal.returns
returns c =
    let rs = take c.args.n c.args.reserves.now in
    sum_from_yields_List c.filter.result _ c.sum.ensures.ran
    (YieldsList-from_filter _ (λ (R : ℕ). ltb R c.args.slot) (YieldsList-from_slice rs (search rules)) c.filter.ensures.closure (λ x r q k. search (rules, tests)))
    ∙ ticks_chain c.args.slot rs

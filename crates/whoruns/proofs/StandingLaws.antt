-- A plan that is checked may be asked, and answers as the set's own reserves do.
-- Assumes nothing.
use Prim.Native.Nat.{ℕ, ◌+◌}
use mathlib.Core.Path.{◌≡◌, sym, ap, subst, ◌∙◌}
use mathlib.Core.Bool.{true}
use mathlib.Core.List.{List, map}
use native.Mathlib.Omega.{arith}
use borrow.Author.Tests.{leb-true}
use lib.Dec.{leb}
use lib.ListN.{length}
use Rattle.laws.proofs.Tests.{and_left, and_right}
use Rattle.reserves.specs.Slotted.{SlottedFirst}
use Rattle.ring.specs.declared.clock.Tick.{Tick}
use Rattle.ring.specs.Who.{who_of}
use Rattle.tasks.specs.Set.{most_tasks}
use Rattle.tasks.specs.declared.set.TaskSet.{TaskSet}
use Rattle.plan.specs.declared.plan.Plan.{Plan}
use Rattle.plan.specs.declared.server.Server.{Server}
use Rattle.plan.specs.Plan.{reserves_in}
use Rattle.layout.specs.Made.{set_reserves}
use Rattle.planner.specs.Planner.{needed}
use Rattle.plancheck.specs.Makes.{makes}
use Rattle.plancheck.proofs.Checked.{OfSet, of_set, laid_in}
use Rattle.planprocessor.specs.Standing.{is_processor, Standing}

module _ (set : TaskSet) (full : length set.tasks ≡ most_tasks) (plan : Plan) (e : makes set plan ≡ true) where
  own : OfSet set plan
  own = of_set set full plan e

  -- a processor that is there may be asked
  pub standing : length plan.server ≡ most_tasks → (p : ℕ) → is_processor plan p ≡ true → Standing plan p
  unfolding is_processor needed
  standing room p t = record {
    laid = subst (λ (S : ℕ). SlottedFirst S (map (λ (s : Server). s.reserve) plan.server) plan.servers) (sym own.slot) (laid_in set full plan e room);
    from_one = leb-true 1 p (and_left (leb 1 p) (leb p (plan.ring + plan.whole)) t);
    there = rw (own.slot, own.reserves) (omega (arith, leb-true p (plan.ring + plan.whole) (and_right (leb 1 p) (leb p (plan.ring + plan.whole)) t), own.processors));
  }

  -- who runs by the plan's own reserves is who runs by the set's
  pub who_same : (p : ℕ) (x : Tick) → who_of plan.slot (reserves_in plan) p x ≡ who_of set.header.slot (set_reserves set) p x
  who_same p x = ap (λ (S : ℕ). who_of S (reserves_in plan) p x) own.slot ∙ ap (λ (rs : List ℕ). who_of set.header.slot rs p x) own.reserves

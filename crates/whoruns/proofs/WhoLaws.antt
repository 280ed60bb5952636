-- Laws of the question who runs, of a plan that the planner makes of its set, and of another.
-- Assumes nothing.
use Rattle.std.specs.Prelude.{Ok}
use Prim.Native.Nat.{ℕ}
use mathlib.Core.Path.{◌≡◌}
use mathlib.Core.Bool.{true, false}
use Rattle.refusals.specs.declared.Refusal.TheVariants.{Ask}
use Rattle.ring.specs.declared.clock.Tick.{Tick}
use Rattle.ring.specs.declared.cover.Stand.{Stand}
use Rattle.ring.specs.Who.{who_of}
use Rattle.tasks.specs.declared.set.TaskSet.{TaskSet}
use Rattle.plan.specs.declared.plan.Plan.{Plan}
use Rattle.layout.specs.Made.{set_reserves}
use Rattle.plancheck.specs.Makes.{makes}
use Rattle.whoruns.specs.WhoRuns.{refused_who, who_runs}
use Rattle.planprocessor.specs.Standing.{is_processor}

-- a plan that the planner makes of its set
module _ (set : TaskSet) (plan : Plan) (m : makes set plan ≡ true) where
  pub who_absent : (p : ℕ) (x : Tick) → is_processor plan p ≡ false → refused_who Ask ≡ who_runs set plan p x
  unfolding who_runs
  who_absent p x e = rw (m, e)

  pub who_there : (p : ℕ) (x : Tick) (stand : Stand) → is_processor plan p ≡ true → stand ≡ who_of set.header.slot (set_reserves set) p x
      → record { outcome = Ok tt; server = stand.server; left = stand.left } ≡ who_runs set plan p x
  unfolding who_runs
  who_there p x stand e f = rw (m, e, f)

-- a plan that it does not make
pub who_unmade : (set : TaskSet) (plan : Plan) → makes set plan ≡ false → (p : ℕ) (x : Tick) → refused_who Ask ≡ who_runs set plan p x
unfolding who_runs
who_unmade set plan m p x = rw m

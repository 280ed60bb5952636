-- Laws of the question does a server pass, of a plan that the planner makes of its set, and of another.
-- Assumes nothing.
use Rattle.std.specs.Prelude.{Ok}
use Prim.Native.Nat.{ℕ}
use mathlib.Core.Path.{◌≡◌}
use mathlib.Core.Bool.{true, false}
use lib.ListN.{length}
use Rattle.refusals.specs.declared.Refusal.TheVariants.{Ask}
use Rattle.verdict.specs.declared.answer.Verdict.{Verdict}
use Rattle.members.specs.Server.{verdict_for}
use Rattle.tasks.specs.declared.set.TaskSet.{TaskSet}
use Rattle.tasks.specs.Set.{most_tasks}
use Rattle.loads.specs.Charge.{server_loss}
use Rattle.plan.specs.declared.plan.Plan.{Plan}
use Rattle.plan.specs.declared.server.Server.{Server}
use Rattle.plancheck.specs.Makes.{makes}
use Rattle.plancheck.proofs.Checked.{of_set}
use Rattle.doespass.specs.DoesPass.{refused_pass, own_pass, does_pass}
use Rattle.setfigures.specs.Board.{set_board}
use Rattle.named.specs.Named.{is_server, allowed}
use Rattle.planserver.specs.Recorded.{server_in, own_members}
use Rattle.planserver.proofs.Judging.{own_members_lem}

-- a server by its record
module _ (set : TaskSet) (own : Server) (R : ℕ) where
  pub own_barred : allowed set.header.slot (server_loss set.header (own_members set own)) R ≡ false → refused_pass Ask ≡ own_pass set own R
  unfolding own_pass
  own_barred e = rw e

  pub own_there : {v : Verdict} → allowed set.header.slot (server_loss set.header (own_members set own)) R ≡ true
      → v ≡ verdict_for (set_board set) (own_members set own) R → record { outcome = Ok tt; verdict = v } ≡ own_pass set own R
  unfolding own_pass
  own_there e g = rw (e, g)

-- a plan that the planner makes of its set
module _ (set : TaskSet) (plan : Plan) (m : makes set plan ≡ true) where
  pub pass_absent : (q R : ℕ) → is_server plan q ≡ false → refused_pass Ask ≡ does_pass set plan q R
  unfolding does_pass
  pass_absent q R e = rw (m, e)

  -- the question by the record of a server that is there
  pub pass_there : length set.tasks ≡ most_tasks → (q R : ℕ) → is_server plan q ≡ true → {own : Server} → own ≡ server_in set q → own_pass set own R ≡ does_pass set plan q R
  unfolding own_pass does_pass
  pass_there full q R e is = rw (m, e, own_members_lem set full (of_set set full plan m).clear q is)

-- a plan that it does not make
pub pass_unmade : (set : TaskSet) (plan : Plan) → makes set plan ≡ false → (q R : ℕ) → refused_pass Ask ≡ does_pass set plan q R
unfolding does_pass
pass_unmade set plan m q R = rw m

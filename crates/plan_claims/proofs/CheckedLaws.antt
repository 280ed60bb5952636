-- What a checked plan is, and what the two questions answer about it, from the theorems of placement, sizing, verdict and ring.
-- Assumes nothing.
use Prim.Native.Nat.{ℕ, ◌+◌, ◌≤◌}
use mathlib.Core.Path.{◌≡◌, ap, subst, ◌∙◌}
use mathlib.Core.Bool.{true}
use mathlib.Core.List.{List}
use native.Mathlib.Omega.{arith}
use borrow.Author.Tests.{leb-true, ltb-false}
use lib.Dec.{leb}
use lib.ListN.{length}
use Rattle.tasks.specs.Set.{most_tasks}
use Rattle.laws.proofs.Tests.{and_left, and_right}
use Rattle.demand.specs.Lawful.{Lawful}
use Rattle.verdict.proofs.Claims.{verdict_means}
use Rattle.loads.specs.Charge.{server_loss, Member}
use Rattle.loads.specs.Figures.{Figures}
use Rattle.members.specs.Server.{server_demand, server_horizon, verdict_for}
use Rattle.members.proofs.ServerLaws.{server_lawful}
use Rattle.servers.specs.Fitting.{Fitting}
use Rattle.servers.proofs.Claims.{planner_fits}
use Rattle.servers.proofs.FittingLaws.{fitting_asks}
use Rattle.members.proofs.FiledLaws.{every_chosen}
use Rattle.ring.specs.declared.clock.Tick.{Tick}
use Rattle.ring.specs.Who.{who_of}
use Rattle.reserves.specs.Reserves.{processors_of}
use Rattle.ring_claims.proofs.Claims.{who_serves, who_stays}
use Rattle.tasks.specs.declared.set.TaskSet.{TaskSet}
use Rattle.setfigures.specs.Figures.{set_figures}
use Rattle.setfigures.specs.Board.{set_board}
use Rattle.plan.specs.declared.plan.Plan.{Plan}
use Rattle.layout.specs.Made.{set_placement, set_reserves, plan_made}
use Rattle.planner.specs.Planner.{needed, full_row}
use Rattle.planner.proofs.Made.{members, alone, sound, slot_some, outcome_clear}
use Rattle.plancheck.specs.Makes.{makes}
use Rattle.plancheck.proofs.Checked.{OfSet, of_set, same_made, makes_done}
use Rattle.planprocessor.specs.Standing.{is_processor}
use Rattle.whoruns.specs.WhoRuns.{who_answer, who_runs}
use Rattle.doespass.specs.declared.PassAnswer.{PassAnswer}
use Rattle.named.specs.Named.{allowed, is_server}
use Rattle.planserver.specs.Members.{server_members}
use Rattle.doespass.specs.DoesPass.{pass_answer, does_pass}
use Rattle.plan_claims.specs.Claims.{members_in, FittingPlan, CheckedPlan, WhoTells, PassTells}
use Rattle.plan_claims.proofs.MemberLaws.{members_made}
use Rattle.plan_claims.proofs.FittingLaws.{Holds, holds_same, fitting_plan, with_holds}

module _ (set : TaskSet) (plan : Plan) (full : length set.tasks ≡ most_tasks) (e : makes set plan ≡ true) where
  known : OfSet set plan
  known = of_set set full plan e

  slot : 1 ≤ set.header.slot
  slot = slot_some set full known.clear

  -- the planner's placement fits
  planner_placed : Fitting (set_board set) (set_figures set) (set_placement set)
  unfolding set_placement
  planner_placed = planner_fits (set_board set) (set_figures set) (sound set full known.clear) (members set full known.clear) (alone set full (outcome_clear set (makes_done set plan e)).0)

  -- a checked plan holds it, as the set's own plan does
  pub checked_holds : Holds set (set_placement set) plan
  unfolding plan_made
  checked_holds = holds_same plan (plan_made set) (same_made set full plan e) (with_holds set full known.clear (set_placement set) planner_placed)

  checked_fits : FittingPlan set plan
  checked_fits = fitting_plan set full known.clear (set_placement set) planner_placed plan checked_holds

  on_board : needed set ≤ set.header.processors
  unfolding full_row
  on_board = ltb-false set.header.processors (needed set) (outcome_clear set (makes_done set plan e)).1

  -- all of it
  pub checked_plan : CheckedPlan set plan
  checked_plan = record {
    placed = checked_fits.placed;
    reserved = checked_fits.reserved;
    recorded = checked_fits.recorded;
    on_board = record { needs = checked_fits.needs; within = omega (arith, known.processors, on_board) };
  }

  -- ---- who runs

  module _ (p : ℕ) (t : is_processor plan p ≡ true) where
    who_is : (x : Tick) → who_runs set plan p x ≡ who_answer (who_of set.header.slot (set_reserves set) p x)
    unfolding who_runs
    who_is x = rw (e, t)

    from_one : 1 ≤ p
    unfolding is_processor
    from_one = leb-true 1 p (and_left (leb 1 p) (leb p (plan.ring + plan.whole)) t)

    among : p ≤ processors_of set.header.slot (set_reserves set)
    unfolding is_processor needed
    among = omega (arith, leb-true p (plan.ring + plan.whole) (and_right (leb 1 p) (leb p (plan.ring + plan.whole)) t), known.processors)

    -- what it answers
    pub who_tells : (x : Tick) → WhoTells set plan p x
    who_tells x =
        let served = who_serves set.header.slot (set_reserves set) p x from_one among in
        let stays = who_stays set.header.slot (set_reserves set) p x slot from_one among in
        record {
          done = rw (who_is x);
          names = rw (known.reserves, who_is x) served.names;
          idle = rw (known.reserves, who_is x) served.idle;
          some = rw (who_is x) stays.some;
          on = rw (who_is x) (λ j h. who_is _ ∙ ap who_answer (stays.on j h));
        }

  -- ---- does it pass

  module _ (q R : ℕ) (s : is_server plan q ≡ true) (a : allowed set.header.slot (server_loss set.header (members_in set plan q)) R ≡ true) where
    abbrev own : List Figures
    own = server_members set q

    named : members_in set plan q ≡ own
    named = members_made set plan e q

    allowed_own : allowed set.header.slot (server_loss set.header own) R ≡ true
    allowed_own = subst (λ (ms : List Figures). allowed set.header.slot (server_loss set.header ms) R ≡ true) named a

    pass_is : does_pass set plan q R ≡ pass_answer (verdict_for (set_board set) own R)
    unfolding does_pass
    pass_is = rw (e, s, allowed_own)

    server_first : 1 ≤ q
    unfolding is_server
    server_first = leb-true 1 q (and_left (leb 1 q) (leb q plan.servers) s)

    server_there : q ≤ plan.servers
    unfolding is_server
    server_there = leb-true q plan.servers (and_right (leb 1 q) (leb q plan.servers) s)

    lawful : Lawful (server_demand (set_board set) own) (server_horizon (set_board set) own)
    lawful = server_lawful (set_board set) own (every_chosen (Member set.header) (set_figures set) (set_placement set) q (members set full known.clear)) (sound set full known.clear)

    -- some length is asked for, since a member is in it
    asks : (t : ℕ) × (1 ≤ server_demand (set_board set) own t)
    asks =
        fitting_asks (set_board set) (set_figures set) (set_placement set) q (members set full known.clear) planner_placed server_first
        (omega (arith, server_there, checked_holds.servers))

    -- what it answers
    pub pass_tells : PassTells set plan q R
    unfolding verdict_for
    pass_tells =
        let g = server_demand (set_board set) own in
        let L = server_loss set.header own in
        record {
          done = ap (λ (x : PassAnswer). x.outcome) pass_is;
          tells = rw (named, pass_is) (verdict_means g (server_horizon (set_board set) own) set.header.slot L R asks.0 lawful slot asks.1);
        }

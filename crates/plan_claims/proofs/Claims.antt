-- The claims of specs/Claims.antt, proved.
-- Assumes nothing.
use Rattle.std.specs.Prelude.{Err, Ok}
use Prim.Native.Nat.{ℕ}
use mathlib.Core.Path.{◌≡◌, refl, sym, ap, subst, ◌∙◌}
use mathlib.Core.Logic.{⊎_elim}
use mathlib.Core.Bool.{Bool, true, false, cond, ◌&&◌, and-false}
use mathlib.Core.List.{List}
use native.Mathlib.Omega.{arith}
use Rattle.refusals.specs.declared.Refusal.{Refusal}
use Rattle.refusals.specs.declared.Refusal.TheVariants.{Ask}
use Rattle.refusals.specs.Refused.{Outcome}
use Rattle.refusals.proofs.FirstLaws.{done_refused, till_done, done_till, stays, found}
use Rattle.ring.specs.declared.cover.Stand.{Stand}
use Rattle.verdict.specs.declared.answer.Verdict.{Verdict}
use Rattle.tasks.specs.declared.set.TaskSet.{TaskSet}
use Rattle.loads.specs.Charge.{server_loss}
use Rattle.loads.specs.Figures.{Figures}
use Rattle.plan.specs.declared.plan.Plan.{Plan}
use Rattle.layout.specs.Made.{plan_made}
use Rattle.plan.specs.Plan.{zero_plan}
use Rattle.planner.specs.Planner.{plan_outcome, answer, plan_of}
use Rattle.planner.proofs.Made.{plan_outcome_lem, plan_is}
use Rattle.plancheck.specs.Makes.{makes}
use Rattle.planprocessor.specs.Standing.{is_processor}
use Rattle.whoruns.specs.WhoRuns.{who_answer, refused_who, who_runs}
use Rattle.named.specs.Named.{allowed, is_server}
use Rattle.planserver.specs.Members.{allowed_to}
use Rattle.doespass.specs.DoesPass.{pass_answer, refused_pass, does_pass}
use Rattle.planagree.proofs.AgreeLaws.{agree_same, agree_self}
use Rattle.plancheck.proofs.Checked.{makes_done, makes_agrees}
use Rattle.plan_claims.specs.Claims.{PlannerRow, ALONE, turn, refusal_of, members_in, NotHeld, FirstHolds, PlanExactly, AloneExactly, NeverAlone, PlanDone, PlanOnly, PlanGiven, PlanDetermined, RoomIgnored, MakesOwn, PlanFitting, PlanChecked, WhoAnswers, PassAnswers, AsksElse, allowed_in, WhoExactly, PassExactly}
use Rattle.plan_claims.proofs.ExactLaws.{outcome_of, row_at, row_of, outs, holds_by, by_holds, not_by, by_not, refusal_named, row_back, at_turn, turn_below, turn_at, outcome_is}
use Rattle.plan_claims.proofs.AloneLaws.{earlier_clear, clear_earlier, breaks_alone, alone_breaks, alone_unplaced, breaks_never}
use Rattle.plan_claims.proofs.RoomLaws.{set_room, plan_room}
use Rattle.plan_claims.proofs.MemberLaws.{members_made}
use Rattle.plan_claims.proofs.FittingLaws.{with_fitting}
use Rattle.plan_claims.proofs.CheckedLaws.{checked_plan, who_tells, pass_tells}
use Rattle.plan_claims.proofs.AskLaws.{decided, decides, two_fail, two_hold, three_fail, three_hold}

-- each refusal exactly when its row holds first
pub plan_exactly : PlanExactly
plan_exactly row set k = (there, back)
  where
    there : (plan_of set).outcome ≡ Err (refusal_of row k) → FirstHolds row set k
    there e =
        let f = found (outs set) 8 (refusal_of row k) (sym (outcome_is set) ∙ e) in
        let n = refusal_named (row_at f.before) set (refusal_of row k) f.refuses in
        let same : row_at f.before ≡ row = sym (row_back (row_at f.before) n.0) ∙ sym (ap row_of n.1) ∙ row_back row k in
        let place : f.before ≡ turn row = sym (turn_at f.before f.within) ∙ ap turn same in
        record {
          holds = holds_by row set k (subst (λ (q : PlannerRow). outcome_of q set ≡ Err (refusal_of row k)) same f.refuses);
          earlier = λ other h. not_by other set (subst (λ (q : PlannerRow). outcome_of q set ≡ Ok tt) (at_turn other) (till_done (outs set) f.before f.clear (turn other) (omega arith)));
        }

    back : FirstHolds row set k → (plan_of set).outcome ≡ Err (refusal_of row k)
    back w =
        outcome_is set
        ∙ stays (outs set) (turn row) 8 (refusal_of row k)
        (done_till (outs set) (turn row) (λ j l. by_not (row_at j) set (w.earlier (row_at j) (omega (arith, turn_at j (omega (arith, turn_below row)))))))
        (subst (λ (q : PlannerRow). outcome_of q set ≡ Err (refusal_of row k)) (sym (at_turn row)) (by_holds row set k w.holds))
        (turn_below row)

-- a task that fails alone
pub alone_exactly : AloneExactly
alone_exactly = record {
  refused = λ set k full. (
    λ e. let w = (plan_exactly ALONE set k).0 e in breaks_alone set full (earlier_clear set w.earlier) k w.holds,
    λ f. (plan_exactly ALONE set k).1 (record { holds = alone_breaks set full f.clear k f; earlier = clear_earlier set f.clear }),
  );
  nowhere = λ set k full f. alone_unplaced set full f.clear k f;
}

pub never_alone : NeverAlone
never_alone set k full none e = let w = (plan_exactly ALONE set k).0 e in breaks_never set full (earlier_clear set w.earlier) k none w.holds

-- a plan exactly when no row holds
pub plan_done : PlanDone
plan_done set = (there, back)
  where
    there : (plan_of set).outcome ≡ Ok tt → (row : PlannerRow) → NotHeld row set
    there e row =
        not_by row set (subst (λ (q : PlannerRow). outcome_of q set ≡ Ok tt) (at_turn row) (till_done (outs set) 8 (sym (outcome_is set) ∙ e) (turn row) (turn_below row)))

    back : ((row : PlannerRow) → NotHeld row set) → (plan_of set).outcome ≡ Ok tt
    back f = outcome_is set ∙ done_till (outs set) 8 (λ j l. by_not (row_at j) set (f (row_at j)))

-- no other refusal
pub plan_only : PlanOnly
plan_only set r e =
    let f = found (outs set) 8 r (sym (outcome_is set) ∙ e) in
    let n = refusal_named (row_at f.before) set r f.refuses in
    (row_at f.before, n.0, n.1)

refused_zero : (o : Outcome) (p : Plan) (r : Refusal) → (answer o p).outcome ≡ Err r → (answer o p).plan ≡ zero_plan
refused_zero (Ok _) p r e = done_refused e
refused_zero (Err q) p r e = refl

module _ (set : TaskSet) where
  done_outcome : (plan_of set).outcome ≡ Ok tt → plan_outcome set ≡ Ok tt
  done_outcome e = sym (plan_outcome_lem set) ∙ e

  -- the plan of each outcome
  pub plan_given : PlanGiven set
  unfolding plan_of
  plan_given = record {
    made = λ e. plan_is set (done_outcome e);
    zero = λ r e. refused_zero (plan_outcome set) (plan_made set) r e;
  }

  own_made : (plan_of set).outcome ≡ Ok tt → makes set (plan_of set).plan ≡ true
  unfolding makes
  own_made e = rw (plan_is set (done_outcome e), done_outcome e) (agree_self set.count (plan_made set))

  -- the planner makes its own plan and no other
  pub makes_own : MakesOwn set
  makes_own = record {
    own = own_made;
    other = λ plan e.
        let d = makes_done set plan e in
        let s = agree_same plan (plan_made set) set.count (makes_agrees set plan e) in
        (plan_outcome_lem set ∙ d, rw (plan_is set d) s);
  }

-- each contract names its one answer
pub plan_determined : PlanDetermined
plan_determined = record {
  planner = λ set a b p q. p ∙ sym q;
  check = λ set plan a b p q. p ∙ sym q;
  who = λ set plan x t a b p q. p ∙ sym q;
  pass = λ set plan x t a b p q. p ∙ sym q;
}

-- unused room changes no answer
pub room_ignored : RoomIgnored
room_ignored = record { of_sets = set_room; of_plans = plan_room }

-- what a plan of any fitting placement is
pub plan_fitting : PlanFitting
plan_fitting set placement full clear w = with_fitting set placement full clear w

-- what a checked plan is
pub plan_checked : PlanChecked
plan_checked set plan full e = checked_plan set plan full e

-- who runs
pub who_answers : WhoAnswers
who_answers set plan p x full e t = who_tells set plan full e p t x

-- does it pass
pub pass_answers : PassAnswers
pass_answers set plan q R full e s a = pass_tells set plan full e q R s a

-- a server that is not there, or a reserve that is not allowed; a plan that is not the planner's is refused before its members count
module _ (set : TaskSet) (plan : Plan) (q R : ℕ) where
  pass_else : (b : Bool) → makes set plan ≡ b → allowed set.header.slot (server_loss set.header (members_in set plan q)) R ≡ false →
      does_pass set plan q R ≡ refused_pass Ask
  unfolding does_pass
  pass_else false m a = rw m
  pass_else true m a =
      rw (subst (λ (own : List Figures). allowed set.header.slot (server_loss set.header own) R ≡ false) (members_made set plan m q) a, and-false (is_server plan q), and-false (makes set plan))

-- both questions refuse where something is not there
pub asks_else : AsksElse
unfolding who_runs does_pass
asks_else = record {
  who = λ set plan p x h.
      ⊎_elim (λ (e : makes set plan ≡ false). rw e) (λ (e : is_processor plan p ≡ false). rw (e, and-false (makes set plan))) h;
  pass = λ set plan q R h.
      ⊎_elim (λ (e : makes set plan ≡ false). rw e)
      (λ w. ⊎_elim (λ (e : is_server plan q ≡ false). rw (e, and-false (makes set plan))) (pass_else set plan q R (makes set plan) refl) w) h;
}

-- ---- row 11 of the questions, exactly

who_decided : (b : Bool) (stand : Stand) → (cond b (who_answer stand) (refused_who Ask)).outcome ≡ decided b
who_decided true stand = refl
who_decided false stand = refl

pass_decided : (b : Bool) (v : Verdict) → (cond b (pass_answer v) (refused_pass Ask)).outcome ≡ decided b
pass_decided true v = refl
pass_decided false v = refl

-- who runs
pub who_exactly : WhoExactly
unfolding who_runs
who_exactly set plan p x =
    decides (makes set plan && is_processor plan p) (who_decided (makes set plan && is_processor plan p) _)
    (two_fail (makes set plan) (is_processor plan p)) (two_hold (makes set plan) (is_processor plan p))

-- the plan's own figures and the set's allow the same reserves, where the plan is made
allowed_same : (set : TaskSet) (plan : Plan) (q R : ℕ) (b : Bool) → makes set plan ≡ b →
    (b && (is_server plan q && allowed_to set q R)) ≡ (b && (is_server plan q && allowed_in set plan q R))
allowed_same set plan q R false m = refl
allowed_same set plan q R true m =
    ap (λ (own : List Figures). (is_server plan q && allowed set.header.slot (server_loss set.header own) R)) (sym (members_made set plan m q))

-- does it pass
pub pass_exactly : PassExactly
unfolding does_pass
pass_exactly set plan q R =
    decides (makes set plan && (is_server plan q && allowed_in set plan q R))
    (pass_decided (makes set plan && (is_server plan q && allowed_to set q R)) _ ∙ ap decided (allowed_same set plan q R (makes set plan) refl))
    (three_fail (makes set plan) (is_server plan q) (allowed_in set plan q R))
    (three_hold (makes set plan) (is_server plan q) (allowed_in set plan q R))

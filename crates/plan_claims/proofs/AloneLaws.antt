-- A set is refused by row 13 exactly when a task fails alone, row 11 and rows 5 to 9 are clear, and no task before it fails alone.
-- Assumes nothing.
use Rattle.std.specs.Prelude.{Ok}
use Prim.Native.Nat.{ℕ, zero, suc, ◌-◌, ◌≤◌, ◌<◌}
use mathlib.Core.Path.{◌≡◌, refl, sym, ap, ◌∙◌}
use mathlib.Core.Bool.{true, false, not}
use mathlib.Core.List.{List, [], ◌∷◌}
use native.Mathlib.Omega.{arith}
use borrow.Author.Tests.{not-true, not-false}
use lib.ListN.{length, get_or}
use Rattle.laws.proofs.Tests.{true_false, never_true}
use Rattle.refusals.specs.First.{first_of}
use Rattle.refusals.proofs.FirstLaws.{first_done}
use Rattle.demand.specs.Load.{Every}
use Rattle.tasks.specs.declared.set.TaskSet.{TaskSet}
use Rattle.tasks.specs.Set.{most_tasks, members, zero_task}
use Rattle.taskrows.specs.Rows.{figures_outcome}
use Rattle.verdict.specs.Verdict.{first_failing}
use Rattle.verdict.proofs.Verdict.{has_failed, fails_first, passing_yes}
use Rattle.loads.specs.Charge.{server_loss, Member}
use Rattle.loads.specs.Figures.{Figures, figures_of}
use Rattle.members.specs.Server.{server_demand, server_horizon, passes_with, fits}
use Rattle.members.proofs.ServerLaws.{fits_passes, passes_fits}
use Rattle.servers.specs.Fitting.{PassesWhole, Fitting}
use Rattle.servers.proofs.Claims.{alone_nowhere}
use Rattle.setfigures.specs.Figures.{set_figures}
use Rattle.setfigures.specs.Board.{set_board}
use Rattle.rows.specs.Rows.{charged_outcome}
use Rattle.alonerow.specs.Alone.{alone_row}
use Rattle.alonerow.proofs.AloneLaws.{every_to, none_alone}
use Rattle.planner.specs.Planner.{Clear}
use Rattle.planner.proofs.Made.{members as figures-ok, sound, may_charge}
use Rattle.tasks.proofs.FirstLaws.{first_none}
use Rattle.plan_claims.specs.Claims.{PlannerRow, ASK, BOARD, RANGE, SLOT, TIGHT, HORIZON, ALONE, FULL, turn, FirstBreaks, NotHeld, alone_in, FailsAlone, FirstAlone}
use Rattle.plan_claims.proofs.ExactLaws.{outcome_of, not_by, by_not}

-- ---- the rows before it

module _ (set : TaskSet) where
  rows_clear : ((other : PlannerRow) → turn other < 6 → NotHeld other set) → charged_outcome set ≡ Ok tt
  unfolding charged_outcome figures_outcome
  rows_clear earlier =
      rw (
        by_not BOARD set (earlier BOARD (omega arith)),
        by_not RANGE set (earlier RANGE (omega arith)),
        by_not SLOT set (earlier SLOT (omega arith)),
        by_not TIGHT set (earlier TIGHT (omega arith)),
        by_not HORIZON set (earlier HORIZON (omega arith)),
      )

  pub earlier_clear : ((other : PlannerRow) → turn other < 6 → NotHeld other set) → Clear set
  earlier_clear earlier = record { carried = earlier ASK (omega arith); charged = rows_clear earlier }

  module _ (clear : Clear set) where
    parts : (first_of (outcome_of BOARD set) (outcome_of RANGE set) ≡ Ok tt) × (first_of (outcome_of SLOT set) (first_of (outcome_of TIGHT set) (outcome_of HORIZON set)) ≡ Ok tt)
    unfolding charged_outcome figures_outcome
    parts = first_done (first_of (outcome_of BOARD set) (outcome_of RANGE set)) (first_of (outcome_of SLOT set) (first_of (outcome_of TIGHT set) (outcome_of HORIZON set))) clear.charged

    figures : (outcome_of BOARD set ≡ Ok tt) × (outcome_of RANGE set ≡ Ok tt)
    figures = first_done (outcome_of BOARD set) (outcome_of RANGE set) parts.0

    slot : (outcome_of SLOT set ≡ Ok tt) × (first_of (outcome_of TIGHT set) (outcome_of HORIZON set) ≡ Ok tt)
    slot = first_done (outcome_of SLOT set) (first_of (outcome_of TIGHT set) (outcome_of HORIZON set)) parts.1

    tight : (outcome_of TIGHT set ≡ Ok tt) × (outcome_of HORIZON set ≡ Ok tt)
    tight = first_done (outcome_of TIGHT set) (outcome_of HORIZON set) slot.1

    pub clear_earlier : (other : PlannerRow) → turn other < 6 → NotHeld other set
    clear_earlier ASK l = clear.carried
    clear_earlier BOARD l = not_by BOARD set figures.0
    clear_earlier RANGE l = not_by RANGE set figures.1
    clear_earlier SLOT l = not_by SLOT set slot.0
    clear_earlier TIGHT l = not_by TIGHT set tight.0
    clear_earlier HORIZON l = not_by HORIZON set tight.1
    clear_earlier ALONE l = absurd (omega arith)
    clear_earlier FULL l = absurd (omega arith)

-- ---- one task alone

module _ (set : TaskSet) (full : length set.tasks ≡ most_tasks) (clear : Clear set) (k : ℕ) (counted : 1 ≤ k) (within : k ≤ length (members set)) where
  abbrev row : Type 0
  row = alone_row set (get_or (members set) (k - 1) zero_task) ≡ true

  member : Every (Member set.header) (alone_in set k)
  unfolding set_figures
  member = (every_to (Member set.header) (figures_of set.header) (members set) (figures-ok set full clear) (k - 1) (omega arith), tt)

  abbrev demand : ℕ → ℕ
  demand = server_demand (set_board set) (alone_in set k)

  abbrev loss : ℕ
  loss = server_loss set.header (alone_in set k)

  first_length : (t : ℕ) → first_failing demand (server_horizon (set_board set) (alone_in set k)) set.header.slot loss set.header.slot ≡ t → fits (set_board set) (alone_in set k) ≡ false → FailsAlone set k
  unfolding fits passes_with
  first_length zero e f = true_false (sym (passing_yes demand (server_horizon (set_board set) (alone_in set k)) set.header.slot loss set.header.slot e) ∙ f)
  first_length (suc t) e f =
      let first = fails_first demand (server_horizon (set_board set) (alone_in set k)) set.header.slot loss set.header.slot (suc t) (omega arith) e in
      (suc t, omega arith, has_failed demand set.header.slot loss set.header.slot (suc t) first.has)

  -- the row holds: some length fails
  pub row_fails : alone_row set (get_or (members set) (k - 1) zero_task) ≡ true → FailsAlone set k
  unfolding alone_row
  row_fails e = first_length (first_failing demand (server_horizon (set_board set) (alone_in set k)) set.header.slot loss set.header.slot) refl (not-true _ e)

  -- and the other way
  pub fails_row : FailsAlone set k → alone_row set (get_or (members set) (k - 1) zero_task) ≡ true
  unfolding alone_row
  fails_row f = ap not (never_true (fits (set_board set) (alone_in set k)) (λ e. absurd (omega (arith, fits_passes (set_board set) (alone_in set k) member (sound set full clear) e f.0 f.1, f.2))))

  -- it does not hold: every length passes
  pub row_passes : alone_row set (get_or (members set) (k - 1) zero_task) ≡ false → PassesWhole (set_board set) (alone_in set k)
  unfolding alone_row
  row_passes e = fits_passes (set_board set) (alone_in set k) member (sound set full clear) (not-false _ e)

  pub passes_row : PassesWhole (set_board set) (alone_in set k) → alone_row set (get_or (members set) (k - 1) zero_task) ≡ false
  unfolding alone_row
  passes_row p = ap not (passes_fits (set_board set) (alone_in set k) member (sound set full clear) p)

-- ---- the first that fails

module _ (set : TaskSet) (full : length set.tasks ≡ most_tasks) (clear : Clear set) (k : ℕ) where
  pub breaks_alone : FirstBreaks zero_task (alone_row set) (members set) k → FirstAlone set k
  breaks_alone w = record {
    clear = clear;
    counted = w.counted;
    within = w.within;
    fails = row_fails set full clear k w.counted w.within w.holds;
    earlier = λ j h l. row_passes set full clear j h (omega (arith, w.within)) (w.earlier j h l);
  }

  pub alone_breaks : FirstAlone set k → FirstBreaks zero_task (alone_row set) (members set) k
  alone_breaks f = record {
    counted = f.counted;
    within = f.within;
    holds = fails_row set full clear k f.counted f.within f.fails;
    earlier = λ j h l. passes_row set full clear j h (omega (arith, f.within)) (f.earlier j h l);
  }

  -- no placement fits
  pub alone_unplaced : FirstAlone set k → (placement : List ℕ) → Fitting (set_board set) (set_figures set) placement → ⊥
  unfolding alone_row set_figures
  alone_unplaced f placement w =
      let all = alone_nowhere (set_board set) (set_figures set) placement (sound set full clear) (figures-ok set full clear) w in
      let here = every_to (λ (f : Figures). fits (set_board set) (f ∷ []) ≡ true) (figures_of set.header) (members set) all (k - 1) (omega (arith, f.counted, f.within)) in
      true_false (sym (fails_row set full clear k f.counted f.within f.fails) ∙ ap not here)

  -- without interrupts none fails
  pub breaks_never : set.interrupts.count ≡ 0 → FirstBreaks zero_task (alone_row set) (members set) k → ⊥
  breaks_never none w =
      true_false
      (sym w.holds ∙ first_none (alone_row set) zero_task 0 (members set) (none_alone set (may_charge set full clear) none) (k - 1) (omega (arith, w.counted, w.within)))

-- The places of the refusals that a file meets: a line among the first 99, a task among 64 or an interrupt among 32 behind them, or at most
-- as many processors as tasks.
-- Assumes nothing.
use Rattle.std.specs.Prelude.{Err}
use Prim.Native.Nat.{ℕ, zero, suc, ◌+◌, ◌-◌, ◌≤◌, ◌<◌}
use mathlib.Core.Path.{◌≡◌, sym, ◌∙◌, ap, subst}
use mathlib.Core.List.{List, []}
use mathlib.Core.Bool.{false}
use mathlib.Core.Logic.{⊎_elim}
use native.Mathlib.Nat.{min-le_left}
use native.Mathlib.Decide.{dec_lt}
use native.Mathlib.Omega.{arith}
use lib.ListN.{length, length-take, length-map}
use borrow.Author.Tests.{ne_eqb}
use Rattle.laws.proofs.Tests.{true_false}
use Rattle.refusals.specs.Refused.{place_of}
use Rattle.refusals.specs.declared.Refusal.{Refusal}
use Rattle.refusals.specs.declared.Refusal.TheVariants.{Line, Order, Count, Twice, Board, Range, Slot, Tight, Horizon, Full, Ask, Room, Alone}
use Rattle.frameread.specs.Line.{formed, closed}
use Rattle.tasks.specs.declared.set.TaskSet.{TaskSet}
use Rattle.tasks.specs.Set.{most_tasks, most_interrupts, members, interrupts_in}
use Rattle.taskrows.specs.Rows.{range_row}
use Rattle.taskask.proofs.Carried.{ask_count, count_within, interrupts_within}
use Rattle.taskfile.specs.File.{past, task_formed, line_row, order_row, count_line_row, twice_line_row}
use Rattle.taskfile.proofs.Past.{absent_later}
use Rattle.taskread.specs.Read.{read_of}
use Rattle.tasks_claims.specs.Claims.{LineRow, LINE, ORDER, COUNT, TWICE, holds_at, FirstAt, lines_to}
use Rattle.tasks_claims.specs.Claims as filed
use Rattle.tasks_claims.proofs.Claims.{read_exactly_line, read_exactly_interrupt, read_refuses}
use Rattle.tasks_claims.proofs.ShapedLaws.{shaped_all}
use Rattle.tasks_claims.proofs.ReachedLaws.{lines_most, ends}
use Rattle.loads.specs.Figures.{figures_of}
use Rattle.setfigures.specs.Figures.{set_figures}
use Rattle.setfigures.specs.Board.{set_board}
use Rattle.taskrows.proofs.BoardLaws.{board_slot}
use Rattle.servers.specs.Placement.{placement_of}
use Rattle.servers.proofs.Claims.{servers_few}
use Rattle.sizing.proofs.Claims.{reserves_count}
use Rattle.layout.specs.Made.{reserves_with, set_placement, set_reserves}
use Rattle.layout.proofs.Layouts.{processors_few}
use Rattle.planner.specs.Planner.{needed, plan_of}
use Rattle.plan_claims.specs.Claims.{PlannerRow, ASK, BOARD, RANGE, SLOT, TIGHT, HORIZON, ALONE, FULL, turn, refusal_of, FirstTask, NoTask, FirstInterrupt, FirstHolds}
use Rattle.plan_claims.proofs.Claims.{plan_exactly, plan_only}

-- ---- lines

-- a line behind one that is not there breaks no row
absent_holds : (row : LineRow) (text : List ℕ) (n : ℕ) → past n text ≡ [] → holds_at row text (suc (suc n)) ≡ false
unfolding line_row order_row count_line_row twice_line_row task_formed formed closed
absent_holds LINE text n e = rw (absent_later n (suc n) text (omega arith) e)
absent_holds ORDER text n e = rw (absent_later n (suc n) text (omega arith) e, ne_eqb (suc (suc n)) 1 (λ h. omega arith))
absent_holds COUNT text n e = rw (absent_later n (suc n) text (omega arith) e, e)
absent_holds TWICE text n e = rw (absent_later n (suc n) text (omega arith) e)

line_few : (row : LineRow) (text : List ℕ) (k : ℕ) → FirstAt row text k → k ≤ 100
line_few row text zero f = omega arith
line_few row text (suc zero) f = omega arith
line_few row text (suc (suc n)) f =
    elim (dec_lt 100 (suc (suc n))) [
      | yes past100 ↦
          let e = ends text (λ j one le. f.clear j one (omega (arith, past100, le))) in
          let gone = absent_later (lines_to text e.tasks e.interrupts) n text (omega (arith, lines_most text e.tasks e.interrupts e.reached, past100)) e.ended in
          true_false (sym f.holds ∙ absent_holds row text n gone)
      | no few ↦ omega (arith, few)
    ]

-- a task out of range is among 64, an interrupt among the 32 behind them
range_few : (text : List ℕ) (k : ℕ) → (read_of text).outcome ≡ Err (Range k) → k ≤ 96
range_few text k refused =
    elim (dec_lt most_tasks k) [
      | yes behind ↦
          let place : k ≡ most_tasks + (k - most_tasks) = omega (arith, behind) in
          let f : filed.FirstInterrupt text (k - most_tasks) = (read_exactly_interrupt text (k - most_tasks) (omega (arith, behind))).0 (refused ∙ ap (λ (n : ℕ). Err (Range n)) place) in
          let e = ends text (λ j one le. f.clear j one) in
          omega (arith, f.within, (shaped_all text e.tasks e.interrupts e.reached.shaped e.ended).1, e.reached.few)
      | no few ↦ omega (arith, few)
    ]

pub read_few : (text : List ℕ) (r : Refusal) → (read_of text).outcome ≡ Err r → place_of r < 256
read_few text (Line k) e = omega (arith, line_few LINE text k ((read_exactly_line LINE text k).0 e))
read_few text (Order k) e = omega (arith, line_few ORDER text k ((read_exactly_line ORDER text k).0 e))
read_few text (Count k) e = omega (arith, line_few COUNT text k ((read_exactly_line COUNT text k).0 e))
read_few text (Twice k) e = omega (arith, line_few TWICE text k ((read_exactly_line TWICE text k).0 e))
read_few text Board e = omega arith
read_few text (Range k) e = omega (arith, range_few text k e)
read_few text (Slot k) e = absurd (omega (arith, (read_refuses text (Slot k) e).0))
read_few text (Tight k) e = absurd (omega (arith, (read_refuses text (Tight k) e).0))
read_few text Horizon e = omega arith
read_few text (Full k) e = absurd (omega (arith, (read_refuses text (Full k) e).0))
read_few text Ask e = omega arith
read_few text Room e = omega arith
read_few text (Alone k) e = absurd (omega (arith, (read_refuses text (Alone k) e).0))

-- ---- tasks and processors

members_few : (set : TaskSet) (row : PlannerRow) (k : ℕ) → FirstHolds row set k → 1 ≤ turn row → length (members set) ≤ most_tasks
members_few set row k f h =
    omega (arith, length-take set.count set.tasks, min-le_left set.count (length set.tasks), (count_within set (ask_count set (f.earlier ASK (omega arith)))).1)

interrupts_few : (set : TaskSet) (row : PlannerRow) (k : ℕ) → FirstHolds row set k → 1 ≤ turn row → length (interrupts_in set) ≤ most_interrupts
interrupts_few set row k f h =
    omega (arith, length-take set.interrupts.count set.interrupts.each, min-le_left set.interrupts.count (length set.interrupts.each), interrupts_within set (ask_count set (f.earlier ASK (omega arith))))

full_few : (set : TaskSet) (k : ℕ) → FirstHolds FULL set k → k ≤ most_tasks
unfolding needed set_reserves reserves_with set_placement set_figures
full_few set k f =
    omega (
      arith,
      f.holds.1,
      processors_few set.header.slot (set_reserves set) (board_slot set.header (f.earlier BOARD (omega arith))),
      reserves_count (set_board set) (set_figures set) (placement_of (set_board set) (set_figures set)),
      servers_few (set_board set) (set_figures set),
      length-map (members set) (figures_of set.header),
      members_few set FULL k f (omega arith),
    )

by_row : (row : PlannerRow) (set : TaskSet) (k : ℕ) → FirstHolds row set k → place_of (refusal_of row k) < 256
by_row ASK set k f = omega arith
by_row BOARD set k f = omega arith
by_row RANGE set k f =
    ⊎_elim
    (λ (t : FirstTask range_row set k). omega (arith, t.within, members_few set RANGE k f (omega arith)))
    (λ (i : NoTask range_row set × ((i : ℕ) × (k ≡ most_tasks + i) × FirstInterrupt set i)). omega (arith, i.1.1, i.1.2.within, interrupts_few set RANGE k f (omega arith)))
    f.holds
by_row SLOT set k f = omega (arith, f.holds.within, members_few set SLOT k f (omega arith))
by_row TIGHT set k f = omega (arith, f.holds.within, members_few set TIGHT k f (omega arith))
by_row HORIZON set k f = omega arith
by_row ALONE set k f = omega (arith, f.holds.within, members_few set ALONE k f (omega arith))
by_row FULL set k f = omega (arith, full_few set k f)

pub plan_few : (set : TaskSet) (r : Refusal) → (plan_of set).outcome ≡ Err r → place_of r < 256
plan_few set r e =
    let only = plan_only set r e in
    subst (λ (q : Refusal). place_of q < 256) (sym only.2)
    (by_row only.0 set only.1 ((plan_exactly only.0 set only.1).0 (e ∙ ap Err only.2)))

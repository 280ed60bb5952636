-- The planner refuses exactly by the first of its rows that holds: each row's own outcome, and the first of them in order.
-- Assumes nothing.
use Rattle.std.specs.Prelude.{Err, Ok}
use Prim.Native.Nat.{ℕ, zero, suc, ◌+◌, ◌-◌, ◌<◌}
use mathlib.Core.Path.{◌≡◌, refl, ap, subst, ◌∙◌}
use mathlib.Core.Logic.{inl, inr}
use mathlib.Core.Bool.{Bool, false}
use mathlib.Core.List.{List}
use native.Mathlib.Omega.{arith}
use lib.ListN.{get_or}
use Rattle.refusals.specs.declared.Refusal.{Refusal}
use Rattle.refusals.specs.declared.Refusal.TheVariants.{Line, Order, Count, Twice, Board, Range, Slot, Tight, Horizon, Full, Ask, Room, Alone}
use Rattle.refusals.specs.Refused.{Outcome}
use Rattle.tasks.specs.declared.set.TaskSet.{TaskSet}
use Rattle.tasks.specs.Set.{most_tasks, members, interrupts_in, zero_task, zero_interrupt}
use Rattle.refusals.specs.First.{first_of, when, till}
use Rattle.tasks.specs.Search.{first_task, at_task}
use Rattle.taskrows.specs.Rows.{board_row, range_row, interrupt_row, range_at, figures_outcome}
use Rattle.taskask.specs.Ask.{ask_row}
use Rattle.refusals.proofs.FirstLaws.{done_refused, refused_same, first_done, first_assoc, when_done, when_refused}
use Rattle.tasks.proofs.Firsts.{at_none, at_some}
use Rattle.tasks.proofs.FirstLaws.{Stops, first_stops, stops_first, first_none, none_first}
use Rattle.tightrows.specs.Rows.{slot_row, tight_row}
use Rattle.rows.specs.Rows.{horizon_row, charged_outcome}
use Rattle.alonerow.specs.Alone.{alone_row}
use Rattle.planner.specs.Planner.{needed, full_row, plan_outcome, plan_of}
use Rattle.plan_claims.specs.Claims.{PlannerRow, ASK, BOARD, RANGE, SLOT, TIGHT, HORIZON, ALONE, FULL, turn, refusal_of, FirstBreaks, NoneBreaks, FirstInterrupt, RangeAt, HoldsAt, NotHeld}
use Rattle.rows.proofs.Clears.{at_done}
use Rattle.planner.proofs.Made.{plan_outcome_lem}

-- ---- what each row gives

abbrev pub outcome_of : PlannerRow → TaskSet → Outcome
outcome_of ASK set = when (ask_row set) Ask
outcome_of BOARD set = when (board_row set.header) Board
outcome_of RANGE set =
    first_of (at_task Range (first_task range_row (members set))) (at_task range_at (first_task (interrupt_row set.header.processors) (interrupts_in set)))
outcome_of SLOT set = at_task Slot (first_task (slot_row set.header) (members set))
outcome_of TIGHT set = at_task Tight (first_task (tight_row set.header) (members set))
outcome_of HORIZON set = when (horizon_row set) Horizon
outcome_of ALONE set = at_task Alone (first_task (alone_row set) (members set))
outcome_of FULL set = when (full_row set) (Full (needed set))

at_refused : (r : ℕ → Refusal) (n : ℕ) (s : Refusal) → at_task r n ≡ Err s → s ≡ r n
at_refused r zero s e = done_refused e
at_refused r (suc n) s e = cc

module _ {A : Type 0} (z : A) (p : A → Bool) (r : ℕ → Refusal) (ts : List A) where
  -- the first task named is the first that breaks the row
  breaks_by : ((a b : ℕ) → r a ≡ r b → a ≡ b) → (k : ℕ) → at_task r (first_task p ts) ≡ Err (r k) → FirstBreaks z p ts k
  breaks_by inj k e = by (first_task p ts) refl e
    where
      by : (n : ℕ) → first_task p ts ≡ n → at_task r n ≡ Err (r k) → FirstBreaks z p ts k
      by zero q e' = done_refused e'
      by (suc m) q e' =
          let same : suc m ≡ k = inj (suc m) k (refused_same e') in
          let f = first_stops p z 0 m ts q in
          let place : k - 1 ≡ f.0 = omega (arith, f.1) in
          record {
            counted = omega arith;
            within = omega (arith, f.1, f.2.within);
            holds = rw place f.2.holds;
            earlier = λ j h l. f.2.earlier (j - 1) (omega (arith, f.1));
          }

  by_breaks : (k : ℕ) → FirstBreaks z p ts k → at_task r (first_task p ts) ≡ Err (r k)
  by_breaks k f =
      let s : Stops p z ts (k - 1) = record {
        within = omega (arith, f.counted, f.within);
        holds = f.holds;
        earlier = λ j l. subst (λ (i : ℕ). p (get_or ts i z) ≡ false) (let e : j + 1 - 1 ≡ j = omega arith in e) (f.earlier (j + 1) (omega arith) (omega (arith, f.counted)));
      } in
      let e : first_task p ts ≡ k = omega (arith, stops_first p z 1 (k - 1) ts s, f.counted) in
      ap (at_task r) e ∙ at_some r k (λ (z : k ≡ 0). omega (arith, f.counted))

  none_by : at_task r (first_task p ts) ≡ Ok tt → NoneBreaks z p ts
  none_by e j h l = first_none p z 0 ts (at_done r (first_task p ts) e) (j - 1) (omega arith)

  by_none : NoneBreaks z p ts → at_task r (first_task p ts) ≡ Ok tt
  by_none f =
      at_none r (first_task p ts)
      (none_first p z 1 ts (λ j l. subst (λ (i : ℕ). p (get_or ts i z) ≡ false) (let e : j + 1 - 1 ≡ j = omega arith in e) (f (j + 1) (omega arith) (omega arith))))

-- the places of interrupts stand behind those of the tasks
range_same : (a b : ℕ) → range_at a ≡ range_at b → a ≡ b
range_same a b q =
    let same : most_tasks + a ≡ most_tasks + b = cc in
    omega arith

-- RANGE by the first task that breaks it, or the first interrupt
module _ (set : TaskSet) (k : ℕ) where
  abbrev first_interrupt : ℕ
  first_interrupt = first_task (interrupt_row set.header.processors) (interrupts_in set)

  by_interrupt : (i : ℕ) → first_interrupt ≡ i → at_task range_at i ≡ Err (Range k) → (j : ℕ) × (k ≡ most_tasks + j) × FirstInterrupt set j
  by_interrupt zero p e = done_refused e
  by_interrupt (suc i) p e =
      let r : Range (most_tasks + suc i) ≡ Range k = refused_same e in
      let same : k ≡ most_tasks + suc i = cc in
      (suc i, same, breaks_by zero_interrupt (interrupt_row set.header.processors) range_at (interrupts_in set) range_same (suc i) (ap (at_task range_at) p))

  range_holds : (n : ℕ) → first_task range_row (members set) ≡ n → first_of (at_task Range n) (at_task range_at first_interrupt) ≡ Err (Range k) → RangeAt set k
  range_holds zero q e = inr (none_by zero_task range_row Range (members set) (ap (at_task Range) q), by_interrupt first_interrupt refl e)
  range_holds (suc n) q e = inl (breaks_by zero_task range_row Range (members set) (λ a b r. cc) k (ap (at_task Range) q ∙ e))

range_named : (n i : ℕ) (r : Refusal) → first_of (at_task Range n) (at_task range_at i) ≡ Err r → (k : ℕ) × (r ≡ Range k)
range_named zero i r e = (most_tasks + i, at_refused range_at i r e)
range_named (suc n) i r e = (suc n, cc)

pub holds_by : (row : PlannerRow) (set : TaskSet) (k : ℕ) → outcome_of row set ≡ Err (refusal_of row k) → HoldsAt row set k
holds_by ASK set k e = (when_refused (ask_row set) Ask Ask e).0
holds_by BOARD set k e = (when_refused (board_row set.header) Board Board e).0
holds_by RANGE set k e = range_holds set k (first_task range_row (members set)) refl e
holds_by SLOT set k e = breaks_by zero_task (slot_row set.header) Slot (members set) (λ a b q. cc) k e
holds_by TIGHT set k e = breaks_by zero_task (tight_row set.header) Tight (members set) (λ a b q. cc) k e
holds_by HORIZON set k e = (when_refused (horizon_row set) Horizon Horizon e).0
holds_by ALONE set k e = breaks_by zero_task (alone_row set) Alone (members set) (λ a b q. cc) k e
holds_by FULL set k e =
    let p = when_refused (full_row set) (Full (needed set)) (Full k) e in
    let q : Full k ≡ Full (needed set) = p.1 in
    (p.0, cc)

pub by_holds : (row : PlannerRow) (set : TaskSet) (k : ℕ) → HoldsAt row set k → outcome_of row set ≡ Err (refusal_of row k)
by_holds ASK set k h = rw h
by_holds BOARD set k h = rw h
by_holds RANGE set k (inl task) = rw (by_breaks zero_task range_row Range (members set) k task)
by_holds RANGE set k (inr later) =
    rw (by_none zero_task range_row Range (members set) later.0, later.1.1) (by_breaks zero_interrupt (interrupt_row set.header.processors) range_at (interrupts_in set) later.1.0 later.1.2)
by_holds SLOT set k h = by_breaks zero_task (slot_row set.header) Slot (members set) k h
by_holds TIGHT set k h = by_breaks zero_task (tight_row set.header) Tight (members set) k h
by_holds HORIZON set k h = rw h
by_holds ALONE set k h = by_breaks zero_task (alone_row set) Alone (members set) k h
by_holds FULL set k h = rw (h.0, h.1)

pub not_by : (row : PlannerRow) (set : TaskSet) → outcome_of row set ≡ Ok tt → NotHeld row set
not_by ASK set e = when_done (ask_row set) Ask e
not_by BOARD set e = when_done (board_row set.header) Board e
not_by RANGE set e =
    let p = first_done (at_task Range (first_task range_row (members set))) (at_task range_at (first_task (interrupt_row set.header.processors) (interrupts_in set))) e in
    (none_by zero_task range_row Range (members set) p.0, none_by zero_interrupt (interrupt_row set.header.processors) range_at (interrupts_in set) p.1)
not_by SLOT set e = none_by zero_task (slot_row set.header) Slot (members set) e
not_by TIGHT set e = none_by zero_task (tight_row set.header) Tight (members set) e
not_by HORIZON set e = when_done (horizon_row set) Horizon e
not_by ALONE set e = none_by zero_task (alone_row set) Alone (members set) e
not_by FULL set e = when_done (full_row set) (Full (needed set)) e

pub by_not : (row : PlannerRow) (set : TaskSet) → NotHeld row set → outcome_of row set ≡ Ok tt
by_not ASK set h = rw h
by_not BOARD set h = rw h
by_not RANGE set h = rw (by_none zero_task range_row Range (members set) h.0, by_none zero_interrupt (interrupt_row set.header.processors) range_at (interrupts_in set) h.1)
by_not SLOT set h = by_none zero_task (slot_row set.header) Slot (members set) h
by_not TIGHT set h = by_none zero_task (tight_row set.header) Tight (members set) h
by_not HORIZON set h = rw h
by_not ALONE set h = by_none zero_task (alone_row set) Alone (members set) h
by_not FULL set h = rw h

-- a row gives its own refusal only
pub refusal_named : (row : PlannerRow) (set : TaskSet) (r : Refusal) → outcome_of row set ≡ Err r → (k : ℕ) × (r ≡ refusal_of row k)
refusal_named ASK set r e = (0, (when_refused (ask_row set) Ask r e).1)
refusal_named BOARD set r e = (0, (when_refused (board_row set.header) Board r e).1)
refusal_named RANGE set r e = range_named (first_task range_row (members set)) (first_task (interrupt_row set.header.processors) (interrupts_in set)) r e
refusal_named SLOT set r e = (first_task (slot_row set.header) (members set), at_refused Slot (first_task (slot_row set.header) (members set)) r e)
refusal_named TIGHT set r e = (first_task (tight_row set.header) (members set), at_refused Tight (first_task (tight_row set.header) (members set)) r e)
refusal_named HORIZON set r e = (0, (when_refused (horizon_row set) Horizon r e).1)
refusal_named ALONE set r e = (first_task (alone_row set) (members set), at_refused Alone (first_task (alone_row set) (members set)) r e)
refusal_named FULL set r e = (needed set, (when_refused (full_row set) (Full (needed set)) r e).1)

-- ---- the rows by their turns

abbrev pub row_at : ℕ → PlannerRow
row_at zero = ASK
row_at (suc zero) = BOARD
row_at (suc (suc zero)) = RANGE
row_at (suc (suc (suc zero))) = SLOT
row_at (suc (suc (suc (suc zero)))) = TIGHT
row_at (suc (suc (suc (suc (suc zero))))) = HORIZON
row_at (suc (suc (suc (suc (suc (suc zero)))))) = ALONE
row_at (suc (suc (suc (suc (suc (suc (suc n))))))) = FULL

abbrev pub row_of : Refusal → PlannerRow
row_of (Line k) = ASK
row_of (Order k) = ASK
row_of (Count k) = ASK
row_of (Twice k) = ASK
row_of Board = BOARD
row_of (Range k) = RANGE
row_of (Slot k) = SLOT
row_of (Tight k) = TIGHT
row_of Horizon = HORIZON
row_of (Full k) = FULL
row_of Ask = ASK
row_of Room = ASK
row_of (Alone k) = ALONE

pub row_back : (row : PlannerRow) (k : ℕ) → row_of (refusal_of row k) ≡ row
row_back ASK k = refl
row_back BOARD k = refl
row_back RANGE k = refl
row_back SLOT k = refl
row_back TIGHT k = refl
row_back HORIZON k = refl
row_back ALONE k = refl
row_back FULL k = refl

pub at_turn : (row : PlannerRow) → row_at (turn row) ≡ row
at_turn ASK = refl
at_turn BOARD = refl
at_turn RANGE = refl
at_turn SLOT = refl
at_turn TIGHT = refl
at_turn HORIZON = refl
at_turn ALONE = refl
at_turn FULL = refl

pub turn_below : (row : PlannerRow) → turn row < 8
turn_below ASK = omega arith
turn_below BOARD = omega arith
turn_below RANGE = omega arith
turn_below SLOT = omega arith
turn_below TIGHT = omega arith
turn_below HORIZON = omega arith
turn_below ALONE = omega arith
turn_below FULL = omega arith

pub turn_at : (i : ℕ) → i < 8 → turn (row_at i) ≡ i
turn_at zero h = refl
turn_at (suc zero) h = refl
turn_at (suc (suc zero)) h = refl
turn_at (suc (suc (suc zero))) h = refl
turn_at (suc (suc (suc (suc zero)))) h = refl
turn_at (suc (suc (suc (suc (suc zero))))) h = refl
turn_at (suc (suc (suc (suc (suc (suc zero)))))) h = refl
turn_at (suc (suc (suc (suc (suc (suc (suc n))))))) h = omega arith

-- the outcomes of the rows by their turns, counted from 1
abbrev pub outs : TaskSet → ℕ → Outcome
outs set zero = Ok tt
outs set (suc i) = outcome_of (row_at i) set

regroup : (a b c d e f g h : Outcome) →
    first_of a (first_of (first_of (first_of b c) (first_of d (first_of e f))) (first_of g h)) ≡ first_of (first_of (first_of (first_of (first_of (first_of (first_of a b) c) d) e) f) g) h
regroup a b c d e f g h = simp first_assoc

chain : (set : TaskSet) → plan_outcome set ≡ till (outs set) 8
unfolding plan_outcome charged_outcome figures_outcome till
chain set =
    regroup (outcome_of ASK set) (outcome_of BOARD set) (outcome_of RANGE set) (outcome_of SLOT set) (outcome_of TIGHT set) (outcome_of HORIZON set) (outcome_of ALONE set) (outcome_of FULL set)

pub outcome_is : (set : TaskSet) → (plan_of set).outcome ≡ till (outs set) 8
outcome_is set = plan_outcome_lem set ∙ chain set

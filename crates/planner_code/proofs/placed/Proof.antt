-- `placed` meets its contract: over the set's figures and its interrupts row 13 is tried first, and then row 10 by its servers.
-- Assumes nothing.
use Prim.Native.Nat.{◌*◌, ◌≤◌}
use mathlib.Core.Path.{◌≡◌, refl, sym, ◌∙◌}
use borrow.Author.Rules.{rules}
use native.Mathlib.Omega.{arith}
use lib.ListN.{length, take}
use lib.Seq.{length-take-le}
use Rattle.interrupting.specs.Interrupts.{bound_numbers}
use Rattle.tasks.specs.declared.set.TaskSet.{TaskSet}
use Rattle.tasks.specs.Set.{most_tasks, members}
use Rattle.tasks.specs.Search.{first_task}
use Rattle.tasks.proofs.Firsts.{first_within}
use Rattle.tasks.proofs.SetLaws.{members_length}
use Rattle.members.specs.Server.{Filed, Bounded}
use Rattle.setfigures.specs.Board.{set_interrupts, set_board}
use Rattle.setfigures.proofs.BoardLaws.{interrupts_front}
use Rattle.rows.specs.Rows.{Chargeable}
use Rattle.rows.proofs.InterruptLaws.{each_on, set_timely}
use Rattle.rows.proofs.Clears.{lent_bounded}
use Rattle.alonerow.specs.Alone.{alone_row}
use Rattle.alonerow.proofs.AloneLaws.{alone_is, set_met}
use Rattle.planner.proofs.Made.{count_most, fits, may_charge, filed, set_served}
use Rattle.planner.specs.Planner.{Placeable}
use Rattle.sizing.specs.Reserve.{servers_of}
use Rattle.setfigures.specs.Figures.{set_figures}
use Rattle.settling.proofs.SettledLaws.{settled_alone, settled_full, settled_done}
use Rattle.planner_code.proofs.placed.Statement.{statement}
use Rattle.planner_code.proofs.placed.Tie as tie

module _ (s : tie.Start) where
  abbrev own : TaskSet
  own = s.args.set

  -- a set's tasks have their places
  full : length own.tasks ≡ most_tasks
  full = s.well_formed.0.1.1.1.1.0.1.0.1

  room : own.count ≤ length own.tasks
  room = fits own full s.requires.0

  -- the place of a task fits
  few : length (members own) ≤ most_tasks
  few = omega (arith, members_length own room, count_most own full s.requires.0)

  chargeable : Chargeable own
  chargeable = may_charge own full s.requires.0

  interrupts-room : own.interrupts.count ≤ length own.interrupts.each
  interrupts-room =
      omega (arith, chargeable.few_interrupts, s.well_formed.0.1.1.1.1.1.0.1.1.1.0.1.0.1)

-- the interrupts are in order
module _ (b : tie.After-by_processor-interrupts) where
  abbrev start : tie.Start
  start = b.before.before.before.before

  front : take (4 * (own start).interrupts.count) b.by_processor-interrupts.result ≡ bound_numbers (set_interrupts (own start))
  unfolding set_interrupts
  front = interrupts_front (own start) (interrupts-room start) (each_on (own start) (chargeable start).interrupts) b.by_processor-interrupts.ensures refl

  file : Filed (own start).header b.figures-numbers.result (own start).count start.args.horizon
  file = filed (own start) (full start) start.requires.0 b.figures-numbers.ensures start.requires.1

  bounded : Bounded (own start).header (take (4 * (own start).interrupts.count) b.by_processor-interrupts.result) start.args.horizon
  bounded = lent_bounded (own start) (interrupts-room start) (chargeable start) front start.requires.1

-- the first task that fails alone is known
module _ (c : tie.After-first_alone-alone) where
  abbrev ordered : tie.After-by_processor-interrupts
  ordered = c.before.before.before.before

  first_is : c.first_alone-alone.result ≡ first_task (alone_row (own (start ordered))) (members (own (start ordered)))
  first_is =
      let s = start ordered in
      c.first_alone-alone.ensures ∙ alone_is (own s) (room s) ordered.figures-numbers.ensures (front ordered)

figures-numbers-requires : tie.Need-figures-numbers-requires
figures-numbers-requires c κs = (chargeable c.before).few

by_processor-interrupts-requires : tie.Need-by_processor-interrupts-requires
by_processor-interrupts-requires c κs =
    let s = c.before.before.before in
    set_timely (own s) (chargeable s).interrupts (chargeable s).few_interrupts

overflow_mul-end : tie.Need-overflow_mul-end
overflow_mul-end c = omega (arith, (chargeable (start c.before)).few_interrupts)

slice_bounds-interrupts-end : tie.Need-slice_bounds-interrupts-end
slice_bounds-interrupts-end c = omega (arith, (chargeable (start c.before.before)).few_interrupts)

slice_bounds-first_alone-end-2 : tie.Need-slice_bounds-first_alone-end-2
slice_bounds-first_alone-end-2 c =
    let b = c.before.before.before in
    sym (length-take-le _ _ (omega (arith, (chargeable (start b)).few_interrupts, b.by_processor-interrupts.type_inv)))

first_alone-alone-requires : tie.Need-first_alone-alone-requires
first_alone-alone-requires c κs =
    let b = c.before.before.before in
    let s = start b in
    (file b, (bounded b, set_met (own s) (room s) (chargeable s) b.figures-numbers.ensures))

overflow_cast-alone : tie.Need-overflow_cast-alone
overflow_cast-alone c =
    let s = start (ordered c.before) in
    omega (arith, first_is c.before, first_within (alone_row (own s)) 1 (members (own s)), few s)

returns-then-alone-ne0 : tie.Need-returns-then-alone-ne0
returns-then-alone-ne0 c =
    let at = c.before.before in
    let s = start (ordered at) in
    c.unsettled.ensures ∙ settled_alone (own s) s.requires.0 (first_is at) c.if-alone-ne0.true

slice_bounds-interrupts-end-2 : tie.Need-slice_bounds-interrupts-end-2
slice_bounds-interrupts-end-2 c = omega (arith, (chargeable (start (ordered c.before.before))).few_interrupts)

slice_bounds-serve-end-2 : tie.Need-slice_bounds-serve-end-2
slice_bounds-serve-end-2 c =
    let b = ordered c.before.before.before in
    sym (length-take-le _ _ (omega (arith, (chargeable (start b)).few_interrupts, b.by_processor-interrupts.type_inv)))

serve-servers-requires : tie.Need-serve-servers-requires
serve-servers-requires c κs = let b = ordered c.before.before.before in (file b, bounded b)

-- the servers are the set's, and row 13 is clear
module _ (c : tie.After-serve-servers) where
  abbrev left : tie.Else-alone-ne0
  left = c.before.before.before

  abbrev set : TaskSet
  set = own (start (ordered left.before))

  placeable : Placeable set
  placeable = record { clear = (start (ordered left.before)).requires.0; alone = sym (first_is left.before) ∙ left.if-alone-ne0.false }

  served : c.serve-servers.result ≡ servers_of (set_board set) (set_figures set)
  served =
      let b = ordered left.before in
      let s = start b in
      set_served (own s) (full s) s.requires.0 b.figures-numbers.ensures (front b) c.serve-servers.ensures

board_of-outcome-requires : tie.Need-board_of-outcome-requires
board_of-outcome-requires c κs = (placeable c, served c)

returns-in-Err : tie.Need-returns-in-Err
returns-in-Err c =
    c.unsettled-in-Err.ensures ∙ settled_full (set c.before.before.before) (placeable c.before.before.before) (sym c.board_of-outcome.ensures ∙ c.in-Err.is)

returns : tie.Need-returns
returns c =
    settled_done (set c.before.before) (placeable c.before.before) (sym c.board_of-outcome.ensures ∙ c.in_default.is) (served c.before.before)

pub placed_spec : {M : Type 1} → statement M
placed_spec =
    tie.close
    (tie.spec
    figures-numbers-requires
    by_processor-interrupts-requires
    overflow_mul-end
    (λ c. search rules)
    slice_bounds-interrupts-end
    slice_bounds-first_alone-end-2
    first_alone-alone-requires
    overflow_cast-alone
    (λ c κs. search rules)
    returns-then-alone-ne0
    (λ c. search rules)
    slice_bounds-interrupts-end-2
    slice_bounds-serve-end-2
    serve-servers-requires
    board_of-outcome-requires
    (λ c. search rules)
    (λ c κs. search rules)
    returns-in-Err
    (λ c. search rules)
    returns)

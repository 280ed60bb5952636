-- `pass_judged` meets its contract: the figures, the horizon and the interrupts are the set's, and the members are judged.
-- Assumes nothing.
use borrow.Author.Rules.{rules}
use Prim.Native.Nat.{ℕ, ◌*◌, ◌≤◌}
use mathlib.Core.Path.{◌≡◌, refl, sym, ap, ap₂, ◌∙◌}
use mathlib.Core.List.{List}
use native.Mathlib.Omega.{arith}
use lib.ListN.{length, take}
use lib.Seq.{length-take-le}
use Rattle.interrupting.specs.Interrupts.{bound_numbers}
use Rattle.tasks.specs.declared.set.TaskSet.{TaskSet}
use Rattle.tasks.specs.Set.{most_tasks}
use Rattle.loads.specs.Figures.{members_at}
use Rattle.members.specs.Server.{Board, board_of, verdict_for}
use Rattle.setfigures.specs.Figures.{figure_numbers}
use Rattle.setfigures.specs.Board.{set_interrupts}
use Rattle.setfigures.proofs.BoardLaws.{board_back, interrupts_front}
use Rattle.rows.specs.Rows.{Chargeable}
use Rattle.rows.proofs.InterruptLaws.{each_on, set_timely}
use Rattle.rows.proofs.Clears.{lent_bounded}
use Rattle.planner.proofs.Made.{rows_clear, may_charge}
use Rattle.planserver_code.proofs.pass_judged.Statement.{statement}
use Rattle.planserver_code.proofs.pass_judged.Tie as tie

module _ (s : tie.Start) where
  abbrev set : TaskSet
  set = s.args.set

  -- a set's tasks have their places
  full : length set.tasks ≡ most_tasks
  full = s.well_formed.0.1.1.1.1.0.1.0.1

  chargeable : Chargeable set
  chargeable = may_charge set full s.requires.0.clear

  room : set.interrupts.count ≤ length set.interrupts.each
  room = omega (arith, chargeable.few_interrupts, s.well_formed.0.1.1.1.1.1.0.1.1.1.0.1.0.1)

-- the interrupts are in order
module _ (b : tie.After-by_processor-interrupts) where
  abbrev start : tie.Start
  start = b.before.before.before.before.before

  front : take (4 * (set start).interrupts.count) b.by_processor-interrupts.result ≡ bound_numbers (set_interrupts (set start))
  unfolding set_interrupts
  front = interrupts_front (set start) (room start) (each_on (set start) (chargeable start).interrupts) b.by_processor-interrupts.ensures refl

horizon-common-requires : tie.Need-horizon-common-requires
horizon-common-requires c κs = (chargeable c, (rows_clear (set c) (full c) c.requires.0.clear).horizon)

figures-numbers-requires : tie.Need-figures-numbers-requires
figures-numbers-requires c κs = (chargeable c.before).few

by_processor-interrupts-requires : tie.Need-by_processor-interrupts-requires
by_processor-interrupts-requires c κs =
    let s = c.before.before.before.before in
    set_timely (set s) (chargeable s).interrupts (chargeable s).few_interrupts

overflow_mul-end : tie.Need-overflow_mul-end
overflow_mul-end c = omega (arith, (chargeable (start c.before)).few_interrupts)

slice_bounds-interrupts-end : tie.Need-slice_bounds-interrupts-end
slice_bounds-interrupts-end c = omega (arith, (chargeable (start c.before.before.before.before)).few_interrupts)

slice_bounds-judged-end-3 : tie.Need-slice_bounds-judged-end-3
slice_bounds-judged-end-3 c =
    let b = c.before.before.before.before.before in
    sym (length-take-le _ _ (omega (arith, (chargeable (start b)).few_interrupts, b.by_processor-interrupts.type_inv)))

judged-requires : tie.Need-judged-requires
judged-requires c κs =
    let b = c.before.before.before.before.before in
    let s = start b in (
      rw (b.figures-numbers.ensures, b.horizon-common.ensures) s.requires.0.served,
      (lent_bounded (set s) (room s) (chargeable s) (front b) b.horizon-common.ensures, rw b.figures-numbers.ensures s.requires.1),
    )

returns : tie.Need-returns
returns c =
    let b = c.before.before.before.before.before.before in
    let a = (start b).args in
    c.judged.ensures
    ∙ ap₂ (λ (is ns : List ℕ). verdict_for (board_of a.set.header is) (members_at ns (take a.own.count a.own.places)) a.reserve) (front b) b.figures-numbers.ensures
    ∙ ap (λ (d : Board). verdict_for d (members_at (figure_numbers a.set) (take a.own.count a.own.places)) a.reserve) (board_back a.set)

pub pass_judged_spec : {M : Type 1} → statement M
pass_judged_spec =
    tie.close
    (tie.spec
    horizon-common-requires
    figures-numbers-requires
    by_processor-interrupts-requires
    overflow_mul-end
    (λ c. search rules)
    slice_bounds-interrupts-end
    slice_bounds-judged-end-3
    judged-requires
    returns)

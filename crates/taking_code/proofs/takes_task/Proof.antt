-- `takes_task` meets its contract: the members of the server and the task behind them are all that is charged. Assumes nothing.
use Prim.Native.Nat.{ℕ, ◌+◌, ◌<◌}
use mathlib.Core.Path.{refl, ap, ◌∙◌}
use mathlib.Core.List.{List}
use borrow.Author.Rules.{rules}
use native.Mathlib.Omega.{arith}
use lib.ListN.{take, set}
use Rattle.tasks.specs.Set.{most_tasks}
use Rattle.loads.specs.Figures.{figures_at, figures_to}
use Rattle.members.specs.Server.{board_of, fits}
use Rattle.taking.specs.Takes.{with_task, takes}
use Rattle.taking.proofs.ChargedLaws.{Standing, standing_joined, standing_served, place_free}
use Rattle.taking_code.proofs.takes_task.Statement.{statement}
use Rattle.taking_code.proofs.takes_task.Tie as tie

-- once the members' places are found
module _ (c : tie.After-places-2-1) where
  abbrev start : tie.Start
  start = c.before.before.before.before.before.before

  abbrev found : List ℕ
  found = c.places_of-before.new.places

  -- with the task's own behind them
  abbrev joined : List ℕ
  joined = set found c.places_of-before.result start.args.i

  abbrev count : ℕ
  count = c.places_of-before.result + 1

  below : start.args.i < most_tasks
  below = omega (arith, start.requires.0.few)

  free : c.places_of-before.result < most_tasks
  free =
      place_free start.args.figures.now start.args.placement.now _ start.args.i _ start.requires.1.1.0 refl
      c.places_of-before.ensures.0 c.places_of-before.ensures.1 below

  standing : Standing start.args.figures.now (start.args.i + 1)
      (with_task (figures_to start.args.figures.now start.args.i) (take start.args.i start.args.placement.now) (figures_at start.args.figures.now start.args.i) start.args.q)
      joined count
  standing =
      standing_joined start.args.figures.now start.args.placement.now _ start.args.i start.args.q start.requires.1.1.0 refl
      c.places_of-before.ensures.0 c.places_of-before.ensures.1 below

bounds-places-before : tie.Need-bounds-places-before
bounds-places-before c = omega (arith, free c)

overflow_add-before : tie.Need-overflow_add-before
overflow_add-before c = omega (arith, free c.before)

passes_whole-requires : tie.Need-passes_whole-requires
passes_whole-requires c κs =
    let at = c.before in
    (standing_served _ (start at).requires.0 (standing at) (start at).requires.1.1.1, (start at).requires.1.0)

returns : tie.Need-returns
unfolding takes
returns c =
    let at = c.before.before in
    c.passes_whole.ensures ∙ ap (fits (board_of (start at).args.header (start at).args.interrupts.now)) (standing at).is

pub takes_task_spec : {M : Type 1} → statement M
takes_task_spec =
    tie.close
    (tie.spec
    (λ c. search rules)
    (λ c κs. search rules)
    (λ c. search rules)
    bounds-places-before
    (λ c. search rules)
    overflow_add-before
    passes_whole-requires
    returns)

-- `board_of` meets its contract: row 10 is tried by the processors that the servers need.
-- Assumes nothing.
use Prim.Native.Nat.{◌≤◌, ◌<◌}
use mathlib.Core.Path.{◌≡◌, ◌∙◌}
use native.Mathlib.Omega.{arith}
use borrow.Author.Rules.{rules}
use lib.ListN.{length}
use Rattle.tasks.specs.Set.{most_tasks}
use Rattle.planner.specs.Planner.{needed}
use Rattle.planner.proofs.Made.{needed_few, set_layable, set_needs, full_holds, full_clear}
use Rattle.planned.proofs.board_of.Statement.{statement}
use Rattle.planned.proofs.board_of.Tie as tie

-- a set's tasks have their places
full : (c : tie.Start) → length c.args.set.tasks ≡ most_tasks
full c = c.well_formed.0.1.1.1.1.0.1.0.1

processors_of-processors-requires : tie.Need-processors_of-processors-requires
processors_of-processors-requires c κs =
    let s = c.before.before in
    (set_layable s.args.set (full s) s.requires.0 s.requires.1).laid

-- once the processors are known
module _ (c : tie.After-processors_of-processors) where
  abbrev start : tie.Start
  start = c.before.before.before

  -- they are those that the set needs
  sum : c.processors_of-processors.result ≡ needed start.args.set
  sum = c.processors_of-processors.ensures ∙ set_needs start.args.set (full start) start.requires.0 start.requires.1

  -- and few
  few : needed start.args.set ≤ most_tasks
  few = needed_few start.args.set (full start) start.requires.0.clear

overflow_cast-result : tie.Need-overflow_cast-result
overflow_cast-result c = let at = c.before.before in omega (arith, sum at, few at)

returns-then-header-processors : tie.Need-returns-then-header-processors
returns-then-header-processors c =
    let at = c.before.before in
    let s = start at in
    let over : s.args.set.header.processors < at.processors_of-processors.result = omega (arith, c.if-header-processors.true) in
    rw (full_holds s.args.set (sum at) over, sum at)

returns : tie.Need-returns
returns c =
    let at = c.before.before in
    let s = start at in
    let within : at.processors_of-processors.result ≤ s.args.set.header.processors = omega (arith, c.if-header-processors.false) in
    rw (full_clear s.args.set (sum at) within)

pub board_of_spec : {M : Type 1} → statement M
board_of_spec =
    tie.close
    (tie.spec
    (λ c. search rules)
    processors_of-processors-requires
    (λ c. search rules)
    overflow_cast-result
    returns-then-header-processors
    returns)

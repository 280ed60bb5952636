-- `read::finished` meets its contract: how the 07 lines end, and what then answers.
use Prim.Native.Nat.{◌+◌, ◌≤◌}
use native.Mathlib.Omega.{arith}
use mathlib.Core.Path.{◌≡◌, ap, ◌∙◌}
use borrow.Author.Rules.{rules}
use Rattle.refusals.specs.Refused.{Outcome}
use Rattle.tasks.specs.declared.set.TaskSet.{TaskSet}
use Rattle.tasks.specs.Set.{most_tasks, most_interrupts, interrupts_with, set_of, set_with}
use Rattle.taskread.specs.Read.{answer}
use Rattle.taskread.proofs.Reading.{rest_refused, rest_few, ended_none, ended_all}
use Rattle.read_finished.proofs.finished.Statement.{statement}
use Rattle.read_finished.proofs.finished.Tie as tie

interrupt_lines-rest-requires : tie.Need-interrupt_lines-rest-requires
interrupt_lines-rest-requires c κs = (c.requires.0, c.requires.1.0)

returns-in_default : tie.Need-returns-in_default
returns-in_default c =
    let lines = c.before.before in
    c.answered.ensures ∙ rest_refused lines.requires.1.1 lines.interrupt_lines-rest.ensures c.in_default.field-0 c.in_default.is

-- the lines are few
few-lines : (c : tie.After-interrupt_lines-rest) → (c.interrupt_lines-rest.result.lines ≤ most_tasks + most_interrupts + 3) × (c.args.lines ≤ most_tasks + most_interrupts + 3)
few-lines c = let taken = c.requires.0.taken in (c.interrupt_lines-rest.ensures.lines, omega (arith, taken.lines, taken.few, taken.fewer))

overflow_add-place : tie.Need-overflow_add-place
overflow_add-place c = omega (arith, few-lines c.before.before.before)

overflow_cast-place : tie.Need-overflow_cast-place
overflow_cast-place c = omega (arith, few-lines c.before.before.before)

returns-then-empty : tie.Need-returns-then-empty
returns-then-empty c =
    let told = c.before.before.before in
    let lines = told.before in
    c.answered-then-empty.ensures ∙ ended_none lines.requires.1.1 lines.interrupt_lines-rest.ensures told.in-Ok.is c.if-empty.true

-- there is room for the tasks, and for the interrupts, of which there were none
few : (s : tie.Start) → (s.args.tasks.count ≤ most_tasks) × (s.args.tasks.interrupts.count ≡ 0)
unfolding set_of interrupts_with
few s = (omega (arith, ap (λ (set : TaskSet). set.count) s.requires.1.1, s.requires.0.taken.few), ap (λ (set : TaskSet). set.interrupts.count) s.requires.1.1)

figures-requires : tie.Need-figures-requires
figures-requires c κs =
    let lines = c.before.before.before.before in
    let s = lines.before.before in
    ((few s).0, omega (arith, few s, rest_few s.requires.1.1 lines.interrupt_lines-rest.ensures))

returns : tie.Need-returns
returns c =
    let told = c.before.before.before.before.before in
    let lines = told.before in
    let set : TaskSet = set_with lines.args.tasks lines.interrupt_lines-rest.result.interrupts in
    c.answered-2.ensures
    ∙ (ap (λ (o : Outcome). answer o set) c.figures.ensures
    ∙ ended_all lines.requires.1.1 lines.interrupt_lines-rest.ensures told.in-Ok.is c.if-empty.false)

pub finished_spec : {M : Type 1} → statement M
finished_spec =
    tie.close
    (tie.spec
    interrupt_lines-rest-requires
    (λ c. search rules)
    (λ c. search rules)
    (λ c κs. search rules)
    returns-in_default
    overflow_add-place
    overflow_cast-place
    (λ c κs. search rules)
    returns-then-empty
    figures-requires
    (λ c κs. search rules)
    returns)

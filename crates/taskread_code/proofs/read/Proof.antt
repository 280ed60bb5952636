-- `read::read` meets its contract: line 1, the tasks, then what stands behind them.
use Rattle.std.specs.Prelude.{Ok}
use Prim.Native.Nat.{ℕ}
use mathlib.Core.List.{List}
use mathlib.Core.Path.{◌≡◌, sym, ◌∙◌}
use borrow.Author.Rules.{rules}
use Rattle.lineanswer.proofs.Answers.{line_given}
use Rattle.taskfile.specs.File.{line_outcome, header_at}
use Rattle.taskread.proofs.Reading.{first_refused, later_refused}
use Rattle.taskread_code.proofs.read.Statement.{statement}
use Rattle.taskread_code.proofs.read.Tie as tie

returns-in_default : tie.Need-returns-in_default
returns-in_default c =
    let outcome = c.before.before in
    let told = outcome.in_default in
    c.answered.ensures ∙ first_refused outcome.args.text.now told.field-0 c.zero.result outcome.header_line-first.ensures told.is outcome.of_line.ensures

-- line 1 is clear, and the header has its figures
first-line : (c : tie.In-Ok) →
    let text : List ℕ = c.args.text.now in
    (line_outcome text 1 ≡ Ok tt) × (c.in-Ok.header ≡ header_at text)
first-line c =
    let text : List ℕ = c.args.text.now in
    line_given (line_outcome text 1) (header_at text) c.in-Ok.header (sym c.header_line-first.ensures ∙ c.in-Ok.is)

opened-requires : tie.Need-opened-requires
opened-requires c κs = first-line c

task_lines-listed-requires : tie.Need-task_lines-listed-requires
task_lines-listed-requires c κs = ((first-line c.before).0, c.opened.ensures)

returns-in_default-outcome : tie.Need-returns-in_default-outcome
returns-in_default-outcome c =
    let told = c.in_default-outcome in
    c.answered-in_default-outcome.ensures ∙ later_refused c.task_lines-listed.ensures told.field-0 told.is

finished-requires : tie.Need-finished-requires
finished-requires c κs =
    let ended = c.task_lines-listed.ensures in
    (ended.done c.in-Ok-outcome.is, (ended.tasked.none, ended.all))

returns : tie.Need-returns
returns c = c.finished.ensures

pub read_spec : {M : Type 1} → statement M
read_spec =
    tie.close
    (tie.spec
    (λ c κs. search rules)
    (λ c. search rules)
    (λ c. search rules)
    (λ c κs. search rules)
    (λ c κs. search rules)
    (λ c κs. search rules)
    returns-in_default
    opened-requires
    task_lines-listed-requires
    (λ c. search rules)
    (λ c. search rules)
    (λ c κs. search rules)
    returns-in_default-outcome
    finished-requires
    returns)

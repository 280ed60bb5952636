-- `listed_line` meets its contract: rows 3 and 4 at a task's line, in their order.
use Rattle.refusals.specs.declared.Refusal.{Refusal}
use Rattle.std.specs.Prelude.{Ok, Result}
use Prim.Native.Nat.{◌+◌}
use mathlib.Core.Path.{◌≡◌, sym, ap, ◌∙◌}
use mathlib.Core.Bool.{Bool, true, false}
use lib.Dec.{eqb}
use lib.ListN.{drop}
use Rattle.refusals.specs.declared.Refusal.TheVariants.{Twice}
use Rattle.refusals.specs.Refused.{Outcome}
use Rattle.refusals.specs.First.{when}
use Rattle.tasks.specs.declared.set.Task.{Task}
use Rattle.tasks.specs.Search.{some}
use Rattle.taskfile.specs.File.{line_outcome, task_at}
use Rattle.lineanswer.specs.Answer.{line_or}
use Rattle.taskfile.proofs.Standing.{said_count, said_twice}
use borrow.Author.Rules.{rules}
use Rattle.listedline_code.proofs.listed_line.Statement.{statement}
use Rattle.listedline_code.proofs.listed_line.Tie as tie

-- the answer for an outcome of the line
abbrev given : tie.Start → Outcome → Result Task Refusal
given s o = line_or o (task_at (drop s.args.at s.args.text.now))

returns-then-full : tie.Need-returns-then-full
returns-then-full c =
    let s = c.before.before.before in
    sym (ap (given s) (said_count s.requires.0 s.requires.1.1.0 s.args.ids.now s.requires.1.0 c.if-full.true))

-- what the search for the id says of the line
by-id : (c : tie.After-holds_id) (b : Bool) → c.holds_id.result ≡ b → line_outcome c.args.text.now (c.args.lines + 1) ≡ when b (Twice (c.args.lines + 1))
by-id c b e =
    said_twice c.requires.0 c.requires.1.1.0 c.args.ids.now c.requires.1.0 c.if-full.false b
    (ap (λ (t : Task). some (λ i. eqb i t.id) c.args.ids.now) (sym c.task_at-task.ensures) ∙ (sym c.holds_id.ensures ∙ e))

returns-then-holds_id : tie.Need-returns-then-holds_id
returns-then-holds_id c = sym (ap (given c.before.before.before.before.before.before) (by-id c.before true c.if-holds_id.true))

returns : tie.Need-returns
returns c =
    ap Ok c.task_at-task.ensures
    ∙ sym (ap (given c.before.before.before.before.before.before) (by-id c.before false c.if-holds_id.false))

pub listed_line_spec : {M : Type 1} → statement M
listed_line_spec =
    tie.close
    (tie.spec
    (λ c. search rules)
    (λ c. search rules)
    returns-then-full
    (λ c κs. search rules)
    (λ c κs. search rules)
    returns-then-holds_id
    returns)

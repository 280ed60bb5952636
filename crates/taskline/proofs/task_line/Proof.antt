-- `task_line` meets its contract: what a later line is, and what it then answers.
use Rattle.refusals.specs.declared.Refusal.{Refusal}
use Rattle.tasks.specs.declared.set.Task.{Task}
use Rattle.std.specs.Prelude.{None, Result}
use mathlib.Core.Path.{◌≡◌, sym, ap, ◌∙◌}
use mathlib.Core.Bool.{true}
use mathlib.Core.List.{List}
use Prim.Native.Nat.{ℕ}
use lib.ListN.{drop}
use Rattle.frameread.specs.Line.{formed, kind_at}
use Rattle.refusals.specs.Refused.{Outcome}
use Rattle.taskfile.specs.File.{task_at}
use Rattle.lineanswer.specs.Answer.{line_or}
use Rattle.frameread.proofs.KindLaws.{kind_formed, kind_none}
use Rattle.taskfile.proofs.Lines.{admits_none}
use Rattle.taskfile.proofs.Standing.{tag_task, other_task, said_line, said_order}
use borrow.Author.Rules.{rules}
use Rattle.taskline.proofs.task_line.Statement.{statement}
use Rattle.taskline.proofs.task_line.Tie as tie

-- the text from the cursor on, and the answer for an outcome of the line
abbrev rest : tie.Start → List ℕ
rest s = drop s.args.at s.args.text.now

abbrev given : tie.Start → Outcome → Result Task Refusal
given s o = line_or o (task_at (rest s))

returns-in_default : tie.Need-returns-in_default
returns-in_default c =
    let s = c.before.before.before.before in
    let nothing : kind_at (rest s) ≡ None = sym c.kind_at-found.ensures ∙ c.in_default.is in
    sym (ap (given s) (said_line s.requires.0.taken s.requires.1.0 (admits_none (rest s) (kind_none (rest s) nothing))))

-- the frame that was found is formed
is-formed : (c : tie.In-Some) → formed c.in-Some.frame (rest c.before.before.before.before) ≡ true
is-formed c =
    kind_formed c.in-Some.frame (rest c.before.before.before.before) (sym c.kind_at-found.ensures ∙ c.in-Some.is)

listed_line-requires : tie.Need-listed_line-requires
listed_line-requires c κs =
    let s = c.before.before.before.before.before in
    (s.requires.0, (s.requires.1.1.0, tag_task c.in-Some.frame (rest s) c.in-Task.in-Task-own.keys2 (is-formed c.before)))

returns-in_default-frame : tie.Need-returns-in_default-frame
returns-in_default-frame c =
    let s = c.before.before.before.before.before in
    let other = other_task c.in-Some.frame (rest s) c.in_default-frame.in_default-frame-own.keys3 (is-formed c.before) s.requires.1.1.1 in
    sym (ap (given s) (said_line s.requires.0.taken s.requires.1.0 other))

returns-in-Header : tie.Need-returns-in-Header
returns-in-Header c =
    let s = c.before.before.before.before.before in
    sym (ap (given s) (said_order s.requires.0.taken c.in-Some.frame (is-formed c.before) c.in-Header.in-Header-own.keys1))

pub task_line_spec : {M : Type 1} → statement M
task_line_spec =
    tie.close
    (tie.spec
    (λ c. search rules)
    (λ c. search rules)
    (λ c κs. search rules)
    (λ c. search rules)
    (λ c. search rules)
    returns-in_default
    listed_line-requires
    returns-in-Header
    (λ c. search rules)
    returns-in_default-frame)

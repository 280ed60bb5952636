-- `header_line` meets its contract: what line 1 is, and what it then answers.
use Rattle.refusals.specs.declared.Refusal.{Refusal}
use Rattle.tasks.specs.declared.set.Header.{Header}
use Rattle.std.specs.Prelude.{None, Ok, Result}
use mathlib.Core.Path.{◌≡◌, sym, ap, ◌∙◌}
use mathlib.Core.Bool.{true, false}
use mathlib.Core.List.{List}
use Prim.Native.Nat.{ℕ}
use native.Mathlib.Omega.{arith}
use Rattle.frameread.specs.Line.{formed, kind_at}
use Rattle.frames.specs.declared.table.Frame.{Frame}
use Rattle.refusals.specs.Refused.{Outcome}
use Rattle.taskfile.specs.File.{line_outcome, header_at, empty}
use Rattle.lineanswer.specs.Answer.{line_or}
use Rattle.frameread.proofs.KindLaws.{kind_formed, kind_none}
use Rattle.taskfile.proofs.Past.{nothing_left}
use Rattle.taskfile.proofs.Lines.{admits_none, first_missing, first_header, first_other}
use Rattle.taskfile.proofs.Standing.{byte_there, first_said, other_frame}
use borrow.Author.Rules.{rules}
use Rattle.headerline_code.proofs.header_line.Statement.{statement}
use Rattle.headerline_code.proofs.header_line.Tie as tie

-- the answer for an outcome of the line
abbrev given : List ℕ → Outcome → Result Header Refusal
given text o = line_or o (header_at text)

returns-then-text-eq0 : tie.Need-returns-then-text-eq0
returns-then-text-eq0 c =
    let text : List ℕ = c.args.text.now in
    sym (ap (given text) (ap (λ (l : List ℕ). line_outcome l 1) (nothing_left text (omega (arith, c.if-text-eq0.true))) ∙ first_missing))

-- the first byte is there
there : (c : tie.Else-text-eq0) → empty c.args.text.now ≡ false
there c = byte_there 0 c.args.text.now (omega (arith, c.if-text-eq0.false))

returns-in_default : tie.Need-returns-in_default
returns-in_default c =
    let text : List ℕ = c.args.text.now in
    let nothing : kind_at text ≡ None = sym c.kind_at-found.ensures ∙ c.in_default.is in
    sym (ap (given text) (first_other text (there c.before.before) (admits_none text (kind_none text nothing))))

-- the frame that was found is formed
is-formed : (c : tie.In-Some) → formed c.in-Some.frame c.args.text.now ≡ true
is-formed c =
    kind_formed c.in-Some.frame c.args.text.now (sym c.kind_at-found.ensures ∙ c.in-Some.is)

header_at-header-requires : tie.Need-header_at-header-requires
header_at-header-requires c κs = ap (λ (f : Frame). formed f c.args.text.now) (sym c.in-Header.is) ∙ is-formed c.before

returns-in-Header : tie.Need-returns-in-Header
returns-in-Header c =
    let text : List ℕ = c.args.text.now in
    let header : formed Frame.Header text ≡ true = ap (λ (f : Frame). formed f text) (sym c.in-Header.is) ∙ is-formed c.before.before in
    ap Ok c.header_at-header.ensures ∙ sym (ap (given text) (first_header text header))

returns-in_default-frame : tie.Need-returns-in_default-frame
returns-in_default-frame c =
    let text : List ℕ = c.args.text.now in
    let other = other_frame c.in-Some.frame text c.in_default-frame.in_default-frame-own.keys3 (is-formed c.before) in
    sym (ap (given text) (first_other text (there c.before.before.before) other))

returns-in-Task : tie.Need-returns-in-Task
returns-in-Task c =
    let text : List ℕ = c.args.text.now in
    sym (ap (given text) (first_said c.in-Some.frame text (is-formed c.before) c.in-Task.in-Task-own.keys2))

pub header_line_spec : {M : Type 1} → statement M
header_line_spec =
    tie.close
    (tie.spec
    returns-then-text-eq0
    (λ c κs. search rules)
    (λ c. search rules)
    (λ c. search rules)
    returns-in_default
    (λ c. search rules)
    header_at-header-requires
    returns-in-Header
    returns-in-Task
    returns-in_default-frame)

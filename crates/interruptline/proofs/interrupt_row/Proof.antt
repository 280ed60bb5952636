-- `interrupt_row` meets its contract: what a line behind the tasks is, and what it then answers.
use Rattle.std.specs.Prelude.{None}
use mathlib.Core.Path.{◌≡◌, sym, ap, ◌∙◌}
use mathlib.Core.Bool.{true}
use mathlib.Core.List.{List}
use Prim.Native.Nat.{ℕ}
use native.Mathlib.Omega.{arith}
use lib.ListN.{drop}
use Rattle.frameread.specs.Line.{formed, kind_at}
use Rattle.frames.specs.declared.table.Frame.{Frame}
use Rattle.frameread.proofs.KindLaws.{kind_formed, kind_none}
use Rattle.tasks.specs.Set.{most_interrupts}
use Rattle.taskfile.proofs.Lines.{admits_none}
use Rattle.taskfile.proofs.Standing.{other_frame, said_line, said_behind, said_full, said_done}
use borrow.Author.Rules.{rules}
use Rattle.interruptline.proofs.interrupt_row.Statement.{statement}
use Rattle.interruptline.proofs.interrupt_row.Tie as tie

-- the text from the cursor on
abbrev rest : tie.Start → List ℕ
rest s = drop s.args.at s.args.text.now

returns-in_default : tie.Need-returns-in_default
returns-in_default c =
    let s = c.before.before.before in
    let nothing : kind_at (rest s) ≡ None = sym c.kind_at-found.ensures ∙ c.in_default.is in
    sym (said_line s.requires.0.taken s.requires.1.0 (admits_none (rest s) (kind_none (rest s) nothing)))

-- the frame that was found is formed
is-formed : (c : tie.In-Some) → formed c.in-Some.frame (rest c.before.before.before) ≡ true
is-formed c =
    kind_formed c.in-Some.frame (rest c.before.before.before) (sym c.kind_at-found.ensures ∙ c.in-Some.is)

-- it is an 07 line
interrupt : (c : tie.In-Interrupt) → formed Frame.Interrupt (rest c.before.before.before.before) ≡ true
interrupt c =
    ap (λ (f : Frame). formed f (rest c.before.before.before.before)) (sym c.in-Interrupt.is) ∙ is-formed c.before

returns-then-full : tie.Need-returns-then-full
returns-then-full c =
    let full : c.args.count ≡ most_interrupts = omega (arith, c.if-full.true, c.requires.1.1, c.requires.0.taken.fewer) in
    sym (said_full c.requires.0.taken (interrupt c.before) c.args.count c.requires.1.1 full)

returns-in_default-frame : tie.Need-returns-in_default-frame
returns-in_default-frame c =
    let s = c.before.before.before.before in
    let other = other_frame c.in-Some.frame (rest s) c.in_default-frame.in_default-frame-own.keys3 (is-formed c.before) in
    sym (said_line s.requires.0.taken s.requires.1.0 other)

returns-in-Header : tie.Need-returns-in-Header
returns-in-Header c =
    sym (said_behind c.requires.0 c.in-Some.frame (is-formed c.before) c.in-Header.in-Header-own.keys1)

returns-else-full : tie.Need-returns-else-full
returns-else-full c =
    sym (said_done c.requires.0.taken (interrupt c.before) c.args.count c.requires.1.1 (λ (full : c.args.count ≡ most_interrupts). omega (arith, c.if-full.false)))

pub interrupt_row_spec : {M : Type 1} → statement M
interrupt_row_spec =
    tie.close
    (tie.spec
    (λ c. search rules)
    (λ c. search rules)
    (λ c κs. search rules)
    (λ c. search rules)
    (λ c. search rules)
    returns-in_default
    (λ c. search rules)
    returns-then-full
    returns-in-Header
    returns-else-full
    returns-in_default-frame)

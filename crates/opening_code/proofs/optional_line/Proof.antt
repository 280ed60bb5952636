-- `optional_line` meets its contract: the text at the cursor starts with a line of the kind or it does not.
use Rattle.std.specs.Prelude.{Some}
use Prim.Native.Nat.{ℕ, ◌+◌, ◌≤◌, ◌^◌}
use native.Mathlib.Omega.{arith}
use native.Mathlib.Nat.{pow-le-pow_right}
use mathlib.Core.Bool.{Bool, true}
use mathlib.Core.List.{List}
use mathlib.Core.Path.{◌≡◌, sym, ◌∙◌}
use lib.Dec.{lit<}
use lib.ListN.{drop}
use borrow.Author.Rules.{rules}
use borrow.Author.Tests.{not-true, not-false}
use Rattle.frameread.specs.Line.{formed}
use Rattle.frames.specs.Table.{most_digits, width_of}
use Rattle.frames.proofs.Tables.{length_most}
use Rattle.taskfile.proofs.Standing.{field_within}
use Rattle.opening.proofs.OptionalLaws.{optional_given, optional_none}
use Rattle.opening_code.proofs.optional_line.Statement.{statement}
use Rattle.opening_code.proofs.optional_line.Tie as tie

-- the text from the cursor on
abbrev rest : tie.Start → List ℕ
rest s = drop s.args.at s.args.text.now

-- whether it starts with a line of the kind
by_line : (c : tie.After-is_line) {b : Bool} → c.is_line.result ≡ b → formed c.args.kind (rest c.before.before) ≡ b
by_line c e = sym c.is_line.ensures ∙ e

returns-then-not-is_line : tie.Need-returns-then-not-is_line
returns-then-not-is_line c =
    let s = c.before.before.before in
    sym (optional_none s.args.kind (rest s) s.args.at s.args.lines (by_line c.before (not-true _ c.if-not-is_line.true-raw)))

there : (c : tie.Else-not-is_line) → formed c.args.kind (rest c.before.before.before) ≡ true
there c = by_line c.before (not-false _ c.if-not-is_line.false-raw)

field-figure-requires : tie.Need-field-figure-requires
field-figure-requires c κs = (c.requires.0, (there c, omega arith))

-- a figure of four digits at most
overflow_cast-figure : tie.Need-overflow_cast-figure
overflow_cast-figure c =
    let s = c.before.before.before.before in
    let below : 16 ^ width_of s.args.kind 0 ≤ 16 ^ 4 = pow-le-pow_right (lit< tt) s.requires.1.1 in
    omega (arith, below, field_within s.args.kind 0 c.field-figure.result (rest s) (there c.before) c.field-figure.ensures)

-- a line's length is small
small : (c : tie.After-length) → c.length.result ≤ most_digits
small c = rw c.length.ensures (length_most _)

overflow_add-behind : tie.Need-overflow_add-behind
overflow_add-behind c = omega (arith, small c)

overflow_add-behind-2 : tie.Need-overflow_add-behind-2
overflow_add-behind-2 c =
    omega (arith, small c, c.requires.0, c.well_formed)

overflow_add-line : tie.Need-overflow_add-line
overflow_add-line c = omega (arith, c.requires.1.0)

returns : tie.Need-returns
returns c =
    let s = c.before.before.before.before.before in
    (λ i. record { figure = Some (c.field-figure.ensures i); at = s.args.at + (c.length.ensures i + 1); lines = s.args.lines + 1 })
    ∙ sym (optional_given s.args.kind (rest s) s.args.at s.args.lines (there c.before.before))

pub optional_line_spec : {M : Type 1} → statement M
optional_line_spec =
    tie.close
    (tie.spec
    (λ c κs. c.requires.0)
    returns-then-not-is_line
    field-figure-requires
    overflow_cast-figure
    (λ c κs. search rules)
    overflow_add-behind
    overflow_add-behind-2
    overflow_add-line
    returns)

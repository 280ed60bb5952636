-- `opened` meets its contract: the 05 line is looked for behind the 01 line, the 06 line behind that.
use Prim.Native.Nat.{ℕ, ◌+◌}
use native.Mathlib.Omega.{arith}
use mathlib.Core.Bool.{true}
use mathlib.Core.List.{List}
use mathlib.Core.Path.{◌≡◌, ap, ◌∙◌}
use lib.ListN.{drop}
use borrow.Author.Rules.{rules}
use Rattle.frameread.specs.Line.{formed}
use Rattle.frames.specs.Table.{widths_of, length_of}
use Rattle.frames.specs.declared.table.Frame.{Frame}
use Rattle.frames.proofs.Tables.{length_most}
use Rattle.tasks.specs.Set.{with_lines}
use Rattle.taskfile.proofs.Lines.{clear_header}
use Rattle.taskfile.proofs.OpeningLaws.{within_header}
use Rattle.opening.specs.Opening.{optional_of}
use Rattle.opening.proofs.OptionalLaws.{masked_within, opening_by}
use Rattle.opening_code.proofs.opened.Statement.{statement}
use Rattle.opening_code.proofs.opened.Tie as tie

abbrev text_of : tie.Start → List ℕ
text_of s = s.args.text.now

-- line 1 is an 01 line
header : (s : tie.Start) → formed Frame.Header (text_of s) ≡ true
header s = clear_header (text_of s) s.requires.0

overflow_add-at : tie.Need-overflow_add-at
overflow_add-at c = omega (arith, c.length-at.ensures, length_most Frame.Header)

optional_line-masked-requires : tie.Need-optional_line-masked-requires
unfolding widths_of
optional_line-masked-requires c κs =
    let s = c.before.before in
    (rw c.length-at.ensures (within_header (text_of s) (header s)), (omega arith, omega arith))

-- what was looked for behind line 1
masked : (c : tie.After-optional_line-masked) → c.optional_line-masked.result ≡ optional_of Frame.Masked (drop (length_of Frame.Header + 1) (text_of c.before.before.before)) (length_of Frame.Header + 1) 1
masked c =
    let s = c.before.before.before in
    c.optional_line-masked.ensures ∙ ap (λ (n : ℕ). optional_of Frame.Masked (drop (n + 1) (text_of s)) (n + 1) 1) c.length-at.ensures

optional_line-rule-requires : tie.Need-optional_line-rule-requires
unfolding widths_of
optional_line-rule-requires c κs =
    let s = c.before.before.before in
    let within = masked_within (text_of s) (header s) (masked c) in
    (omega (arith, within, c.length-at.ensures, within_header (text_of s) (header s)), (within.1, omega arith))

returns : tie.Need-returns
returns c =
    let rule = c.before in
    let s = rule.before.before.before.before in
    let figures = c.with_lines.ensures ∙ ap (λ h. with_lines h rule.optional_line-masked.result.figure rule.optional_line-rule.result.figure) s.requires.1 in
    (λ i. record { header = figures i; at = rule.optional_line-rule.result.at; lines = rule.optional_line-rule.result.lines })
    ∙ opening_by (text_of s) (header s) (masked rule.before) rule.optional_line-rule.ensures

pub opened_spec : {M : Type 1} → statement M
opened_spec =
    tie.close
    (tie.spec
    (λ c κs. search rules)
    overflow_add-at
    optional_line-masked-requires
    optional_line-rule-requires
    (λ c κs. search rules)
    returns)

-- `frameread::field` meets its contract: a formed line has each field's digits where it starts.
-- Assumes nothing.
use mathlib.Core.Path.{refl, ◌∙◌}
use native.Mathlib.Omega.{arith}
use Rattle.frames.specs.Table.{width_of}
use Rattle.frames.proofs.Tables.{width_most}
use Rattle.frameread.proofs.Places.{field_at_legal, field_at_within, field_at_number}
use borrow.Author.Rules.{rules}
use Rattle.frameread_code.proofs.field.Statement.{statement}
use Rattle.frameread_code.proofs.field.Tie as tie

overflow_add-start : tie.Need-overflow_add-start
overflow_add-start c =
    let a = c.args in
    omega (arith, field_at_within a.frame a.text.now a.at a.field c.field_start.result (width_of a.frame a.field) c.field_start.ensures refl c.requires.1.0 c.requires.0)

number_at-requires : tie.Need-number_at-requires
number_at-requires c κs =
    let a = c.args in
    let pre = c.requires in (
      field_at_within a.frame a.text.now a.at a.field c.field_start.result c.width.result c.field_start.ensures c.width.ensures pre.1.0 pre.0,
      (
        omega (arith, c.width.ensures, width_most a.frame a.field),
        field_at_legal a.frame a.text.now a.at a.field c.field_start.result c.width.result c.field_start.ensures c.width.ensures pre.1.0,
      ),
    )

returns : tie.Need-returns
returns c =
    let a = c.args in
    c.number_at.ensures
    ∙ field_at_number a.frame a.text.now a.at a.field c.field_start.result c.width.result c.field_start.ensures c.width.ensures c.requires.1.0

pub field_spec : {M : Type 1} → statement M
field_spec =
    tie.close
    (tie.spec
    (λ c κs. search rules)
    overflow_add-start
    (λ c κs. search rules)
    number_at-requires
    returns)

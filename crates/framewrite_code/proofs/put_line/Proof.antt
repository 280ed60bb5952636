-- `framewrite::put_line` meets its contract: the line of a frame's row is the frame's.
-- Assumes nothing.
use mathlib.Core.Path.{◌∙◌, ap}
use native.Mathlib.Omega.{arith}
use Rattle.digits.specs.Stored.{stored}
use Rattle.frames.proofs.Tables.{fields_most}
use Rattle.framewrite.proofs.LineLaws.{row_fields, row_digits, row_line}
use borrow.Author.Rules.{rules}
use Rattle.framewrite_code.proofs.put_line.Statement.{statement}
use Rattle.framewrite_code.proofs.put_line.Tie as tie

put_row-requires : tie.Need-put_row-requires
put_row-requires c κs =
    let frame = c.args.frame in
    let row = c.row_of-row.ensures in (
      (omega (arith, row_fields frame row, fields_most frame), omega (arith, row_fields frame row, c.requires.0)),
      omega (arith, row_digits frame row, c.requires.1),
    )

shape_of-out : tie.Need-shape_of-out
shape_of-out c = c.put_row.auto.out

returns : tie.Need-returns
returns c =
    let a = c.args in
    c.put_row.ensures.1
    ∙ ap (stored a.out.now a.at) (row_line a.frame c.row_of-row.ensures a.values.now)

pub put_line_spec : {M : Type 1} → statement M
put_line_spec =
    tie.close
    (tie.spec
    (λ c κs. search rules)
    put_row-requires
    shape_of-out
    returns)

-- `header_at` meets its contract: each field of a formed line fits its type.
use Rattle.std.specs.Prelude.{None}
use native.Mathlib.Omega.{arith}
use Rattle.frames.specs.Table.{widths_of}
use Rattle.frames.specs.declared.table.Frame.{Frame}
use Rattle.taskfile.proofs.Standing.{field_within}
use Rattle.taskfile.specs.File.{header_at}
use Rattle.headerline_code.proofs.header_at.Goals as goal

pub overflow_cast-result : goal.overflow_cast-result
unfolding widths_of
overflow_cast-result c =
    omega (arith, field_within Frame.Header 0 c.field.result c.args.text.now c.requires c.field.ensures)

pub overflow_cast-result-2 : goal.overflow_cast-result-2
unfolding widths_of
overflow_cast-result-2 c =
    omega (arith, field_within Frame.Header 1 c.field-2.result c.args.text.now c.requires c.field-2.ensures)

pub overflow_cast-result-3 : goal.overflow_cast-result-3
unfolding widths_of
overflow_cast-result-3 c =
    omega (arith, field_within Frame.Header 2 c.field-3.result c.args.text.now c.requires c.field-3.ensures)

pub overflow_cast-result-4 : goal.overflow_cast-result-4
unfolding widths_of
overflow_cast-result-4 c =
    omega (arith, field_within Frame.Header 3 c.field-4.result c.args.text.now c.requires c.field-4.ensures)

pub overflow_cast-result-5 : goal.overflow_cast-result-5
unfolding widths_of
overflow_cast-result-5 c =
    omega (arith, field_within Frame.Header 4 c.field-5.result c.args.text.now c.requires c.field-5.ensures)

pub overflow_cast-result-6 : goal.overflow_cast-result-6
unfolding widths_of
overflow_cast-result-6 c =
    omega (arith, field_within Frame.Header 5 c.field-6.result c.args.text.now c.requires c.field-6.ensures)

pub overflow_cast-result-7 : goal.overflow_cast-result-7
unfolding widths_of
overflow_cast-result-7 c =
    omega (arith, field_within Frame.Header 6 c.field-7.result c.args.text.now c.requires c.field-7.ensures)

pub returns : goal.returns
unfolding header_at
returns c = λ i. record { processors = c.field.ensures i; slot = c.field-2.ensures i; relj = c.field-3.ensures i; relo = c.field-4.ensures i; ctswo = c.field-5.ensures i; resd = c.field-6.ensures i; cpmdo = c.field-7.ensures i; masked = None; rule = None }

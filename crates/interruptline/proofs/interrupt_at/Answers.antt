-- `interrupt_at` meets its contract: each field of a formed line fits its type.
use native.Mathlib.Omega.{arith}
use Rattle.frames.specs.Table.{widths_of}
use Rattle.frames.specs.declared.table.Frame.{Frame}
use Rattle.taskfile.proofs.Standing.{field_within}
use Rattle.taskfile.specs.File.{interrupt_at}
use Rattle.interruptline.proofs.interrupt_at.Goals as goal

pub overflow_cast-result : goal.overflow_cast-result
unfolding widths_of
overflow_cast-result c =
    omega (arith, field_within Frame.Interrupt _ c.field.result _ c.requires.text_value c.field.ensures)

pub overflow_cast-result-2 : goal.overflow_cast-result-2
unfolding widths_of
overflow_cast-result-2 c =
    omega (arith, field_within Frame.Interrupt _ c.field-2.result _ c.requires.text_value c.field-2.ensures)

pub overflow_cast-result-3 : goal.overflow_cast-result-3
unfolding widths_of
overflow_cast-result-3 c =
    omega (arith, field_within Frame.Interrupt _ c.field-3.result _ c.requires.text_value c.field-3.ensures)

pub overflow_cast-result-4 : goal.overflow_cast-result-4
unfolding widths_of
overflow_cast-result-4 c =
    omega (arith, field_within Frame.Interrupt _ c.field-4.result _ c.requires.text_value c.field-4.ensures)

pub overflow_cast-result-5 : goal.overflow_cast-result-5
unfolding widths_of
overflow_cast-result-5 c =
    omega (arith, field_within Frame.Interrupt _ c.field-5.result _ c.requires.text_value c.field-5.ensures)

pub returns : goal.returns
unfolding interrupt_at
returns c =
    λ i. record {
      processor = c.field.ensures i;
      cost = c.field-2.ensures i;
      deadline = c.field-3.ensures i;
      period = c.field-4.ensures i;
      jitter = c.field-5.ensures i;
    }

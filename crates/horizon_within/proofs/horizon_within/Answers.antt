-- `rows::horizon_within` meets its contract: the figures' periods are the tasks', and with the interrupts' in file order they come to the
-- set's horizon. Assumes nothing.
use mathlib.Core.Path.{sym, ◌∙◌}
use native.Mathlib.Omega.{arith}
use Rattle.rows.proofs.FileOrder.{tasks_apart, tasks_past, tasks_within, periods_apart, periods_passed}
use Rattle.horizon_within.proofs.horizon_within.Goals as goal

pub figures-numbers-requires : goal.figures-numbers-requires
figures-numbers-requires c = c.requires.few

pub periods-others-requires : goal.periods-others-requires
periods-others-requires c = c.requires.few_interrupts

pub multiple_of-requires : goal.multiple_of-requires
multiple_of-requires c = tasks_apart c.args.set (omega (arith, c.requires.few)) (omega (arith, c.requires.few_interrupts)) c.requires c.figures-numbers.ensures

pub returns-in_err-own : goal.returns-in_err-own
returns-in_err-own c =
    c.from_residual.ensures
    ∙ tasks_past c.args.set (omega (arith, c.requires.few)) (omega (arith, c.requires.few_interrupts)) c.requires c.figures-numbers.ensures (sym c.multiple_of.ensures ∙ c.in_err-own.was)

pub multiple_of-requires-2 : goal.multiple_of-requires-2
multiple_of-requires-2 c =
    periods_apart c.args.set (omega (arith, c.requires.few)) (omega (arith, c.requires.few_interrupts)) c.requires _ c.periods-others.ensures (tasks_within c.args.set (omega (arith, c.requires.few)) (omega (arith, c.requires.few_interrupts)) c.requires c.figures-numbers.ensures (sym c.multiple_of.ensures ∙ c.in_ok-own.was)) (omega (arith, c.periods-others.type_inv))

pub returns : goal.returns
returns c =
    c.multiple_of-2.ensures ∙ periods_passed c.args.set (omega (arith, c.requires.few)) (omega (arith, c.requires.few_interrupts)) c.requires _ c.periods-others.ensures (tasks_within c.args.set (omega (arith, c.requires.few)) (omega (arith, c.requires.few_interrupts)) c.requires c.figures-numbers.ensures (sym c.multiple_of.ensures ∙ c.in_ok-own.was))

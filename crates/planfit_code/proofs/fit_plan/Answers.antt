-- Row 12 where the text does not fit, else the text.
-- Assumes nothing.
use native.Mathlib.Omega.{arith}
use Rattle.plantext.specs.Text.{plan_text}
use Rattle.planfit.proofs.FitLaws.{no_room, stored_whole}
use Rattle.planfit_code.proofs.fit_plan.Goals as goal

pub returns-then-out-needed : goal.returns-then-out-needed
returns-then-out-needed c =
    let a = c.args in
    no_room a.out.now (plan_text a.set a.plan) (omega (arith, c.if-out-needed.true, c.text_length-needed.ensures))

pub returns : goal.returns
returns c =
    let a = c.args in
    stored_whole a.out.now (plan_text a.set a.plan) _ c.text_length-needed.ensures c.if-out-needed.false c.put_text.ensures

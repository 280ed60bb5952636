-- Row 12 where the line does not fit, else the line.
-- Assumes nothing.
use native.Mathlib.Omega.{arith}
use Rattle.planlines.specs.Line.{refusal_text}
use Rattle.planlines.proofs.LineLaws.{refused_size, refusal_bytes}
use Rattle.planfit.proofs.FitLaws.{no_room, stored_whole}
use Rattle.planfit_code.proofs.fit_refusal.Goals as goal

pub overflow_add-size : goal.overflow_add-size
overflow_add-size c = omega (arith, c.length-size.ensures, refused_size)

pub returns-then-out-size : goal.returns-then-out-size
returns-then-out-size c =
    let a = c.args in
    no_room a.out.now (refusal_text a.refusal) (omega (arith, c.if-out-size.true, c.length-size.ensures, refused_size, refusal_bytes a.refusal))

pub put_refusal-requires : goal.put_refusal-requires
put_refusal-requires c = omega (arith, c.if-out-size.false, c.length-size.ensures, refused_size, refusal_bytes c.args.refusal)

pub returns : goal.returns
returns c =
    let a = c.args in
    let whole = c.length-size.ensures in
    stored_whole a.out.now (refusal_text a.refusal) _ (omega (arith, whole, refused_size, refusal_bytes a.refusal)) (omega (arith, c.if-out-size.false, whole)) c.put_refusal.ensures

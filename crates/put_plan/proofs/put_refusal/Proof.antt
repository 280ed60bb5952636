-- The line of a refusal's number and place.
-- Assumes nothing.
use mathlib.Core.Path.{◌∙◌, ap}
use native.Mathlib.Omega.{arith}
use Rattle.digits.specs.Stored.{stored}
use Rattle.frames.specs.Table.{widths_of}
use Rattle.planlines.proofs.LineLaws.{refused_size, refusal_bytes, refusal_told}
use borrow.Author.Rules.{rules}
use Rattle.put_plan.proofs.put_refusal.Statement.{statement}
use Rattle.put_plan.proofs.put_refusal.Tie as tie

put_line-requires : tie.Need-put_line-requires
unfolding widths_of
put_line-requires c κs = (omega arith, omega (arith, refused_size, refusal_bytes c.args.refusal, c.requires))

returns : tie.Need-returns
returns c =
    let a = c.args in
    c.put_line.ensures ∙ ap (stored a.out.now 0) (refusal_told a.refusal _ _ c.number-number.ensures c.place-place.ensures)

pub put_refusal_spec : {M : Type 1} → statement M
put_refusal_spec =
    tie.close
    (tie.spec
    (λ c κs. search rules)
    (λ c κs. search rules)
    (λ c. search rules)
    (λ c. search rules)
    put_line-requires
    (λ c. search rules)
    returns)

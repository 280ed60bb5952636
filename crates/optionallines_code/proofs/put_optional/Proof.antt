-- Where there is a line, it is the line of its figure; where there is none, nothing is stored.
-- Assumes nothing.
use mathlib.Core.Path.{sym, ◌∙◌, ap}
use native.Mathlib.Omega.{arith}
use borrow.Author.Rules.{rules}
use Rattle.frames.specs.Table.{widths_of}
use Rattle.digits.specs.Stored.{stored}
use Rattle.optionallines.proofs.OptionalLaws.{optional_given, optional_bytes, optional_unchanged}
use Rattle.optionallines_code.proofs.put_optional.Statement.{statement}
use Rattle.optionallines_code.proofs.put_optional.Tie as tie

put_line-requires : tie.Need-put_line-requires
unfolding widths_of
put_line-requires c κs =
    (omega (arith, c.requires.0), omega (arith, c.requires.1, optional_bytes c.args.frame c.in-Some.is))

returns-in-Some : tie.Need-returns-in-Some
returns-in-Some c =
    let written = c.before.before in
    written.put_line.ensures ∙ ap (stored written.args.out.now written.args.at) (sym (optional_given _ written.in-Some.is))

returns-in_default : tie.Need-returns-in_default
returns-in_default c =
    optional_unchanged _ c.args.out.now c.args.at c.in_default.is

pub put_optional_spec : {M : Type 1} → statement M
put_optional_spec =
    tie.close
    (tie.spec
    (λ c. search rules)
    (λ c. search rules)
    (λ c. search rules)
    put_line-requires
    (λ c. search rules)
    (λ c. search rules)
    returns-in-Some
    returns-in_default)

-- `alone` meets its contract: the task's own place is all that is charged, at its own cache cost. Assumes nothing.
use mathlib.Core.Path.{sym}
use borrow.Author.Rules.{rules}
use native.Mathlib.Omega.{arith}
use Rattle.loads.specs.Figures.{figures_at}
use Rattle.loads.proofs.ChargeLaws.{cache_alone}
use Rattle.members.proofs.FiledLaws.{filed_last}
use Rattle.taking.proofs.ChargedLaws.{standing_alone, standing_served}
use Rattle.taking_code.proofs.alone.Statement.{statement}
use Rattle.taking_code.proofs.alone.Tie as tie

overflow_mul-cache : tie.Need-overflow_mul-cache
overflow_mul-cache c = omega (arith, c.requires.0.few)

overflow_add-cache : tie.Need-overflow_add-cache
overflow_add-cache c = omega (arith, c.requires.0.few)

offset_bounds-figures-i : tie.Need-offset_bounds-figures-i
offset_bounds-figures-i c = omega (arith, c.requires.0.few)

bounds-figures-i : tie.Need-bounds-figures-i
bounds-figures-i c = omega (arith, (filed_last c.args.i c.requires.0).0)

passes_whole-requires : tie.Need-passes_whole-requires
passes_whole-requires c κs = (
  standing_served _ c.requires.0 (standing_alone c.args.figures.now c.args.i) (sym (cache_alone (figures_at c.args.figures.now c.args.i))),
  c.requires.1,
)

returns : tie.Need-returns
returns c = c.passes_whole.ensures

pub alone_spec : {M : Type 1} → statement M
alone_spec =
    tie.close
    (tie.spec
    (λ c. search rules)
    overflow_mul-cache
    overflow_add-cache
    offset_bounds-figures-i
    bounds-figures-i
    (λ c. search rules)
    passes_whole-requires
    returns)

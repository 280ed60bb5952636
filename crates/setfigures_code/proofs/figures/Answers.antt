use Rattle.std.proofs.Common.{◌≡◌, ◌<◌, ◌∙◌, sym, ap, length, arith}
use Rattle.digits.proofs.Stored.{stored_nil}
use Rattle.tasks.specs.Set.{most_tasks}
use Rattle.loads.specs.Figures.{own_numbers}
use Rattle.setfigures.specs.Figures.{set_figures, figure_numbers}
use Rattle.setfigures.proofs.FigureLaws.{numbers_to, numbers_next}
use Rattle.setfigures_code.proofs.figures.Goals as goal

pub loop-i-init : goal.loop-i-init
unfolding own_numbers
loop-i-init c = sym (stored_nil _ _)

pub loop-i-preserved : goal.loop-i-preserved
loop-i-preserved c =
    let i = c.loop-i.i in
    let there : i < length c.args.set.tasks = omega arith in
    let few : i < most_tasks = omega arith in
    numbers_next c.args.set.header c.args.set.tasks i there few c.loop-i.invariant c.cache_cost.ensures

pub returns : goal.returns
unfolding figure_numbers set_figures
returns c =
    let all : c.loop-i.i ≡ c.args.set.count = omega arith in
    c.loop-i.invariant ∙ ap (numbers_to c.args.set.header c.args.set.tasks) all

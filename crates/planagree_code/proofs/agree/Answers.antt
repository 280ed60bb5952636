-- The parts are compared in the definition's order. Past the first test the figures are the same. Assumes nothing.
use Rattle.std.proofs.Common.{◌≡◌, ℕ, ◌+◌, true, nat_eq, take, arith, sym}
use mathlib.Core.Path.{ap₂}
use Rattle.planagree.specs.Agrees.{same_figures, agrees}
use Rattle.planagree.proofs.AgreeLaws.{figures_same}
use Rattle.planagree.proofs.Fronts.{pointwise_alike}
use Rattle.planagree_code.proofs.agree.Goals as goal

pub same_servers-requires : goal.same_servers-requires
same_servers-requires c = (c.requires.1, (figures_same c.args.a c.args.b (sym c.if-same_figures.ensures)).servers)

pub same_processors-requires : goal.same_processors-requires
same_processors-requires c =
    let same : same_figures c.args.a c.args.b ≡ true = grind arith in
    let figures = figures_same c.args.a c.args.b same in
    (c.requires.1.processors, ap₂ (λ (k w : ℕ). k + w) figures.ring figures.whole)

pub returns-then-eq : goal.returns-then-eq
unfolding agrees
returns-then-eq c =
    grind (arith, pointwise_alike nat_eq (take c.args.tasks c.args.a.placement) (take c.args.tasks c.args.b.placement))

pub returns-else-eq : goal.returns-else-eq
unfolding agrees
returns-else-eq c =
    grind (arith, pointwise_alike nat_eq (take c.args.tasks c.args.a.placement) (take c.args.tasks c.args.b.placement))

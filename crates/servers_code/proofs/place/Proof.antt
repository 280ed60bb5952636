-- `place` meets its contract: in file order the tasks are placed as they stand, by another order in their turns. Assumes nothing.
use mathlib.Core.Path.{◌≡◌, sym, ap, ◌∙◌}
use borrow.Author.Rules.{rules}
use Rattle.tasks.specs.Set.{rule_number}
use Rattle.loads.specs.Figures.{figures_to}
use Rattle.packing.specs.Rules.{order_of, fit_of}
use Rattle.servers.specs.Placement.{placed}
use Rattle.servers.proofs.RuleLaws.{placed_in_turn, placed_in_file}
use Rattle.servers_code.proofs.place.Statement.{statement}
use Rattle.servers_code.proofs.place.Tie as tie

-- the order and the fit are those of the header's rule
module _ (c : tie.After-order_of-order) where
  abbrev start : tie.Start
  start = c.before.before.before.before.before

  by_order : c.order_of-order.result ≡ order_of (rule_number start.args.header)
  by_order = c.order_of-order.ensures ∙ ap order_of c.rule_number-rule.ensures

  by_fit : c.fit_of-fit.result ≡ fit_of (rule_number start.args.header)
  by_fit = c.fit_of-fit.ensures ∙ ap fit_of c.rule_number-rule.ensures

placed_in-requires : tie.Need-placed_in-requires
placed_in-requires c κs = (start c.before.before).requires

placed_in_turn-requires : tie.Need-placed_in_turn-requires
placed_in_turn-requires c κs = (start c.before.before).requires

returns-then-stand : tie.Need-returns-then-stand
returns-then-stand c =
    let at = c.before.before.before in
    let s = start at in
    let file = c.as_they_stand-stand.ensures.0 c.if-stand.true in
    c.placed_in.ensures ∙ ap (placed (figures_to s.args.figures.now s.args.n)) (placed_in_file s.requires.0 s.requires.1 (sym (by_order at) ∙ file) (by_fit at))

returns : tie.Need-returns
returns c =
    let at = c.before.before.before in
    let s = start at in
    c.placed_in_turn.ensures ∙
    ap (placed (figures_to s.args.figures.now s.args.n)) (placed_in_turn s.requires.0 s.requires.1 (by_order at) (by_fit at))

pub place_spec : {M : Type 1} → statement M
place_spec =
    tie.close
    (tie.spec
    (λ c κs. search rules)
    (λ c κs. search rules)
    (λ c κs. search rules)
    (λ c κs. search rules)
    placed_in-requires
    returns-then-stand
    placed_in_turn-requires
    returns)

-- Each place is read once, from the server there. Assumes nothing.
use Rattle.std.proofs.Common.{rules, refl}
use Rattle.plan_code.proofs.RowLaws.{row_made}
use Rattle.plan_code.proofs.counts.Goals as goal

pub returns : goal.returns
returns c = row_made _ _ (λ s. s.count) c.args.plan.server (λ i n q h called. search rules) _ _ c.from_fn.ensures.items (search rules) refl

-- `who_stands` meets its contract: the row of the plan's reserves is laid, and the processor is there.
-- Assumes nothing.
use mathlib.Core.Path.{◌∙◌}
use Rattle.planprocessor.proofs.RowLaws.{row_stands, row_who}
use Rattle.planprocessor_code.proofs.who_stands.Goals as goal

pub who-requires : goal.who-requires
who-requires c = row_stands c.args.plan c.reserves-row.ensures c.requires

pub returns : goal.returns
returns c =
    c.who.ensures ∙ row_who c.args.plan c.reserves-row.ensures c.args.processor c.args.tick

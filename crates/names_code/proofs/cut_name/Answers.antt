-- The next LF is found, and the bytes up to it are stored where they fit.
-- Assumes nothing.
use Rattle.std.proofs.Common.{arith, ◌∙◌}
use Rattle.names.proofs.CutLaws.{cut_long, cut_fits}
use Rattle.names_code.proofs.cut_name.Goals as goal

pub returns-then-too_long-clause-value : goal.returns-then-too_long-clause-value
returns-then-too_long-clause-value c =
    (cut_long c.args.part.now c.args.from c.find-end.ensures.place c.args.name.now c.args.held (omega arith)).0

pub returns-then-too_long-clause-name_after : goal.returns-then-too_long-clause-name_after
returns-then-too_long-clause-name_after c =
    (cut_long c.args.part.now c.args.from c.find-end.ensures.place c.args.name.now c.args.held (omega arith)).1

pub returns-clause-value : goal.returns-clause-value
returns-clause-value c =
    (cut_fits c.args.part.now c.args.from c.find-end.ensures.place c.args.name.now c.args.held (omega arith)).0

pub returns-clause-name_after : goal.returns-clause-name_after
returns-clause-name_after c =
    c.store.ensures ∙ (cut_fits c.args.part.now c.args.from c.find-end.ensures.place c.args.name.now c.args.held (omega arith)).1

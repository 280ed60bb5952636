-- `handed::optional_from` meets its contract: the first number says whether there is a figure, the second is the figure. Assumes nothing.
use borrow.Author.Tests.{eq-eqb, ne_eqb}
use Rattle.handed.proofs.optional_from.Goals as goal

pub returns-then-absent : goal.returns-then-absent
returns-then-absent c = rw (← c.number_at-absent.ensures, eq-eqb _ _ c.if-absent.true)

pub returns : goal.returns
returns c = rw (c.half_at.ensures, ← c.number_at-absent.ensures, ne_eqb _ _ c.if-absent.false)

-- The bytes of the line by the table's length, where there is one, and none otherwise.
-- Assumes nothing.
use mathlib.Core.Path.{sym, ap}
use native.Mathlib.Omega.{arith}
use lib.ListN.{length}
use Rattle.optionallines.proofs.OptionalLaws.{optional_none, optional_bytes}
use Rattle.optionallines_code.proofs.optional_length.Goals as goal

pub returns-in-Some : goal.returns-in-Some
returns-in-Some c = omega (arith, c.lines_length.ensures, optional_bytes c.args.frame c.in-Some.is)

pub returns-in-None : goal.returns-in-None
returns-in-None c = sym (ap length (optional_none _ c.in-None.is))

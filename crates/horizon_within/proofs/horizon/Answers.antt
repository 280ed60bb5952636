-- `rows::horizon` meets its contract: row 9 is clear, so the horizon is within the limit.
-- Assumes nothing.
use Rattle.std.specs.Prelude.{Option, unwrap_or}
use Prim.Native.Nat.{ℕ}
use mathlib.Core.Path.{ap, ◌∙◌}
use native.Mathlib.Omega.{arith}
use Rattle.tasks.specs.Set.{longest_horizon}
use Rattle.wholes.proofs.WithinLaws.{within_is}
use Rattle.rows.specs.Rows.{horizon_of}
use Rattle.rows.proofs.Clears.{horizon_short}
use Rattle.horizon_within.proofs.horizon.Goals as goal

pub returns : goal.returns
returns c =
    c.unwrap_or.ensures
    ∙ ap (λ (r : Option ℕ). unwrap_or r 0) (c.horizon_within.ensures ∙ within_is longest_horizon (horizon_of c.args.set) (omega (arith, horizon_short c.args.set c.requires.1)))

-- `sums::ring_processors` meets its contract: the sum of the reserves, in slots, rounded up.
-- Assumes nothing.
use Prim.Native.Nat.{ℕ}
use mathlib.Core.Path.{ap, ◌∙◌}
use Rattle.wholes.specs.Ceiling.{ceiling_of}
use Rattle.reserves_code.proofs.ring_processors.Goals as goal

pub returns : goal.returns
returns c =
    c.ceiling.ensures ∙ ap (λ (t : ℕ). ceiling_of t c.args.slot) c.ring_ticks.ensures

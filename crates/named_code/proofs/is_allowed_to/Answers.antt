-- `is_allowed_to` meets its contract: the reserve is tested by the entry loss.
-- Assumes nothing.
use Prim.Native.Nat.{ℕ}
use mathlib.Core.Path.{ap, ◌∙◌}
use Rattle.named.specs.Named.{allowed}
use Rattle.named_code.proofs.is_allowed_to.Goals as goal

pub returns : goal.returns
returns c =
    c.is_allowed.ensures ∙ ap (λ (L : ℕ). allowed c.args.header.slot L c.args.reserve) c.loss-lost.ensures

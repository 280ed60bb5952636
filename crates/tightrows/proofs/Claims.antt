-- The claims of specs/Claims.
-- Assumes nothing.
use mathlib.Core.Path.{refl}
use Rattle.loads.specs.Charge.{charged_in}
use Rattle.tightrows.specs.Claims.{OwnCost}

pub own_cost : OwnCost
unfolding charged_in
own_cost h t = refl

-- `Gain::gains` meets its contract: a length gains where there is an extra and the ends lie apart.
-- Assumes nothing.
use Prim.Native.Nat.{ℕ, ◌≤◌, ◌<◌}
use mathlib.Core.Path.{◌≡◌}
use mathlib.Core.Bool.{Bool, false, ◌&&◌}
use mathlib.Core.Logic.{⊎_elim}
use lib.Dec.{ltb}
use borrow.Author.Tests.{lt-ltb}
use native.Mathlib.Omega.{arith}
use Rattle.laws.proofs.Orders.{le_or_lt}
use Rattle.masking.specs.Masking.{gains_some}
use Rattle.masking.proofs.Gain.gains.Goals as goal

-- with no extra the second test is not looked at, with one it decides
without : (extra : ℕ) (b : Bool) → extra ≡ 0 → false ≡ (ltb 0 extra && b)
without extra b e = rw e

with-extra : (extra : ℕ) (b : Bool) → (extra ≡ 0 → ⊥) → b ≡ (ltb 0 extra && b)
with-extra extra b n = ⊎_elim (λ (p : extra ≤ 0). absurd (n (omega arith))) (λ (p : 0 < extra). rw (lt-ltb 0 extra p)) (le_or_lt extra 0)

pub returns-then-self-eq0 : goal.returns-then-self-eq0
unfolding gains_some
returns-then-self-eq0 c = without _ _ c.if-self-eq0.true

pub returns : goal.returns
unfolding gains_some
returns c = with-extra _ _ c.if-self-eq0.false

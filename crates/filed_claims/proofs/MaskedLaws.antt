-- What a server gains where interrupts can be held off: nothing with one task, and a demand that never falls where B is 0.
-- Assumes nothing.
use Prim.Native.Nat.{ℕ, ◌+◌}
use native.Mathlib.Omega.{arith}
use mathlib.Core.Path.{◌≡◌}
use mathlib.Core.List.{List, [], ◌∷◌}
use lib.ListN.{length}
use Rattle.demand.specs.Load.{Load, Sound, Every}
use Rattle.demand.specs.Demand.{demand}
use Rattle.demand.specs.Lawful.{Rising}
use Rattle.demand.proofs.Claims.{loads_lawful}
use Rattle.interrupting.specs.Interrupts.{Bound, EveryBound, greatest}
use Rattle.interrupting.proofs.AskedLaws.{sum_rising}
use Rattle.interrupting.proofs.GreatestLaws.{greatest_rising}
use Rattle.masking.specs.Masking.{masked_demand}
use Rattle.masking.proofs.MaskedLaws.{masked_one, masked_none}

pub masked_alone : (B : ℕ) (ls : List Load) (t : ℕ) → length ls ≡ 1 → masked_demand B ls t ≡ demand ls t
masked_alone B [] t e = absurd (omega arith)
masked_alone B (l ∷ []) t e = masked_one B l t
masked_alone B (l ∷ k ∷ ls) t e = absurd (omega arith)

unmasked_rises : (B : ℕ) (ls : List Load) → B ≡ 0 → Every Sound ls → Rising (masked_demand B ls)
unmasked_rises B ls e sound t u h =
    rw e (omega (arith, masked_none ls t, masked_none ls u, loads_lawful.rising ls sound t u h))

pub asks_rises : (B : ℕ) (ls : List Load) (m : ℕ) (bs : List Bound) → B ≡ 0 → Every Sound ls → EveryBound (λ (b : Bound). Sound b.load) bs →
    Rising (λ t. masked_demand B ls t + greatest m bs t)
asks_rises B ls m bs e sound bound = sum_rising (masked_demand B ls) (greatest m bs) (unmasked_rises B ls e sound) (greatest_rising bs bound m)

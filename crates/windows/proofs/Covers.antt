-- Supply at every length, and every window covered: each gives the other.
-- Assumes nothing.
use Prim.Native.Nat.{ℕ, zero, suc, ◌+◌, ◌-◌, ◌≤◌, ◌<◌}
use mathlib.Core.Path.{◌≡◌}
use native.Mathlib.Nat.{le_trans, le_of_eq}
use native.Mathlib.Omega.{arith}
use Rattle.demand.specs.Supply.{supply, supply_past}
use Rattle.demand.proofs.Supply.{supply_part}
use Rattle.windows.specs.Window.{Covered, CoveredFromZero}
use Rattle.windows.proofs.Worst.{least, opens, met_there}

-- supply of any reserve below a slot
pub below_supply : (S L R t : ℕ) → R < S → supply S L R t ≡ supply_past S (S - R + L) t
below_supply S L R t below = supply_part S L R t (λ (e : R ≡ S). omega arith)

-- where supply suffices at every length every window is covered, from tick 0 on
pub from_supply : (g : ℕ → ℕ) (S L R start : ℕ) → 1 ≤ S → R < S → ((t : ℕ) → g t ≤ supply_past S (S - R + L) t) →
    CoveredFromZero g S L R start
from_supply g S L R start slot below enough a t = le_trans (enough t) (least S L R start a t slot below)

-- where every window from the second slot on is covered supply suffices: take the worst
pub to_supply : (g : ℕ → ℕ) (S L R start : ℕ) → 1 ≤ S → R < S → Covered g S L R start → (t : ℕ) →
    g t ≤ supply_past S (S - R + L) t
to_supply g S L R start slot below covered t =
    le_trans (covered (opens S R start) t (omega arith)) (le_of_eq (met_there S L R start t slot (omega arith)))

-- a test passed at every length from 1 on is passed at 0 too
pub at_every : (g s : ℕ → ℕ) → g 0 ≡ 0 → ((t : ℕ) → 1 ≤ t → g t ≤ s t) → (t : ℕ) → g t ≤ s t
at_every g s none passes zero = omega arith
at_every g s none passes (suc t) = passes (suc t) (omega arith)

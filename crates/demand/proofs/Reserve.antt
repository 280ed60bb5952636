-- How supply goes with the reserve: a whole processor supplies the most, a larger reserve never less, one that the loss eats up nothing.
-- Assumes nothing.
use Prim.Native.Nat.{ℕ, ◌+◌, ◌-◌, ◌≤◌, ◌<◌}
use mathlib.Core.Path.{◌≡◌, sym, ◌∙◌}
use mathlib.Core.Logic.{⊎_elim}
use native.Mathlib.Nat.{le_trans, le_of_eq}
use native.Mathlib.Omega.{arith}
use Rattle.demand.specs.Supply.{Ring, Allowed, supply}
use Rattle.demand.proofs.Supply.{supply_all, supply_part, supply_none, supply_within, supply_gap_mono}

-- a whole processor supplies the most
pub supply_most : (S L R t : ℕ) → Allowed S L R → supply S L R t ≤ t
supply_most S L R t a =
    ⊎_elim
    (λ (r : Ring S L R). le_trans (le_of_eq (supply_part S L R t (λ (e : R ≡ S). omega arith))) (supply_within S (S - R + L) t))
    (λ (e : R ≡ S). le_of_eq (supply_all S L R t e))
    a

-- a larger reserve never supplies less
pub supply_rises : (S L R R' t : ℕ) → Allowed S L R → Allowed S L R' → R ≤ R' → supply S L R t ≤ supply S L R' t
supply_rises S L R R' t a a' h =
    ⊎_elim
    (λ (r' : Ring S L R').
    rw (supply_part S L R t (λ (e : R ≡ S). omega arith), supply_part S L R' t (λ (e : R' ≡ S). omega arith))
    (supply_gap_mono S t (omega arith)))
    (λ (e : R' ≡ S). le_trans (supply_most S L R t a) (le_of_eq (sym (supply_all S L R' t e))))
    a'

-- a reserve that the entry loss eats up supplies nothing
pub loss_supplies : (S L R t : ℕ) → R < S → R ≤ L → supply S L R t ≡ 0
loss_supplies S L R t h g = supply_part S L R t (λ (e : R ≡ S). omega arith) ∙ supply_none S (S - R + L) t (omega arith) (omega arith)

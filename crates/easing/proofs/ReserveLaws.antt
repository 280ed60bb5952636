-- The smallest reserve where less is asked and less is lost on entry.
-- Assumes nothing.
use Prim.Native.Nat.{ℕ, ◌≤◌}
use native.Mathlib.Nat.{le_trans, le_of_eq}
use native.Mathlib.Omega.{arith}
use mathlib.Core.Path.{◌≡◌, sym, ◌∙◌}
use mathlib.Core.Logic.{inl, inr, ⊎_elim}
use Rattle.demand.specs.Supply.{Ring, Allowed, supply}
use Rattle.demand.specs.Passes.{Passes}
use Rattle.demand.proofs.Supply.{supply_all, supply_part, supply_gap_mono}
use Rattle.verdict.specs.Reserve.{Smallest}

module _ {S L L' R : ℕ} (less : L' ≤ L) (a : Allowed S L R) where
  -- what was allowed is allowed
  pub loss_allows : Allowed S L' R
  loss_allows =
      ⊎_elim (λ (r : Ring S L R). inl (record { enters = omega (arith, r.enters, less); parts = r.parts })) (λ (e : R ≡ S). inr e) a

  -- and supplies no less
  loss_supplies : (t : ℕ) → supply S L R t ≤ supply S L' R t
  loss_supplies t =
      ⊎_elim
      (λ (r : Ring S L R).
      rw (supply_part S L R t (λ (e : R ≡ S). omega (arith, r.parts)), supply_part S L' R t (λ (e : R ≡ S). omega (arith, r.parts)))
      (supply_gap_mono S t (omega (arith, less))))
      (λ (e : R ≡ S). le_of_eq (supply_all S L R t e ∙ sym (supply_all S L' R t e)))
      a

  -- so what passed passes
  pub less_passes : (g g' : ℕ → ℕ) → ((t : ℕ) → 1 ≤ t → g' t ≤ g t) → Passes g S L R → Passes g' S L' R
  less_passes g g' fall passes t some = le_trans (fall t some) (le_trans (passes t some) (loss_supplies t))

pub smallest_falls : (g g' : ℕ → ℕ) (S L L' R R' : ℕ) → ((t : ℕ) → 1 ≤ t → g' t ≤ g t) → L' ≤ L → Smallest g S L R → Smallest g' S L' R' → R' ≤ R
smallest_falls g g' S L L' R R' fall less s s' =
    s'.least R (loss_allows less s.allowed) (less_passes less s.allowed g g' fall s.passes)

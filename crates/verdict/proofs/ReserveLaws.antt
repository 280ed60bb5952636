-- The smallest reserve: when a reserve is enough, and what the smallest one means over all lengths.
-- Assumes nothing.
use Prim.Native.Nat.{ℕ, zero, suc, ◌-◌, ◌≤◌, ◌<◌}
use native.Mathlib.Omega.{arith}
use native.Mathlib.Decide.{dec_lt}
use mathlib.Core.Path.{◌≡◌, refl, sym, ◌∙◌}
use mathlib.Core.Logic.{inl, inr, ⊎_elim}
use mathlib.Core.Bool.{true, false, false≢true, and-false}
use lib.Dec.{ltb}
use borrow.Author.Tests.{lt-ltb, le-ltb, ltb-true}
use Rattle.laws.proofs.Tests.{and_parts}
use Rattle.demand.specs.Lawful.{Lawful}
use Rattle.demand.specs.Supply.{Ring}
use Rattle.demand.specs.Passes.{Passes}
use Rattle.search.specs.Search.{NoneIn, First}
use Rattle.verdict.specs.Verdict.{passing}
use Rattle.verdict.specs.Reserve.{enough, smallest_reserve, Smallest}
use Rattle.search.proofs.Bounded.{none_has, first_none, first_is}
use Rattle.verdict.proofs.Verdict.{passing_passes, passes_passing}

-- enough, from its two parts and to them
pub is_enough : (g : ℕ → ℕ) (H S L R : ℕ) → L < R → passing g H S L R ≡ true → enough g H S L R ≡ true
unfolding enough
is_enough g H S L R h e = rw (lt-ltb L R h, e)

pub enough_parts : (g : ℕ → ℕ) (H S L R : ℕ) → enough g H S L R ≡ true → (L < R) × (passing g H S L R ≡ true)
unfolding enough
enough_parts g H S L R e =
    let parts = and_parts (ltb L R) (passing g H S L R) e in
    (ltb-true L R parts.0, parts.1)

-- a reserve that the entry loss eats up is not enough
pub loss_not_enough : (g : ℕ → ℕ) (H S L R : ℕ) → R ≤ L → enough g H S L R ≡ false
unfolding enough
loss_not_enough g H S L R h = rw (le-ltb L R h)

-- one that does not pass is not
pub fails_not_enough : (g : ℕ → ℕ) (H S L R : ℕ) → passing g H S L R ≡ false → enough g H S L R ≡ false
unfolding enough
fails_not_enough g H S L R e = rw e (and-false (ltb L R))

-- the two cases of the smallest reserve
pub reserve_whole : (g : ℕ → ℕ) (H S L : ℕ) → NoneIn (enough g H S L) 0 (S - 1) → smallest_reserve g H S L ≡ S
unfolding smallest_reserve
reserve_whole g H S L none = rw (first_none (enough g H S L) (S - 1) none)

pub reserve_part : (g : ℕ → ℕ) (H S L R : ℕ) → R ≤ S - 1 → First (enough g H S L) R → smallest_reserve g H S L ≡ R
unfolding smallest_reserve
reserve_part g H S L zero h f = absurd (omega (arith, f.there))
reserve_part g H S L (suc R) h f = rw (first_is (enough g H S L) (S - 1) (suc R) h f)

module _ (g : ℕ → ℕ) (H S L : ℕ) where
  pub whole_smallest : Passes g S L S → NoneIn (enough g H S L) 0 (S - 1) → Smallest g S L S
  whole_smallest whole none =
      record {
        allowed = inr refl;
        passes = whole;
        least = λ R a p.
            ⊎_elim
            (λ (r : Ring S L R). none_has none (omega (arith, r.enters)) (omega (arith, r.parts)) (is_enough g H S L R (omega (arith, r.enters)) (passes_passing g H S L R p)))
            (λ (e : R ≡ S). omega arith)
            a;
      }

  pub part_smallest : Lawful g H → 1 ≤ S → (R : ℕ) → R ≤ S - 1 → First (enough g H S L) R → Smallest g S L R
  part_smallest lawful slot R h f =
      let parts = enough_parts g H S L R f.has in
      record {
        allowed = inl (record { enters = omega (arith, parts.0); parts = omega (arith, f.there) });
        passes = passing_passes g H S L R lawful slot parts.1;
        least = λ R' a p. ⊎_elim (λ r. ring_least R' r p (dec_lt R' R)) (λ (e : R' ≡ S). omega arith) a;
      }
    where
      ring_least : (R' : ℕ) → Ring S L R' → Passes g S L R' → Dec (R' < R) → R ≤ R'
      ring_least R' r p (yes k) =
          absurd (false≢true (sym (f.before R' (omega (arith, r.enters)) k) ∙ is_enough g H S L R' (omega (arith, r.enters)) (passes_passing g H S L R' p)))
      ring_least R' r p (no k) = omega arith

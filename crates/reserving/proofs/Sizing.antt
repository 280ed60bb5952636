-- The halving that finds the smallest reserve: how it starts, each turn, and its end.
-- Assumes nothing.
use Prim.Native.Nat.{ℕ, ◌+◌, ◌^◌, ◌≤◌, ◌<◌}
use native.Mathlib.Omega.{arith}
use mathlib.Core.Path.{◌≡◌, refl, sym, ◌∙◌}
use mathlib.Core.Logic.{◌⊎◌, inl, inr, ⊎_elim}
use mathlib.Core.Bool.{Bool, true, false, false≢true}
use Rattle.demand.specs.Supply.{Allowed}
use Rattle.search.specs.Search.{NoneIn}
use Rattle.verdict.specs.Verdict.{passing}
use Rattle.verdict.specs.Reserve.{enough, smallest_reserve}
use Rattle.search.proofs.Bounded.{none_less, none_join}
use Rattle.verdict.proofs.ReserveLaws.{is_enough, enough_parts, loss_not_enough, fails_not_enough, reserve_whole, reserve_part}
use Rattle.verdict.proofs.Verdict.{passing_rises}

-- what holds at each turn of the halving: none up to lo is enough; hi is, or it is the slot
pub record Sized (g : ℕ → ℕ) (H S L lo hi : ℕ) : Type 0 where
  pub past : L ≤ lo
  pub small : lo < 2 ^ 36
  pub within : hi ≤ S
  pub none : NoneIn (enough g H S L) 0 lo
  pub has : (hi ≡ S) ⊎ ((hi < S) × (enough g H S L hi ≡ true))

module _ {g : ℕ → ℕ} {H S L : ℕ} where
  pub sizing_starts : L < 2 ^ 36 → Sized g H S L L S
  sizing_starts small =
      record { past = omega arith; small = small; within = omega arith; none = λ x a b. loss_not_enough g H S L x b; has = inl refl }

  pub sizing_ends : {lo hi : ℕ} → Sized g H S L lo hi → hi ≤ lo + 1 → hi ≡ smallest_reserve g H S L
  sizing_ends {lo} {hi} d h = ⊎_elim whole part d.has
    where
      whole : hi ≡ S → hi ≡ smallest_reserve g H S L
      whole e = e ∙ sym (reserve_whole g H S L (none_less d.none (omega arith)))

      part : (hi < S) × (enough g H S L hi ≡ true) → hi ≡ smallest_reserve g H S L
      part k =
          sym
          (reserve_part g H S L hi (omega (arith, k.0))
          (record { there = omega (arith, (enough_parts g H S L hi k.1).0); has = k.1; before = λ x a b. d.none x a (omega arith) }))

-- one turn: every reserve tried lies on the ring, and its answer moves one end
module _ {g : ℕ → ℕ} {H S L lo hi : ℕ} (d : Sized g H S L lo hi) where
  pub sizing_ring : (mid : ℕ) → lo < mid → mid < hi → Allowed S L mid
  sizing_ring mid a b = inl (record { enters = omega (arith, d.past); parts = omega (arith, d.within) })

  pub sizing_down : (mid : ℕ) {r : Bool} → lo < mid → mid < hi → r ≡ passing g H S L mid → r ≡ true → Sized g H S L lo mid
  sizing_down mid a b e y =
      record {
        past = d.past;
        small = d.small;
        within = omega (arith, d.within);
        none = d.none;
        has = inr (omega (arith, d.within), is_enough g H S L mid (omega (arith, d.past)) (sym e ∙ y));
      }

  -- below one that does not pass none does
  below_fails : (mid : ℕ) → lo < mid → mid < hi → passing g H S L mid ≡ false → NoneIn (enough g H S L) lo mid
  below_fails mid a b e x lo<x x≤mid = by (passing g H S L x) refl
    where
      by : (r : Bool) → passing g H S L x ≡ r → enough g H S L x ≡ false
      by false h = fails_not_enough g H S L x h
      by true h =
          absurd (false≢true (sym e ∙ passing_rises g H S L x mid (sizing_ring x lo<x (omega arith)) (sizing_ring mid a b) x≤mid h))

  pub sizing_up : (mid : ℕ) {r : Bool} → lo < mid → mid < hi → mid < 2 ^ 36 → r ≡ passing g H S L mid → r ≡ false → Sized g H S L mid hi
  sizing_up mid a b small e y =
      record {
        past = omega (arith, d.past);
        small = small;
        within = d.within;
        none = none_join d.none (below_fails mid a b (sym e ∙ y));
        has = d.has;
      }

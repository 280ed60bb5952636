-- The places of a server's tasks, stored task by task: what is stored with none, and with the next.
-- Assumes nothing.
use Prim.Native.Nat.{ℕ, ◌+◌, ◌≤◌, ◌<◌}
use mathlib.Core.Path.{◌≡◌, refl, sym, ap, ap₂, ◌∙◌}
use mathlib.Core.List.{List, [], ◌∷◌, ◌++◌}
use native.Mathlib.Numerals.{add-one}
use native.Mathlib.Omega.{arith}
use lib.ListN.{length, get_or, take, set, length-append}
use lib.Seq.{take-suc, length-take-le}
use Rattle.digits.specs.Stored.{stored}
use Rattle.digits.proofs.Stored.{stored_nil, stored_byte, stored_length}
use Rattle.places.specs.Places.{places_from, places_in}
use Rattle.places.proofs.PlacesLaws.{places_joined, places_apart, places_few}

-- the places of the first i tasks, `count` of them, stand in front
pub record Listed (placement : List ℕ) (q : ℕ) (before places : List ℕ) (count i : ℕ) : Type 0 where
  pub there : i ≤ length placement
  pub room : i ≤ length before
  pub counts : count ≡ length (places_in (take i placement) q)
  pub is : places ≡ stored before 0 (places_in (take i placement) q)

-- no task
pub listed_none : (placement : List ℕ) (q : ℕ) (before : List ℕ) → Listed placement q before before 0 0
unfolding places_from
listed_none placement q before = record { there = omega arith; room = omega arith; counts = refl; is = sym (stored_nil before 0) }

module _ {placement : List ℕ} {q : ℕ} {before places : List ℕ} {count i : ℕ} (w : Listed placement q before places count i) where
  -- no more places than tasks
  pub listed_few : count ≤ i
  listed_few = omega (arith, w.counts, places_few (take i placement) q, length-take-le i placement w.there)

  -- the buffer's length stays
  pub listed_length : length places ≡ length before
  listed_length =
      ap length w.is ∙
      stored_length before 0 (places_in (take i placement) q) (omega (arith, w.counts, listed_few, w.room))

  module _ (h : i < length placement) (r : i < length before) where
    one_more : take (i + 1) placement ≡ take i placement ++ (get_or placement i 0 ∷ [])
    one_more = ap (λ (k : ℕ). take k placement) (add-one i) ∙ take-suc placement i 0 h

    -- the next task is of the server
    joined : get_or placement i 0 ≡ q → places_in (take (i + 1) placement) q ≡ places_in (take i placement) q ++ (i ∷ [])
    joined t =
        ap (λ (p : List ℕ). places_in p q) one_more ∙ places_joined (take i placement) (get_or placement i 0) q t ∙
        ap (λ (k : ℕ). places_in (take i placement) q ++ (k ∷ [])) (length-take-le i placement w.there)

    pub listed_next : get_or placement i 0 ≡ q → Listed placement q before (set places count i) (count + 1) (i + 1)
    listed_next t =
        record {
          there = omega arith;
          room = omega arith;
          counts = omega (arith, w.counts, ap length (joined t), length-append (places_in (take i placement) q) (i ∷ []));
          is =
              ap₂ (λ (p : List ℕ) (k : ℕ). set p k i) w.is (omega (arith, w.counts)) ∙
              stored_byte before 0 (places_in (take i placement) q) i (omega (arith, w.counts, listed_few)) ∙
              ap (stored before 0) (sym (joined t));
        }

    -- or of another
    pub listed_apart : (get_or placement i 0 ≡ q → ⊥) → Listed placement q before places count (i + 1)
    listed_apart t =
        let same = ap (λ (p : List ℕ). places_in p q) one_more ∙ places_apart (take i placement) (get_or placement i 0) q t in
        record {
          there = omega arith;
          room = omega arith;
          counts = w.counts ∙ ap length (sym same);
          is = w.is ∙ ap (stored before 0) (sym same);
        }

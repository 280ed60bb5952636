-- The servers that have a whole processor, in server order, by the first reserve and along the first n of a slice.
-- Assumes nothing.
use Prim.Native.Nat.{ℕ, zero, suc, ◌+◌, ◌-◌, ◌≤◌, ◌<◌}
use mathlib.Core.Path.{◌≡◌, refl, sym, ap, ◌∙◌}
use mathlib.Core.List.{List, [], ◌∷◌}
use native.Mathlib.Numerals.{add-one}
use native.Mathlib.Omega.{arith}
use lib.ListN.{get_or, take, drop, drop_of_length-le}
use lib.Seq.{drop-cons, get_or-take}
use Rattle.laws.proofs.Choices.{cond_ltb, cond_ltb_not}
use Rattle.reserves.specs.Slotted.{SlottedFirst}
use Rattle.reserves.specs.Whole.{whole_from, whole_server}
use Rattle.reserves.proofs.Starts.{taken_length}

module _ (S : ℕ) where
  -- a ring server is passed over
  pub whole_past : (R : ℕ) (Rs : List ℕ) (q k : ℕ) → R < S → whole_from S (R ∷ Rs) q k ≡ whole_from S Rs (suc q) k
  unfolding whole_from
  whole_past R Rs q zero h = cond_ltb (whole_from S Rs (suc q) zero) q h
  whole_past R Rs q (suc k) h = cond_ltb (whole_from S Rs (suc q) (suc k)) (whole_from S Rs (suc q) k) h

  -- a server with a whole processor is the one asked for, or one less is asked of the rest
  pub whole_here : (R : ℕ) (Rs : List ℕ) (q : ℕ) → S ≤ R → whole_from S (R ∷ Rs) q zero ≡ q
  unfolding whole_from
  whole_here R Rs q h = cond_ltb_not (whole_from S Rs (suc q) zero) q h

  pub whole_next : (R : ℕ) (Rs : List ℕ) (q k : ℕ) → S ≤ R → whole_from S (R ∷ Rs) q (suc k) ≡ whole_from S Rs (suc q) k
  unfolding whole_from
  whole_next R Rs q k h = cond_ltb_not (whole_from S Rs (suc q) (suc k)) (whole_from S Rs (suc q) k) h

  pub whole_nil : (q k : ℕ) → whole_from S [] q k ≡ 0
  unfolding whole_from
  whole_nil q k = refl

-- ---- a pass over the first n of a slice that looks for the k-th: what it starts with, the next, and the end

-- past the first i, the one looked for is the `more`-th of the rest
pub record Walked (S : ℕ) (rs : List ℕ) (n k more i : ℕ) : Type 0 where
  pub within : i ≤ n
  pub still : whole_server S (take n rs) k ≡ whole_from S (drop i (take n rs)) (suc i) more

pub walked_none : {S n k : ℕ} {rs : List ℕ} → Walked S rs n k k 0
walked_none = record { within = omega arith; still = refl }

module _ {S : ℕ} {rs : List ℕ} {n : ℕ} (laid : SlottedFirst S rs n) where
  rest : (i : ℕ) → i < n → drop i (take n rs) ≡ get_or rs i 0 ∷ drop (suc i) (take n rs)
  rest i h =
      drop-cons (take n rs) i 0 (omega (arith, taken_length laid)) ∙
      ap (λ (R : ℕ). R ∷ drop (suc i) (take n rs)) (get_or-take n rs i 0 h)

  module _ {k more i : ℕ} (l : Walked S rs n k more i) where
    -- the rest begins with the i-th
    still_next : i < n → whole_server S (take n rs) k ≡ whole_from S (get_or rs i 0 ∷ drop (suc i) (take n rs)) (suc i) more
    still_next h = l.still ∙ ap (λ (Rs : List ℕ). whole_from S Rs (suc i) more) (rest i h)

    pub walked_here : i < n → S ≤ get_or rs i 0 → more ≡ 0 → i + 1 ≡ whole_server S (take n rs) k
    walked_here h w e =
        sym
        (still_next h ∙ ap (whole_from S (get_or rs i 0 ∷ drop (suc i) (take n rs)) (suc i)) e ∙
        whole_here S (get_or rs i 0) (drop (suc i) (take n rs)) (suc i) w ∙ sym (add-one i))

    pub walked_all : n ≤ i → 0 ≡ whole_server S (take n rs) k
    walked_all h =
        let e : drop i (take n rs) ≡ [] = drop_of_length-le (take n rs) {i = i} (omega (arith, taken_length laid)) in
        sym (l.still ∙ ap (λ (Rs : List ℕ). whole_from S Rs (suc i) more) e ∙ whole_nil S (suc i) more)

    pub walked_past : {less : ℕ} → i < n → get_or rs i 0 < S → less ≡ more → Walked S rs n k less (i + 1)
    walked_past {less} h w e = record {
      within = omega arith;
      still = rw (add-one i, e) (still_next h ∙ whole_past S (get_or rs i 0) (drop (suc i) (take n rs)) (suc i) more w);
    }

    pub walked_next : {less : ℕ} → i < n → S ≤ get_or rs i 0 → 1 ≤ more → less ≡ more - 1 → Walked S rs n k less (i + 1)
    walked_next {less} h w g e =
        let m : more ≡ suc less = omega arith in
        record {
          within = omega arith;
          still =
              rw (add-one i)
              (still_next h ∙ ap (whole_from S (get_or rs i 0 ∷ drop (suc i) (take n rs)) (suc i)) m ∙
              whole_next S (get_or rs i 0) (drop (suc i) (take n rs)) (suc i) less w);
        }

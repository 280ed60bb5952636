-- Lists in which each element stands before all that follow it, and places that come in one by one in such an order.
-- Assumes nothing.
use Prim.Native.Nat.{ℕ, zero, suc, ◌≤◌, ◌<◌}
use native.Mathlib.Omega.{arith}
use native.Mathlib.Nat.{le_refl}
use mathlib.Core.Path.{◌≡◌, refl}
use mathlib.Core.Bool.{Bool, true, false, cond}
use mathlib.Core.Logic.{◌⊎◌, inl, inr}
use mathlib.Core.List.{List, [], ◌∷◌}
use lib.ListN.{length, get_or}
use Rattle.demand.specs.Load.{Every}
use Rattle.packing.specs.Turns.{insert, sorted}
use Rattle.packing.proofs.PermutedLaws.{Permuted, none, head, swap, onward, permuted_every}
use Rattle.packing.proofs.EachLaws.{all_below, every_there}
use Rattle.packing.proofs.TurnsLaws.{insert_permuted, sorted_permuted}

-- each stands before all that follow it
abbrev pub Ranked : (ℕ → ℕ → Type 0) → List ℕ → Type 0
Ranked R [] = Unit {0}
Ranked R (x ∷ xs) = Every (R x) xs × Ranked R xs

-- so do those at any two places
pub ranked_at : (R : ℕ → ℕ → Type 0) (xs : List ℕ) (j k : ℕ) → Ranked R xs → j < k → k < length xs → R (get_or xs j 0) (get_or xs k 0)
ranked_at R [] j k r l m = absurd (omega arith)
ranked_at R (x ∷ xs) j zero r l m = absurd (omega arith)
ranked_at R (x ∷ xs) zero (suc k) r l m = every_there (R x) 0 xs k (omega arith) r.0
ranked_at R (x ∷ xs) (suc j) (suc k) r l m = ranked_at R xs j k r.1 (omega arith) (omega arith)

-- what a test of places says of an order R of the first m: the later of two goes first where it passes, the earlier where it fails
pub record Ranks (before : ℕ → ℕ → Bool) (R : ℕ → ℕ → Type 0) (m : ℕ) : Type 0 where
  pub passes : (i p : ℕ) → p < i → before i p ≡ true → R i p
  pub fails : (i p : ℕ) → p < i → before i p ≡ false → R p i
  pub onwards : (i p q : ℕ) → i < m → p < m → q < m → R i p → R p q → R i q

module _ (before : ℕ → ℕ → Bool) (R : ℕ → ℕ → Type 0) (m : ℕ) (ranks : Ranks before R m) where
  -- what stands before one stands before all that follow it
  ahead_rest : (i p : ℕ) (ps : List ℕ) → i < m → p < m → Every (λ (q : ℕ). q < i) ps → R i p → Every (R p) ps → Every (R i) ps
  ahead_rest i p [] l k b r e = tt
  ahead_rest i p (q ∷ ps) l k b r e =
      (ranks.onwards i p q l k (omega (arith, b.0)) r e.0, ahead_rest i p ps l k b.1 r e.1)

  -- a place past all others that comes in
  insert_ranked : (i : ℕ) (ps : List ℕ) → i < m → Every (λ (q : ℕ). q < i) ps → Ranked R ps → Ranked R (insert before i ps)
  unfolding insert
  insert_ranked i [] l b r = (tt, tt)
  insert_ranked i (p ∷ ps) l b r = pick (before i p) refl (insert_ranked i ps l b.1 r.1)
    where
      pick : (t : Bool) → before i p ≡ t → Ranked R (insert before i ps) → Ranked R (cond t (i ∷ p ∷ ps) (p ∷ insert before i ps))
      pick true e rest =
          let first : R i p = ranks.passes i p b.0 e in
          ((first, ahead_rest i p ps l (omega (arith, b.0)) b.1 first r.0), r)
      pick false e rest = (permuted_every (R p) (insert_permuted before i ps) (ranks.fails i p b.0 e, r.0), rest)

  -- so all of them are in their order
  pub sorted_ranked : (n : ℕ) → n ≤ m → Ranked R (sorted before n)
  unfolding sorted
  sorted_ranked zero l = tt
  sorted_ranked (suc n) l =
      insert_ranked n (sorted before n) l
      (permuted_every (λ (q : ℕ). q < n) (sorted_permuted before n) (all_below n n (le_refl n)))
      (sorted_ranked n (omega arith))

-- ---- what stands in a list

-- x is one of a list
abbrev pub Among : ℕ → List ℕ → Type 0
Among x [] = ⊥
Among x (y ∷ ys) = (y ≡ x) ⊎ Among x ys

-- whatever the order
pub among_permuted : (x : ℕ) {xs ys : List ℕ} → Permuted xs ys → Among x xs → Among x ys
among_permuted x none a = a
among_permuted x (head p) (inl e) = inl e
among_permuted x (head p) (inr a) = inr (among_permuted x p a)
among_permuted x swap (inl e) = inr (inl e)
among_permuted x swap (inr (inl e)) = inl e
among_permuted x swap (inr (inr a)) = inr (inr a)
among_permuted x (onward p r) a = among_permuted x r (among_permuted x p a)

-- what stands at a place is one of the list
pub at_among : (x : ℕ) (xs : List ℕ) (j : ℕ) → j < length xs → get_or xs j 0 ≡ x → Among x xs
at_among x [] j l e = absurd (omega arith)
at_among x (y ∷ ys) zero l e = inl e
at_among x (y ∷ ys) (suc j) l e = inr (at_among x ys j (omega arith) e)

-- and what is one of it stands at a place
pub among_at : (x : ℕ) (xs : List ℕ) → Among x xs → (j : ℕ) × (j < length xs) × (get_or xs j 0 ≡ x)
among_at x [] a = absurd a
among_at x (y ∷ ys) (inl e) = (0, omega arith, e)
among_at x (y ∷ ys) (inr a) = let w = among_at x ys a in (suc w.0, omega (arith, w.1), w.2)

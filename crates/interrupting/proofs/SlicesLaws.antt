-- Laws of the interrupts that stand in a slice behind its loads: one more, what holds of the first of them, and the room that few of them
-- leave.
-- Assumes nothing.
use Prim.Native.Nat.{ℕ, zero, suc, ◌+◌, ◌*◌, ◌-◌, ◌^◌, ◌≤◌, ◌<◌}
use mathlib.Core.Path.{◌≡◌, refl, subst, sym, ◌∙◌}
use mathlib.Core.List.{List, [], ◌∷◌, ◌++◌}
use mathlib.Core.Logic.{⊎_elim}
use native.Mathlib.Nat.{le-suc_iff, div-add-mod'}
use native.Mathlib.Numerals.{add-one}
use native.Mathlib.Omega.{arith}
use lib.Arith.{le-zero}
use lib.ListN.{length, length-append}
use Rattle.demand.specs.Load.{load_at, loads_of}
use Rattle.demand.proofs.Demand.{demand_small, each_length}
use Rattle.interrupting.specs.Interrupts.{Bound, Numbered, EveryBound, Ordered, bound_at, bounds_of, behind, interrupts_of, interrupt_demand, greatest_of_all, highest, asked}
use Rattle.interrupting.specs.Interrupted.{Interrupted}
use Rattle.interrupting.proofs.BoundLaws.{bounds_front, bounds_last, ordered_front, ordered_last}
use Rattle.interrupting.proofs.GreatestLaws.{interrupt_small, greatest_small}

module _ (numbers : List ℕ) (from : ℕ) where
  pub bounds_next : (i : ℕ) → bounds_of numbers from (i + 1) ≡ bounds_of numbers from i ++ (bound_at numbers from i ∷ [])
  unfolding bounds_of
  bounds_next i = rw (add-one i)

  pub bounds_length : (k : ℕ) → length (bounds_of numbers from k) ≡ k
  unfolding bounds_of
  bounds_length zero = refl
  bounds_length (suc k) =
      length-append (bounds_of numbers from k) (bound_at numbers from k ∷ []) ∙ omega (arith, bounds_length k)

  -- a property of lists that their fronts keep holds of the first i of them
  pub bounds_first : (Q : List Bound → Type 0) → ((bs : List Bound) (b : Bound) → Q (bs ++ (b ∷ [])) → Q bs) →
      (k i : ℕ) → i ≤ k → Q (bounds_of numbers from k) → Q (bounds_of numbers from i)
  unfolding bounds_of
  bounds_first Q front zero i h q = subst (λ (j : ℕ). Q (bounds_of numbers from j)) (sym (le-zero h)) q
  bounds_first Q front (suc k) i h q =
      ⊎_elim
      (λ p. bounds_first Q front k i p (front (bounds_of numbers from k) (bound_at numbers from k) q))
      (λ e. subst (λ (j : ℕ). Q (bounds_of numbers from j)) (sym e) q)
      (le-suc_iff.0 h)

  pub bounds_every : (P : Bound → Type 0) (k i : ℕ) → i ≤ k → EveryBound P (bounds_of numbers from k) → EveryBound P (bounds_of numbers from i)
  bounds_every P k i h e = bounds_first (EveryBound P) (bounds_front P) k i h e

  pub bounds_at : (P : Bound → Type 0) (k i : ℕ) → i < k → EveryBound P (bounds_of numbers from k) → P (bound_at numbers from i)
  bounds_at P k i h e =
      bounds_last P (bounds_of numbers from i) (bound_at numbers from i) (rw (bounds_next i) at (bounds_every P k (i + 1) (omega arith) e))

  -- each has the highest processor up to it
  pub bounds_ordered : (k i : ℕ) → i < k → Ordered (bounds_of numbers from k) → highest (bounds_of numbers from i) ≤ (bound_at numbers from i).processor
  bounds_ordered k i h o =
      ordered_last (bounds_of numbers from i) (bound_at numbers from i)
      (rw (bounds_next i) at (bounds_first Ordered ordered_front k (i + 1) (omega arith) o))

-- ---- room

module _ (numbers : List ℕ) (n : ℕ) (its : Interrupted numbers n) where
  -- those of the first i
  pub first_numbered : (i : ℕ) → i ≤ behind numbers n → EveryBound Numbered (bounds_of numbers (3 * n) i)
  unfolding interrupts_of
  first_numbered i g = bounds_every numbers (3 * n) Numbered (behind numbers n) i g its.bound

  -- the i-th has a processor and a sound load, and its processor is the highest so far
  pub its_numbered : (i : ℕ) → i < behind numbers n → Numbered (bound_at numbers (3 * n) i)
  unfolding interrupts_of
  its_numbered i g = bounds_at numbers (3 * n) Numbered (behind numbers n) i g its.bound

  pub its_highest : (i : ℕ) → i < behind numbers n → highest (bounds_of numbers (3 * n) i) ≤ (bound_at numbers (3 * n) i).processor
  unfolding interrupts_of
  its_highest i g = bounds_ordered numbers (3 * n) (behind numbers n) i g its.ordered

  -- what stands in the slice
  pub its_within : 3 * n + 4 * behind numbers n ≡ length numbers
  its_within = omega (arith, div-add-mod' (length numbers - 3 * n) 4, its.fours, its.loads.there)

  -- the i-th one's numbers stand in it, at places that fit
  pub its_there : (i : ℕ) → i < behind numbers n → 3 * n + 4 * i + 4 ≤ length numbers
  its_there i g = omega (arith, its_within)

  pub its_fits : (i : ℕ) → i < behind numbers n → 3 * n + 4 * i + 4 ≤ 2 ^ 11
  its_fits i g = omega (arith, its.few)

  -- what the first i interrupts of a processor ask leaves room in 64 bits
  pub interrupt_room : (p i t : ℕ) → i ≤ behind numbers n → t < 2 ^ 36 → interrupt_demand p (bounds_of numbers (3 * n) i) t < 2 ^ 63
  interrupt_room p i t g h =
      omega (arith, interrupt_small p (bounds_of numbers (3 * n) i) t (first_numbered i g) h, bounds_length numbers (3 * n) i, its.few)

  -- and so does all that is asked
  pub asked_room : (t : ℕ) → t < 2 ^ 36 → asked numbers n t < 2 ^ 63
  unfolding asked greatest_of_all interrupts_of
  asked_room t h =
      let bs = bounds_of numbers (3 * n) (behind numbers n) in
      omega (
        arith,
        demand_small (loads_of numbers n) t its.loads.sound its.loads.small h,
        each_length (load_at numbers) n,
        greatest_small (highest bs) bs t its.bound h,
        bounds_length numbers (3 * n) (behind numbers n),
        its.few,
      )

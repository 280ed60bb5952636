-- Lists of switches one behind the other: what stands in them, and their order.
-- Assumes nothing.
use Prim.Native.Nat.{ℕ, suc, ◌+◌, ◌-◌, ◌≤◌, ◌<◌}
use mathlib.Core.Path.{◌≡◌, refl, sym, ap, subst₂, ◌∙◌}
use mathlib.Core.List.{List, [], ◌∷◌, ◌++◌}
use mathlib.Core.Logic.{◌⊎◌, inl, inr, ⊎_elim}
use native.Mathlib.Omega.{arith}
use lib.ListN.{length, get_or, length-append, get_or-append}
use lib.Seq.{get_or-append-add}
use Rattle.laws.proofs.Orders.{le_or_lt}
use Rattle.turn.specs.Switches.{Switch}
use Rattle.turn_claims.specs.List.{no_switch, switch_at, StandsIn, Earlier}

module _ (a b : List Switch) where
  -- the first list's switches keep their places
  at_first : (k : ℕ) → k < length a → switch_at a k ≡ switch_at (a ++ b) k
  at_first k l = sym (get_or-append a b no_switch k l)

  -- the second's stand behind them
  at_second : (j k : ℕ) → length a + j ≡ k → switch_at b j ≡ switch_at (a ++ b) k
  at_second j k e = sym (get_or-append-add a b j no_switch) ∙ ap (λ (n : ℕ). get_or (a ++ b) n no_switch) e

  pub stands_first : {s : Switch} → StandsIn s a → StandsIn s (a ++ b)
  stands_first i = (i.0, omega (arith, i.1, length-append a b), sym (at_first i.0 i.1) ∙ i.2)

  pub stands_second : {s : Switch} → StandsIn s b → StandsIn s (a ++ b)
  stands_second i = (length a + i.0, omega (arith, i.1, length-append a b), sym (at_second i.0 (length a + i.0) refl) ∙ i.2)

  -- what stands in both stands in one
  pub stands_either : {s : Switch} → StandsIn s (a ++ b) → StandsIn s a ⊎ StandsIn s b
  stands_either i =
      ⊎_elim
      (λ (l : length a ≤ i.0).
      inr (i.0 - length a, omega (arith, i.1, length-append a b), at_second (i.0 - length a) i.0 (omega arith) ∙ i.2))
      (λ (l : i.0 < length a). inl (i.0, l, at_first i.0 l ∙ i.2))
      (le_or_lt (length a) i.0)

-- of one switch it is that one
pub stands_one : {s t : Switch} → StandsIn s (t ∷ []) → s ≡ t
stands_one {s} {t} i = by i.0 i.1 i.2
  where
    by : (k : ℕ) → k < 1 → switch_at (t ∷ []) k ≡ s → s ≡ t
    by ℕ.zero l e = sym e
    by (suc k) l e = absurd (omega arith)

-- each switch of a list is earlier than the next
abbrev pub Sorted : List Switch → Type 0
Sorted list = (k : ℕ) → suc k < length list → Earlier (switch_at list k) (switch_at list (suc k))

-- two sorted lists are sorted one behind the other where all of the first is earlier than all of the second
pub sorted_both : (a b : List Switch) → Sorted a → Sorted b → ((s t : Switch) → StandsIn s a → StandsIn t b → Earlier s t) → Sorted (a ++ b)
sorted_both a b first second across k h =
    ⊎_elim
    (λ (l : length a ≤ k).
    subst₂ Earlier (at_second a b (k - length a) k (omega arith)) (at_second a b (suc (k - length a)) (suc k) (omega arith))
    (second (k - length a) (omega (arith, length-append a b))))
    (λ (l : k < length a).
    ⊎_elim
    (λ (m : length a ≤ suc k).
    across (switch_at (a ++ b) k) (switch_at (a ++ b) (suc k)) (k, l, at_first a b k l)
    (suc k - length a, omega (arith, length-append a b), at_second a b (suc k - length a) (suc k) (omega arith)))
    (λ (m : suc k < length a). subst₂ Earlier (at_first a b k l) (at_first a b (suc k) m) (first k m))
    (le_or_lt (length a) (suc k)))
    (le_or_lt (length a) k)

-- What holds after each interrupt, as they are taken by processor: the highest processor so far, what its interrupts ask, and the greatest.
-- Assumes nothing.
use Prim.Native.Nat.{ℕ, ◌+◌, ◌≤◌, ◌<◌, max}
use mathlib.Core.Path.{◌≡◌, refl, sym, ap, ◌∙◌}
use mathlib.Core.List.{List, [], ◌∷◌, ◌++◌}
use native.Mathlib.Omega.{arith}
use Rattle.interrupting.specs.Interrupts.{Bound, interrupt_demand, greatest_of_all, highest}
use Rattle.interrupting.proofs.BoundLaws.{highest_snoc}
use Rattle.interrupting.proofs.GreatestLaws.{term, interrupt_own, interrupt_nothing, interrupt_none, greatest_next, greatest_nothing}

pub record Reached (bs : List Bound) (t processor sum most : ℕ) : Type 0 where
  pub top : processor ≡ highest bs
  pub summed : sum ≡ interrupt_demand processor bs t
  pub greatest : most ≡ greatest_of_all bs t

pub reached_none : (t : ℕ) → Reached [] t 0 0 0
unfolding highest
reached_none t = record { top = refl; summed = sym (interrupt_nothing 0 t); greatest = sym (greatest_nothing t) }

-- what the interrupts so far ask on the next one's processor, whose number is no lower: 0 where it is a new one, else the sum
module _ {bs : List Bound} {t p sum most : ℕ} (r : Reached bs t p sum most) (q : ℕ) where
  pub reached_new : p < q → 0 ≡ interrupt_demand q bs t
  reached_new h = sym (interrupt_none q bs t (omega (arith, r.top)))

  pub reached_same : q ≤ p → highest bs ≤ q → (p ≡ q) × (sum ≡ interrupt_demand q bs t)
  reached_same h g =
      let e : p ≡ q = omega (arith, r.top) in
      (e, r.summed ∙ ap (λ (k : ℕ). interrupt_demand k bs t) e)

-- one more: its term is added, and the greatest is the larger of what it was and of the sum
pub reached_next : {bs : List Bound} {t p sum most : ℕ} (r : Reached bs t p sum most) (b : Bound) (base sum' most' : ℕ) →
    1 ≤ b.processor → highest bs ≤ b.processor → base ≡ interrupt_demand b.processor bs t → sum' ≡ base + term b.load t → most' ≡ max most sum' →
    Reached (bs ++ (b ∷ [])) t b.processor sum' most'
reached_next {bs} {t} r b base sum' most' h g eb es em =
    let summed : sum' ≡ interrupt_demand b.processor (bs ++ (b ∷ [])) t = omega (arith, interrupt_own b.processor bs b t refl) in
    record {
      top = omega (arith, highest_snoc bs b);
      summed = summed;
      greatest = omega (arith, r.greatest, greatest_next bs b t h g);
    }

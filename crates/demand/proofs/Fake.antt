-- The fake-task form and the supply form give the same yes or no over all lengths; at single lengths they differ.
-- Assumes nothing.
use Prim.Native.Nat.{ℕ, ◌+◌, ◌*◌, ◌-◌, ◌/◌, ◌≤◌, ◌<◌}
use mathlib.Core.Path.{◌≡◌, ap, ◌∙◌}
use mathlib.Core.Logic.{◌↔◌, ⊎_elim}
use native.Mathlib.Nat.{le_trans, mul_comm, mul-add, sub-add_cancel}
use native.Mathlib.Omega.{arith}
use lib.Arith.{digits_div}
use Rattle.laws.proofs.Orders.{by_slots, le_or_lt}
use Rattle.demand.specs.Supply.{supply_past}
use Rattle.demand.specs.Passes.{fake}
use Rattle.demand.proofs.Demand.{jobs_code}
use Rattle.demand.proofs.Supply.{supply_slots}

-- the fake task after k slots and x ticks: its job of this slot is due from the gap's end on
fake_due : (S f k : ℕ) {x : ℕ} → f ≤ x → x < S → fake S f (k * S + x) ≡ f * (k + 1)
unfolding fake
fake_due S f k {x} g h =
    let e : k * S + x + S - f ≡ (k + 1) * S + (x - f) = omega arith in
    ap (λ (j : ℕ). f * j)
    (jobs_code f S (k * S + x) (omega arith) (omega arith) ∙ ap (λ (n : ℕ). n / S) e ∙ digits_div (k + 1) (omega arith))

fake_early : (S f k : ℕ) {x : ℕ} → f ≤ S → x < f → x < S → fake S f (k * S + x) ≡ f * k
unfolding fake
fake_early S f k {x} l g h =
    let e : k * S + x + S - f ≡ k * S + (x + S - f) = omega arith in
    ap (λ (j : ℕ). f * j)
    (jobs_code f S (k * S + x) (omega arith) l ∙ ap (λ (n : ℕ). n / S) e ∙ digits_div k (omega arith))

-- of each slot the fake task leaves what is usable
slot_parts : (S f k : ℕ) → f ≤ S → k * (S - f) + f * k ≡ k * S
slot_parts S f k h = rw (mul_comm f k, ← (mul-add k (S - f) f), sub-add_cancel h)

due_sums : (w a b s f x : ℕ) → a + b ≡ s → f ≤ x → (w ≤ a + (x - f)) ↔ (w + (b + f) ≤ s + x)
due_sums w a b s f x e g = (λ (h : w ≤ a + (x - f)). omega arith, λ (h : w + (b + f) ≤ s + x). omega arith)

early_sums : (w a b s f x : ℕ) → a + b ≡ s → x < f → w ≤ a + (x - f) → w + b ≤ s + x
early_sums w a b s f x e g h = omega arith

times_next : (f k : ℕ) → f * (k + 1) ≡ f * k + f
times_next f k = omega arith

-- from the gap's end on the two forms agree at the length itself
due_agrees : (S f k w : ℕ) {x : ℕ} → f ≤ x → x < S → (w ≤ supply_past S f (k * S + x)) ↔ (w + fake S f (k * S + x) ≤ k * S + x)
due_agrees S f k w {x} g h =
    rw (supply_slots S f k h, fake_due S f k g h, times_next f k)
    (due_sums w (k * (S - f)) (f * k) (k * S) f x (slot_parts S f k (omega arith)) g)

-- what the supply covers leaves room for the fake task
pub supply_room : (S f w : ℕ) → f < S → (t : ℕ) → w ≤ supply_past S f t → w + fake S f t ≤ t
supply_room S f w l =
    by_slots (λ (t : ℕ). w ≤ supply_past S f t → w + fake S f t ≤ t) S (omega arith)
    (λ k x h c.
    ⊎_elim
    (λ (g : f ≤ x). (due_agrees S f k w g h).0 c)
    (λ (g : x < f).
    rw (fake_early S f k (omega arith) g h)
    (early_sums w (k * (S - f)) (f * k) (k * S) f x (slot_parts S f k (omega arith)) g (rw (supply_slots S f k h) at c)))
    (le_or_lt f x))

-- a demand that never falls and leaves room at every length is covered: before the gap's end, look at the gap's end
module _ (g : ℕ → ℕ) (S f : ℕ) (gap-some : 1 ≤ f) (gap-fits : f < S) (grows : (t u : ℕ) → t ≤ u → g t ≤ g u)
    (room : (t : ℕ) → 1 ≤ t → g t + fake S f t ≤ t) where
  at_gap : (k : ℕ) → g (k * S + f) ≤ k * (S - f)
  at_gap k =
      let h : g (k * S + f) ≤ supply_past S f (k * S + f) =
      (due_agrees S f k (g (k * S + f)) (omega arith) gap-fits).1 (room (k * S + f) (omega arith)) in
      le_trans (rw (supply_slots S f k gap-fits) at h) (omega arith)

  pub covered : (t : ℕ) → 1 ≤ t → g t ≤ supply_past S f t
  covered =
      by_slots (λ (t : ℕ). 1 ≤ t → g t ≤ supply_past S f t) S (omega arith)
      (λ k x h p.
      ⊎_elim
      (λ (q : f ≤ x). (due_agrees S f k (g (k * S + x)) q h).1 (room (k * S + x) p))
      (λ (q : x < f).
      rw (supply_slots S f k h)
      (le_trans (grows (k * S + x) (k * S + f) (omega arith)) (le_trans (at_gap k) (omega arith))))
      (le_or_lt f x))

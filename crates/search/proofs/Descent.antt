-- The descent of `last_short`: why it may jump, and what holds at each turn.
use Prim.Native.Nat.{ℕ, suc, ◌+◌, ◌-◌, ◌≤◌, ◌<◌}
use native.Mathlib.Omega.{arith}
use mathlib.Core.Path.{◌≡◌, sym}
use mathlib.Core.Bool.{true}
use lib.Dec.{ltb}
use borrow.Author.Tests.{le-ltb, lt-ltb}
use Rattle.demand.specs.Lawful.{Rising}
use Rattle.demand.specs.Supply.{supply_past, last_with}
use Rattle.demand.proofs.Reach.{supply_at_last, past_last, last_before}
use Rattle.search.specs.Search.{short, last_up_to, NoneIn}
use Rattle.search.proofs.Bounded.{none_join, last_none, last_is}

-- over any demand g that on 1..t is at most g t: past the last length with supply v, up to t, nothing falls short of v + 1 = g t
descend : (g : ℕ → ℕ) (S f t v : ℕ) → f < S → ((x : ℕ) → x ≤ t → g x ≤ g t) → g t ≡ suc v
    → NoneIn (λ x. ltb (supply_past S f x) (g x)) (last_with S f v) t
descend g S f t v f<S top e x past x≤t =
    le-ltb (supply_past S f x) (g x) (omega (arith, past_last S f v x f<S past, top x x≤t))

-- where the demand at t is 0, nothing up to t falls short
descend_zero : (g : ℕ → ℕ) (S f t : ℕ) → ((x : ℕ) → x ≤ t → g x ≤ g t) → g t ≡ 0
    → NoneIn (λ x. ltb (supply_past S f x) (g x)) 0 t
descend_zero g S f t top e x past x≤t = le-ltb (supply_past S f x) (g x) (omega (arith, top x x≤t))

-- what holds at each turn: s is the supply at t, and no length above t is short
pub record Descended (g : ℕ → ℕ) (S f extra hi t s : ℕ) : Type 0 where
  pub within : t ≤ hi
  pub supplied : s ≡ supply_past S f t
  pub none : NoneIn (short g S f extra) t hi

module _ {g : ℕ → ℕ} {S f extra hi : ℕ} where
  pub descent_starts : {s : ℕ} → s ≡ supply_past S f hi → Descended g S f extra hi hi s
  descent_starts e = record { within = omega arith; supplied = e; none = λ x a b. absurd (omega arith) }

  pub descent_ends : {t s : ℕ} → Descended g S f extra hi t s → t ≡ 0 → 0 ≡ last_up_to (short g S f extra) hi
  descent_ends d e = sym (last_none (short g S f extra) hi (rw e at d.none))

  pub descent_finds : {t s : ℕ} → Descended g S f extra hi t s → 0 < t → s < g t + extra → t ≡ last_up_to (short g S f extra) hi
  unfolding short
  descent_finds {t} d h falls =
      let is_short : short g S f extra t ≡ true = lt-ltb (supply_past S f t) (g t + extra) (omega (arith, d.supplied)) in
      sym (last_is (short g S f extra) hi t (record { there = h; within = d.within; has = is_short; after = d.none }))

-- a demand that never falls does not with an extra either
top : {g : ℕ → ℕ} (extra t : ℕ) → Rising g → (x : ℕ) → x ≤ t → g x + extra ≤ g t + extra
top extra t rising x h = omega (arith, rising x t h)

module _ {g : ℕ → ℕ} {S f extra hi t s : ℕ} (rising : Rising g) (d : Descended g S f extra hi t s) where
  pub descent_clears : g t + extra ≡ 0 → 0 ≡ last_up_to (short g S f extra) hi
  unfolding short
  descent_clears e =
      sym (last_none (short g S f extra) hi (none_join (descend_zero (λ (x : ℕ). g x + extra) S f t (top extra t rising) e) d.none))

  -- one turn, in the code's terms: w is the demand at t with the extra, and it is covered
  pub descent_next : (w : ℕ) → f < S → w ≡ g t + extra → (w ≡ 0 → ⊥) → w ≤ s
      → Descended g S f extra hi (last_with S f (w - 1)) (w - 1) × (last_with S f (w - 1) < t)
  unfolding short
  descent_next w f<S e some covered =
      let falls : last_with S f (w - 1) < t = last_before S f (w - 1) t f<S (omega (arith, d.supplied)) in (
        record {
          within = omega (arith, d.within);
          supplied = sym (supply_at_last S f (w - 1) f<S);
          none = none_join (descend (λ (x : ℕ). g x + extra) S f t (w - 1) f<S (top extra t rising) (omega arith)) d.none;
        },
        falls,
      )

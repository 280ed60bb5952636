-- How many switches a turn has: each ring processor begins every stretch once, and tick 0 lists those that start amid one too.
-- Assumes nothing.
use Prim.Native.Nat.{ℕ, zero, suc, ◌+◌, ◌*◌, ◌-◌, ◌%◌, ◌≤◌, ◌<◌}
use mathlib.Core.Path.{◌≡◌, refl, sym, ap, ◌∙◌}
use mathlib.Core.List.{List, [], ◌∷◌}
use mathlib.Core.Bool.{Bool, true, false, cond}
use mathlib.Core.Logic.{⊎_elim}
use native.Mathlib.Nat.{le_trans, one-le-mul, mul-le-mul_right, mul-le-mul}
use native.Mathlib.Omega.{arith}
use lib.Dec.{ltb}
use lib.ListN.{length, length-append}
use Rattle.laws.proofs.Orders.{le_or_lt}
use Rattle.laws.proofs.Choices.{cond_true, cond_false}
use Rattle.tasks.specs.Set.{most_tasks, most_processors}
use Rattle.reserves.specs.Reserves.{ring_ticks, ring_processors, ring_length, idle_positions}
use Rattle.ring.specs.declared.cover.Stand.{Stand}
use Rattle.ring.specs.Phase.{phase}
use Rattle.ring.specs.Cover.{stand_at}
use Rattle.ring.specs.Who.{who_of}
use Rattle.wholes.proofs.CeilingLaws.{ceiling_least}
use Rattle.reserves.proofs.Starts.{ring_below}
use Rattle.ring.proofs.WhoLaws.{who_ring}
use Rattle.ring_claims.specs.Slotted.{Slotted}
use Rattle.turn.specs.Switches.{Switch, runs, switches, switches_at, switches_before, turn_switches}
use Rattle.turn.specs.Count.{stretches, amid, switch_count, most_switches}
use Rattle.turn.proofs.NextLaws.{left_of, left_some, steps_over, steps_on}
use Rattle.turn.proofs.SumLaws.{sum_to, sum_same, sum_add, sum_const, sum_first, sum_suc, sum_swap, sum_turn}
use Rattle.turn.proofs.EndLaws.{last, last_one, last_more, last_at, ends_stretches, amid_at, before_first, amid_first, at_most_one, amid_at_most}

-- what a test lists or leaves out
listed_once : (t : Bool) (s : Switch) → length (cond t (s ∷ []) []) ≡ cond t 1 0
listed_once true s = refl
listed_once false s = refl

module _ (S : ℕ) (rs : List ℕ) where
  abbrev r : ℕ
  r = ring_processors S rs

  abbrev L : ℕ
  L = ring_length S rs

  -- ---- the list's length as a sum

  -- 1 where processor p + 1 switches at tick x
  abbrev one_at : (x p : ℕ) → ℕ
  one_at x p = cond (switches S rs (suc p) x) 1 0

  length_at : (x n : ℕ) → length (switches_at S rs x n) ≡ sum_to (λ p. one_at x p) n
  unfolding switches_at sum_to
  length_at x zero = refl
  length_at x (suc n) =
      let s : Switch = record { tick = x; processor = suc n; server = runs S rs (suc n) x } in
      let t : Bool = switches S rs (suc n) x in
      length-append (switches_at S rs x n) (cond t (s ∷ []) []) ∙ omega (arith, length_at x n, listed_once t s)

  length_before : (x : ℕ) → length (switches_before S rs x) ≡ sum_to (λ y. sum_to (λ p. one_at y p) r) x
  unfolding switches_before sum_to
  length_before zero = refl
  length_before (suc x) =
      length-append (switches_before S rs x) (switches_at S rs x r) ∙ omega (arith, length_before x, length_at x r)

  -- ---- the stretches, and the processors that start amid one

  -- at most one for each server, and the idle one
  pub stretches_few : stretches S rs ≤ length rs + 1
  unfolding stretches
  stretches_few = omega (arith, at_most_one (ltb 0 (idle_positions S rs)))

  pub amid_suc : (n : ℕ) → amid S rs (suc n) ≡ amid S rs n + amid_at S rs (suc n)
  unfolding amid
  amid_suc n = refl

  pub amid_zero : amid S rs 0 ≡ 0
  unfolding amid
  amid_zero = refl

  amid_sum : (n : ℕ) → amid S rs n ≡ sum_to (λ p. amid_at S rs (suc p)) n
  unfolding amid sum_to
  amid_sum zero = refl
  amid_sum (suc n) = omega (arith, amid_sum n)

  -- no more than there are processors
  pub amid_most : (n : ℕ) → amid S rs n ≤ n
  amid_most zero = omega (arith, amid_zero)
  amid_most (suc n) = omega (arith, amid_suc n, amid_most n, amid_at_most S rs (suc n))

  -- ---- the switches of one processor

  module _ (res : Slotted S rs) where
    module _ (p : ℕ) (some : 1 ≤ p) (l : p ≤ r) where
      abbrev z : ℕ
      z = (p - 1) * S

      left_at : (x : ℕ) → (who_of S rs p (record { 0 = x })).left ≡ (stand_at S rs (record { 0 = (x + z) % L })).left
      unfolding phase
      left_at x = ap (λ (s : Stand). s.left) (who_ring S rs p (record { 0 = x }) l)

      -- a processor switches right after the last position of a stretch
      switches_last : (x : ℕ) → cond (switches S rs p (suc x)) 1 0 ≡ last_at S rs ((x + z) % L)
      switches_last x =
          let some_left = left_some S rs p x res.slot_some some in
          ⊎_elim
          (λ (k : left_of S rs p x ≤ 1).
          cond_true 1 0 (steps_over S rs p x res some l (omega arith)).0 ∙ sym (last_one (left_of S rs p x) (omega arith)) ∙ ap last (left_at x))
          (λ (k : 1 < left_of S rs p x).
          cond_false 1 0 (steps_on S rs p x res some l (omega arith)).0 ∙ sym (last_more (left_of S rs p x) k) ∙ ap last (left_at x))
          (le_or_lt (left_of S rs p x) 1)

      -- in a turn it begins each stretch once, and tick 0 is listed at any rate
      switches_in_turn : sum_to (λ x. cond (switches S rs p x) 1 0) L ≡ stretches S rs + amid_at S rs p
      unfolding switches
      switches_in_turn =
          let M : ℕ = L - 1 in
          let e : suc M ≡ L = omega (arith, one-le-mul (le_trans some l) res.slot_some) in
          omega (
            arith,
            ap (sum_to (λ x. cond (switches S rs p x) 1 0)) e,
            sum_first (λ x. cond (switches S rs p x) 1 0) M,
            sum_same (λ x. cond (switches S rs p (suc x)) 1 0) (λ x. last_at S rs ((x + z) % L)) M (λ x k. switches_last x),
            sum_suc (λ x. last_at S rs ((x + z) % L)) M,
            ap (sum_to (λ x. last_at S rs ((x + z) % L))) e,
            sum_turn (last_at S rs) L z (mul-le-mul_right S (omega arith)),
            ends_stretches S rs res,
            before_first S rs p res.slot_some some l M e,
          )

    pub turn_count : length (turn_switches S rs) ≡ switch_count S rs
    unfolding turn_switches switch_count
    turn_count =
        omega (
          arith,
          length_before L,
          sum_swap one_at L r,
          sum_same (λ p. sum_to (λ x. one_at x p) L) (λ p. stretches S rs + amid_at S rs (suc p)) r (λ p k. switches_in_turn (suc p) (omega arith) k),
          sum_add (λ p. stretches S rs) (λ p. amid_at S rs (suc p)) r,
          sum_const (stretches S rs) r,
          amid_sum r,
        )

    -- ---- at most so many

    -- processor 1 starts where the ring begins
    pub amid_few : (n : ℕ) → suc n ≤ r → amid S rs (suc n) ≤ n
    amid_few zero l = omega (arith, amid_zero, amid_suc 0, amid_first S rs res.slot_some l)
    amid_few (suc n) l = omega (arith, amid_suc (suc n), amid_few n (omega arith), amid_at_most S rs (suc (suc n)))

    pub ring_few : r ≤ length rs
    ring_few = (ceiling_least (ring_ticks S rs) S res.slot_some).least (length rs) (ring_below S rs)

    pub count_most : length rs ≤ most_tasks → switch_count S rs ≤ most_switches
    unfolding switch_count
    count_most few = by r refl
      where
        by : (n : ℕ) → r ≡ n → r * stretches S rs + amid S rs r ≤ most_switches
        by zero e = rw e (omega (arith, amid_zero))
        by (suc n) e =
            let b : r ≤ most_processors = omega (arith, ring_few) in
            let k : stretches S rs ≤ most_tasks + 1 = omega (arith, stretches_few) in
            let t : r * stretches S rs ≤ most_processors * (most_tasks + 1) = mul-le-mul b k in
            let a : amid S rs r ≤ n = rw e (amid_few n (omega arith)) in
            omega (arith, ring_few)

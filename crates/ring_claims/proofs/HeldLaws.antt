-- In any S consecutive ticks a server holds exactly R processor ticks.
-- Assumes nothing.
use Prim.Native.Nat.{ℕ, zero, suc, min, ◌+◌, ◌-◌, ◌%◌, ◌≤◌, ◌<◌}
use mathlib.Core.Path.{◌≡◌, refl, sym, ap, subst, ◌∙◌}
use mathlib.Core.List.{List}
use mathlib.Core.Bool.{Bool, true, false, cond}
use mathlib.Core.Logic.{⊎_elim}
use native.Mathlib.Nat.{le_refl, le-suc_iff, mod-eq_of_lt, mod-eq-sub-mod, le_antisymm}
use native.Mathlib.Omega.{arith}
use borrow.Author.Tests.{eqb-true, eq-eqb}
use lib.Dec.{ltb, eqb}
use lib.ListN.{length}
use Rattle.laws.proofs.Tests.{never_true}
use Rattle.laws.proofs.Orders.{le_or_lt}
use Rattle.laws.proofs.Choices.{cond_ltb, cond_ltb_not}
use Rattle.ring.specs.declared.clock.Tick.{Tick}
use Rattle.reserves.specs.Reserves.{reserve_of, start_of, processors_of}
use Rattle.ring.specs.Who.{who_of}
use Rattle.ring_claims.specs.Serves.{RingServer, WholeProcessor, ServesOnRing, ServesWhole, Serves, OnBoard, since_start}
use Rattle.ring_claims.specs.Held.{later, count_to, held_at, held}
use Rattle.ring_claims.proofs.TurnLaws.{since_below, since_later}
use Rattle.ring_claims.proofs.ServeLaws.{one_processor, named_served, served_named}
use Rattle.ring_claims.proofs.BoardLaws.{board_ring, board_whole}

-- ---- counting

module _ (test : ℕ → Bool) where
  count_suc : (n : ℕ) (t : Bool) → test (suc n) ≡ t → count_to test (suc n) ≡ count_to test n + cond t 1 0
  unfolding count_to
  count_suc n t e = rw e

  -- where none passes the count is 0
  pub count_none : (n : ℕ) → ((p : ℕ) → 1 ≤ p → p ≤ n → test p ≡ true → ⊥) → count_to test n ≡ 0
  unfolding count_to
  count_none zero f = refl
  count_none (suc n) f =
      let e = never_true (test (suc n)) (f (suc n) (omega arith) (le_refl (suc n))) in
      count_suc n false e ∙ omega (arith, count_none n (λ p a b. f p a (omega arith)))

  -- where exactly one passes it is 1
  pub count_one : (n q : ℕ) → 1 ≤ q → q ≤ n → test q ≡ true → ((p : ℕ) → 1 ≤ p → p ≤ n → test p ≡ true → p ≡ q) → count_to test n ≡ 1
  count_one zero q a b e f = absurd (omega arith)
  count_one (suc n) q a b e f =
      ⊎_elim
      (λ (l : q ≤ n).
      let t = never_true (test (suc n)) (λ g. let k = f (suc n) (omega arith) (le_refl (suc n)) g in omega arith) in
      count_suc n false t ∙ omega (arith, count_one n q a l e (λ p c d. f p c (omega arith))))
      (λ (l : q ≡ suc n).
      let t : test (suc n) ≡ true = subst (λ (k : ℕ). test k ≡ true) l e in
      count_suc n true t ∙
      omega (arith, count_none n (λ p c d g. let k = f p c (omega arith) g in omega arith)))
      (le-suc_iff.0 b)

-- ---- a server's processors at one tick

module _ (S : ℕ) (rs : List ℕ) (q : ℕ) (h : 1 ≤ S) (some : 1 ≤ q) where
  runs : (x : Tick) (p : ℕ) → 1 ≤ p → p ≤ processors_of S rs → eqb (who_of S rs p x).server q ≡ true → Serves S rs p q x
  runs x p a b e =
      let g : (who_of S rs p x).server ≡ q = eqb-true (who_of S rs p x).server q e in
      subst (λ (n : ℕ). Serves S rs p n x) g (named_served S rs p x a b (omega arith))

  served_there : (x : Tick) (p : ℕ) → Serves S rs p q x → (1 ≤ p) × (p ≤ processors_of S rs)
  served_there x p s =
      ⊎_elim
      (λ (a : ServesOnRing S rs p q x). (a.processor_some, omega (arith, a.on_ring)))
      (λ (a : ServesWhole S rs p q). (omega (arith, a.past_ring), a.processor_there))
      s

  -- on the board a server has one processor
  held_one : (x : Tick) → OnBoard S rs q x → held_at S rs q x ≡ 1
  unfolding held_at
  held_one x b =
      let t = served_there x b.0 b.1 in
      let n = served_named S rs b.0 x t.0 t.1 q b.1 in
      count_one (λ p. eqb (who_of S rs p x).server q) (processors_of S rs) b.0 t.0 t.1
      (eq-eqb (who_of S rs b.0 x).server q n.1)
      (λ p a c e. one_processor S rs h p b.0 q x (runs x p a c e) b.1)

  -- and off the board none
  held_none : (x : Tick) → (OnBoard S rs q x → ⊥) → held_at S rs q x ≡ 0
  unfolding held_at
  held_none x b =
      count_none (λ p. eqb (who_of S rs p x).server q) (processors_of S rs) (λ p a c e. b (p, runs x p a c e))

  pub held_ring : (x : Tick) → RingServer S rs q → held_at S rs q x ≡ cond (ltb (since_start S rs q x) (reserve_of rs q)) 1 0
  held_ring x s =
      ⊎_elim
      (λ (l : reserve_of rs q ≤ since_start S rs q x).
      held_none x (λ b. let k = (board_ring S rs x h q s).0 b in omega arith) ∙ sym (cond_ltb_not 1 0 l))
      (λ (l : since_start S rs q x < reserve_of rs q).
      held_one x ((board_ring S rs x h q s).1 l) ∙ sym (cond_ltb 1 0 l))
      (le_or_lt (reserve_of rs q) (since_start S rs q x))

  pub held_whole : (x : Tick) → WholeProcessor S rs q → held_at S rs q x ≡ 1
  held_whole x s = held_one x (board_whole S rs x h q s)

-- ---- a slot of ticks

-- the i below t with (z + i) mod S below R
unfoldable pub turned : (S R z : ℕ) → ℕ → ℕ
turned S R z zero = 0
turned S R z (suc t) = turned S R z t + cond (ltb ((z + t) % S) R) 1 0

module _ (S R z : ℕ) (hR : R ≤ S) (hz : z < S) where
  one_turn : (t v : ℕ) → (z + t) % S ≡ v → turned S R z (suc t) ≡ turned S R z t + cond (ltb v R) 1 0
  unfolding turned
  one_turn t v e = rw e

  -- min R grows by one up to R
  min_step : (v : ℕ) → min R v + cond (ltb v R) 1 0 ≡ min R (v + 1)
  min_step v =
      ⊎_elim (λ (p : R ≤ v). omega (arith, cond_ltb_not 1 0 p)) (λ (p : v < R). omega (arith, cond_ltb 1 0 p)) (le_or_lt R v)

  -- up to the slot's end
  to_end : (t : ℕ) → z + t ≤ S → turned S R z t + min R z ≡ min R (z + t)
  unfolding turned
  to_end zero l = omega arith
  to_end (suc t) l =
      let e : (z + t) % S ≡ z + t = mod-eq_of_lt (omega arith) in
      let a : z + t + 1 ≡ z + suc t = omega arith in
      omega (arith, one_turn t (z + t) e, to_end t (omega arith), min_step (z + t), ap (min R) a)

  -- and from its start on
  from_start : (u : ℕ) → u ≤ z → turned S R z (S - z + u) + min R z ≡ R + min R u
  from_start zero l =
      let a : S - z + 0 ≡ S - z = omega arith in
      let b : z + (S - z) ≡ S = omega arith in
      omega (arith, ap (turned S R z) a, to_end (S - z) (omega arith), ap (min R) b)
  from_start (suc u) l =
      let a : S - z + suc u ≡ suc (S - z + u) = omega arith in
      let b : z + (S - z + u) - S ≡ u = omega arith in
      let c : S ≤ z + (S - z + u) = omega arith in
      let d : (z + (S - z + u)) % S ≡ u = mod-eq-sub-mod c ∙ ap (λ (n : ℕ). n % S) b ∙ mod-eq_of_lt (omega arith) in
      let s : u + 1 ≡ suc u = omega arith in
      omega (arith, ap (turned S R z) a, one_turn (S - z + u) u d, from_start u (omega arith), min_step u, ap (min R) s)

  -- a whole turn passes each place once
  pub whole_turn : turned S R z S ≡ R
  whole_turn =
      let a : S - z + z ≡ S = omega arith in
      omega (arith, ap (turned S R z) a, from_start z (le_refl z))

module _ (S : ℕ) (rs : List ℕ) (q : ℕ) (x : Tick) (h : 1 ≤ S) where
  ring_turned : RingServer S rs q → (t : ℕ) → held S rs q x t ≡ turned S (reserve_of rs q) (since_start S rs q x) t
  unfolding held turned
  ring_turned s zero = refl
  ring_turned s (suc t) =
      let e : held_at S rs q (later x t) ≡ cond (ltb ((since_start S rs q x + t) % S) (reserve_of rs q)) 1 0 =
      held_ring S rs q h s.some (later x t) s ∙
      ap (λ (n : ℕ). cond (ltb n (reserve_of rs q)) 1 0) (since_later S h (start_of S rs q) x.0 t)
      in
      omega (arith, ring_turned s t)

  whole_held : WholeProcessor S rs q → (t : ℕ) → held S rs q x t ≡ t
  unfolding held
  whole_held s zero = refl
  whole_held s (suc t) = omega (arith, whole_held s t, held_whole S rs q h s.some (later x t) s)

  pub held_slot : reserve_of rs q ≤ S → 1 ≤ q → q ≤ length rs → held S rs q x S ≡ reserve_of rs q
  held_slot w some there =
      ⊎_elim
      (λ (l : S ≤ reserve_of rs q).
      let e : reserve_of rs q ≡ S = le_antisymm w l in
      whole_held (record { some = some; there = there; whole = e }) S ∙ sym e)
      (λ (l : reserve_of rs q < S).
      ring_turned (record { some = some; there = there; ring = l }) S ∙
      whole_turn S (reserve_of rs q) (since_start S rs q x) w (since_below S h (start_of S rs q) x.0))
      (le_or_lt S (reserve_of rs q))

-- Which switches stand in the list of a turn: those that begin, and in order.
-- Assumes nothing.
use Prim.Native.Nat.{ℕ, zero, suc, ◌*◌, ◌≤◌, ◌<◌}
use mathlib.Core.Path.{◌≡◌, refl, sym, ap, subst, ◌∙◌}
use mathlib.Core.List.{List, [], ◌∷◌, ◌++◌}
use mathlib.Core.Bool.{Bool, true, false, cond, not}
use mathlib.Core.Logic.{inl, inr, ⊎_elim}
use native.Mathlib.Nat.{le-suc_iff, le_refl, zero-mul}
use native.Mathlib.Omega.{arith}
use lib.Dec.{eqb}
use borrow.Author.Tests.{eqb-false, ne_eqb, not-true}
use Rattle.reserves.specs.Reserves.{ring_processors, ring_length}
use Rattle.turn.specs.Switches.{Switch, runs, switches, switches_at, switches_before, turn_switches}
use Rattle.turn_claims.specs.List.{Begins, StandsIn}
use Rattle.turn_claims.proofs.StandsLaws.{stands_first, stands_second, stands_either, stands_one, Sorted, sorted_both}

-- two switches of one tick, one processor and one server are one
same_switch : {s t : Switch} → s.tick ≡ t.tick → s.processor ≡ t.processor → s.server ≡ t.server → s ≡ t
same_switch a b c = λ i. record { tick = a i; processor = b i; server = c i }

module _ (S : ℕ) (rs : List ℕ) where
  abbrev r : ℕ
  r = ring_processors S rs

  -- the switch of a processor at a tick
  abbrev pub entry : (p x : ℕ) → Switch
  entry p x = record { tick = x; processor = p; server = runs S rs p x }

  -- what processor p adds at a tick
  abbrev pub entries : (p x : ℕ) → List Switch
  entries p x = cond (switches S rs p x) (entry p x ∷ []) []

  pub at_next : (x n : ℕ) → switches_at S rs x (suc n) ≡ switches_at S rs x n ++ entries (suc n) x
  unfolding switches_at
  at_next x n = refl

  pub before_next : (x : ℕ) → switches_before S rs (suc x) ≡ switches_before S rs x ++ switches_at S rs x r
  unfolding switches_before
  before_next x = refl

  -- one of the first n processors switches at a tick, to the server that runs there
  pub record Listed (x n : ℕ) (s : Switch) : Type 0 where
    pub tick : s.tick ≡ x
    pub from_one : 1 ≤ s.processor
    pub there : s.processor ≤ n
    pub switching : switches S rs s.processor x ≡ true
    pub server : runs S rs s.processor x ≡ s.server

  -- ---- at a tick

  -- what a processor adds is its own switch, where it switches
  pub entries_told : (p x : ℕ) {s : Switch} → StandsIn s (entries p x) → (s ≡ entry p x) × (switches S rs p x ≡ true)
  entries_told p x {s} i = by (switches S rs p x) refl i
    where
      by : (t : Bool) → switches S rs p x ≡ t → StandsIn s (cond t (entry p x ∷ []) []) → (s ≡ entry p x) × (switches S rs p x ≡ true)
      by true e i = (stands_one i, e)
      by false e i = absurd (omega (arith, i.1))

  pub at_told : (n x : ℕ) {s : Switch} → StandsIn s (switches_at S rs x n) → Listed x n s
  unfolding switches_at
  at_told zero x i = absurd (omega (arith, i.1))
  at_told (suc n) x i =
      ⊎_elim
      (λ (i : StandsIn _ (switches_at S rs x n)).
      let l = at_told n x i in
      record { tick = l.tick; from_one = l.from_one; there = omega (arith, l.there); switching = l.switching; server = l.server })
      (λ (i : StandsIn _ (entries (suc n) x)).
      let f = entries_told (suc n) x i in
      subst (Listed x (suc n)) (sym f.0)
      (record { tick = refl; from_one = omega arith; there = le_refl (suc n); switching = f.1; server = refl }))
      (stands_either (switches_at S rs x n) (entries (suc n) x) i)

  at_stands : (n x : ℕ) {s : Switch} → Listed x n s → StandsIn s (switches_at S rs x n)
  unfolding switches_at
  at_stands zero x l = absurd (omega (arith, l.from_one, l.there))
  at_stands (suc n) x {s} l =
      ⊎_elim
      (λ (k : s.processor ≤ n).
      stands_first (switches_at S rs x n) (entries (suc n) x)
      (at_stands n x
      (record { tick = l.tick; from_one = l.from_one; there = k; switching = l.switching; server = l.server })))
      (λ (k : s.processor ≡ suc n).
      let e : switches S rs (suc n) x ≡ true = ap (λ (p : ℕ). switches S rs p x) (sym k) ∙ l.switching in
      let v : runs S rs (suc n) x ≡ s.server = ap (λ (p : ℕ). runs S rs p x) (sym k) ∙ l.server in
      stands_second (switches_at S rs x n) (entries (suc n) x)
      (rw e (0, omega arith, same_switch (sym l.tick) (sym k) v)))
      (le-suc_iff.0 l.there)

  at_sorted : (n x : ℕ) → Sorted (switches_at S rs x n)
  unfolding switches_at
  at_sorted zero x = λ k h. absurd (omega arith)
  at_sorted (suc n) x =
      sorted_both (switches_at S rs x n) (entries (suc n) x) (at_sorted n x) (alone (switches S rs (suc n) x))
      (λ s t i j.
      let l = at_told n x i in
      let e = (entries_told (suc n) x j).0 in
      inr (l.tick ∙ ap (λ (u : Switch). u.tick) (sym e), omega (arith, l.there, ap (λ (u : Switch). u.processor) e)))
    where
      alone : (t : Bool) → Sorted (cond t (entry (suc n) x ∷ []) [])
      alone true k h = absurd (omega arith)
      alone false k h = absurd (omega arith)

  -- ---- before a tick

  before_told : (x : ℕ) {s : Switch} → StandsIn s (switches_before S rs x) → (s.tick < x) × Listed s.tick r s
  unfolding switches_before
  before_told zero i = absurd (omega (arith, i.1))
  before_told (suc x) {s} i =
      ⊎_elim
      (λ (i : StandsIn s (switches_before S rs x)). let f = before_told x i in (omega (arith, f.0), f.1))
      (λ (i : StandsIn s (switches_at S rs x r)).
      let l = at_told r x i in
      (omega (arith, l.tick), subst (λ (y : ℕ). Listed y r s) (sym l.tick) l))
      (stands_either (switches_before S rs x) (switches_at S rs x r) i)

  before_stands : (x : ℕ) {s : Switch} → s.tick < x → Listed s.tick r s → StandsIn s (switches_before S rs x)
  unfolding switches_before
  before_stands zero h l = absurd (omega arith)
  before_stands (suc x) {s} h l =
      ⊎_elim
      (λ (k : suc s.tick ≤ x). stands_first (switches_before S rs x) (switches_at S rs x r) (before_stands x k l))
      (λ (k : suc s.tick ≡ suc x).
      let e : s.tick ≡ x = omega arith in
      stands_second (switches_before S rs x) (switches_at S rs x r) (at_stands r x (subst (λ (y : ℕ). Listed y r s) e l)))
      (le-suc_iff.0 h)

  before_sorted : (x : ℕ) → Sorted (switches_before S rs x)
  unfolding switches_before
  before_sorted zero = λ k h. absurd (omega arith)
  before_sorted (suc x) =
      sorted_both (switches_before S rs x) (switches_at S rs x r) (before_sorted x) (at_sorted r x)
      (λ s t i j. inl (omega (arith, (before_told x i).0, (at_told r x j).tick)))

  -- ---- switching is beginning

  switches_told : (p x : ℕ) → switches S rs p x ≡ true → (y : ℕ) → suc y ≡ x → runs S rs p y ≡ runs S rs p x → ⊥
  unfolding switches
  switches_told p zero e y k same = omega arith
  switches_told p (suc x) e y k same =
      let j : y ≡ x = omega arith in
      eqb-false (runs S rs p (suc x)) (runs S rs p x) (not-true (eqb (runs S rs p (suc x)) (runs S rs p x)) e)
      (sym same ∙ ap (runs S rs p) j)

  switches_is : (p x : ℕ) → ((y : ℕ) → suc y ≡ x → runs S rs p y ≡ runs S rs p x → ⊥) → switches S rs p x ≡ true
  unfolding switches
  switches_is p zero f = refl
  switches_is p (suc x) f =
      ap not (ne_eqb (runs S rs p (suc x)) (runs S rs p x) (λ (same : runs S rs p (suc x) ≡ runs S rs p x). f x refl (sym same)))

  -- ---- a turn

  -- what stands in the list of a turn begins, and what begins stands there
  pub turn_told : {s : Switch} → StandsIn s (turn_switches S rs) → Begins S rs s
  unfolding turn_switches
  turn_told {s} i =
      let f = before_told (ring_length S rs) i in
      let l = f.1 in
      record {
        turn = omega (arith, f.0);
        from_one = omega (arith, l.from_one);
        on_ring = omega (arith, l.there);
        names = l.server;
        begun = λ x k e. switches_told s.processor s.tick l.switching x (omega (arith, k)) (e ∙ sym l.server);
      }

  pub turn_stands : {s : Switch} → Begins S rs s → StandsIn s (turn_switches S rs)
  unfolding turn_switches
  turn_stands {s} b =
      before_stands (ring_length S rs) (omega (arith, b.turn))
      (record {
        tick = refl;
        from_one = omega (arith, b.from_one);
        there = omega (arith, b.on_ring);
        switching = switches_is s.processor s.tick (λ y k e. b.begun y (omega (arith, k)) (e ∙ b.names));
        server = b.names;
      })

  pub turn_sorted : Sorted (turn_switches S rs)
  unfolding turn_switches
  turn_sorted = before_sorted (ring_length S rs)

  -- without ring processors a turn has no ticks, and no switches
  pub turn_none : r ≡ 0 → turn_switches S rs ≡ []
  unfolding turn_switches switches_before
  turn_none e = ap (switches_before S rs) (ap (λ (n : ℕ). n * S) e ∙ zero-mul S)

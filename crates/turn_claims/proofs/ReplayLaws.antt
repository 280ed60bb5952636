-- The list of a turn, loaded and repeated, names who runs: within a turn tick by tick, and over all time since a turn repeats.
-- Assumes nothing.
use Prim.Native.Nat.{ℕ, zero, suc, ◌*◌, ◌-◌, ◌%◌, ◌≤◌, ◌<◌}
use mathlib.Core.Path.{◌≡◌, refl, sym, ap, ◌∙◌}
use mathlib.Core.List.{List, [], ◌∷◌, ◌++◌}
use mathlib.Core.Bool.{Bool, true, false, cond, not, ◌&&◌}
use mathlib.Core.Logic.{⊎_elim}
use native.Mathlib.Nat.{le-suc_iff, le_refl, le_trans, mod-lt, mod-add-mod, one-le-mul}
use native.Mathlib.Omega.{arith}
use lib.Dec.{eqb, leb}
use borrow.Author.Tests.{eqb-true, leb-true, eq-eqb, le-leb}
use Rattle.laws.proofs.Tests.{and_left, and_right, and_both, never_true}
use Rattle.reserves.specs.Reserves.{ring_processors, ring_length}
use Rattle.ring.specs.Phase.{phase}
use Rattle.ring.specs.Cover.{stand_at}
use Rattle.ring.specs.declared.cover.Stand.{Stand}
use Rattle.ring.proofs.WhoLaws.{who_ring}
use Rattle.turn.specs.Switches.{Switch, runs, switches, switches_at, switches_before, turn_switches}
use Rattle.turn_claims.specs.List.{StandsIn, named_from, named}
use Rattle.turn_claims.proofs.ListedLaws.{entries, entries_told, at_next, before_next, at_told}

-- ---- a loaded list

-- of two lists one behind the other the second goes on where the first ends
named_both : (last : ℕ) (a b : List Switch) (p x : ℕ) → named_from last (a ++ b) p x ≡ named_from (named_from last a p x) b p x
unfolding named_from
named_both last [] b p x = refl
named_both last (s ∷ a) b p x = named_both (cond (eqb s.processor p && leb s.tick x) s.server last) a b p x

-- a list without an entry of p at or before x changes nothing
named_other : (last : ℕ) (list : List Switch) (p x : ℕ) → ((s : Switch) → StandsIn s list → s.processor ≡ p → s.tick ≤ x → ⊥) →
    named_from last list p x ≡ last
unfolding named_from
named_other last [] p x none = refl
named_other last (s ∷ list) p x none =
    let own : Bool = eqb s.processor p in
    let come : Bool = leb s.tick x in
    ap (λ (t : Bool). named_from (cond t s.server last) list p x)
    (never_true (own && come)
    (λ e. none s (0, omega arith, refl) (eqb-true _ _ (and_left own come e)) (leb-true _ _ (and_right own come e)))) ∙
    named_other last list p x (λ t i. none t (suc i.0, omega (arith, i.1), i.2))

module _ (S : ℕ) (rs : List ℕ) where
  abbrev r : ℕ
  r = ring_processors S rs

  -- ---- a tick of the list

  -- what processor p adds at a tick that has come: where it switches, its server
  named_entries : (last y p x : ℕ) → y ≤ x → named_from last (entries S rs p y) p x ≡ cond (switches S rs p y) (runs S rs p y) last
  unfolding named_from
  named_entries last y p x h = by (switches S rs p y)
    where
      by : (t : Bool) → named_from last (cond t (record { tick = y; processor = p; server = runs S rs p y } ∷ []) []) p x ≡ cond t (runs S rs p y) last
      by true = ap (λ (t : Bool). cond t (runs S rs p y) last) (and_both (eq-eqb p p refl) (le-leb y x h))
      by false = refl

  -- of the first n processors, p among them, only its own switch counts
  named_at : (last y n p x : ℕ) → y ≤ x → 1 ≤ p → p ≤ n → named_from last (switches_at S rs y n) p x ≡ cond (switches S rs p y) (runs S rs p y) last
  named_at last y zero p x h some l = absurd (omega arith)
  named_at last y (suc n) p x h some l =
      ap (λ (list : List Switch). named_from last list p x) (at_next S rs y n) ∙
      named_both last (switches_at S rs y n) (entries S rs (suc n) y) p x ∙
      ⊎_elim
      (λ (k : p ≤ n).
      named_other (named_from last (switches_at S rs y n) p x) (entries S rs (suc n) y) p x
      (λ s i e _. omega (arith, ap (λ (u : Switch). u.processor) (entries_told S rs (suc n) y i).0)) ∙
      named_at last y n p x h some k)
      (λ (k : p ≡ suc n).
      ap (λ (before : ℕ). named_from before (entries S rs (suc n) y) p x)
      (named_other last (switches_at S rs y n) p x (λ s i e _. omega (arith, (at_told S rs n y i).there))) ∙
      ap (λ (q : ℕ). named_from last (entries S rs q y) p x) (sym k) ∙
      named_entries last y p x h)
      (le-suc_iff.0 l)

  -- ---- the list up to a tick

  module _ (p x : ℕ) (some : 1 ≤ p) (on_ring : p ≤ r) where
    -- a tick more, that has come
    named_next : (y : ℕ) → y ≤ x →
        named (switches_before S rs (suc y)) p x ≡ cond (switches S rs p y) (runs S rs p y) (named (switches_before S rs y) p x)
    named_next y h =
        ap (λ (list : List Switch). named list p x) (before_next S rs y) ∙
        named_both 0 (switches_before S rs y) (switches_at S rs y r) p x ∙
        named_at (named (switches_before S rs y) p x) y r p x h some on_ring

    -- where p does not switch the server of the tick before goes on
    named_till : (y : ℕ) → y ≤ x → named (switches_before S rs (suc y)) p x ≡ runs S rs p y
    unfolding switches
    named_till zero h = named_next zero h
    named_till (suc y) h =
        named_next (suc y) h ∙
        ap (cond (not (eqb (runs S rs p (suc y)) (runs S rs p y))) (runs S rs p (suc y))) (named_till y (omega arith)) ∙
        by (eqb (runs S rs p (suc y)) (runs S rs p y)) refl
      where
        by : (t : Bool) → eqb (runs S rs p (suc y)) (runs S rs p y) ≡ t → cond (not t) (runs S rs p (suc y)) (runs S rs p y) ≡ runs S rs p (suc y)
        by true e = sym (eqb-true _ _ e)
        by false e = refl

    -- later ticks change nothing
    named_before : (y : ℕ) → x < y → named (switches_before S rs y) p x ≡ runs S rs p x
    named_before zero h = absurd (omega arith)
    named_before (suc y) h =
        ⊎_elim
        (λ (k : suc x ≤ y).
        ap (λ (list : List Switch). named list p x) (before_next S rs y) ∙
        named_both 0 (switches_before S rs y) (switches_at S rs y r) p x ∙
        named_other (named (switches_before S rs y) p x) (switches_at S rs y r) p x
        (λ s i _ l. omega (arith, (at_told S rs r y i).tick)) ∙
        named_before y k)
        (λ (k : suc x ≡ suc y).
        ap (λ (n : ℕ). named (switches_before S rs n) p x) (sym k) ∙ named_till x (le_refl x))
        (le-suc_iff.0 h)

  -- ---- all time

  -- who runs on a ring processor goes by the tick's place in its turn
  runs_again : (p x : ℕ) → p ≤ r → runs S rs p (x % ring_length S rs) ≡ runs S rs p x
  unfolding phase
  runs_again p x l =
      ap (λ (s : Stand). s.server)
      (who_ring S rs p (record { 0 = x % (r * S) }) l ∙
      ap (λ (n : ℕ). stand_at S rs (record { 0 = n })) (mod-add-mod x (r * S) ((p - 1) * S)) ∙
      sym (who_ring S rs p (record { 0 = x }) l))

  pub replayed : (p x : ℕ) → 1 ≤ S → 1 ≤ p → p ≤ r → named (turn_switches S rs) p (x % ring_length S rs) ≡ runs S rs p x
  unfolding turn_switches
  replayed p x h some l =
      named_before p (x % ring_length S rs) some l (ring_length S rs) (mod-lt x (one-le-mul (le_trans some l) h)) ∙
      runs_again p x l

-- Counting by a test: the ticks of a window that have a thing are those that pass the test for it, and they have one count.
-- Assumes nothing.
use Prim.Native.Nat.{ℕ, zero, suc, ◌+◌}
use mathlib.Core.Path.{◌≡◌, refl, sym, ap, subst}
use mathlib.Core.Bool.{Bool, true, false, false≢true, cond}
use mathlib.Core.Logic.{◌↔◌}
use native.Mathlib.Nat.{add-zero}
use native.Mathlib.Numerals.{add-one}
use Rattle.ring.specs.declared.clock.Tick.{Tick}
use Rattle.windows.specs.Window.{usable_at, usable_in}
use Rattle.rotas.specs.Counted.{Counted, none, counts, passes}

module _ (P : Tick → Type 0) (a : ℕ) where
  -- a window has one count
  pub once : {t m n : ℕ} → Counted P a t m → Counted P a t n → m ≡ n
  once none none = refl
  once (counts c p) (counts d q) = ap suc (once c d)
  once (counts c p) (passes d q) = absurd (q p)
  once (passes c p) (counts d q) = absurd (p q)
  once (passes c p) (passes d q) = once c d

  -- where every tick has P a window's count is its length
  pub counts_all : ((x : Tick) → P x) → (t : ℕ) → Counted P a t t
  counts_all all zero = none
  counts_all all (suc t) = counts (counts_all all t) (all (record { 0 = a + t }))

  -- one tick more, by its test
  counts_next : (b : Bool) {t n : ℕ} → P (record { 0 = a + t }) ↔ (b ≡ true) → Counted P a t n → Counted P a (suc t) (n + cond b 1 0)
  counts_next true {t} {n} w c = subst (Counted P a (suc t)) (sym (add-one n)) (counts c (w.1 refl))
  counts_next false {t} {n} w c = subst (Counted P a (suc t)) (sym (add-zero n)) (passes c (λ p. false≢true (w.0 p)))

  -- where the ticks that have P are the usable ticks of a reserve, those are the count
  pub counts_usable : (S L R start : ℕ) → ((x : Tick) → P x ↔ (usable_at S L R start x.0 ≡ true)) → (t : ℕ) →
      Counted P a t (usable_in S L R start a t)
  unfolding usable_in
  counts_usable S L R start w zero = none
  counts_usable S L R start w (suc t) =
      counts_next (usable_at S L R start (a + t)) (w (record { 0 = a + t })) (counts_usable S L R start w t)

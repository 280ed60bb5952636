-- Laws of the lengths that are short where a demand gains: which of the two demands decides at each length, and what the searches over the
-- two ranges come to.
-- Assumes nothing.
use Prim.Native.Nat.{ℕ, ◌+◌, ◌-◌, ◌≤◌, ◌<◌}
use mathlib.Core.Path.{◌≡◌, ap, sym, ◌∙◌}
use mathlib.Core.Bool.{Bool, true, false}
use mathlib.Core.List.{List}
use mathlib.Core.Logic.{⊎_elim}
use native.Mathlib.Nat.{eq-zero-or-pos}
use native.Mathlib.Omega.{arith}
use lib.Dec.{ltb, eqb}
use borrow.Author.Tests.{eq-eqb, ne_eqb, lt-ltb, le-ltb, ltb-true}
use Rattle.laws.proofs.Orders.{le_or_lt}
use Rattle.demand.specs.Load.{Load, Sound, Every}
use Rattle.demand.specs.Supply.{supply_past}
use Rattle.search.specs.Search.{last_up_to, first_up_to, first_after, NoneIn, Last, Next, short}
use Rattle.search.proofs.Bounded.{none_join, none_less, none_has, last_zero, last_found, last_past, first_none, first_zero, first_is, after_zero, after_found}
use Rattle.masking.specs.declared.Gain.{Gain}
use Rattle.masking.specs.Masking.{gaining, gains_some, Gains}
use Rattle.masking.proofs.GainLaws.{gaining_in, gaining_before, gaining_after, gaining_above, gaining_none, gains_somewhere}
use Rattle.masking.proofs.OwnLaws.{own_some}

-- ---- any property

-- numbers of which none has one property have none of another that agrees with it there
pub none_as : {p q : ℕ → Bool} {a b : ℕ} → ((x : ℕ) → a < x → x ≤ b → p x ≡ q x) → NoneIn q a b → NoneIn p a b
none_as same none x h g = same x h g ∙ none x h g

-- the search for none: it says so where there is none, and not where there is one
pub says_none : (p : ℕ → Bool) (n : ℕ) → NoneIn p 0 n → true ≡ eqb (first_up_to p n) 0
says_none p n none = sym (eq-eqb (first_up_to p n) 0 (first_none p n none))

pub says_some : (p : ℕ → Bool) (n x : ℕ) → 1 ≤ x → x ≤ n → p x ≡ true → false ≡ eqb (first_up_to p n) 0
says_some p n x h g has =
    sym (ne_eqb (first_up_to p n) 0 (λ (e : first_up_to p n ≡ 0). none_has (first_zero p n e) h g has))

-- where none up to a has p, the first past a is the first of all; one that is found below a lower bound too
module _ {p q : ℕ → Bool} {a b n : ℕ} (none : NoneIn p 0 a) (same : (x : ℕ) → a < x → x ≤ b → p x ≡ q x) (within : b ≤ n) where
  pub first_here : {t : ℕ} → t ≡ first_after q a b → (t ≡ 0 → ⊥) → t ≡ first_up_to p n
  first_here {t} e some =
      let found = after_found q a b t (sym e) (omega arith) in
      let next : Next q a t = found.1 in
      sym
      (first_is p n t (omega (arith, found.0))
      (record {
        there = omega (arith, next.above);
        has = same t next.above found.0 ∙ next.has;
        before = λ x h g.
            ⊎_elim (λ (k : x ≤ a). none x h k) (λ (k : a < x). same x k (omega (arith, found.0)) ∙ next.before x k g) (le_or_lt x a);
      }))

  pub none_here : first_after q a b ≡ 0 → NoneIn p 0 b
  none_here e = none_join none (none_as same (after_zero q a b e))

pub first_rest : {p q : ℕ → Bool} {a n t : ℕ} → NoneIn p 0 a → ((x : ℕ) → a < x → x ≤ n → p x ≡ q x) → t ≡ first_after q a n → t ≡ first_up_to p n
first_rest {p} {q} {a} {n} {t} none same e =
    ⊎_elim
    (λ (z : t ≡ 0). z ∙ sym (first_none p n (none_here {n = n} none same (omega arith) (sym e ∙ z))))
    (λ (h : 1 ≤ t). first_here none same (omega arith) e (λ (z : t ≡ 0). omega arith))
    (eq-zero-or-pos t)

-- ---- a demand that gains

module _ (k : Gain) (g : ℕ → ℕ) (S f : ℕ) where
  abbrev fails : ℕ → Bool
  fails = short (gaining k g) S f 0

  -- short with the extra where it gains
  pub short_in : (t : ℕ) → k.from ≤ t → t < k.until → fails t ≡ short g S f k.extra t
  unfolding short
  short_in t h b = ap (ltb (supply_past S f t)) (omega (arith, gaining_in k t g h b))

  -- and without it where it does not
  same_short : (t : ℕ) → gaining k g t ≡ g t → fails t ≡ short g S f 0 t
  unfolding short
  same_short t e = ap (λ (w : ℕ). ltb (supply_past S f t) (w + 0)) e

  pub short_past : (t : ℕ) → k.until ≤ t → fails t ≡ short g S f 0 t
  short_past t h = same_short t (gaining_after k t g h)

  pub short_ungained : gains_some k ≡ false → (t : ℕ) → fails t ≡ short g S f 0 t
  short_ungained h t = same_short t (gaining_none k t g h)

  -- what is short without the gain is short with it
  pub short_anyway : (t : ℕ) → short g S f 0 t ≡ true → fails t ≡ true
  unfolding short
  short_anyway t e = lt-ltb (supply_past S f t) (gaining k g t + 0) (omega (arith, gaining_above k t g, ltb-true (supply_past S f t) (g t + 0) e))

  pub some_anyway : (hi : ℕ) {last : ℕ} → last ≡ last_up_to (short g S f 0) hi → (last ≡ 0 → ⊥) → false ≡ eqb (first_up_to fails hi) 0
  some_anyway hi {last} e some =
      let l : Last (short g S f 0) hi last = last_found (short g S f 0) hi last (sym e) (omega arith) in
      says_some fails hi last l.there l.within (short_anyway last l.has)

  -- with no gain one search decides
  pub none_ungained : (hi : ℕ) {last : ℕ} → gains_some k ≡ false → last ≡ last_up_to (short g S f 0) hi → last ≡ 0 → true ≡ eqb (first_up_to fails hi) 0
  none_ungained hi h e z = says_none fails hi (none_as (λ x a b. short_ungained h x) (last_zero (short g S f 0) hi (sym e ∙ z)))

  pub first_ungained : (hi : ℕ) {t : ℕ} → gains_some k ≡ false → t ≡ first_after (short g S f 0) 0 hi → t ≡ first_up_to fails hi
  first_ungained hi h e = first_rest (λ x a b. absurd (omega arith)) (λ x a b. short_ungained h x) e

  -- with one, the lengths before the gain, those that gain and those past them
  module _ {ls : List Load} {hi : ℕ} (own : Gains k ls hi) (sound : Every Sound ls) (gains : gains_some k ≡ true) where
    pub own_apart : (1 ≤ k.from) × (k.from < k.until)
    own_apart = (own_some ls own sound gains, (gains_somewhere k gains).1)

    -- where too little is supplied for the smallest deadline, that length is short
    pub from_some : supply_past S f k.from < g k.from + k.extra → false ≡ eqb (first_up_to fails hi) 0
    unfolding short
    from_some less =
        says_some fails hi k.from (omega (arith, own_apart)) (omega (arith, own_apart, own.due))
        (short_in k.from (omega arith) (omega (arith, own_apart)) ∙ lt-ltb (supply_past S f k.from) (g k.from + k.extra) less)

    early_same : (x : ℕ) → 0 < x → x ≤ k.from - 1 → fails x ≡ short g S f 0 x
    early_same x a b = same_short x (gaining_before k x g (omega (arith, own_apart)))

    near_same : (x : ℕ) → k.from - 1 < x → x ≤ k.until - 1 → fails x ≡ short g S f k.extra x
    near_same x a b = short_in x (omega arith) (omega arith)

    far_same : (x : ℕ) → k.until - 1 < x → x ≤ hi → fails x ≡ short g S f 0 x
    far_same x a b = short_past x (omega arith)

    pub near_decides : {last near : ℕ} → last ≡ last_up_to (short g S f 0) hi → last ≡ 0 → near ≡ last_up_to (short g S f k.extra) (k.until - 1) →
        ltb near k.from ≡ eqb (first_up_to fails hi) 0
    near_decides {last} {near} e h n =
        ⊎_elim
        (λ (p : k.from ≤ near).
        let l : Last (short g S f k.extra) (k.until - 1) near = last_found (short g S f k.extra) (k.until - 1) near (sym n) (omega (arith, own_apart)) in
        le-ltb near k.from p ∙
        says_some fails hi near l.there (omega (arith, l.within)) (short_in near p (omega (arith, l.within)) ∙ l.has))
        (λ (p : near < k.from).
        lt-ltb near k.from p ∙
        says_none fails hi
        (none_join (none_join (none_as early_same (none_less (last_zero (short g S f 0) hi (sym e ∙ h)) (omega (arith, own_apart, own.due)))) (none_as near_same (last_past (short g S f k.extra) (k.until - 1) (k.from - 1) (omega arith))))
        (none_as far_same (last_past (short g S f 0) hi (k.until - 1) (omega arith)))))
        (le_or_lt k.from near)

    -- none before the gain, by the first search
    none_early : {early : ℕ} → early ≡ first_after (short g S f 0) 0 (k.from - 1) → early ≡ 0 → NoneIn fails 0 (k.from - 1)
    none_early e none = none_here {n = hi} (λ x a b. absurd (omega arith)) early_same (omega (arith, own_apart, own.due)) (sym e ∙ none)

    pub first_early : {early : ℕ} → early ≡ first_after (short g S f 0) 0 (k.from - 1) → (early ≡ 0 → ⊥) → early ≡ first_up_to fails hi
    first_early e found = first_here (λ x a b. absurd (omega arith)) early_same (omega (arith, own_apart, own.due)) e found

    module _ {early : ℕ} (begun : early ≡ first_after (short g S f 0) 0 (k.from - 1)) (none : early ≡ 0) where
      pub first_near : {near : ℕ} → near ≡ first_after (short g S f k.extra) (k.from - 1) (k.until - 1) → (near ≡ 0 → ⊥) → near ≡ first_up_to fails hi
      first_near e found = first_here (none_early begun none) near_same (omega (arith, own.due)) e found

      pub first_far : {near far : ℕ} → near ≡ first_after (short g S f k.extra) (k.from - 1) (k.until - 1) → near ≡ 0 →
          far ≡ first_after (short g S f 0) (k.until - 1) hi → far ≡ first_up_to fails hi
      first_far e nothing r =
          first_rest (none_here {n = hi} (none_early begun none) near_same (omega (arith, own.due)) (sym e ∙ nothing)) far_same r

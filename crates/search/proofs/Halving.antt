-- The halving of `first_short`, over any property of lengths: what holds at each turn.
use Prim.Native.Nat.{ℕ, ◌+◌, ◌≤◌, ◌<◌}
use native.Mathlib.Omega.{arith}
use mathlib.Core.Path.{◌≡◌, sym}
use mathlib.Core.Logic.{⊎_elim}
use mathlib.Core.Bool.{Bool, true}
use Rattle.laws.proofs.Orders.{le_or_lt}
use Rattle.search.specs.Search.{last_up_to, first_after, NoneIn, Last}
use Rattle.search.proofs.Bounded.{none_has, last_past, last_found, after_none, after_is}

-- none above lo, up to low, has p, and top has it
pub record Halved (p : ℕ → Bool) (lo hi low top : ℕ) : Type 0 where
  pub from : lo ≤ low
  pub below : low < top
  pub within : top ≤ hi
  pub has : p top ≡ true
  pub none : NoneIn p lo low

-- an answer of the last search that is not above lo: none above lo has p
none_above : (p : ℕ → Bool) (lo n : ℕ) {last : ℕ} → last ≡ last_up_to p n → last ≤ lo → NoneIn p lo n
none_above p lo n e h = last_past p n lo (omega arith)

pub halving_none : (p : ℕ → Bool) (lo hi : ℕ) {top : ℕ} → top ≡ last_up_to p hi → top ≤ lo → 0 ≡ first_after p lo hi
halving_none p lo hi e h = sym (after_none p lo hi (none_above p lo hi e h))

module _ {p : ℕ → Bool} {lo hi : ℕ} where
  pub halving_starts : {top : ℕ} → top ≡ last_up_to p hi → lo < top → Halved p lo hi lo top
  halving_starts {top} e h =
      let l : Last p hi top = last_found p hi top (sym e) (omega arith) in
      record { from = omega arith; below = h; within = l.within; has = l.has; none = λ x a b. absurd (omega arith) }

  pub halving_ends : {low top : ℕ} → Halved p lo hi low top → top ≤ low + 1 → top ≡ first_after p lo hi
  halving_ends {low} {top} h e =
      sym (after_is p lo hi top h.within (record { above = omega (arith, h.from, h.below); has = h.has; before = λ x a b. h.none x a (omega arith) }))

-- one turn, in the code's terms: found is the answer up to mid
module _ {p : ℕ → Bool} {lo hi low top : ℕ} (h : Halved p lo hi low top) (mid found : ℕ) (e : found ≡ last_up_to p mid) (a : low ≤ mid) (b : mid < top) where
  pub halving_up : found ≤ lo → Halved p lo hi mid top
  halving_up f = record { from = omega (arith, h.from); below = b; within = h.within; has = h.has; none = none_above p lo mid e f }

  pub halving_down : lo < found → Halved p lo hi low found × (found < top)
  halving_down f =
      let l : Last p mid found = last_found p mid found (sym e) (omega arith) in
      let above : low < found = ⊎_elim (λ (g : found ≤ low). none_has h.none f g l.has) (λ (g : low < found). g) (le_or_lt found low) in (
        record { from = h.from; below = above; within = omega (arith, l.within, h.within); has = l.has; none = h.none },
        omega (arith, l.within),
      )

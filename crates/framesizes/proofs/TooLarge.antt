-- Laws of values too large for their fields: the search for one, and what holds where there is none.
-- Assumes nothing.
use Prim.Native.Nat.{ℕ, zero, suc, ◌+◌, ◌^◌, ◌≤◌, ◌<◌}
use mathlib.Core.Path.{◌≡◌, sym, ◌∙◌, ap, ap₂}
use mathlib.Core.Bool.{true, false}
use mathlib.Core.List.{List, [], ◌∷◌}
use native.Mathlib.Nat.{one-le-pow}
use native.Mathlib.Numerals.{add-one}
use native.Mathlib.Omega.{arith}
use lib.Dec.{lit<}
use lib.ListN.{length, drop, get_or, drop_of_length-le}
use lib.Seq.{drop-cons}
use borrow.Author.Tests.{leb-false}
use Rattle.laws.proofs.Tests.{or_left, or_right}
use Rattle.digits.specs.Number.{too_large}
use Rattle.frames.specs.declared.table.Frame.{Frame}
use Rattle.frames.specs.Table.{widths_of, width_of, fields_in}
use Rattle.framesizes.specs.Overflow.{some_too_large, line_overflows}

-- the search from one field on: it ends there, or goes on behind it
module _ (ws vs : List ℕ) (i : ℕ) (h : i < length ws) (k : i < length vs) where
  from_here : some_too_large (drop i ws) (drop i vs) ≡ some_too_large (get_or ws i 0 ∷ drop (i + 1) ws) (get_or vs i 0 ∷ drop (i + 1) vs)
  from_here =
      ap₂ some_too_large
      (drop-cons ws i 0 h ∙ ap (λ (n : ℕ). get_or ws i 0 ∷ drop n ws) (sym (add-one i)))
      (drop-cons vs i 0 k ∙ ap (λ (n : ℕ). get_or vs i 0 ∷ drop n vs) (sym (add-one i)))

  pub large_found : too_large (get_or ws i 0) (get_or vs i 0) ≡ true → some_too_large (drop i ws) (drop i vs) ≡ true
  unfolding some_too_large
  large_found p = from_here ∙ rw p

  pub large_next : too_large (get_or ws i 0) (get_or vs i 0) ≡ false → some_too_large (drop i ws) (drop i vs) ≡ some_too_large (drop (i + 1) ws) (drop (i + 1) vs)
  unfolding some_too_large
  large_next p = from_here ∙ rw p

pub large_over : (ws vs : List ℕ) (i : ℕ) → length ws ≤ i → some_too_large (drop i ws) (drop i vs) ≡ false
unfolding some_too_large
large_over ws vs i h = ap (λ (l : List ℕ). some_too_large l (drop i vs)) (drop_of_length-le ws h)

none_large : (ws vs : List ℕ) → some_too_large ws vs ≡ false → (k : ℕ) → k < length ws → get_or vs k 0 < 16 ^ get_or ws k 0
unfolding some_too_large
none_large [] vs p k h = absurd (omega arith)
none_large (w ∷ ws) [] p k h = one-le-pow (get_or (w ∷ ws) k 0) 16 (lit< tt)
none_large (w ∷ ws) (v ∷ vs) p zero h = leb-false (16 ^ w) v (or_left (too_large w v) (some_too_large ws vs) p)
none_large (w ∷ ws) (v ∷ vs) p (suc k) h = none_large ws vs (or_right (too_large w v) (some_too_large ws vs) p) k (omega arith)

-- where none overflows, each value fits its field
pub values_fit : (frame : Frame) (values : List ℕ) → line_overflows frame values ≡ false → (k : ℕ) → k < fields_in frame → get_or values k 0 < 16 ^ width_of frame k
unfolding line_overflows
values_fit frame values p k h = none_large (widths_of frame) values p k h

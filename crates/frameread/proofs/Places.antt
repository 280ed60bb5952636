-- Laws of the line at a place of a text, as the reading functions go there: its kind, its end, its digits and its fields.
-- Assumes nothing.
use Prim.Native.Nat.{ℕ, suc, ◌+◌, ◌-◌, ◌≤◌, ◌<◌}
use mathlib.Core.Path.{◌≡◌, sym, ◌∙◌, ap, ap₂}
use mathlib.Core.Bool.{Bool, true, false, ◌&&◌, and-true}
use mathlib.Core.List.{List, [], ◌∷◌}
use native.Mathlib.Numerals.{add-one}
use native.Mathlib.Omega.{arith}
use lib.Dec.{eqb}
use lib.ListN.{length, take, drop, get_or, length-take, length-drop}
use lib.Seq.{get_or-drop, drop-cons, drop-drop}
use borrow.Author.Tests.{eq-eqb, ne_eqb, lt-ltb}
use Rattle.frames.specs.declared.table.Frame.{Frame}
use Rattle.digits.specs.Digit.{all_legal}
use Rattle.digits.specs.Number.{number}
use Rattle.frames.specs.Table.{kind_of, width_of, field_start, length_of, LF}
use Rattle.laws.specs.Same.{same}
use Rattle.frameread.specs.Line.{formed, field_of}
use Rattle.laws.proofs.Tests.{never_true, true_false}
use Rattle.frames.proofs.Tables.{field_within, kind_length, kind_two}
use Rattle.laws.proofs.SameLaws.{same_equal}
use Rattle.frameread.proofs.Formed.{formed_length, formed_end, formed_part, formed_field, field_legal, formed_same, formed_is}

-- a kind compared byte by byte
take_two : (text : List ℕ) (at : ℕ) → at + 2 ≤ length text → take 2 (drop at text) ≡ get_or text at 0 ∷ get_or text (at + 1) 0 ∷ []
take_two text at h =
    ap (take 2) (drop-cons text at 0 (omega arith))
    ∙ ap (λ (l : List ℕ). get_or text at 0 ∷ take 1 l) (drop-cons text (suc at) 0 (omega arith))
    ∙ ap (λ (n : ℕ). get_or text at 0 ∷ get_or text n 0 ∷ []) (sym (add-one at))

same_two : (a b k l : ℕ) → same (a ∷ b ∷ []) (k ∷ l ∷ []) ≡ (eqb a k && eqb b l)
unfolding same
same_two a b k l = ap (◌&&◌ (eqb a k)) (and-true (eqb b l))

-- where fewer than two bytes are left, no kind stands
pub kind_short : (text : List ℕ) (at : ℕ) (frame : Frame) → length text - at < 2 → same (take 2 (drop at text)) (kind_of frame) ≡ false
kind_short text at frame h =
    never_true (same (take 2 (drop at text)) (kind_of frame))
    (λ (p : same (take 2 (drop at text)) (kind_of frame) ≡ true). omega (arith, ap length (same_equal (take 2 (drop at text)) (kind_of frame) p), kind_length frame, length-take 2 (drop at text), length-drop at text))

module _ (text : List ℕ) (at : ℕ) (frame : Frame) (kind : List ℕ) (e : kind ≡ kind_of frame) (h : at + 2 ≤ length text) where
  kind_test : same (take 2 (drop at text)) (kind_of frame) ≡ (eqb (get_or text at 0) (get_or kind 0 0) && eqb (get_or text (at + 1) 0) (get_or kind 1 0))
  kind_test =
      ap₂ same (take_two text at h) (kind_two frame)
      ∙ same_two (get_or text at 0) (get_or text (at + 1) 0) (get_or (kind_of frame) 0 0) (get_or (kind_of frame) 1 0)
      ∙ ap (λ (l : List ℕ). (eqb (get_or text at 0) (get_or l 0 0) && eqb (get_or text (at + 1) 0) (get_or l 1 0))) (sym e)

  pub kind_second : get_or text at 0 ≡ get_or kind 0 0
      → same (take 2 (drop at text)) (kind_of frame) ≡ eqb (get_or text (at + 1) 0) (get_or kind 1 0)
  kind_second p = kind_test ∙ ap (λ (t : Bool). (t && eqb (get_or text (at + 1) 0) (get_or kind 1 0))) (eq-eqb (get_or text at 0) (get_or kind 0 0) p)

  pub kind_first : (get_or text at 0 ≡ get_or kind 0 0 → ⊥) → same (take 2 (drop at text)) (kind_of frame) ≡ eqb (get_or text at 0) (get_or kind 0 0)
  kind_first p =
      kind_test
      ∙ ap (λ (t : Bool). (t && eqb (get_or text (at + 1) 0) (get_or kind 1 0))) (ne_eqb (get_or text at 0) (get_or kind 0 0) p)
      ∙ sym (ne_eqb (get_or text at 0) (get_or kind 0 0) p)

-- the test at a place of a text, step by step
module _ (frame : Frame) (text : List ℕ) (at n : ℕ) (e : n ≡ length_of frame) where
  pub not_long : length text - at ≤ n → formed frame (drop at text) ≡ false
  not_long h = never_true (formed frame (drop at text)) (λ (f : formed frame (drop at text) ≡ true). omega (arith, formed_length frame (drop at text) f, length-drop at text))

  end_at : get_or (drop at text) (length_of frame) 0 ≡ get_or text (at + n) 0
  end_at = get_or-drop at text (length_of frame) 0 ∙ ap (λ (m : ℕ). get_or text (at + m) 0) (sym e)

  pub not_ended : (get_or text (at + n) 0 ≡ LF → ⊥) → formed frame (drop at text) ≡ false
  not_ended h = never_true (formed frame (drop at text)) (λ (f : formed frame (drop at text) ≡ true). h (sym end_at ∙ formed_end frame (drop at text) f))

  pub not_kind : same (take 2 (drop at text)) (kind_of frame) ≡ false → formed frame (drop at text) ≡ false
  not_kind h = never_true (formed frame (drop at text)) (λ (f : formed frame (drop at text) ≡ true). true_false (sym (formed_same frame (drop at text) f) ∙ h))

  pub rest_legal : n < length text - at → get_or text (at + n) 0 ≡ LF → same (take 2 (drop at text)) (kind_of frame) ≡ true
      → formed frame (drop at text) ≡ all_legal (take n (drop at text))
  rest_legal h l k =
      formed_is frame (drop at text)
      ∙ ap (λ (t : Bool). (t && (eqb (get_or (drop at text) (length_of frame) 0) LF && (same (take 2 (drop at text)) (kind_of frame) && all_legal (take (length_of frame) (drop at text))))))
      (lt-ltb (length_of frame) (length (drop at text)) (omega (arith, length-drop at text)))
      ∙ ap (λ (t : Bool). (t && (same (take 2 (drop at text)) (kind_of frame) && all_legal (take (length_of frame) (drop at text))))) (eq-eqb _ LF (end_at ∙ l))
      ∙ ap (λ (t : Bool). (t && all_legal (take (length_of frame) (drop at text)))) k
      ∙ ap (λ (m : ℕ). all_legal (take m (drop at text))) (sym e)

-- a field's digits at a place of a text
module _ (frame : Frame) (text : List ℕ) (at field p w : ℕ) (ep : p ≡ field_start frame field) (ew : w ≡ width_of frame field) (f : formed frame (drop at text) ≡ true) where
  field_at : take w (drop (at + p) text) ≡ take (width_of frame field) (drop (field_start frame field) (drop at text))
  field_at = ap₂ (λ (j k : ℕ). take j (drop (at + k) text)) ew ep ∙ ap (take (width_of frame field)) (sym (drop-drop (field_start frame field) at text))

  pub field_at_legal : all_legal (take w (drop (at + p) text)) ≡ true
  field_at_legal = ap all_legal (field_at ∙ sym (formed_part frame (drop at text) f field)) ∙ field_legal frame (drop at text) f field

  pub field_at_within : at ≤ length text → at + p + w ≤ length text
  field_at_within h = omega (arith, formed_length frame (drop at text) f, field_within frame field, length-drop at text)

  pub field_at_number : number (take w (drop (at + p) text)) ≡ field_of frame field (drop at text)
  field_at_number = ap number field_at ∙ sym (formed_field frame (drop at text) f field)

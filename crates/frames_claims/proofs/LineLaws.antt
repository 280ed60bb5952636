-- Laws of lines: a written line is formed and its fields are read back, a formed text is the line of its own fields, and what stands behind a line does not matter.
-- Assumes nothing.
use Prim.Native.Nat.{ℕ, zero, suc, ◌+◌, ◌^◌, ◌≤◌, ◌<◌}
use mathlib.Core.Path.{◌≡◌, refl, sym, ◌∙◌, ap, ap₂}
use mathlib.Core.Bool.{Bool, true, cond, ◌&&◌}
use mathlib.Core.List.{List, [], ◌∷◌, ◌++◌, append_assoc}
use native.Mathlib.Nat.{add-zero}
use native.Mathlib.Omega.{arith}
use lib.Dec.{ltb, eqb}
use lib.ListN.{length, take, drop, get_or, length-append, length-take, length-drop, take-append-drop}
use lib.Seq.{take_at, drop-append-add, drop-drop, take-length, take_all, take-take, get_or-take}
use borrow.Author.Tests.{ltb-true, lt-ltb}
use Rattle.laws.proofs.Tests.{same_test}
use Rattle.digits.specs.Digit.{all_legal}
use Rattle.digits.specs.Number.{number}
use Rattle.digits.proofs.Digits.{legal_not_LF, legal_head, legal_tail, legal_append, legal_drop}
use Rattle.digits.proofs.Numbers.{number_hex}
use Rattle.frames.specs.declared.table.Frame.{Frame}
use Rattle.frames.specs.Table.{kind_of, widths_of, fields_in, sum, width_of, field_start, length_of, LF}
use Rattle.frameread.specs.Line.{line, after, formed, field_of}
use Rattle.laws.specs.Same.{same}
use Rattle.framewrite.specs.Line.{fields, line_of}
use Rattle.frames.proofs.Tables.{kind_length, kind_legal}
use Rattle.frameread.proofs.Cuts.{line_cut}
use Rattle.framewrite.proofs.Fields.{fields_length}
use Rattle.frameread.proofs.Formed.{formed_text, formed_size, line_kind, formed_legal, made_formed, formed_is}
use Rattle.frames_claims.specs.Values.{fields_from, fields_of}
use Rattle.frames_claims.proofs.FieldParts.{fields_legal, fields_part, fields_again}

-- what follows legal digits and an LF comes after the first line
pub after_cut : (ds rest : List ℕ) → all_legal ds ≡ true → after (ds ++ (LF ∷ rest)) ≡ rest
unfolding after
after_cut [] rest p = refl
after_cut (d ∷ ds) rest p =
    ap (λ (t : Bool). cond t (ds ++ (LF ∷ rest)) (after (ds ++ (LF ∷ rest)))) (legal_not_LF d (legal_head d ds p))
    ∙ after_cut ds rest (legal_tail d ds p)

-- a written line: its digits, its LF, and what follows
module _ (frame : Frame) (values rest : List ℕ) where
  pub line_parts : line_of frame values ++ rest ≡ (kind_of frame ++ fields (widths_of frame) values) ++ (LF ∷ rest)
  unfolding line_of
  line_parts =
      append_assoc (kind_of frame) (fields (widths_of frame) values ++ (LF ∷ [])) rest
      ∙ ap (λ (l : List ℕ). kind_of frame ++ l) (append_assoc (fields (widths_of frame) values) (LF ∷ []) rest)
      ∙ sym (append_assoc (kind_of frame) (fields (widths_of frame) values) (LF ∷ rest))

  digits_length : length (kind_of frame ++ fields (widths_of frame) values) ≡ length_of frame
  digits_length = omega (arith, length-append (kind_of frame) (fields (widths_of frame) values), kind_length frame, fields_length (widths_of frame) values)

  digits_legal : all_legal (kind_of frame ++ fields (widths_of frame) values) ≡ true
  digits_legal = legal_append (kind_of frame) (fields (widths_of frame) values) (kind_legal frame) (fields_legal (widths_of frame) values)

  pub line_formed : formed frame (line_of frame values ++ rest) ≡ true
  line_formed =
      ap (formed frame) line_parts
      ∙ made_formed frame (kind_of frame ++ fields (widths_of frame) values) rest digits_length (take_at (kind_of frame) (fields (widths_of frame) values) 2 (kind_length frame)) digits_legal

  pub line_after : after (line_of frame values ++ rest) ≡ rest
  line_after = ap after line_parts ∙ after_cut (kind_of frame ++ fields (widths_of frame) values) rest digits_legal

  line_digits : line (line_of frame values ++ rest) ≡ kind_of frame ++ fields (widths_of frame) values
  line_digits = ap line line_parts ∙ line_cut (kind_of frame ++ fields (widths_of frame) values) rest digits_legal

  -- a value that fits its width is read back
  pub field_line : (k : ℕ) → get_or values k 0 < 16 ^ width_of frame k → field_of frame k (line_of frame values ++ rest) ≡ get_or values k 0
  unfolding field_of
  field_line k h =
      ap (λ (l : List ℕ). number (take (width_of frame k) (drop (field_start frame k) l))) line_digits
      ∙ ap (λ (n : ℕ). number (take (width_of frame k) (drop (n + sum (take k (widths_of frame))) (kind_of frame ++ fields (widths_of frame) values)))) (sym (kind_length frame))
      ∙ ap (λ (l : List ℕ). number (take (width_of frame k) l)) (drop-append-add (kind_of frame) (fields (widths_of frame) values) (sum (take k (widths_of frame))))
      ∙ ap number (fields_part (widths_of frame) values k)
      ∙ number_hex (width_of frame k) (get_or values k 0) h

-- the values of a line's fields, one by one
from_at : (frame : Frame) (text : List ℕ) (k n j : ℕ) → j < n → get_or (fields_from frame text k n) j 0 ≡ field_of frame (k + j) text
unfolding fields_from
from_at frame text k zero j h = absurd (omega arith)
from_at frame text k (suc n) zero h = ap (λ (i : ℕ). field_of frame i text) (sym (add-zero k))
from_at frame text k (suc n) (suc j) h = from_at frame text (suc k) n j (omega arith) ∙ ap (λ (i : ℕ). field_of frame i text) moved
  where
    moved : suc k + j ≡ k + suc j
    moved = omega arith

pub fields_at : (frame : Frame) (text : List ℕ) (k : ℕ) → k < fields_in frame → get_or (fields_of frame text) k 0 ≡ field_of frame k text
unfolding fields_of
fields_at frame text k h = from_at frame text 0 (fields_in frame) k h ∙ ap (λ (i : ℕ). field_of frame i text) (omega arith)

from_length : (frame : Frame) (text : List ℕ) (k n : ℕ) → length (fields_from frame text k n) ≡ n
unfolding fields_from
from_length frame text k zero = refl
from_length frame text k (suc n) = ap suc (from_length frame text (suc k) n)

pub fields_many : (frame : Frame) (text : List ℕ) → length (fields_of frame text) ≡ fields_in frame
unfolding fields_of
fields_many frame text = from_length frame text 0 (fields_in frame)

value_at : (frame : Frame) (text : List ℕ) (k : ℕ)
    → field_of frame k text ≡ number (take (width_of frame k) (drop (sum (take k (widths_of frame))) (drop 2 (line text))))
unfolding field_of
value_at frame text k = ap (λ (l : List ℕ). number (take (width_of frame k) l)) (sym (drop-drop (sum (take k (widths_of frame))) 2 (line text)))

-- a formed text is the line of its own fields, and what comes after
pub line_fields : (frame : Frame) (text : List ℕ) → formed frame text ≡ true → text ≡ line_of frame (fields_of frame text) ++ after text
line_fields frame text f =
    formed_text frame text f
    ∙ ap (λ (l : List ℕ). l ++ (LF ∷ after text)) halves
    ∙ sym (line_parts frame (fields_of frame text) (after text))
  where
    ds_length : length (drop 2 (line text)) ≡ sum (widths_of frame)
    ds_length = omega (arith, length-drop 2 (line text), formed_size frame text f)

    values : (k : ℕ) → k < length (widths_of frame)
        → get_or (fields_of frame text) k 0 ≡ number (take (width_of frame k) (drop (sum (take k (widths_of frame))) (drop 2 (line text))))
    values k h =
        fields_at frame text k h ∙ value_at frame text k

    all : fields (widths_of frame) (fields_of frame text) ≡ drop 2 (line text)
    all =
        ap (λ (l : List ℕ). fields l (fields_of frame text)) (sym (take-length (widths_of frame)))
        ∙ fields_again (widths_of frame) (fields_of frame text) (drop 2 (line text)) (legal_drop 2 (line text) (formed_legal frame text f)) (omega (arith, ds_length)) values (length (widths_of frame)) (omega arith)
        ∙ ap (λ (l : List ℕ). take (sum l) (drop 2 (line text))) (take-length (widths_of frame))
        ∙ take_all (sum (widths_of frame)) (drop 2 (line text)) (omega (arith, ds_length))

    halves : line text ≡ kind_of frame ++ fields (widths_of frame) (fields_of frame text)
    halves =
        sym (take-append-drop 2 (line text))
        ∙ ap₂ ◌++◌ (line_kind frame text f) (sym all)

-- what stands behind the line does not matter
pub formed_prefix : (frame : Frame) (n : ℕ) (text : List ℕ) → length_of frame + 1 ≤ n → formed frame (take n text) ≡ formed frame text
formed_prefix frame n text h =
    formed_is frame (take n text)
    ∙ ap₂ ◌&&◌ long
    (ap₂ ◌&&◌ (ap (λ (v : ℕ). eqb v LF) (get_or-take n text (length_of frame) 0 (omega arith)))
    (ap₂ ◌&&◌ (ap (λ (l : List ℕ). same l (kind_of frame)) (take-take 2 n text (omega arith))) (ap all_legal (take-take (length_of frame) n text (omega arith)))))
    ∙ sym (formed_is frame text)
  where
    long : ltb (length_of frame) (length (take n text)) ≡ ltb (length_of frame) (length text)
    long =
        same_test _ _
        (λ (p : ltb (length_of frame) (length (take n text)) ≡ true). lt-ltb (length_of frame) (length text) (omega (arith, ltb-true (length_of frame) (length (take n text)) p, length-take n text)))
        (λ (p : ltb (length_of frame) (length text) ≡ true). lt-ltb (length_of frame) (length (take n text)) (omega (arith, ltb-true (length_of frame) (length text) p, length-take n text)))

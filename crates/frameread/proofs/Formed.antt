-- Laws of a text that starts with a frame's line: what that line's parts are, and the test that a program makes of it.
-- Assumes nothing.
use Prim.Native.Nat.{ℕ, suc, ◌+◌, ◌^◌, ◌≤◌, ◌<◌}
use mathlib.Core.Path.{◌≡◌, sym, ◌∙◌, ap, subst}
use mathlib.Core.Bool.{Bool, true, ◌&&◌}
use mathlib.Core.List.{List, ◌∷◌, ◌++◌}
use native.Mathlib.Omega.{arith}
use lib.Dec.{ltb, eqb}
use lib.ListN.{length, take, drop, get_or, length-append, length-drop}
use lib.Seq.{length-take-le, take_at, get_or_at, take-take, split_at, take-append-le, drop-append-le, drop-append-add}
use borrow.Author.Tests.{eqb-true, eq-eqb, ltb-true, lt-ltb}
use Rattle.frames.specs.declared.table.Frame.{Frame}
use Rattle.digits.specs.Digit.{all_legal}
use Rattle.digits.specs.Number.{number}
use Rattle.frames.specs.Table.{kind_of, width_of, field_start, length_of, LF}
use Rattle.frameread.specs.Line.{line, after, closed, formed, field_of}
use Rattle.laws.specs.Same.{same}
use Rattle.laws.proofs.Tests.{and_left, and_right, and_both, same_test}
use Rattle.digits.proofs.Digits.{legal_take, legal_drop}
use Rattle.digits.proofs.Numbers.{number_below}
use Rattle.frames.proofs.Tables.{field_within}
use Rattle.frameread.proofs.Cuts.{line_cut, closed_cut, closed_split}
use Rattle.laws.proofs.SameLaws.{same_equal, equal_same}

-- what a formed text has: its first line is closed, at its length, of its kind and legal
module _ (frame : Frame) (text : List ℕ) (f : formed frame text ≡ true) where
  pub formed_closed : closed text ≡ true
  unfolding formed
  formed_closed = and_left (closed text) _ f

  rest₁ : (eqb (length (line text)) (length_of frame) && (same (take 2 (line text)) (kind_of frame) && all_legal (line text))) ≡ true
  unfolding formed
  rest₁ = and_right (closed text) _ f

  rest₂ : (same (take 2 (line text)) (kind_of frame) && all_legal (line text)) ≡ true
  rest₂ = and_right (eqb (length (line text)) (length_of frame)) _ rest₁

  pub formed_size : length (line text) ≡ length_of frame
  formed_size = eqb-true (length (line text)) (length_of frame) (and_left (eqb (length (line text)) (length_of frame)) _ rest₁)

  pub line_kind : take 2 (line text) ≡ kind_of frame
  line_kind = same_equal (take 2 (line text)) (kind_of frame) (and_left (same (take 2 (line text)) (kind_of frame)) (all_legal (line text)) rest₂)

  pub formed_legal : all_legal (line text) ≡ true
  formed_legal = and_right (same (take 2 (line text)) (kind_of frame)) (all_legal (line text)) rest₂

  pub formed_text : text ≡ line text ++ (LF ∷ after text)
  formed_text = closed_split text formed_closed

  -- the line and its LF stand at the start of the text
  pub formed_length : length_of frame + 1 ≤ length text
  formed_length = omega (arith, ap length formed_text, length-append (line text) (LF ∷ after text), formed_size)

  pub formed_line : line text ≡ take (length_of frame) text
  formed_line = sym (ap (take (length_of frame)) formed_text ∙ take_at (line text) (LF ∷ after text) (length_of frame) formed_size)

  pub formed_end : get_or text (length_of frame) 0 ≡ LF
  formed_end = ap (λ (l : List ℕ). get_or l (length_of frame) 0) formed_text ∙ get_or_at (line text) LF (after text) 0 (length_of frame) formed_size

  pub formed_after : after text ≡ drop (length_of frame + 1) text
  formed_after =
      sym
      (ap (drop (length_of frame + 1)) formed_text
      ∙ ap (λ (n : ℕ). drop (n + 1) (line text ++ (LF ∷ after text))) (sym formed_size)
      ∙ drop-append-add (line text) (LF ∷ after text) 1)

  -- a field's digits stand in the text itself
  pub formed_part : (field : ℕ)
      → take (width_of frame field) (drop (field_start frame field) (line text)) ≡ take (width_of frame field) (drop (field_start frame field) text)
  formed_part field =
      sym
      (ap (λ (l : List ℕ). take (width_of frame field) (drop (field_start frame field) l)) formed_text
      ∙ ap (take (width_of frame field)) (drop-append-le (field_start frame field) (line text) (LF ∷ after text) (omega (arith, field_within frame field, formed_size)))
      ∙ take-append-le (width_of frame field) (drop (field_start frame field) (line text)) (LF ∷ after text)
      (omega (arith, field_within frame field, formed_size, length-drop (field_start frame field) (line text))))

  pub formed_field : (field : ℕ) → field_of frame field text ≡ number (take (width_of frame field) (drop (field_start frame field) text))
  unfolding field_of
  formed_field field = ap number (formed_part field)

  pub field_legal : (field : ℕ) → all_legal (take (width_of frame field) (drop (field_start frame field) (line text))) ≡ true
  field_legal field = legal_take (width_of frame field) (drop (field_start frame field) (line text)) (legal_drop (field_start frame field) (line text) formed_legal)

  pub field_size : (field : ℕ) → length (take (width_of frame field) (drop (field_start frame field) (line text))) ≡ width_of frame field
  field_size field =
      length-take-le (width_of frame field) (drop (field_start frame field) (line text))
      (omega (arith, field_within frame field, formed_size, length-drop (field_start frame field) (line text)))

  -- a field's value fits its width
  pub field_below : (field : ℕ) → field_of frame field text < 16 ^ width_of frame field
  unfolding field_of
  field_below field =
      subst (λ (n : ℕ). number (take (width_of frame field) (drop (field_start frame field) (line text))) < 16 ^ n) (field_size field)
      (number_below (take (width_of frame field) (drop (field_start frame field) (line text))) (field_legal field))

-- digits of the right kind and length, with an LF behind, are formed whatever follows
pub made_formed : (frame : Frame) (ds rest : List ℕ) → length ds ≡ length_of frame → take 2 ds ≡ kind_of frame
    → all_legal ds ≡ true → formed frame (ds ++ (LF ∷ rest)) ≡ true
unfolding formed
made_formed frame ds rest n k l =
    and_both (closed_cut ds rest)
    (and_both
    (eq-eqb _ _ (ap length (line_cut ds rest l) ∙ n))
    (and_both
    (ap (λ (x : List ℕ). same (take 2 x) (kind_of frame)) (line_cut ds rest l) ∙ ap (λ (x : List ℕ). same x (kind_of frame)) k ∙ equal_same (kind_of frame))
    (ap all_legal (line_cut ds rest l) ∙ l)))

-- the test that a program makes: enough bytes, the LF at its place, the kind, and legal digits before the LF
abbrev pub shaped : Frame → List ℕ → Bool
shaped frame text =
    ltb (length_of frame) (length text) &&
    (eqb (get_or text (length_of frame) 0) LF &&
    (same (take 2 text) (kind_of frame) && all_legal (take (length_of frame) text)))

pub formed_same : (frame : Frame) (text : List ℕ) → formed frame text ≡ true → same (take 2 text) (kind_of frame) ≡ true
formed_same frame text f =
    ap (λ (l : List ℕ). same l (kind_of frame))
    (sym (take-take 2 (length_of frame) text (omega arith)) ∙ ap (take 2) (sym (formed_line frame text f)) ∙ line_kind frame text f)
    ∙ equal_same (kind_of frame)

formed_shaped : (frame : Frame) (text : List ℕ) → formed frame text ≡ true → shaped frame text ≡ true
formed_shaped frame text f =
    and_both (lt-ltb (length_of frame) (length text) (omega (arith, formed_length frame text f)))
    (and_both (eq-eqb _ LF (formed_end frame text f))
    (and_both (formed_same frame text f)
    (ap all_legal (sym (formed_line frame text f)) ∙ formed_legal frame text f)))

shaped_formed : (frame : Frame) (text : List ℕ) → shaped frame text ≡ true → formed frame text ≡ true
shaped_formed frame text s =
    ap (formed frame) whole
    ∙ made_formed frame (take (length_of frame) text) (drop (suc (length_of frame)) text) (length-take-le (length_of frame) text (omega (arith, long))) kind digits
  where
    s₁ : (eqb (get_or text (length_of frame) 0) LF && (same (take 2 text) (kind_of frame) && all_legal (take (length_of frame) text))) ≡ true
    s₁ = and_right (ltb (length_of frame) (length text)) _ s

    s₂ : (same (take 2 text) (kind_of frame) && all_legal (take (length_of frame) text)) ≡ true
    s₂ = and_right (eqb (get_or text (length_of frame) 0) LF) _ s₁

    long : length_of frame < length text
    long = ltb-true (length_of frame) (length text) (and_left (ltb (length_of frame) (length text)) _ s)

    ends : get_or text (length_of frame) 0 ≡ LF
    ends = eqb-true (get_or text (length_of frame) 0) LF (and_left (eqb (get_or text (length_of frame) 0) LF) _ s₁)

    kind : take 2 (take (length_of frame) text) ≡ kind_of frame
    kind = take-take 2 (length_of frame) text (omega arith) ∙ same_equal (take 2 text) (kind_of frame) (and_left (same (take 2 text) (kind_of frame)) _ s₂)

    digits : all_legal (take (length_of frame) text) ≡ true
    digits = and_right (same (take 2 text) (kind_of frame)) _ s₂

    whole : text ≡ take (length_of frame) text ++ (LF ∷ drop (suc (length_of frame)) text)
    whole = split_at text (length_of frame) 0 long ∙ ap (λ (v : ℕ). take (length_of frame) text ++ (v ∷ drop (suc (length_of frame)) text)) ends

-- a text is formed exactly when the program's test passes
pub formed_is : (frame : Frame) (text : List ℕ) → formed frame text ≡ shaped frame text
formed_is frame text = same_test (formed frame text) (shaped frame text) (formed_shaped frame text) (shaped_formed frame text)

-- a text is formed for frames of one kind only
pub formed_kinds : (f g : Frame) (text : List ℕ) → formed f text ≡ true → formed g text ≡ true → kind_of f ≡ kind_of g
formed_kinds f g text p q = sym (line_kind f text p) ∙ line_kind g text q

-- Laws of several lines of a frame, one behind the other: their length, one line more, lines of joined values, and how they are put.
-- Assumes nothing.
use Prim.Native.Nat.{ℕ, zero, suc, ◌+◌, ◌*◌, ◌≤◌, ◌<◌}
use mathlib.Core.Path.{◌≡◌, refl, sym, ◌∙◌, ap, ap₂}
use mathlib.Core.List.{List, [], ◌∷◌, ◌++◌, append_assoc, append-nil}
use native.Mathlib.Nat.{suc-mul, mul-le-mul_right}
use native.Mathlib.Numerals.{add-one}
use native.Mathlib.Omega.{arith}
use lib.ListN.{length, drop, length-append}
use lib.Seq.{drop-drop, drop_at}
use Rattle.digits.specs.Number.{hex}
use Rattle.digits.specs.Stored.{stored}
use Rattle.digits.proofs.Stored.{stored_nil, stored_stored}
use Rattle.frames.specs.declared.table.Frame.{Frame}
use Rattle.frames.specs.Table.{kind_of, widths_of, fields_in, length_of, LF}
use Rattle.framewrite.specs.Line.{fields, line_of}
use Rattle.framelines.specs.Lines.{lines_of, joined}
use Rattle.framewrite.proofs.LineLaws.{line_length}

-- the bytes of n lines
pub lines_length : (frame : Frame) (values : List ℕ) (n : ℕ) → length (lines_of frame values n) ≡ n * (length_of frame + 1)
unfolding lines_of
lines_length frame values zero = omega arith
lines_length frame values (suc n) =
    length-append (line_of frame values) (lines_of frame (drop (fields_in frame) values) n)
    ∙ omega (arith, line_length frame values, lines_length frame (drop (fields_in frame) values) n, suc-mul n (length_of frame + 1))

-- one line more stands behind those before it
pub lines_next : (frame : Frame) (values : List ℕ) (n : ℕ)
    → lines_of frame values (suc n) ≡ lines_of frame values n ++ line_of frame (drop (n * fields_in frame) values)
unfolding lines_of
lines_next frame values zero = append-nil (line_of frame values) ∙ ap (λ (k : ℕ). line_of frame (drop k values)) none
  where
    none : 0 ≡ 0 * fields_in frame
    none = omega arith
lines_next frame values (suc n) =
    ap (λ (l : List ℕ). line_of frame values ++ l) (lines_next frame (drop (fields_in frame) values) n)
    ∙ sym (append_assoc (line_of frame values) _ _)
    ∙ ap (λ (l : List ℕ). lines_of frame values (suc n) ++ line_of frame l) (drop-drop (n * fields_in frame) (fields_in frame) values ∙ ap (λ (k : ℕ). drop k values) next)
  where
    next : fields_in frame + n * fields_in frame ≡ suc n * fields_in frame
    next = omega (arith, suc-mul n (fields_in frame))

-- values behind a line's own write nothing
fields_front : (ws vs rest : List ℕ) → length vs ≡ length ws → fields ws (vs ++ rest) ≡ fields ws vs
unfolding fields
fields_front [] vs rest e = refl
fields_front (w ∷ ws) [] rest e = absurd (omega arith)
fields_front (w ∷ ws) (v ∷ vs) rest e = ap (λ (l : List ℕ). hex w v ++ l) (fields_front ws vs rest (omega arith))

pub line_front : (frame : Frame) (values rest : List ℕ) → length values ≡ fields_in frame → line_of frame (values ++ rest) ≡ line_of frame values
unfolding line_of
line_front frame values rest e = ap (λ (l : List ℕ). kind_of frame ++ (l ++ (LF ∷ []))) (fields_front (widths_of frame) values rest e)

-- values of one length each, joined
pub joined_length : (f : ℕ → List ℕ) (k : ℕ) → ((j : ℕ) → length (f j) ≡ k) → (n : ℕ) → length (joined f n) ≡ n * k
unfolding joined
joined_length f k each zero = omega arith
joined_length f k each (suc n) = length-append (joined f n) (f (suc n)) ∙ omega (arith, joined_length f k each n, each (suc n), suc-mul n k)

-- the lines of joined values are the joined lines
pub lines_joined : (frame : Frame) (f : ℕ → List ℕ) → ((j : ℕ) → length (f j) ≡ fields_in frame) → (n : ℕ) (rest : List ℕ)
    → lines_of frame (joined f n ++ rest) n ≡ joined (λ (k : ℕ). line_of frame (f k)) n
unfolding lines_of joined
lines_joined frame f each zero rest = refl
lines_joined frame f each (suc n) rest =
    ap (λ (l : List ℕ). lines_of frame l (suc n)) (append_assoc (joined f n) (f (suc n)) rest)
    ∙ lines_next frame (joined f n ++ (f (suc n) ++ rest)) n
    ∙ ap₂ ◌++◌ (lines_joined frame f each n (f (suc n) ++ rest))
    (ap (line_of frame) (drop_at (joined f n) (f (suc n) ++ rest) (n * fields_in frame) (joined_length f (fields_in frame) each n))
    ∙ line_front frame (f (suc n)) rest (each (suc n)))

-- the first i of n lines are put at a place of a buffer, the rest of it as before; the next line and its values start there
pub record Put (frame : Frame) (b : List ℕ) (at : ℕ) (values : List ℕ) (n : ℕ) (out : List ℕ) (next from i : ℕ) : Type 0 where
  pub within : i ≤ n
  pub there : next ≡ at + i * (length_of frame + 1)
  pub taken : from ≡ i * fields_in frame
  pub same : length out ≡ length b
  pub holds : out ≡ stored b at (lines_of frame values i)

-- before the first line nothing is put
pub put_none : (frame : Frame) (b : List ℕ) (at : ℕ) (values : List ℕ) (n : ℕ) → Put frame b at values n b at 0 0
unfolding lines_of
put_none frame b at values n =
    record { within = omega arith; there = omega arith; taken = omega arith; same = refl; holds = sym (stored_nil b at) }

module _ {frame : Frame} {b : List ℕ} {at : ℕ} {values : List ℕ} {n : ℕ} {out : List ℕ} {next from i : ℕ} (put : Put frame b at values n out next from i) where
  -- there is room for the next line, and its values are there
  pub put_room : i < n → at + n * (length_of frame + 1) ≤ length b → next + (length_of frame + 1) ≤ length b
  put_room h fits = omega (arith, put.there, suc-mul i (length_of frame + 1), mul-le-mul_right (length_of frame + 1) h)

  pub put_values : i < n → n * fields_in frame ≤ length values → from + fields_in frame ≤ length values
  put_values h enough = omega (arith, put.taken, suc-mul i (fields_in frame), mul-le-mul_right (fields_in frame) h)

  -- the next line, put right behind those before it
  pub put_next : {left : List ℕ} {next' from' : ℕ} → i < n → at + n * (length_of frame + 1) ≤ length b
      → left ≡ stored out next (line_of frame (drop from values)) → length left ≡ length out
      → next' ≡ next + (length_of frame + 1) → from' ≡ from + fields_in frame
      → Put frame b at values n left next' from' (i + 1)
  put_next {left} h fits e same ends on = record {
    within = omega arith;
    there = omega (arith, ends, put.there, suc-mul i (length_of frame + 1));
    taken = omega (arith, on, put.taken, suc-mul i (fields_in frame));
    same = same ∙ put.same;
    holds = e ∙ ap (λ (o : List ℕ). stored o next (line_of frame (drop from values))) put.holds ∙ ap₂ (λ (j k : ℕ). stored (stored b at (lines_of frame values i)) j (line_of frame (drop k values))) (put.there ∙ ap (λ (m : ℕ). at + m) (sym (lines_length frame values i))) put.taken ∙ stored_stored b at (lines_of frame values i) (line_of frame (drop (i * fields_in frame) values)) (omega (arith, lines_length frame values i, line_length frame (drop (i * fields_in frame) values), put.there, put_room h fits)) ∙ ap (stored b at) (sym (lines_next frame values i) ∙ ap (lines_of frame values) (sym (add-one i)));
  }

  pub put_all : n ≤ i → out ≡ stored b at (lines_of frame values n)
  put_all h = put.holds ∙ ap (λ (m : ℕ). stored b at (lines_of frame values m)) (omega (arith, put.within))

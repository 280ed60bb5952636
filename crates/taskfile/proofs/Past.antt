-- Laws of the text past so many lines: where it is empty it stays so, it shrinks with each line, and a formed line is passed by its length.
use Prim.Native.Nat.{ℕ, zero, suc, ◌+◌, ◌-◌, ◌≤◌}
use native.Mathlib.Omega.{arith}
use native.Mathlib.Nat.{add-zero, add-suc, le_refl}
use mathlib.Core.List.{List, [], ◌∷◌}
use mathlib.Core.Bool.{Bool, true, false, cond}
use mathlib.Core.Path.{◌≡◌, refl, ap, ◌∙◌, subst}
use lib.ListN.{length, drop, length-drop}
use lib.Seq.{drop-drop}
use lib.Dec.{eqb}
use Rattle.frameread.specs.Line.{after, formed}
use Rattle.frames.specs.Table.{LF, length_of}
use Rattle.frames.specs.declared.table.Frame.{Frame}
use Rattle.taskfile.specs.File.{past}
use Rattle.frameread.proofs.Formed.{formed_length, formed_after}

-- what follows the first of n + m lines
pub past_add : (n m : ℕ) (text : List ℕ) → past (n + m) text ≡ past m (past n text)
unfolding past
past_add n zero text = rw add-zero refl
past_add n (suc m) text = rw (add-suc, past_add n m text) refl

pub past_nil : (n : ℕ) → past n [] ≡ []
unfolding past after
past_nil zero = refl
past_nil (suc n) = rw (past_nil n) refl

-- a line that is absent stays absent
pub absent_stays : (n m : ℕ) (text : List ℕ) → past n text ≡ [] → past (n + m) text ≡ []
absent_stays n m text h = past_add n m text ∙ ap (past m) h ∙ past_nil m

pub absent_later : (n m : ℕ) (text : List ℕ) → n ≤ m → past n text ≡ [] → past m text ≡ []
absent_later n m text le h =
    let e : n + (m - n) ≡ m = omega arith in
    subst (λ (k : ℕ). past k text ≡ []) e (absent_stays n (m - n) text h)

-- what follows a line is shorter than the text
after_le : (text : List ℕ) → length (after text) ≤ length text
unfolding after
after_le [] = le_refl 0
after_le (b ∷ bs) = picked (eqb b LF) bs (after bs) (after_le bs)
  where
    picked : (t : Bool) (xs ys : List ℕ) → length ys ≤ length xs → length (cond t xs ys) ≤ suc (length xs)
    picked true xs ys h = omega arith
    picked false xs ys h = omega arith

pub after_shorter : (b : ℕ) (bs : List ℕ) → length (after (b ∷ bs)) ≤ length bs
unfolding after
after_shorter b bs = picked (eqb b LF) bs (after bs) (after_le bs)
  where
    picked : (t : Bool) (xs ys : List ℕ) → length ys ≤ length xs → length (cond t xs ys) ≤ length xs
    picked true xs ys h = le_refl (length xs)
    picked false xs ys h = h

-- each line takes a byte at least
pub past_shorter : (n : ℕ) (text : List ℕ) → length (past n text) ≤ length text - n
unfolding past after
past_shorter zero text = omega arith
past_shorter (suc n) text = one (past n text) (past_shorter n text)
  where
    one : (rest : List ℕ) → length rest ≤ length text - n → length (after rest) ≤ length text - suc n
    one [] h = omega arith
    one (b ∷ bs) h = let s : length (after (b ∷ bs)) ≤ length bs = after_shorter b bs in omega arith

pub nothing_left : (rest : List ℕ) → length rest ≤ 0 → rest ≡ []
nothing_left [] h = refl
nothing_left (b ∷ bs) h = absurd (omega arith)

-- a text has no more lines than bytes
pub absent_past : (n : ℕ) (text : List ℕ) → length text ≤ n → past n text ≡ []
absent_past n text h =
    let s : length (past n text) ≤ length text - n = past_shorter n text in
    nothing_left (past n text) (omega arith)

-- a formed line at the cursor is passed by its length and its LF
pub past_formed : (frame : Frame) (text : List ℕ) (k at : ℕ) → past k text ≡ drop at text → at ≤ length text → formed frame (drop at text) ≡ true → (past (suc k) text ≡ drop (at + (length_of frame + 1)) text) × (at + (length_of frame + 1) ≤ length text)
unfolding past
past_formed frame text k at rest within f = (
  ap after rest
      ∙ formed_after frame (drop at text) f
      ∙ drop-drop (length_of frame + 1) at text,
  omega (arith, formed_length frame (drop at text) f, length-drop at text),
)

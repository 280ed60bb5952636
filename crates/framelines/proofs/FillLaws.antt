-- Laws of figures that are filled in line by line, and of the lines that are written of them.
-- Assumes nothing.
use Prim.Native.Nat.{ℕ, ◌+◌, ◌*◌, ◌≤◌, ◌<◌}
use mathlib.Core.Path.{◌≡◌, sym, ◌∙◌, ap, ap₂}
use mathlib.Core.List.{List, ◌++◌}
use native.Mathlib.Nat.{suc-mul, mul-le-mul_right}
use native.Mathlib.Numerals.{add-one}
use native.Mathlib.Omega.{arith}
use lib.ListN.{length, replicate, length-replicate}
use Rattle.digits.specs.Stored.{stored}
use Rattle.digits.proofs.Stored.{stored_stored, stored_nil, stored_length}
use Rattle.frames.specs.Table.{fields_in}
use Rattle.framewrite.specs.Line.{line_of}
use Rattle.framelines.specs.Lines.{lines_of, joined}
use Rattle.frames.specs.declared.table.Frame.{Frame}
use Rattle.framelines.proofs.LinesLaws.{joined_length, lines_joined}
use Rattle.framelines.specs.Figures.{filled}

pub joined_next : (f : ℕ → List ℕ) (i : ℕ) → joined f (i + 1) ≡ joined f i ++ f (i + 1)
unfolding joined
joined_next f i = rw add-one

-- the figures of the first i of so many lines are filled in
pub record Filled (f : ℕ → List ℕ) (size count : ℕ) (values : List ℕ) (i : ℕ) : Type 0 where
  pub within : i ≤ count
  pub holds : values ≡ filled size f i
  pub same : length values ≡ size

pub filled_none : (f : ℕ → List ℕ) (size count : ℕ) → Filled f size count (replicate size 0) 0
unfolding filled joined
filled_none f size count = record { within = omega arith; holds = sym (stored_nil _ 0); same = length-replicate {A = ℕ} size 0 }

module _ (f : ℕ → List ℕ) (k : ℕ) (each : (j : ℕ) → length (f j) ≡ k) {size count : ℕ} (fits : count * k ≤ size) where
  -- there is room for the next line's figures
  pub filled_room : {i : ℕ} → i < count → k * i + k ≤ size
  filled_room {i} h = omega (arith, suc-mul i k, mul-le-mul_right k h)

  -- the next line's figures, right behind those before them
  pub filled_next : {values left : List ℕ} {i : ℕ} → Filled f size count values i → i < count → left ≡ stored values (k * i) (f (i + 1)) → length left ≡ length values → Filled f size count left (i + 1)
  unfolding filled
  filled_next {values} {left} {i} so h step same =
      record { within = omega arith; holds = step ∙ ap₂ (λ (o : List ℕ) (n : ℕ). stored o n (f (i + 1))) so.holds place ∙ behind; same = same ∙ so.same }
    where
      front : length (joined f i) ≡ i * k
      front = joined_length f k each i

      place : k * i ≡ 0 + length (joined f i)
      place = omega (arith, front)

      behind : stored (stored (replicate size 0) 0 (joined f i)) (0 + length (joined f i)) (f (i + 1)) ≡ stored (replicate size 0) 0 (joined f (i + 1))
      behind =
          stored_stored (replicate size 0) 0 (joined f i) (f (i + 1)) (omega (arith, front, each (i + 1), filled_room h, length-replicate {A = ℕ} size 0))
          ∙ ap (stored (replicate size 0) 0) (sym (joined_next f i))

  pub filled_all : {values : List ℕ} {i : ℕ} → Filled f size count values i → count ≤ i → values ≡ filled size f count
  filled_all so h = so.holds ∙ ap (filled size f) (omega (arith, so.within))

-- they are so many numbers
pub filled_length : (f : ℕ → List ℕ) (k : ℕ) → ((j : ℕ) → length (f j) ≡ k) → (size count : ℕ) → count * k ≤ size → length (filled size f count) ≡ size
unfolding filled
filled_length f k each size count fits =
    stored_length (replicate size 0) 0 (joined f count) (omega (arith, joined_length f k each count, length-replicate {A = ℕ} size 0))
    ∙ length-replicate {A = ℕ} size 0

-- the lines of figures that are filled in
pub lines_filled : (frame : Frame) (f : ℕ → List ℕ) → ((j : ℕ) → length (f j) ≡ fields_in frame) → (size n : ℕ)
    → lines_of frame (filled size f n) n ≡ joined (λ (k : ℕ). line_of frame (f k)) n
unfolding filled stored
lines_filled frame f each size n = lines_joined frame f each n _

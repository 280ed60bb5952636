-- Laws of a line for each of a list: none, one more, their length, and the lines that are written of their figures.
-- Assumes nothing.
use Prim.Native.Nat.{ℕ, zero, suc, ◌+◌, ◌*◌, ◌≤◌, ◌<◌}
use mathlib.Core.Path.{◌≡◌, refl, sym, ◌∙◌, ap, ap₂}
use mathlib.Core.List.{List, [], ◌∷◌, ◌++◌, append_assoc, append-nil}
use native.Mathlib.Nat.{suc-mul, add-sub_cancel}
use native.Mathlib.Numerals.{add-one}
use native.Mathlib.Omega.{arith}
use lib.ListN.{length, take, get_or, length-append}
use lib.Seq.{take-suc}
use Rattle.frames.specs.Table.{fields_in, length_of}
use Rattle.frames.specs.declared.table.Frame.{Frame}
use Rattle.framewrite.specs.Line.{line_of}
use Rattle.framewrite.proofs.LineLaws.{line_length}
use Rattle.framelines.specs.Lines.{lines_of, joined}
use Rattle.framelines.specs.Figures.{filled}
use Rattle.framelines.specs.Each.{each_line, each_figures}
use Rattle.framelines.proofs.FillLaws.{filled_length, lines_filled}

module _ {A : Type 0} (line : A → List ℕ) where
  pub each_nil : each_line line [] ≡ []
  unfolding each_line
  each_nil = refl

  pub each_cons : (x : A) (xs : List A) → each_line line (x ∷ xs) ≡ line x ++ each_line line xs
  unfolding each_line
  each_cons x xs = refl

  pub each_append : (xs ys : List A) → each_line line (xs ++ ys) ≡ each_line line xs ++ each_line line ys
  unfolding each_line
  each_append [] ys = refl
  each_append (x ∷ xs) ys = ap (λ (l : List ℕ). line x ++ l) (each_append xs ys) ∙ sym (append_assoc (line x) (each_line line xs) (each_line line ys))

  -- the line of one
  pub each_one : (x : A) → each_line line (x ∷ []) ≡ line x
  unfolding each_line
  each_one x = append-nil (line x)

  -- one more of a list
  pub each_next : (none : A) (xs : List A) (i : ℕ) → i < length xs → each_line line (take (suc i) xs) ≡ each_line line (take i xs) ++ line (get_or xs i none)
  each_next none xs i h =
      ap (each_line line) (take-suc xs i none h)
      ∙ each_append (take i xs) (get_or xs i none ∷ [])
      ∙ ap (λ (l : List ℕ). each_line line (take i xs) ++ l) (each_one (get_or xs i none))

  -- the first i of n have no more bytes
  pub each_front : (xs : List A) (i n : ℕ) → i ≤ n → length (each_line line (take i xs)) ≤ length (each_line line (take n xs))
  unfolding each_line
  each_front xs zero n h = omega arith
  each_front xs (suc i) zero h = absurd (omega arith)
  each_front [] (suc i) (suc n) h = omega arith
  each_front (x ∷ xs) (suc i) (suc n) h = simp length-append (omega (arith, each_front xs i n (omega arith)))

  -- no line is longer than this
  pub each_most : (most : ℕ) → ((x : A) → length (line x) ≤ most) → (xs : List A) → length (each_line line xs) ≤ length xs * most
  unfolding each_line
  each_most most short [] = omega arith
  each_most most short (x ∷ xs) = simp length-append (omega (arith, short x, each_most most short xs, suc-mul (length xs) most))

-- lines of one kind
module _ {A : Type 0} (frame : Frame) (values : A → List ℕ) where
  abbrev kind_line : A → List ℕ
  kind_line x = line_of frame (values x)

  pub each_length : (xs : List A) → length (each_line kind_line xs) ≡ length xs * (length_of frame + 1)
  unfolding each_line
  each_length [] = omega arith
  each_length (x ∷ xs) =
      length-append (kind_line x) (each_line kind_line xs)
      ∙ omega (arith, line_length frame (values x), each_length xs, suc-mul (length xs) (length_of frame + 1))

  -- the figures of the line of place i, from 0
  module _ (none : A) (xs : List A) where
    pub figures_at_lem : (i : ℕ) → values (get_or xs i none) ≡ each_figures values none xs (i + 1)
    unfolding each_figures
    figures_at_lem i = rw (add-sub_cancel i 1)

    -- the lines of the figures of the first n are the lines of the first n
    figures_joined : (n : ℕ) → n ≤ length xs → joined (λ (k : ℕ). line_of frame (each_figures values none xs k)) n ≡ each_line kind_line (take n xs)
    unfolding joined
    figures_joined zero h = sym (each_nil kind_line)
    figures_joined (suc n) h =
        ap₂ ◌++◌ (figures_joined n (omega arith)) (sym (ap (line_of frame) (figures_at_lem n ∙ ap (each_figures values none xs) (add-one n))))
        ∙ sym (each_next kind_line none xs n h)

    -- each has as many figures as its line has fields
    module _ (sized : (x : A) → length (values x) ≡ fields_in frame) where
      pub figures_each : (k : ℕ) → length (each_figures values none xs k) ≡ fields_in frame
      unfolding each_figures
      figures_each k = sized _

      pub figures_lines : (size n : ℕ) → n ≤ length xs → lines_of frame (filled size (each_figures values none xs) n) n ≡ each_line kind_line (take n xs)
      figures_lines size n h = lines_filled frame (each_figures values none xs) figures_each size n ∙ figures_joined n h

      pub figures_length : (size n : ℕ) → n * fields_in frame ≤ size → length (filled size (each_figures values none xs) n) ≡ size
      figures_length size n h = filled_length (each_figures values none xs) (fields_in frame) figures_each size n h

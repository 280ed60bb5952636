-- Laws of the frame whose line a text starts with.
-- Assumes nothing.
use Rattle.std.specs.Prelude.{None, Some}
use Prim.Native.Nat.{ℕ, zero, suc, ◌+◌, ◌≤◌, ◌<◌}
use mathlib.Core.Path.{◌≡◌, refl, sym, ◌∙◌, ap}
use mathlib.Core.Bool.{Bool, true, false, cond}
use mathlib.Core.List.{List, [], ◌∷◌, map}
use native.Mathlib.Numerals.{add-one}
use lib.Dec.{eqb}
use lib.ListN.{length, drop, get_or, drop_of_length-le}
use lib.Seq.{drop-cons}
use borrow.Author.Tests.{eq-eqb}
use Rattle.frames.specs.declared.table.Frame.{Frame}
use Rattle.frames.specs.Table.{all_frames, index_of}
use Rattle.frameread.specs.Line.{formed, first_formed, kind_at}
use Rattle.laws.proofs.Tests.{never_true, true_false}
use Rattle.frames.proofs.Tables.{at_index, kinds_differ}
use Rattle.frameread.proofs.Formed.{formed_kinds}

-- a text starts with a line of one frame only
pub one_frame : (f g : Frame) (text : List ℕ) → formed f text ≡ true → formed g text ≡ true → f ≡ g
one_frame f g text p q = kinds_differ f g (formed_kinds f g text p q)

-- so a text that is formed for one frame is formed for no other
pub not_formed : (f g : Frame) → eqb (index_of f) (index_of g) ≡ false → (text : List ℕ) → formed f text ≡ true → formed g text ≡ false
not_formed f g differ text p =
    never_true (formed g text)
    (λ (q : formed g text ≡ true). true_false (sym (eq-eqb (index_of f) (index_of g) (ap index_of (one_frame f g text p q))) ∙ differ))

first_formed_lem : (fs : List Frame) (text : List ℕ) (f : Frame) → first_formed fs text ≡ Some f → formed f text ≡ true
unfolding first_formed
first_formed_lem [] text f p = cc
first_formed_lem (g ∷ gs) text f p = go (formed g text) refl p (first_formed_lem gs text f)
  where
    go : (t : Bool) → formed g text ≡ t → cond t (Some g) (first_formed gs text) ≡ Some f
        → (first_formed gs text ≡ Some f → formed f text ≡ true) → formed f text ≡ true
    go true e q later = cc
    go false e q later = later q

first_none : (fs : List Frame) (text : List ℕ) → first_formed fs text ≡ None
    → (k : ℕ) → get_or (map (λ (f : Frame). formed f text) fs) k false ≡ false
unfolding first_formed
first_none [] text p k = refl
first_none (g ∷ gs) text p k = go (formed g text) refl p (first_none gs text) k
  where
    go : (t : Bool) → formed g text ≡ t → cond t (Some g) (first_formed gs text) ≡ None
        → (first_formed gs text ≡ None → (j : ℕ) → get_or (map (λ (f : Frame). formed f text) gs) j false ≡ false)
        → (j : ℕ) → get_or (formed g text ∷ map (λ (f : Frame). formed f text) gs) j false ≡ false
    go true e q later j = cc
    go false e q later zero = e
    go false e q later (suc j) = later q j

-- the frame found is formed
pub kind_formed : (f : Frame) (text : List ℕ) → kind_at text ≡ Some f → formed f text ≡ true
unfolding kind_at
kind_formed f text p = first_formed_lem all_frames text f p

-- where none is found, no frame is formed
pub kind_none : (text : List ℕ) → kind_at text ≡ None → (f : Frame) → formed f text ≡ false
unfolding kind_at
kind_none text p f = sym (at_index (λ (g : Frame). formed g text) false f) ∙ first_none all_frames text p (index_of f)

-- the search from one frame on: it ends there, or goes on behind it
module _ (fs : List Frame) (text : List ℕ) (i : ℕ) (d : Frame) (h : i < length fs) where
  next : drop i fs ≡ get_or fs i d ∷ drop (i + 1) fs
  next = drop-cons fs i d h ∙ ap (λ (n : ℕ). get_or fs i d ∷ drop n fs) (sym (add-one i))

  pub search_found : formed (get_or fs i d) text ≡ true → first_formed (drop i fs) text ≡ Some (get_or fs i d)
  unfolding first_formed
  search_found p = ap (λ (l : List Frame). first_formed l text) next ∙ rw p

  pub search_next : formed (get_or fs i d) text ≡ false → first_formed (drop i fs) text ≡ first_formed (drop (i + 1) fs) text
  unfolding first_formed
  search_next p = ap (λ (l : List Frame). first_formed l text) next ∙ rw p

pub search_over : (fs : List Frame) (text : List ℕ) (i : ℕ) → length fs ≤ i → first_formed (drop i fs) text ≡ None
unfolding first_formed
search_over fs text i h = ap (λ (l : List Frame). first_formed l text) (drop_of_length-le fs h)

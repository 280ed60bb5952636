-- Laws of padded lists: how many places, the front, one element more; and of places that are filled in order.
use Prim.Native.Nat.{ℕ, zero, suc, ◌+◌, ◌-◌, ◌≤◌, ◌<◌}
use native.Mathlib.Decide.{dec_lt}
use native.Mathlib.Numerals.{add-one}
use native.Mathlib.Omega.{arith}
use mathlib.Core.Path.{◌≡◌, refl, sym, ap, ◌∙◌}
use mathlib.Core.List.{List, [], ◌∷◌, ◌++◌}
use lib.ListN.{length, set, take, get_or, replicate, length-append, length-replicate, get_or-append}
use lib.Seq.{append_snoc, set-append_seam, take_at, get_or-append_seam}
use Rattle.tasks.specs.Set.{most_tasks}
use Rattle.places.specs.Padded.{pad_with, padded, up_to}

module _ {A : Type 0} (filler : A) where
  -- there are most_tasks places
  pub pad_length : (xs : List A) → length xs ≤ most_tasks → length (pad_with filler xs) ≡ most_tasks
  pad_length xs h = length-append xs (replicate (most_tasks - length xs) filler) ∙ omega (arith, length-replicate {A = A} (most_tasks - length xs) filler)

  -- the elements stand at the front
  pub pad_take : (xs : List A) (n : ℕ) → length xs ≡ n → take n (pad_with filler xs) ≡ xs
  pad_take xs n e = take_at xs (replicate (most_tasks - length xs) filler) n e

  -- and so each of them
  pub pad_at : (xs : List A) (i : ℕ) (d : A) → i < length xs → get_or (pad_with filler xs) i d ≡ get_or xs i d
  pad_at xs i d h = get_or-append xs (replicate (most_tasks - length xs) filler) d i h

  -- one element more goes into the first unused place
  pub pad_more : (xs : List A) (v : A) → length xs < most_tasks → set (pad_with filler xs) (length xs) v ≡ pad_with filler (xs ++ (v ∷ []))
  pad_more xs v h = rw (left, length-append xs (v ∷ [])) (set-append_seam xs filler rest v ∙ sym (append_snoc xs v rest))
    where
      rest : List A
      rest = replicate (most_tasks - (length xs + 1)) filler

      left : most_tasks - length xs ≡ suc (most_tasks - (length xs + 1))
      left = omega arith

-- the same of numbers
pub padded_length : (ns : List ℕ) → length ns ≤ most_tasks → length (padded ns) ≡ most_tasks
padded_length ns h = pad_length 0 ns h

pub padded_take : (ns : List ℕ) (n : ℕ) → length ns ≡ n → take n (padded ns) ≡ ns
padded_take ns n e = pad_take 0 ns n e

pub padded_more : (ns : List ℕ) (v : ℕ) → length ns < most_tasks → set (padded ns) (length ns) v ≡ padded (ns ++ (v ∷ []))
padded_more ns v h = pad_more 0 ns v h

module _ {A : Type 0} (f : ℕ → A) where
  -- f 1 to f n are n elements
  pub up_length : (n : ℕ) → length (up_to f n) ≡ n
  unfolding up_to
  up_length zero = refl
  up_length (suc n) = omega (arith, length-append (up_to f n) (f (suc n) ∷ []), up_length n)

  -- f (n + 1) comes next
  pub up_more : (n : ℕ) → up_to f (n + 1) ≡ up_to f n ++ (f (n + 1) ∷ [])
  unfolding up_to
  up_more n = rw (add-one n)

  -- f (i + 1) stands at place i
  pub up_there : (d : A) (n i : ℕ) → i < n → get_or (up_to f n) i d ≡ f (i + 1)
  unfolding up_to
  up_there d zero i h = absurd (omega arith)
  up_there d (suc n) i h =
      elim (dec_lt i n) [
        | yes before ↦ get_or-append (up_to f n) (f (suc n) ∷ []) d i (omega (arith, up_length n)) ∙ up_there d n i before
        | no past ↦
            let here : i ≡ n = omega (arith, past, h) in
            ap (λ (k : ℕ). get_or (up_to f n ++ (f (suc n) ∷ [])) k d) (here ∙ sym (up_length n))
            ∙ get_or-append_seam (up_to f n) (f (suc n)) [] d
            ∙ ap f (sym (add-one n) ∙ ap (λ (k : ℕ). k + 1) (sym here))
      ]

-- the same of numbers
pub up_at : (f : ℕ → ℕ) (n i : ℕ) → i < n → get_or (up_to f n) i 0 ≡ f (i + 1)
up_at f n i h = up_there f 0 n i h

-- the first n places of `out` are filled with f 1 to f n, the others with the filler
pub record FilledWith {A : Type 0} (filler : A) (f : ℕ → A) (n : ℕ) (out : List A) : Type 0 where
  pub few : n ≤ most_tasks
  pub is : out ≡ pad_with filler (up_to f n)

-- the others are zero
abbrev pub Filled : (f : ℕ → ℕ) (n : ℕ) (out : List ℕ) → Type 0
Filled f n out = FilledWith 0 f n out

-- no place is filled
pub filled_none : {A : Type 0} {filler : A} (f : ℕ → A) → FilledWith filler f 0 (replicate most_tasks filler)
unfolding up_to
filled_none f = record { few = omega arith; is = refl }

module _ {A : Type 0} {filler : A} {f : ℕ → A} {n : ℕ} {out : List A} (w : FilledWith filler f n out) where
  -- one place more
  pub filled_next : {i : ℕ} {v : A} → i ≡ n → n < most_tasks → v ≡ f (n + 1) → FilledWith filler f (n + 1) (set out i v)
  filled_next {i} {v} at h g =
      record {
        few = omega arith;
        is =
            ap (λ (l : List A). set l i v) w.is ∙
            ap (λ (k : ℕ). set (pad_with filler (up_to f n)) k v) (at ∙ sym (up_length f n)) ∙
            pad_more filler (up_to f n) v (omega (arith, up_length f n)) ∙
            ap (pad_with filler) (ap (λ (x : A). up_to f n ++ (x ∷ [])) g ∙ sym (up_more f n));
      }

  -- all places that are asked for
  pub filled_all : {m : ℕ} → n ≡ m → out ≡ pad_with filler (up_to f m)
  filled_all e = w.is ∙ ap (λ (k : ℕ). pad_with filler (up_to f k)) e

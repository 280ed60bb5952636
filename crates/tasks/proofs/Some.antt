-- Laws of the tests over a set's tasks, read task by task from a place on: whether some task meets a test.
-- Assumes nothing.
use Prim.Native.Nat.{ℕ, zero, suc, ◌+◌, ◌≤◌, ◌<◌}
use mathlib.Core.Path.{◌≡◌, refl, sym, ◌∙◌, ap}
use mathlib.Core.Bool.{Bool, true, false, ◌||◌}
use mathlib.Core.List.{List, [], ◌∷◌, ◌++◌}
use native.Mathlib.Numerals.{add-one}
use native.Mathlib.Omega.{arith}
use lib.ListN.{length, take, drop, get_or, drop_of_length-le}
use lib.Seq.{drop-cons, get_or-take, length-take-le}
use Rattle.laws.proofs.Tests.{or_left, or_neither, or_right}
use Rattle.tasks.specs.Search.{some}

pub some_nil : {A : Type 0} (p : A → Bool) → some p [] ≡ false
unfolding some
some_nil p = refl

pub some_cons : {A : Type 0} (p : A → Bool) (t : A) (ts : List A) → some p (t ∷ ts) ≡ (p t || some p ts)
unfolding some
some_cons p t ts = refl

-- the tasks that are left at a place: the one there and those behind it; past the last, none
pub left_cons : {A : Type 0} (ts : List A) (n i : ℕ) (none : A) → n ≤ length ts → i < n → drop i (take n ts) ≡ get_or ts i none ∷ drop (i + 1) (take n ts)
left_cons {A = A} ts n i none fits inside =
    drop-cons (take n ts) i none (omega (arith, length-take-le n ts fits))
    ∙ ap (λ (t : A). t ∷ drop (suc i) (take n ts)) (get_or-take n ts i none inside)
    ∙ ap (λ (k : ℕ). get_or ts i none ∷ drop k (take n ts)) (sym (add-one i))

pub left_none : {A : Type 0} (ts : List A) (n i : ℕ) → n ≤ length ts → n ≤ i → drop i (take n ts) ≡ []
left_none ts n i fits past = drop_of_length-le (take n ts) {i = i} (omega (arith, length-take-le n ts fits))

-- a test of those left, by the answer at the task there
pub some_left : {A : Type 0} (p : A → Bool) (ts : List A) (n i : ℕ) (none : A) (b : Bool) → n ≤ length ts → i < n → p (get_or ts i none) ≡ b → some p (drop i (take n ts)) ≡ (b || some p (drop (i + 1) (take n ts)))
some_left p ts n i none b fits inside e =
    ap (some p) (left_cons ts n i none fits inside)
    ∙ some_cons p (get_or ts i none) (drop (i + 1) (take n ts))
    ∙ ap (λ (a : Bool). (a || some p (drop (i + 1) (take n ts)))) e

pub some_end : {A : Type 0} (p : A → Bool) (ts : List A) (n i : ℕ) → n ≤ length ts → n ≤ i → some p (drop i (take n ts)) ≡ false
some_end p ts n i fits past = ap (some p) (left_none ts n i fits past) ∙ some_nil p

-- a test that no task meets fails at each
pub some_at : {A : Type 0} (p : A → Bool) (ts : List A) (i : ℕ) (none : A) → some p ts ≡ false → i < length ts → p (get_or ts i none) ≡ false
some_at p [] i none e h = absurd (omega arith)
some_at p (t ∷ ts) zero none e h = or_left (p t) (some p ts) (sym (some_cons p t ts) ∙ e)
some_at p (t ∷ ts) (suc i) none e h = some_at p ts i none (or_right (p t) (some p ts) (sym (some_cons p t ts) ∙ e)) (omega arith)

-- one task more behind them, which does not meet it either
pub some_more : {A : Type 0} (p : A → Bool) (ts : List A) (t : A) → some p ts ≡ false → p t ≡ false → some p (ts ++ (t ∷ [])) ≡ false
some_more p [] t e f = some_cons p t [] ∙ or_neither f (some_nil p)
some_more p (u ∷ ts) t e f =
    let g : (p u || some p ts) ≡ false = sym (some_cons p u ts) ∙ e in
    some_cons p u (ts ++ (t ∷ [])) ∙ or_neither (or_left (p u) (some p ts) g) (some_more p ts t (or_right (p u) (some p ts) g) f)

-- a test of tasks behind others
pub some_append : {A : Type 0} (p : A → Bool) (xs ys : List A) → some p (xs ++ ys) ≡ (some p xs || some p ys)
unfolding some
some_append p [] ys = refl
some_append p (x ∷ xs) ys = rw (some_append p xs ys) (swap (p x) (some p xs) (some p ys))
  where
    swap : (a b c : Bool) → (a || (b || c)) ≡ ((a || b) || c)
    swap true b c = refl
    swap false b c = refl

-- A line for each of a list, put one behind the other.
-- Assumes nothing.
use Prim.Native.Nat.{ℕ, suc, ◌+◌, ◌≤◌, ◌<◌}
use mathlib.Core.Path.{◌≡◌, refl, sym, ◌∙◌, ap, ap₂}
use mathlib.Core.List.{List, ◌++◌}
use native.Mathlib.Numerals.{add-one}
use native.Mathlib.Omega.{arith}
use lib.ListN.{length, take, get_or, length-append}
use Rattle.digits.specs.Stored.{stored}
use Rattle.digits.proofs.Stored.{stored_nil, stored_stored}
use Rattle.framelines.specs.Each.{each_line}
use Rattle.framelines.proofs.EachLaws.{each_next, each_front}

-- the lines of the first i of n are put at a place of a buffer, the rest of it as before; the next line starts there
pub record EachPut {A : Type 0} (line : A → List ℕ) (b : List ℕ) (at : ℕ) (xs : List A) (n : ℕ) (out : List ℕ) (next i : ℕ) : Type 0 where
  pub within : i ≤ n
  pub there : next ≡ at + length (each_line line (take i xs))
  pub same : length out ≡ length b
  pub holds : out ≡ stored b at (each_line line (take i xs))

module _ {A : Type 0} (line : A → List ℕ) where
  -- before the first line nothing is put
  pub each_put_none : (b : List ℕ) (at : ℕ) (xs : List A) (n : ℕ) → EachPut line b at xs n b at 0
  unfolding each_line
  each_put_none b at xs n = record { within = omega arith; there = omega arith; same = refl; holds = sym (stored_nil b at) }

  module _ (none : A) {b : List ℕ} {at : ℕ} {xs : List A} {n : ℕ} {out : List ℕ} {next i : ℕ} (put : EachPut line b at xs n out next i) (full : n ≤ length xs) (fits : at + length (each_line line (take n xs)) ≤ length b) where
    -- the line of place i ends within the buffer
    pub each_put_room : i < n → next + length (line (get_or xs i none)) ≤ length b
    each_put_room h =
        omega (arith, put.there, each_front line xs (suc i) n h, ap length (each_next line none xs i (omega arith)), length-append (each_line line (take i xs)) (line (get_or xs i none)))

    -- it is put right behind those before it
    pub each_put_next : {left : List ℕ} {next' : ℕ} → i < n → left ≡ stored out next (line (get_or xs i none)) → length left ≡ length out
        → next' ≡ next + length (line (get_or xs i none)) → EachPut line b at xs n left next' (i + 1)
    each_put_next {left} {next'} h e same ends =
        record {
          within = omega arith;
          there = ends ∙ omega (arith, put.there, ap length more, length-append so (line x));
          same = same ∙ put.same;
          holds = e ∙ ap₂ (λ (o : List ℕ) (k : ℕ). stored o k (line x)) put.holds put.there ∙ stored_stored b at so (line x) (omega (arith, put.there, each_put_room h)) ∙ ap (stored b at) (sym more);
        }
      where
        x : A
        x = get_or xs i none

        so : List ℕ
        so = each_line line (take i xs)

        more : each_line line (take (i + 1) xs) ≡ so ++ line x
        more = ap (λ (k : ℕ). each_line line (take k xs)) (add-one i) ∙ each_next line none xs i (omega arith)

  pub each_put_all : {b : List ℕ} {at : ℕ} {xs : List A} {n : ℕ} {out : List ℕ} {next i : ℕ} → EachPut line b at xs n out next i → n ≤ i
      → (next ≡ at + length (each_line line (take n xs))) × (out ≡ stored b at (each_line line (take n xs)))
  each_put_all {b} {at} {xs} {n} {i = i} put h =
      (put.there ∙ ap (λ (k : ℕ). at + length (each_line line (take k xs))) all, put.holds ∙ ap (λ (k : ℕ). stored b at (each_line line (take k xs))) all)
    where
      all : i ≡ n
      all = omega (arith, put.within)

-- A list copied to its place in another, item by item.
-- Assumes nothing.
use Prim.Native.Nat.{ℕ, ◌+◌, ◌≤◌, ◌<◌}
use mathlib.Core.Path.{◌≡◌, sym, ◌∙◌, ap}
use mathlib.Core.List.{List, [], ◌∷◌, ◌++◌}
use native.Mathlib.Numerals.{add-one}
use native.Mathlib.Omega.{arith}
use lib.ListN.{length, take, get_or, set}
use lib.Seq.{length-take-le, take-suc}
use Rattle.digits.specs.Stored.{stored}
use Rattle.digits.proofs.Stored.{stored_byte}

-- the next item, set right behind those before it
pub stored_next : {A : Type 0} (b s : List A) (at i : ℕ) (v : A) → v ≡ get_or s i v → at + length s ≤ length b → i < length s
    → set (stored b at (take i s)) (at + i) v ≡ stored b at (take (i + 1) s)
stored_next {A} b s at i v is h k =
    ap (λ (n : ℕ). set (stored b at (take i s)) (at + n) v) (sym front)
    ∙ stored_byte b at (take i s) v (omega (arith, front))
    ∙ ap (λ (x : A). stored b at (take i s ++ (x ∷ []))) is
    ∙ ap (stored b at) (sym (take-suc s i v k))
    ∙ ap (λ (n : ℕ). stored b at (take n s)) (sym (add-one i))
  where
    front : length (take i s) ≡ i
    front = length-take-le i s (omega arith)

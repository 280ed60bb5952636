-- Laws of the digits of several fields, one behind the other: their length, one field more, and the next field written.
-- Assumes nothing.
use Prim.Native.Nat.{ℕ, zero, suc, ◌+◌, ◌≤◌}
use mathlib.Core.Path.{◌≡◌, refl, sym, ◌∙◌, ap, ap₂}
use mathlib.Core.List.{List, [], ◌∷◌, ◌++◌, append_assoc, append-nil}
use native.Mathlib.Numerals.{add-one}
use native.Mathlib.Omega.{arith}
use lib.ListN.{length, take, get_or, length-append}
use Rattle.digits.specs.Number.{hex}
use Rattle.digits.specs.Stored.{stored}
use Rattle.digits.proofs.Numbers.{hex_length}
use Rattle.digits.proofs.Stored.{stored_stored}
use Rattle.frames.specs.Table.{sum}
use Rattle.framewrite.specs.Line.{fields}
use Rattle.frames.proofs.Tables.{sum_take, sum_front}

-- the fields' digits are as many as the widths say
pub fields_length : (ws vs : List ℕ) → length (fields ws vs) ≡ sum ws
unfolding fields sum
fields_length [] vs = refl
fields_length (w ∷ ws) [] = omega (arith, length-append (hex w 0) (fields ws []), hex_length w 0, fields_length ws [])
fields_length (w ∷ ws) (v ∷ vs) = omega (arith, length-append (hex w v) (fields ws vs), hex_length w v, fields_length ws vs)

-- one field more behind a front of the fields
pub fields_take : (ws vs : List ℕ) (k : ℕ) → fields (take (suc k) ws) vs ≡ fields (take k ws) vs ++ hex (get_or ws k 0) (get_or vs k 0)
unfolding fields hex
fields_take [] vs zero = refl
fields_take [] vs (suc k) = refl
fields_take (w ∷ ws) [] zero = append-nil (hex w 0)
fields_take (w ∷ ws) [] (suc k) =
    ap (λ (l : List ℕ). hex w 0 ++ l) (fields_take ws [] k) ∙ sym (append_assoc (hex w 0) (fields (take k ws) []) (hex (get_or ws k 0) 0))
fields_take (w ∷ ws) (v ∷ vs) zero = append-nil (hex w v)
fields_take (w ∷ ws) (v ∷ vs) (suc k) =
    ap (λ (l : List ℕ). hex w v ++ l) (fields_take ws vs k) ∙ sym (append_assoc (hex w v) (fields (take k ws) vs) (hex (get_or ws k 0) (get_or vs k 0)))

-- the next field, written right behind those before it
module _ (b : List ℕ) (at : ℕ) (ws vs : List ℕ) (i start w : ℕ) (e : start ≡ at + sum (take i ws)) (ew : w ≡ get_or ws i 0) where
  pub start_next : start + w ≡ at + sum (take (i + 1) ws)
  start_next = omega (arith, sum_take ws i, ap (λ (n : ℕ). sum (take n ws)) (add-one i))

  pub start_within : start + w ≤ at + sum ws
  start_within = omega (arith, sum_take ws i, sum_front ws (suc i))

  pub fields_next : at + sum ws ≤ length b
      → stored (stored b at (fields (take i ws) vs)) start (hex w (get_or vs i 0)) ≡ stored b at (fields (take (i + 1) ws) vs)
  fields_next h =
      ap₂ (λ (j k : ℕ). stored (stored b at (fields (take i ws) vs)) j (hex k (get_or vs i 0)))
      (e ∙ ap (λ (n : ℕ). at + n) (sym (fields_length (take i ws) vs))) ew
      ∙ stored_stored b at (fields (take i ws) vs) (hex (get_or ws i 0) (get_or vs i 0))
      (omega (arith, fields_length (take i ws) vs, hex_length (get_or ws i 0) (get_or vs i 0), sum_take ws i, sum_front ws (suc i)))
      ∙ ap (stored b at) (sym (fields_take ws vs i))
      ∙ ap (λ (n : ℕ). stored b at (fields (take n ws) vs)) (sym (add-one i))

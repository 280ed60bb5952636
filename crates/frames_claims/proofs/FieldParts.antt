-- Laws of the digits of several fields: they are legal, each field's part of them, and digits cut and written again.
-- Assumes nothing.
use Prim.Native.Nat.{ℕ, zero, suc, ◌+◌, ◌≤◌, ◌<◌}
use mathlib.Core.Path.{◌≡◌, refl, sym, ◌∙◌, ap, ap₂}
use mathlib.Core.Bool.{true}
use mathlib.Core.List.{List, [], ◌∷◌, ◌++◌}
use native.Mathlib.Omega.{arith}
use lib.ListN.{length, take, drop, get_or, length-drop}
use lib.Seq.{length-take-le, take_at, drop-append-add, take-add}
use Rattle.digits.specs.Digit.{all_legal}
use Rattle.digits.specs.Number.{number, hex}
use Rattle.digits.proofs.Digits.{legal_append, legal_take, legal_drop}
use Rattle.digits.proofs.Numbers.{hex_length, hex_legal, hex_number}
use Rattle.frames.specs.Table.{sum}
use Rattle.framewrite.specs.Line.{fields}
use Rattle.frames.proofs.Tables.{sum_take, sum_front}
use Rattle.framewrite.proofs.Fields.{fields_take}

-- the fields' digits are legal
pub fields_legal : (ws vs : List ℕ) → all_legal (fields ws vs) ≡ true
unfolding fields all_legal
fields_legal [] vs = refl
fields_legal (w ∷ ws) [] = legal_append (hex w 0) (fields ws []) (hex_legal w 0) (fields_legal ws [])
fields_legal (w ∷ ws) (v ∷ vs) = legal_append (hex w v) (fields ws vs) (hex_legal w v) (fields_legal ws vs)

-- the digits of one field among them all
pub fields_part : (ws vs : List ℕ) (k : ℕ) → take (get_or ws k 0) (drop (sum (take k ws)) (fields ws vs)) ≡ hex (get_or ws k 0) (get_or vs k 0)
unfolding fields hex sum
fields_part [] vs zero = refl
fields_part [] vs (suc k) = refl
fields_part (w ∷ ws) [] zero = take_at (hex w 0) (fields ws []) w (hex_length w 0)
fields_part (w ∷ ws) [] (suc k) =
    ap (λ (n : ℕ). take (get_or ws k 0) (drop (n + sum (take k ws)) (hex w 0 ++ fields ws []))) (sym (hex_length w 0))
    ∙ ap (take (get_or ws k 0)) (drop-append-add (hex w 0) (fields ws []) (sum (take k ws)))
    ∙ fields_part ws [] k
fields_part (w ∷ ws) (v ∷ vs) zero = take_at (hex w v) (fields ws vs) w (hex_length w v)
fields_part (w ∷ ws) (v ∷ vs) (suc k) =
    ap (λ (n : ℕ). take (get_or ws k 0) (drop (n + sum (take k ws)) (hex w v ++ fields ws vs))) (sym (hex_length w v))
    ∙ ap (take (get_or ws k 0)) (drop-append-add (hex w v) (fields ws vs) (sum (take k ws)))
    ∙ fields_part ws vs k

-- digits cut into fields and written again are the digits
pub fields_again : (ws vs ds : List ℕ) → all_legal ds ≡ true → sum ws ≤ length ds
    → ((k : ℕ) → k < length ws → get_or vs k 0 ≡ number (take (get_or ws k 0) (drop (sum (take k ws)) ds)))
    → (k : ℕ) → k ≤ length ws → fields (take k ws) vs ≡ take (sum (take k ws)) ds
unfolding fields sum
fields_again ws vs ds l s r zero h = refl
fields_again ws vs ds l s r (suc k) h =
    fields_take ws vs k
    ∙ ap₂ ◌++◌ (fields_again ws vs ds l s r k (omega arith)) one
    ∙ sym (take-add (sum (take k ws)) (get_or ws k 0) ds)
    ∙ ap (λ (n : ℕ). take n ds) (sym (sum_take ws k))
  where
    part_legal : all_legal (take (get_or ws k 0) (drop (sum (take k ws)) ds)) ≡ true
    part_legal = legal_take (get_or ws k 0) (drop (sum (take k ws)) ds) (legal_drop (sum (take k ws)) ds l)

    part_length : length (take (get_or ws k 0) (drop (sum (take k ws)) ds)) ≡ get_or ws k 0
    part_length =
        length-take-le (get_or ws k 0) (drop (sum (take k ws)) ds)
        (omega (arith, length-drop (sum (take k ws)) ds, sum_take ws k, sum_front ws (suc k)))

    one : hex (get_or ws k 0) (get_or vs k 0) ≡ take (get_or ws k 0) (drop (sum (take k ws)) ds)
    one =
        ap (hex (get_or ws k 0)) (r k (omega arith))
        ∙ ap (λ (n : ℕ). hex n (number (take (get_or ws k 0) (drop (sum (take k ws)) ds)))) (sym part_length)
        ∙ hex_number (take (get_or ws k 0) (drop (sum (take k ws)) ds)) part_legal

-- The mark is the greatest number of its width.
-- Assumes nothing.
use Prim.Native.Nat.{ℕ}
use mathlib.Core.Path.{◌≡◌, refl, sym, ◌∙◌, ap₂}
use Rattle.digits.specs.Digit.{digit_of}
use Rattle.digits.specs.Number.{hex}
use Rattle.fieldwrite.specs.Mark.{mark_width, mark_of, mark_number}

mark_hex : hex mark_width mark_number ≡ mark_of
unfolding hex digit_of mark_of
mark_hex = refl

pub mark_value : (width value : ℕ) → width ≡ mark_width → value ≡ mark_number → mark_of ≡ hex width value
mark_value width value p q = sym (ap₂ hex p q ∙ mark_hex)

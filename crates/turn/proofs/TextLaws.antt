-- The text of switches: of two lists one behind the other, and its bytes.
-- Assumes nothing.
use Prim.Native.Nat.{ℕ, ◌+◌, ◌*◌}
use mathlib.Core.Path.{◌≡◌, refl, sym, ap, ◌∙◌}
use mathlib.Core.List.{List, [], ◌∷◌, ◌++◌, append_assoc}
use native.Mathlib.Nat.{zero-mul}
use native.Mathlib.Omega.{arith}
use lib.ListN.{length, length-append}
use Rattle.frames.specs.declared.table.Frame.{Frame}
use Rattle.frames.specs.Table.{length_of}
use Rattle.framewrite.proofs.LineLaws.{line_length}
use Rattle.turn.specs.Switches.{Switch, switch_line, switch_lines}

pub lines_append : (ss ts : List Switch) → switch_lines (ss ++ ts) ≡ switch_lines ss ++ switch_lines ts
unfolding switch_lines
lines_append [] ts = refl
lines_append (s ∷ ss) ts = ap (λ (l : List ℕ). switch_line s ++ l) (lines_append ss ts) ∙ sym (append_assoc (switch_line s) (switch_lines ss) (switch_lines ts))

-- each line has the bytes of frame 21
pub lines_length : (ss : List Switch) → length (switch_lines ss) ≡ length ss * (length_of Frame.Switch + 1)
unfolding switch_lines switch_line
lines_length [] = sym (zero-mul (length_of Frame.Switch + 1))
lines_length (s ∷ ss) =
    length-append (switch_line s) (switch_lines ss) ∙
    omega (arith, line_length Frame.Switch (s.tick ∷ s.processor ∷ s.server ∷ []), lines_length ss)

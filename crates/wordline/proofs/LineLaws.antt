-- Laws of lines in buffers: the front of a buffer that holds a line, and a line by another name.
-- Assumes nothing.
use Prim.Native.Nat.{ℕ, ◌+◌}
use mathlib.Core.Path.{◌≡◌, sym, ◌∙◌, ap, subst}
use mathlib.Core.List.{List}
use lib.ListN.{length, take, drop}
use lib.Seq.{take_at}
use Rattle.digits.specs.Stored.{stored}
use Rattle.refusals.specs.Refused.{Written}
use Rattle.wordline.specs.Lined.{Lined}

-- the front of a buffer that holds a line at its start is the line
pub front_is : (b line : List ℕ) {out : List ℕ} {n : ℕ} → out ≡ stored b 0 line → n ≡ length line → take n out ≡ line
unfolding stored
front_is b line {n = n} e o = ap (take n) e ∙ take_at line (drop (0 + length line) b) n (sym o)

-- a line by another name
pub lined_as : {buffer line other after : List ℕ} {w : Written} → Lined buffer line w after → line ≡ other → Lined buffer other w after
lined_as {buffer} {line} {other} {after} {w} f e = subst (λ (l : List ℕ). Lined buffer l w after) e f

-- Laws of a sweep's report: its bytes, its figures, and that its lines put one behind the other are its text.
-- Assumes nothing.
use Prim.Native.Nat.{ℕ, zero, suc, ◌+◌, ◌*◌, ◌≤◌, ◌<◌}
use mathlib.Core.Path.{◌≡◌, refl, ◌∙◌, ap, ap₂}
use mathlib.Core.List.{List, [], ◌∷◌}
use mathlib.Core.Bool.{Bool, true, ◌&&◌}
use native.Mathlib.Omega.{arith}
use lib.Dec.{ltb}
use borrow.Author.Tests.{ltb-true}
use Rattle.laws.proofs.Tests.{and_left, and_right}
use lib.ListN.{length, get_or, length-append}
use Rattle.digits.specs.Stored.{stored}
use Rattle.digits.proofs.Stored.{stored_stored}
use Rattle.frames.specs.Table.{widths_of, sum, fields_in, length_of}
use Rattle.frames.specs.declared.table.Frame.{Frame}
use Rattle.framewrite.specs.Line.{line_of}
use Rattle.framewrite.proofs.LineLaws.{line_length}
use Rattle.framelines.specs.Lines.{lines_of}
use Rattle.framelines.specs.Each.{each_line}
use Rattle.framelines.proofs.EachLaws.{each_length, figures_lines, figures_length}
use Rattle.tally.specs.Tally.{numbers}
use Rattle.tally.specs.declared.Tally.{Tally}
use Rattle.tallytext.specs.Text.{numbers_told, met_figures, met_line, tally_text, tally_bytes, told_figures}

-- the bytes of the 40 line, and of the text
accepted_size : length_of Frame.Accepted + 1 ≡ 11
unfolding sum widths_of
accepted_size = refl

pub bytes_told : tally_bytes ≡ 167
unfolding sum widths_of
bytes_told = refl

pub text_length : (t : Tally) → length (tally_text t) ≡ tally_bytes
unfolding tally_text
text_length t =
    length-append (line_of Frame.Accepted (t.accepted ∷ [])) (each_line (met_line t) numbers_told)
    ∙ ap₂ ◌+◌ (line_length Frame.Accepted (t.accepted ∷ [])) (each_length Frame.Met (met_figures t) numbers_told)

-- a number has as many figures as its line has fields
pub met_sized : (t : Tally) (number : ℕ) → length (met_figures t number) ≡ fields_in Frame.Met
unfolding widths_of
met_sized t number = refl

-- whether all of a list are below a limit
unfoldable all_below_lem : (limit : ℕ) → List ℕ → Bool
all_below_lem limit [] = true
all_below_lem limit (n ∷ ns) = ltb n limit && all_below_lem limit ns

entry_below : (limit : ℕ) (ns : List ℕ) → 0 < limit → all_below_lem limit ns ≡ true → (k : ℕ) → get_or ns k 0 < limit
unfolding all_below_lem
entry_below limit [] h e k = h
entry_below limit (n ∷ ns) h e zero = ltb-true n limit (and_left (ltb n limit) (all_below_lem limit ns) e)
entry_below limit (n ∷ ns) h e (suc k) = entry_below limit ns h (and_right (ltb n limit) (all_below_lem limit ns) e) k

-- there is a place for each number told
pub told_placed : (k : ℕ) → get_or numbers_told k 0 < numbers
unfolding all_below_lem
told_placed k = entry_below numbers numbers_told (omega arith) refl k

-- the figures of all 41 lines: so many, and their lines are the text's
pub told_length : (t : Tally) → length (told_figures t) ≡ 2 * length numbers_told
unfolding widths_of
told_length t = figures_length Frame.Met (met_figures t) 0 numbers_told (met_sized t) (2 * length numbers_told) (length numbers_told) (omega arith)

told_lines : (t : Tally) → lines_of Frame.Met (told_figures t) (length numbers_told) ≡ each_line (met_line t) numbers_told
told_lines t = figures_lines Frame.Met (met_figures t) 0 numbers_told (met_sized t) (2 * length numbers_told) (length numbers_told) (omega arith)

-- the 40 line at the start and the 41 lines behind it are the text
pub text_put : (t : Tally) (b : List ℕ) {values opened left : List ℕ} → tally_bytes ≤ length b
    → opened ≡ stored b 0 (line_of Frame.Accepted (t.accepted ∷ []))
    → values ≡ told_figures t
    → left ≡ stored opened 11 (lines_of Frame.Met values (length numbers_told))
    → left ≡ stored b 0 (tally_text t)
unfolding tally_text
text_put t b {values} {opened} {left} room e f g =
    g
    ∙ ap₂ (λ (o l : List ℕ). stored o 11 l) e (ap (λ (vs : List ℕ). lines_of Frame.Met vs (length numbers_told)) f ∙ told_lines t)
    ∙ ap (λ (n : ℕ). stored (stored b 0 line) n lines) behind
    ∙ stored_stored b 0 line lines (omega (arith, room, line_length Frame.Accepted (t.accepted ∷ []), each_length Frame.Met (met_figures t) numbers_told))
  where
    line : List ℕ
    line = line_of Frame.Accepted (t.accepted ∷ [])

    lines : List ℕ
    lines = each_line (met_line t) numbers_told

    behind : 11 ≡ 0 + length line
    behind = omega (arith, line_length Frame.Accepted (t.accepted ∷ []), accepted_size)

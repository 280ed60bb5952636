-- What stands before the tasks, by the two lines that may be there.
-- Assumes nothing.
use Rattle.std.specs.Prelude.{None, Some}
use Prim.Native.Nat.{ℕ, pred, ◌+◌, ◌≤◌}
use native.Mathlib.Omega.{arith}
use native.Mathlib.Nat.{add-zero}
use mathlib.Core.Bool.{Bool, true, false, cond}
use mathlib.Core.List.{List}
use mathlib.Core.Path.{◌≡◌, refl, sym, ap, ◌∙◌}
use lib.ListN.{length, drop}
use Rattle.frameread.specs.Line.{formed, field_of}
use Rattle.frames.specs.Table.{length_of}
use Rattle.frames.specs.declared.table.Frame.{Frame}
use Rattle.tasks.specs.Set.{with_lines}
use Rattle.taskfile.specs.File.{past, bytes_by, header_at, masked_at, rule_line, rule_at, file_header, opening_lines, opening_bytes}
use Rattle.taskfile.proofs.OpeningLaws.{past_header, passed_masked}
use Rattle.opening.specs.declared.OptionalLine.{OptionalLine}
use Rattle.opening.specs.Opening.{opening_of, optional_of}

-- the line is there
pub optional_given : (kind : Frame) (rest : List ℕ) (at lines : ℕ) → formed kind rest ≡ true → optional_of kind rest at lines ≡ record { figure = Some (field_of kind 0 rest); at = at + (length_of kind + 1); lines = lines + 1 }
unfolding optional_of
optional_given kind rest at lines e = rw e

-- or it is not
pub optional_none : (kind : Frame) (rest : List ℕ) (at lines : ℕ) → formed kind rest ≡ false → optional_of kind rest at lines ≡ record { figure = None; at = at; lines = lines }
unfolding optional_of
optional_none kind rest at lines e = rw (e, add-zero at, add-zero lines)

-- that adds a line at most
pub optional_few : (kind : Frame) (rest : List ℕ) (at lines : ℕ) → (optional_of kind rest at lines).lines ≤ lines + 1
unfolding optional_of
optional_few kind rest at lines = by_kind (formed kind rest)
  where
    by_kind : (b : Bool) → lines + cond b 1 0 ≤ lines + 1
    by_kind true = omega arith
    by_kind false = omega arith

-- the number of lines before the tasks
lines_by : (masked rule : Bool) → cond rule (cond masked 3 2) (pred (cond masked 3 2)) ≡ 1 + cond masked 1 0 + cond rule 1 0
lines_by true true = refl
lines_by true false = refl
lines_by false true = refl
lines_by false false = refl

-- where the 05 line is looked for behind the 01 line and the 06 line behind that, their figures and the cursor are those before the tasks
module _ (text : List ℕ) (header : formed Frame.Header text ≡ true) {masked : OptionalLine} (read : masked ≡ optional_of Frame.Masked (drop (length_of Frame.Header + 1) text) (length_of Frame.Header + 1) 1) where
  masked_line : masked ≡ optional_of Frame.Masked (past 1 text) (length_of Frame.Header + 1) 1
  masked_line = read ∙ ap (λ (rest : List ℕ). optional_of Frame.Masked rest (length_of Frame.Header + 1) 1) (sym (past_header text header))

  pub masked_within : (masked.at ≤ length text) × (masked.lines ≤ 2)
  unfolding optional_of
  masked_within = rw masked_line ((passed_masked text header).within, optional_few Frame.Masked (past 1 text) (length_of Frame.Header + 1) 1)

  rule_line_lem : {rule : OptionalLine} → rule ≡ optional_of Frame.Rule (drop masked.at text) masked.at masked.lines → rule ≡ optional_of Frame.Rule (past (pred (rule_line text)) text) (length_of Frame.Header + 1 + bytes_by Frame.Masked (past 1 text)) (1 + cond (formed Frame.Masked (past 1 text)) 1 0)
  unfolding optional_of
  rule_line_lem e =
      e
      ∙ ap (λ (m : OptionalLine). optional_of Frame.Rule (drop m.at text) m.at m.lines) masked_line
      ∙ ap (λ (rest : List ℕ). optional_of Frame.Rule rest (length_of Frame.Header + 1 + bytes_by Frame.Masked (past 1 text)) (1 + cond (formed Frame.Masked (past 1 text)) 1 0)) (sym (passed_masked text header).rest)

  pub opening_by : {rule : OptionalLine} → rule ≡ optional_of Frame.Rule (drop masked.at text) masked.at masked.lines → record { header = with_lines (header_at text) masked.figure rule.figure; at = rule.at; lines = rule.lines } ≡ opening_of text
  unfolding optional_of opening_of file_header masked_at rule_at rule_line opening_lines opening_bytes
  opening_by e =
      let m = masked_line in
      let r = rule_line_lem e in
      (λ i. record { header = with_lines (header_at text) (m i).figure (r i).figure; at = (r i).at; lines = (r i).lines })
      ∙ ap (λ (lines : ℕ). record { header = file_header text; at = opening_bytes text; lines = lines }) (sym (lines_by (formed Frame.Masked (past 1 text)) (formed Frame.Rule (past (pred (rule_line text)) text))))

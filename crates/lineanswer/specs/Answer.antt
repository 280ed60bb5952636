-- How the reader takes the answer of a line apart.
-- Document 01, "Reading takes lines in order" (RULES 6.2).
use Rattle.std.specs.Prelude.{Err, Ok, Result}
use Rattle.refusals.specs.declared.Refusal.{Refusal}
use Rattle.refusals.specs.Refused.{Outcome}

-- a line that is clear gives its figures, another hands its refusal up
abbrev pub line_or : {A : Type 0} → Outcome → A → Result A Refusal
line_or (Ok _) figures = Ok figures
line_or (Err r) figures = Err r

abbrev pub of_line : {A : Type 0} → Result A Refusal → Outcome
of_line (Ok figures) = Ok tt
of_line (Err r) = Err r

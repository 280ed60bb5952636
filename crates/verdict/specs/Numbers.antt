-- The numbers of a verdict. Document 01, the question "does it pass", and document 02, Req 02 (RULES 4.2).
use Rattle.std.specs.Prelude.{ℕ, List, [], ◌∷◌}
use Rattle.verdict.specs.declared.answer.Verdict.{Verdict}
use Rattle.verdict.specs.declared.answer.Verdict.TheVariants.{Yes, No}

-- 1 for yes and 0 for no, then the length that it carries, the demand and the supply there
abbrev pub verdict_numbers : Verdict → List ℕ
verdict_numbers (Yes reading) = 1 ∷ reading.length ∷ reading.demand ∷ reading.supply ∷ []
verdict_numbers (No reading) = 0 ∷ reading.length ∷ reading.demand ∷ reading.supply ∷ []

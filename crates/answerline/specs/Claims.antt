-- What is promised of the lines of answers: the words of examples.
-- The proofs stand under the same names in proofs/Claims.
use Rattle.std.specs.Prelude.{ℕ, ◌≡◌, Ok}
use Rattle.quoted.specs.Quoted.{bytes_of}
use Rattle.refusals.specs.declared.Refusal.TheVariants.{Ask}
use Rattle.verdict.specs.declared.answer.Verdict.TheVariants.{Yes, No}
use Rattle.whoruns.specs.declared.WhoAnswer.{WhoAnswer}
use Rattle.whoruns.specs.WhoRuns.{refused_who}
use Rattle.doespass.specs.declared.PassAnswer.{PassAnswer}
use Rattle.answerline.specs.Lines.{who_line, pass_line}

-- answers: a server with its ticks left (0 for idle), and a verdict
abbrev pub stands : (server left : ℕ) → WhoAnswer
stands server left = record { outcome = Ok tt; server = server; left = left }

abbrev pub passes : (length demand supply : ℕ) → PassAnswer
passes length demand supply = record { outcome = Ok tt; verdict = Yes (record { length = length; demand = demand; supply = supply }) }

abbrev pub fails : (length demand supply : ℕ) → PassAnswer
fails length demand supply = record { outcome = Ok tt; verdict = No (record { length = length; demand = demand; supply = supply }) }

-- the lines of README's examples and of the outside tests, one with ticks to spare, and one with the largest tick
abbrev pub ReadsSo : Type 0
ReadsSo =
    (who_line (stands 2 2) 2 0 ≡ bytes_of "server 2 runs on processor 2 at tick 0, 2 ticks left\n")
    × (who_line (stands 0 2) 1 18 ≡ bytes_of "processor 1 is idle at tick 18, 2 ticks left\n")
    × (who_line (stands 1 10) 64 18446744073709551615 ≡ bytes_of "server 1 runs on processor 64 at tick 18446744073709551615, 10 ticks left\n")
    × (who_line (refused_who Ask) 3 0 ≡ bytes_of "1F0B00\n")
    × (pass_line (passes 10 6 6) 1 6 ≡ bytes_of "server 1 passes with reserve 6: closest at length 10, demand 6, supply 6, ticks to spare 0\n")
    × (pass_line (passes 10 6 10) 1 10 ≡ bytes_of "server 1 passes with reserve 10: closest at length 10, demand 6, supply 10, ticks to spare 4\n")
    × (pass_line (fails 10 6 5) 1 5 ≡ bytes_of "server 1 does not pass with reserve 5: at length 10 demand 6 exceeds supply 5\n")

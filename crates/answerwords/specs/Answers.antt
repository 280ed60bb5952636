-- An answer in one line of plain words, closed by an LF.
-- README, "The two questions": these are the words that the program prints.
use Rattle.std.specs.Prelude.{ℕ, ◌-◌, List, [], ◌∷◌, cond, eqb}
use Rattle.quoted.specs.Quoted.{bytes_of}
use Rattle.verdict.specs.declared.answer.Reading.{Reading}
use Rattle.verdict.specs.declared.answer.Verdict.{Verdict}
use Rattle.verdict.specs.declared.answer.Verdict.TheVariants.{Yes, No}
use Rattle.wordline.specs.Words.{said}

-- the words, with a `#` for each number
abbrev pub idle_words : List ℕ
idle_words = bytes_of "processor # is idle at tick #, # ticks left\n"

abbrev pub runs_words : List ℕ
runs_words = bytes_of "server # runs on processor # at tick #, # ticks left\n"

abbrev pub yes_words : List ℕ
yes_words = bytes_of "server # passes with reserve #: closest at length #, demand #, supply #, ticks to spare #\n"

abbrev pub no_words : List ℕ
no_words = bytes_of "server # does not pass with reserve #: at length # demand # exceeds supply #\n"

-- who stands on processor p at tick x, and the ticks left; server 0 is idle
unfoldable pub stand_line : (server left p x : ℕ) → List ℕ
stand_line server left p x =
    cond
    (eqb server 0)
    (said idle_words (p ∷ x ∷ left ∷ []))
    (said runs_words (server ∷ p ∷ x ∷ left ∷ []))

-- the supply less the demand, 0 where the demand is above it
abbrev pub ticks_to_spare : Reading → ℕ
ticks_to_spare reading = reading.supply - reading.demand

-- whether server q passes with reserve R; then the length that the verdict carries, the demand and the supply there, and
-- where it passes the ticks to spare
unfoldable pub verdict_line : Verdict → (q R : ℕ) → List ℕ
verdict_line (Yes reading) q R =
    said yes_words (q ∷ R ∷ reading.length ∷ reading.demand ∷ reading.supply ∷ ticks_to_spare reading ∷ [])
verdict_line (No reading) q R =
    said no_words (q ∷ R ∷ reading.length ∷ reading.demand ∷ reading.supply ∷ [])

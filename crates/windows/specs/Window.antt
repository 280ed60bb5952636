-- The usable ticks of a reserve that stands once a slot, from any start, in any window; and when windows cover a demand.
-- Document 01, "From tasks to servers to ring" (RULES 3): usable ticks, a cut reserve, a smaller reserve for a whole-processor server.
use Rattle.std.specs.Prelude.{ℕ, zero, suc, ◌+◌, ◌-◌, ◌%◌, ◌≤◌, Bool, cond, ◌&&◌, leb, ltb}

-- how many ticks ago the reserve's latest start was, at tick x: (x − start) mod S
unfoldable pub since : (S start x : ℕ) → ℕ
since S start x = (x + (S - start % S)) % S

-- tick x lies in the reserve, and at least L positions of the reserve have passed
unfoldable pub usable_at : (S L R start x : ℕ) → Bool
usable_at S L R start x = leb L (since S start x) && ltb (since S start x) R

-- the usable ticks among the t ticks from a on
unfoldable pub usable_in : (S L R start a t : ℕ) → ℕ
usable_in S L R start a zero = 0
usable_in S L R start a (suc t) = usable_in S L R start a t + cond (usable_at S L R start (a + t)) 1 0

-- from the second slot on, in every window, any start and length, the usable ticks cover the demand for that length
abbrev pub Covered : (g : ℕ → ℕ) → (S L R start : ℕ) → Type 0
Covered g S L R start = (a t : ℕ) → S ≤ a → g t ≤ usable_in S L R start a t

-- the same of every window from tick 0 on
abbrev pub CoveredFromZero : (g : ℕ → ℕ) → (S L R start : ℕ) → Type 0
CoveredFromZero g S L R start = (a t : ℕ) → g t ≤ usable_in S L R start a t

-- some window, from the second slot on, in which the usable ticks fall short of the demand for its length
abbrev pub FallsShort : (g : ℕ → ℕ) → (S L R start : ℕ) → Type 0
FallsShort g S L R start = (a : ℕ) × (t : ℕ) × (S ≤ a) × (usable_in S L R start a t + 1 ≤ g t)

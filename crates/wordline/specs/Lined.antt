-- A line into a lent buffer: stored at its start where it fits, else ROOM and nothing stored. No line is longer than the longest.
use Rattle.std.specs.Prelude.{ℕ, ◌≤◌, List, length}
use Rattle.refusals.specs.Refused.{Written}
use Rattle.planfit.specs.Fit.{Fits}

-- the bytes of the longest line: 90 of words, with six numbers of at most 20 digits for their signs
abbrev pub longest_line : ℕ
longest_line = 204

abbrev pub Lined : (buffer line : List ℕ) → Written → (after : List ℕ) → Type 0
Lined buffer line answer after = Fits buffer line answer after × (length line ≤ longest_line)

-- What a sweep has counted: each name that is read, once, under its answer, and what it holds of the name at hand.
-- Document 02, Req 03 (RULES 9).
use Rattle.refusals.specs.Refused.{Outcome}
use Rattle.std.specs.Prelude.{ℕ, ◌-◌, ◌≤◌, ◌<◌, List, ◌≡◌, length, take, Option}
use Rattle.names.specs.Names.{longest_name}
use Rattle.names.specs.Parts.{most_held, Holds, ended, begun_by, last_name}
use Rattle.tally.specs.declared.Tally.{Tally}
use Rattle.tally.specs.Tally.{most_names, counted_all, Adds}
use Rattle.sweepfile.specs.Answered.{EachAnswered}
use Rattle.sweeping.specs.declared.Sweep.{Sweep}

-- names in order are counted, each once and under its answer, as long as names are read
pub record Counts (names : List (List ℕ)) (before after : Tally) : Type 0 where
  pub answers : List (Option Outcome)
  pub each : EachAnswered (take (most_names - before.names) names) answers
  pub tally : after ≡ counted_all before answers

-- a sweep that may go on, with room for a name
pub record Sweeping (room : List ℕ) (sweep : Sweep) : Type 0 where
  pub long : length room ≡ longest_name
  pub held : sweep.held ≤ most_held
  pub adds : Adds sweep.tally
  pub few : sweep.tally.names ≤ most_names

-- as long as names are read, what is begun is held in that room
abbrev pub Holding : (begun room : List ℕ) → Sweep → Type 0
Holding begun room sweep = sweep.tally.names < most_names → Holds begun room sweep.held

-- a part of the list is swept: whatever was begun before it, the names that end in it are counted, and what is begun behind it is held
pub record Sweeps (part room : List ℕ) (sweep : Sweep) (left : List ℕ) (r : Sweep) : Type 0 where
  pub goes : Sweeping left r
  pub counts : (begun : List ℕ) → Holding begun room sweep → Counts (ended begun part) sweep.tally r.tally
  pub holds : (begun : List ℕ) → Holding begun room sweep → Holding (begun_by begun part) left r

-- the list ends: what is begun is counted, where it is a name
abbrev pub Ends : (room : List ℕ) (sweep : Sweep) → Tally → Type 0
Ends room sweep tally = (begun : List ℕ) → Holding begun room sweep → Counts (last_name begun) sweep.tally tally

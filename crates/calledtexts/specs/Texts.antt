-- What the writers answer to a set and a plan that are handed in as numbers: a status, a text in lent bytes, and its length.
-- Document 01, rows 11 and 12 of the refusals (RULES 6.5).
use Rattle.std.specs.Prelude.{ℕ, List}
use Rattle.refusals.specs.Refused.{Written}
use Rattle.taskwrite.specs.Write.{write_of}
use Rattle.planfile.specs.Write.{write_plan}
use Rattle.switchlist.specs.Write.{write_switches}
use Rattle.handedset.specs.Set.{set_from}
use Rattle.handedplan.specs.Plan.{plan_from}

-- what the writers answer
abbrev pub set_written : (set out : List ℕ) → Written
set_written set out = write_of (set_from set) out

abbrev pub plan_written : (set plan out : List ℕ) → Written
plan_written set plan out = write_plan (set_from set) (plan_from plan) out

abbrev pub switches_written : (set plan out : List ℕ) → Written
switches_written set plan out = write_switches (set_from set) (plan_from plan) out

-- The switch list of a task file: the 21 lines of its plan, or the refusal of reading it or of planning it.
-- Document 02, Req 01 (RULES 4.3 to 4.5).
use Rattle.std.specs.Prelude.{ℕ, List, Err}
use Rattle.refusals.specs.Refused.{Written}
use Rattle.planlines.specs.Line.{refusal_text}
use Rattle.planfit.specs.Fit.{fitted}
use Rattle.taskplan.specs.File.{unless, filed_of}
use Rattle.switchlist.specs.Write.{plan_switches}

-- what the program `switches` prints: the list, or one 1F line
unfoldable pub switched : List ℕ → List ℕ
switched text = unless refusal_text (filed_of text).outcome (plan_switches (filed_of text).plan)

-- the list alone, into a lent buffer: the file's refusal, then ROOM, else the length of the exact text
unfoldable pub listed : (text buffer : List ℕ) → Written
listed text buffer = unless Err (filed_of text).outcome (fitted buffer (plan_switches (filed_of text).plan))

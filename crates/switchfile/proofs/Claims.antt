-- The claims of specs/Claims.
-- Assumes nothing.
use mathlib.Core.Path.{ap}
use Rattle.refusals.specs.Refused.{Outcome}
use Rattle.planlines.specs.Line.{refusal_text}
use Rattle.taskplan.specs.File.{unless, filed_of}
use Rattle.switchlist.specs.Write.{plan_switches}
use Rattle.switchfile.specs.OfFile.{switched}
use Rattle.switchfile.specs.Claims.{AcceptedList}

pub accepted_list : AcceptedList
unfolding switched
accepted_list text e = ap (λ (o : Outcome). unless refusal_text o (plan_switches (filed_of text).plan)) e

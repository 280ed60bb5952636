-- What is claimed of the switch list of a file, each claim as a type. The proofs stand under the same names in proofs/Claims.antt.
-- Document 02, Req 01 (RULES 4.3 to 4.5).
use Rattle.std.specs.Prelude.{ℕ, ◌≡◌, List, Ok}
use Rattle.taskplan.specs.File.{filed_of}
use Rattle.switchlist.specs.Write.{plan_switches}
use Rattle.switchfile.specs.OfFile.{switched}

-- An accepted file is answered by the switch list of its plan, and nothing else.
abbrev pub AcceptedList : Type 0
AcceptedList = (text : List ℕ) → (filed_of text).outcome ≡ Ok tt → switched text ≡ plan_switches (filed_of text).plan

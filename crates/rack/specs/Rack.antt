-- What the four functions for C and Rust answer: a text's length or 0, and a status with numbers in lent memory.
-- Document 01, "Lines of hexadecimal" (RULES 5), the two questions (RULES 4.1 and 4.2), and "Refusal numbers and their order" (RULES 6); document 02, Req 01 (RULES 4.3 to 4.5).
use Rattle.std.specs.Prelude.{ℕ, List, [], ◌∷◌, ◌||◌, ltb, length, Err, Ok}
use Rattle.digits.specs.Stored.{stored}
use Rattle.refusals.specs.declared.Refusal.TheVariants.{Room}
use Rattle.refusals.specs.Refused.{Outcome}
use Rattle.refusals.specs.First.{first_of, when}
use Rattle.refusals.specs.Refused.{Written}
use Rattle.refusals.specs.Leaves.{leaves}
use Rattle.verdict.specs.Numbers.{verdict_numbers}
use Rattle.told.specs.Told.{told_of}
use Rattle.planfit.specs.Fit.{fitted}
use Rattle.taskplan.specs.File.{filed_of}
use Rattle.planfile.specs.Tool.{answered}
use Rattle.askfile.specs.OfFile.{who_in, pass_in}
use Rattle.switchlist.specs.Write.{plan_switches}

-- the bytes that were written
abbrev pub bytes_of : Written → ℕ
bytes_of (Ok n) = n
bytes_of (Err r) = 0

-- the length of a file's plan text or 1F line, or 0 where it does not fit; and what the lent bytes then hold
unfoldable pub plan_bytes : (tasks out : List ℕ) → ℕ
plan_bytes tasks out = bytes_of (fitted out (answered tasks))

unfoldable pub plan_leaves : (tasks out : List ℕ) → List ℕ
plan_leaves tasks out = leaves (fitted out (answered tasks)) out (answered tasks)

-- who runs on processor p at tick x: the server, 0 for idle, and the ticks left
unfoldable pub who_numbers : (tasks : List ℕ) (p x : ℕ) → List ℕ
who_numbers tasks p x = (who_in tasks p (record { 0 = x })).server ∷ (who_in tasks p (record { 0 = x })).left ∷ []

unfoldable pub who_told : (tasks : List ℕ) (p x : ℕ) (answer : List ℕ) → Outcome
who_told tasks p x answer = told_of (who_in tasks p (record { 0 = x })).outcome (who_numbers tasks p x) answer

-- does server q pass with R
unfoldable pub pass_numbers : (tasks : List ℕ) (q R : ℕ) → List ℕ
pass_numbers tasks q R = verdict_numbers (pass_in tasks q R).verdict

unfoldable pub pass_told : (tasks : List ℕ) (q R : ℕ) (answer : List ℕ) → Outcome
pass_told tasks q R answer = told_of (pass_in tasks q R).outcome (pass_numbers tasks q R) answer

-- the switch list of a file's plan, and its number of bytes
abbrev pub list_text : (tasks : List ℕ) → List ℕ
list_text tasks = plan_switches (filed_of tasks).plan

unfoldable pub list_numbers : (tasks : List ℕ) → List ℕ
list_numbers tasks = length (list_text tasks) ∷ []

-- the file's own refusal, then 12 where there is no place for the number or too little room for the list
unfoldable pub list_told : (tasks out answer : List ℕ) → Outcome
list_told tasks out answer =
    first_of (filed_of tasks).outcome (when (ltb (length answer) 1 || ltb (length out) (length (list_text tasks))) Room)

-- the list at the start of the lent bytes, or the bytes as before
abbrev pub leaves_text : Outcome → (text out : List ℕ) → List ℕ
leaves_text (Ok _) text out = stored out 0 text
leaves_text (Err r) text out = out

unfoldable pub list_leaves : (tasks out answer : List ℕ) → List ℕ
list_leaves tasks out answer = leaves_text (list_told tasks out answer) (list_text tasks) out

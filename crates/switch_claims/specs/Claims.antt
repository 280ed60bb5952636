-- What is promised of the switch list of a plan and of a task file, in the words of document 02, Req 01 (RULES 4.3 to 4.5).
-- The proofs stand in proofs/Claims.antt, one for each claim. What the list of a ring holds is claimed in turn_claims.
use Rattle.std.specs.Prelude.{ℕ, ◌*◌, ◌%◌, ◌≤◌, ◌≡◌, List, [], ◌∷◌, true, false, length, take, Err, Ok}
use Rattle.refusals.specs.declared.Refusal.TheVariants.{Room}
use Rattle.frames.specs.declared.table.Frame.{Frame}
use Rattle.framesizes.specs.Overflow.{line_overflows}
use Rattle.tasks.specs.declared.set.TaskSet.{TaskSet}
use Rattle.tasks.specs.Set.{most_tasks}
use Rattle.readbytes.specs.Furthest.{furthest}
use Rattle.turn.specs.Switches.{Switch, turn_switches}
use Rattle.turn.specs.Count.{longest_switches}
use Rattle.turn_claims.specs.List.{StandsIn, named}
use Rattle.plan.specs.declared.plan.Plan.{Plan}
use Rattle.plan.specs.Plan.{reserves_in}
use Rattle.planagree.specs.Agrees.{SamePlan}
use Rattle.plancheck.specs.Makes.{makes}
use Rattle.whoruns.specs.WhoRuns.{who_runs}
use Rattle.askfile.specs.OfFile.{who_in}
use Rattle.planfile_claims.specs.Claims.{RowsExactly}
use Rattle.filed_claims.specs.Claims.{FileAccepted, plan_in}
use Rattle.switchlist.specs.Write.{plan_switches, write_switches}
use Rattle.switchfile.specs.OfFile.{switched, listed}

-- ---- a plan that is handed in with its set. A set has room for most_tasks tasks, by its type.

-- Refusals: ASK and ROOM as for the plan writer, exactly.
abbrev pub SwitchesWritten : Type 0
SwitchesWritten =
    (set : TaskSet) (plan : Plan) (buffer : List ℕ) → RowsExactly (makes set plan) buffer (plan_switches plan) (write_switches set plan buffer)

-- A plan with r = 0 gives no lines, and that is no refusal.
abbrev pub NoRingNoLines : Type 0
NoRingNoLines =
    (set : TaskSet) (plan : Plan) (buffer : List ℕ) → length set.tasks ≡ most_tasks → makes set plan ≡ true → plan.ring ≡ 0 →
    (plan_switches plan ≡ []) × (write_switches set plan buffer ≡ Ok 0)

-- the switches of a plan
abbrev pub switches_in : Plan → List Switch
switches_in plan = turn_switches plan.slot (reserves_in plan)

-- Tick 0 lists every ring processor, with the server that runs on it then.
abbrev pub StartListed : Type 0
StartListed =
    (set : TaskSet) (plan : Plan) (p : ℕ) → length set.tasks ≡ most_tasks → makes set plan ≡ true → 1 ≤ p → p ≤ plan.ring →
    StandsIn (record { tick = 0; processor = p; server = (who_runs set plan p (record { 0 = 0 })).server }) (switches_in plan)

-- So a plan with r ≥ 1 has lines.
abbrev pub RingHasLines : Type 0
RingHasLines =
    (set : TaskSet) (plan : Plan) → length set.tasks ≡ most_tasks → makes set plan ≡ true → 1 ≤ plan.ring → 1 ≤ length (plan_switches plan)

-- For the boot code: loaded and repeated every r·S ticks, a plan's list names whom the question "who runs" names, on every ring
-- processor, at every tick of all time.
abbrev pub BootList : Type 0
BootList =
    (set : TaskSet) (plan : Plan) (p x : ℕ) → length set.tasks ≡ most_tasks → makes set plan ≡ true → 1 ≤ p → p ≤ plan.ring →
    named (switches_in plan) p (x % (plan.ring * plan.slot)) ≡ (who_runs set plan p (record { 0 = x })).server

-- The most bytes that a list can have.
abbrev pub ListShort : Type 0
ListShort = (set : TaskSet) (plan : Plan) → length set.tasks ≡ most_tasks → makes set plan ≡ true → length (plan_switches plan) ≤ longest_switches

-- Nothing is cut off: the figures of every line fit their fields.
abbrev pub ListWhole : Type 0
ListWhole =
    (set : TaskSet) (plan : Plan) (s : Switch) → length set.tasks ≡ most_tasks → makes set plan ≡ true → StandsIn s (switches_in plan) →
    line_overflows Frame.Switch (s.tick ∷ s.processor ∷ s.server ∷ []) ≡ false

-- Unused room never shows.
abbrev pub ListRoomIgnored : Type 0
ListRoomIgnored = (n : ℕ) (a b : Plan) → SamePlan n a b → plan_switches a ≡ plan_switches b

-- ---- a task file

-- The same of every accepted file.
abbrev pub FileBootList : Type 0
FileBootList =
    (text : List ℕ) (p x : ℕ) → FileAccepted text → 1 ≤ p → p ≤ (plan_in text).ring →
    named (switches_in (plan_in text)) p (x % ((plan_in text).ring * (plan_in text).slot)) ≡ (who_in text p (record { 0 = x })).server

-- A buffer of the most bytes never meets ROOM.
abbrev pub FileListFits : Type 0
FileListFits = (text buffer : List ℕ) → longest_switches ≤ length buffer → listed text buffer ≡ Err Room → ⊥

-- What is printed of a file, its list or the 1F line of its refusal, has no more bytes than that.
abbrev pub SwitchedShort : Type 0
SwitchedShort = (text : List ℕ) → length (switched text) ≤ longest_switches

-- No further is looked into a file than the reader looks.
pub record ListPrefix : Type 0 where
  pub answer : (n : ℕ) (text : List ℕ) → furthest ≤ n → switched (take n text) ≡ switched text
  pub list : (n : ℕ) (text buffer : List ℕ) → furthest ≤ n → listed (take n text) buffer ≡ listed text buffer

-- Old files keep their answers, and so do old sets. Each claim is a type; the proofs stand under the same names in proofs/Claims.antt.
-- Document 02, Req 04: "without it B is 0"; Req 05: rule 00 "is today's rule and the default"; Req 07: a task of an 02 line takes the
-- header's cache cost; Req 08 adds lines after the tasks.
use Rattle.std.specs.Prelude.{ℕ, ◌≤◌, ◌≡◌, List, false, None, Option, Some}
use Rattle.demand.specs.Load.{Every}
use Rattle.tasks.specs.declared.set.Task.{Task}
use Rattle.tasks.specs.declared.set.TaskSet.{TaskSet}
use Rattle.tasks.specs.Set.{members, with_lines}
use Rattle.frames.specs.declared.table.Frame.{Frame}
use Rattle.frameread.specs.Line.{formed}
use Rattle.taskfile.specs.File.{from, is_masked, is_rule, is_interrupt}
use Rattle.taskread.specs.Read.{read_of}
use Rattle.ring.specs.declared.clock.Tick.{Tick}
use Rattle.plan.specs.declared.plan.Plan.{Plan}
use Rattle.planner.specs.Planner.{plan_of}
use Rattle.whoruns.specs.WhoRuns.{who_runs}
use Rattle.doespass.specs.DoesPass.{does_pass}
use Rattle.taskplan.specs.File.{filed_of}
use Rattle.planfile.specs.Tool.{answered}
use Rattle.askfile.specs.OfFile.{who_in, pass_in}
use Rattle.switchfile.specs.OfFile.{switched, listed}
use Rattle.before.specs.Earlier.{Earlier, before04, before05, before07, before08}
use Rattle.before.specs.Reading.{had_read}
use Rattle.before.specs.Planning.{had_plan, had_who, had_pass}
use Rattle.before.specs.Answers.{had_filed, had_answered, had_switched, had_listed, had_who_in, had_pass_in}

-- no line of the file is a 06 line, or a 05 line, or a 07 line, or an 03 line
abbrev pub NoRuleLine : List ℕ → Type 0
NoRuleLine text = (k : ℕ) → 1 ≤ k → is_rule text k ≡ false

abbrev pub NoMaskedLine : List ℕ → Type 0
NoMaskedLine text = (k : ℕ) → 1 ≤ k → is_masked text k ≡ false

abbrev pub NoInterruptLine : List ℕ → Type 0
NoInterruptLine text = (k : ℕ) → 1 ≤ k → is_interrupt text k ≡ false

abbrev pub NoCachedLine : List ℕ → Type 0
NoCachedLine text = (k : ℕ) → 1 ≤ k → formed Frame.Cached (from text k) ≡ false

-- the file is read, planned, printed, listed and asked of as it was then, refused or not
pub record FileAsBefore (e : Earlier) (text : List ℕ) : Type 0 where
  pub read : read_of text ≡ had_read e text
  pub filed : filed_of text ≡ had_filed e text
  pub printed : answered text ≡ had_answered e text
  pub switches : switched text ≡ had_switched e text
  pub list : (buffer : List ℕ) → listed text buffer ≡ had_listed e text buffer
  pub who : (p : ℕ) (x : Tick) → who_in text p x ≡ had_who_in e text p x
  pub pass : (q R : ℕ) → pass_in text q R ≡ had_pass_in e text q R

-- Every file without a 06 line gets the answer that it had before Req 05, byte for byte; without an 03 line either, before Req 07; without
-- a 07 line either, before Req 08; without a 05 line either, before Req 04.
pub record FilesAsBefore : Type 0 where
  pub packed : (text : List ℕ) → NoRuleLine text → FileAsBefore before05 text
  pub cached : (text : List ℕ) → NoRuleLine text → NoCachedLine text → FileAsBefore before07 text
  pub interrupts : (text : List ℕ) → NoRuleLine text → NoCachedLine text → NoInterruptLine text → FileAsBefore before08 text
  pub masked : (text : List ℕ) → NoRuleLine text → NoCachedLine text → NoMaskedLine text → NoInterruptLine text → FileAsBefore before04 text

-- a set is planned, and its plan asked of, as it was then
pub record SetAsBefore (e : Earlier) (set : TaskSet) : Type 0 where
  pub plan : plan_of set ≡ had_plan e set
  pub who : (plan : Plan) (p : ℕ) (x : Tick) → who_runs set plan p x ≡ had_who e set plan p x
  pub pass : (plan : Plan) (q R : ℕ) → does_pass set plan q R ≡ had_pass e set plan q R

-- the set has no packing rule of its own
abbrev pub Unruled : TaskSet → Type 0
Unruled set = set.header.rule ≡ None

-- no task of the set has a cache cost of its own
abbrev pub Uncached : TaskSet → Type 0
Uncached set = Every (λ (t : Task). t.cache ≡ None) (members set)

-- So is every set that a caller hands in without a packing rule; without cache costs of tasks either, as before Req 07; without interrupts
-- either, as before Req 08; without a 05 line either, as before Req 04.
pub record SetsAsBefore : Type 0 where
  pub packed : (set : TaskSet) → Unruled set → SetAsBefore before05 set
  pub cached : (set : TaskSet) → Unruled set → Uncached set → SetAsBefore before07 set
  pub interrupts : (set : TaskSet) → Unruled set → Uncached set → set.interrupts.count ≡ 0 → SetAsBefore before08 set
  pub masked : (set : TaskSet) → Unruled set → Uncached set → set.interrupts.count ≡ 0 → set.header.masked ≡ None → SetAsBefore before04 set

-- the set with another 05 line, or none; with another 06 line, or none
abbrev pub lined : TaskSet → Option ℕ → TaskSet
lined set masked =
    record { header = with_lines set.header masked set.header.rule; count = set.count; tasks = set.tasks; interrupts = set.interrupts }

abbrev pub ruled : TaskSet → Option ℕ → TaskSet
ruled set rule =
    record { header = with_lines set.header set.header.masked rule; count = set.count; tasks = set.tasks; interrupts = set.interrupts }

-- A 05 line of 0 ticks is planned as no line, though it is another text.
abbrev pub ZeroAsNone : Type 0
ZeroAsNone = (set : TaskSet) → plan_of (lined set (Some 0)) ≡ plan_of (lined set None)

-- So is a 06 line of rule 00.
abbrev pub ZeroRuleAsNone : Type 0
ZeroRuleAsNone = (set : TaskSet) → plan_of (ruled set (Some 0)) ≡ plan_of (ruled set None)

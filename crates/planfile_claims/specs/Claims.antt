-- What is promised of the texts and of the whole tool, each claim as a type. The proofs stand under the same names in proofs/.
-- Document 01, "Lines of hexadecimal" (RULES 5), rows 11 and 12 of the refusals (RULES 6.5) and "How tight each promise is".
use Rattle.std.specs.Prelude.{ℕ, ◌+◌, ◌^◌, ◌≤◌, ◌<◌, List, ◌++◌, map, Bool, true, false, ◌↔◌, ◌⊎◌, ◌≡◌, length, take, drop, get_or, Err, Ok}
use Rattle.refusals.specs.declared.Refusal.{Refusal}
use Rattle.refusals.specs.declared.Refusal.TheVariants.{Ask, Room}
use Rattle.refusals.specs.Refused.{Written}
use Rattle.ring.specs.declared.clock.Tick.{Tick}
use Rattle.tasks.specs.declared.set.TaskSet.{TaskSet}
use Rattle.tasks.specs.Set.{most_tasks}
use Rattle.frames.specs.Table.{fields_in, width_of}
use Rattle.frames.specs.declared.table.Frame.{Frame}
use Rattle.refusals.specs.Leaves.{leaves}
use Rattle.refusals.specs.Refused.{place_of}
use Rattle.ring.specs.declared.cover.Stand.{Stand}
use Rattle.loads.specs.Figures.{Figures}
use Rattle.setfigures.specs.Figures.{set_figures}
use Rattle.plan.specs.declared.plan.Plan.{Plan}
use Rattle.plan.specs.declared.server.Server.{Server}
use Rattle.plan.specs.Plan.{no_server, zero_stand}
use Rattle.whoruns.specs.declared.WhoAnswer.{WhoAnswer}
use Rattle.doespass.specs.declared.PassAnswer.{PassAnswer}
use Rattle.plancheck.specs.Makes.{makes}
use Rattle.readbytes.specs.Furthest.{furthest}
use Rattle.planfigures.specs.Figures.{server_figures, placed_figures, processor_figures}
use Rattle.planlines.specs.Line.{plan_figures}
use Rattle.plantext.specs.Text.{plan_text, longest_text}
use Rattle.planfit.specs.Fit.{fitted, Fits}
use Rattle.planfile.specs.Write.{write_plan}
use Rattle.taskplan.specs.File.{filed_of}
use Rattle.planfile.specs.Tool.{answered}
use Rattle.askfile.specs.OfFile.{who_in, pass_in}

-- what the plan writer's contract says of its answer and of the buffer
abbrev pub Writes : TaskSet → Plan → (buffer : List ℕ) → Written → (left : List ℕ) → Type 0
Writes set plan buffer w left =
    (w ≡ write_plan set plan buffer) × (left ≡ leaves (write_plan set plan buffer) buffer (plan_text set plan))

-- Two results that keep a promise coincide: the answers, and what the buffers hold.
pub record Determined : Type 0 where
  pub write : (set : TaskSet) (plan : Plan) (buffer : List ℕ) {w v : Written} {l k : List ℕ} →
      Writes set plan buffer w l → Writes set plan buffer v k → (w ≡ v) × (l ≡ k)
  pub answer : (text buffer : List ℕ) {w v : Written} {l k : List ℕ} →
      Fits buffer (answered text) w l → Fits buffer (answered text) v k → (w ≡ v) × (l ≡ k)
  pub who : (text : List ℕ) (p : ℕ) (x : Tick) {a b : WhoAnswer} → a ≡ who_in text p x → b ≡ who_in text p x → a ≡ b
  pub pass : (text : List ℕ) (q R : ℕ) {a b : PassAnswer} → a ≡ pass_in text q R → b ≡ pass_in text q R → a ≡ b

-- An accepted write changes the text's bytes at the buffer's start and no others; row 12 is given exactly when the buffer is shorter than the text.
pub record TextExact : Type 0 where
  pub bytes : (buffer text : List ℕ) → length text ≤ length buffer →
      (fitted buffer text ≡ Ok (length text)) × (leaves (fitted buffer text) buffer text ≡ text ++ drop (length text) buffer)
  pub room : (buffer text : List ℕ) → length buffer < length text → fitted buffer text ≡ Err Room
  pub room_only : (buffer text : List ℕ) (r : Refusal) → fitted buffer text ≡ Err r → (r ≡ Room) × (length buffer < length text)

-- Writing a text of a plan: row 11 exactly where the planner does not make that plan of that set; row 12 exactly where it does and the
-- buffer is shorter than the text. A number of bytes exactly where neither holds, and it is the text's length. No other refusal is given.
pub record RowsExactly (made : Bool) (buffer text : List ℕ) (answer : Written) : Type 0 where
  pub ask : (answer ≡ Err Ask) ↔ (made ≡ false)
  pub room : (answer ≡ Err Room) ↔ ((made ≡ true) × (length buffer < length text))
  pub bytes : (n : ℕ) → (answer ≡ Ok n) ↔ ((made ≡ true) × ((length text ≤ length buffer) × (n ≡ length text)))
  pub others : (r : Refusal) → answer ≡ Err r → (r ≡ Ask) ⊎ (r ≡ Room)

abbrev pub WriteExactly : Type 0
WriteExactly = (set : TaskSet) (plan : Plan) (buffer : List ℕ) → RowsExactly (makes set plan) buffer (plan_text set plan) (write_plan set plan buffer)

-- A refused write stores nothing.
pub record RefusedStoresNothing : Type 0 where
  pub write : (set : TaskSet) (plan : Plan) (buffer : List ℕ) (r : Refusal) {left : List ℕ} → Writes set plan buffer (Err r) left → left ≡ buffer
  pub answer : (text buffer : List ℕ) (r : Refusal) {left : List ℕ} → Fits buffer (answered text) (Err r) left → left ≡ buffer

-- The tool and the questions look no further into a file than the reader.
pub record PrefixEnough : Type 0 where
  pub answer : (n : ℕ) (text : List ℕ) → furthest ≤ n → answered (take n text) ≡ answered text
  pub who : (n : ℕ) (text : List ℕ) → furthest ≤ n → (p : ℕ) (x : Tick) → who_in (take n text) p x ≡ who_in text p x
  pub pass : (n : ℕ) (text : List ℕ) → furthest ≤ n → (q R : ℕ) → pass_in (take n text) q R ≡ pass_in text q R

-- No answer is longer than the longest text of a plan, so a caller who lends as many bytes never meets row 12.
abbrev pub AnsweredShort : Type 0
AnsweredShort = (text : List ℕ) → length (answered text) ≤ longest_text

-- the server at place i, from 0
abbrev pub server_in : Plan → (i : ℕ) → Server
server_in plan i = get_or plan.server i no_server

-- the first reserve of the processor at place i, from 0
abbrev pub first_in : Plan → (i : ℕ) → Stand
first_in plan i = get_or plan.first i zero_stand

-- the places of the tasks of the server at place i
abbrev pub places_of : Plan → (i : ℕ) → List ℕ
places_of plan i = take (server_in plan i).count (server_in plan i).places

-- the figures of a plan fit their fields, and a server on a whole processor has no ring start
pub record FitFields (set : TaskSet) (plan : Plan) : Type 0 where
  pub whole : plan.whole < 16 ^ width_of Frame.Plan 0
  pub ring : plan.ring < 16 ^ width_of Frame.Plan 1
  pub servers : plan.servers < 16 ^ width_of Frame.Plan 2
  pub slot : plan.slot < 16 ^ width_of Frame.Plan 3
  pub idle : plan.idle < 16 ^ width_of Frame.Plan 4
  pub reserve : (i : ℕ) → i < plan.servers → (server_in plan i).reserve < 16 ^ width_of Frame.Server 1
  pub start : (i : ℕ) → i < plan.servers → (server_in plan i).start.0 < 16 ^ width_of Frame.Server 2
  pub no_start : (i : ℕ) → i < plan.servers → plan.slot ≤ (server_in plan i).reserve → (server_in plan i).start.0 ≡ 0
  pub tasks : (i : ℕ) → i < plan.servers → (server_in plan i).count < 16 ^ width_of Frame.Server 3
  pub server : (i : ℕ) → i < set.count → get_or plan.placement i 0 < 16 ^ width_of Frame.Placed 1
  pub first : (i : ℕ) → i < plan.ring + plan.whole → (first_in plan i).server < 16 ^ width_of Frame.Processor 1
  pub duration : (i : ℕ) → i < plan.ring + plan.whole → (first_in plan i).left < 16 ^ width_of Frame.Processor 2

-- two plans of so many tasks have the same figures, wherever they are printed
pub record SamePrinted (count : ℕ) (a b : Plan) : Type 0 where
  pub whole : a.whole ≡ b.whole
  pub ring : a.ring ≡ b.ring
  pub servers : a.servers ≡ b.servers
  pub slot : a.slot ≡ b.slot
  pub idle : a.idle ≡ b.idle
  pub reserve : (i : ℕ) → i < b.servers → (server_in a i).reserve ≡ (server_in b i).reserve
  pub start : (i : ℕ) → i < b.servers → (server_in a i).start.0 ≡ (server_in b i).start.0
  pub tasks : (i : ℕ) → i < b.servers → (server_in a i).count ≡ (server_in b i).count
  pub server : (i : ℕ) → i < count → get_or a.placement i 0 ≡ get_or b.placement i 0
  pub first : (i : ℕ) → i < b.ring + b.whole → (first_in a i).server ≡ (first_in b i).server
  pub duration : (i : ℕ) → i < b.ring + b.whole → (first_in a i).left ≡ (first_in b i).left

-- Two plans whose figures fit their fields have the same text only where they have the same figures, of as many tasks.
abbrev pub TextTells : Type 0
TextTells =
    (set₁ set₂ : TaskSet) (plan₁ plan₂ : Plan) → FitFields set₁ plan₁ → FitFields set₂ plan₂
    → plan_text set₁ plan₁ ≡ plan_text set₂ plan₂ → (set₁.count ≡ set₂.count) × SamePrinted set₂.count plan₁ plan₂

-- the cache cost of each task
abbrev pub task_caches : TaskSet → List ℕ
task_caches set = map (λ (f : Figures). f.cache) (set_figures set)

-- the plans of two sets are the same: in what is printed, in each server's places, and in its cache cost, which no line prints,
-- where the sets' tasks have the same
pub record ToldSame (set₁ set₂ : TaskSet) (plan₁ plan₂ : Plan) : Type 0 where
  pub count : set₁.count ≡ set₂.count
  pub printed : SamePrinted set₂.count plan₁ plan₂
  pub places : (i : ℕ) → i < plan₂.servers → places_of plan₁ i ≡ places_of plan₂ i
  pub cache : task_caches set₁ ≡ task_caches set₂ → (i : ℕ) → i < plan₂.servers → (server_in plan₁ i).cache ≡ (server_in plan₂ i).cache

-- Two accepted plans with the same text are the same plan. A set has room for the most tasks, by its type.
abbrev pub TextTellsPlan : Type 0
TextTellsPlan =
    (set₁ set₂ : TaskSet) (plan₁ plan₂ : Plan) → length set₁.tasks ≡ most_tasks → length set₂.tasks ≡ most_tasks
    → makes set₁ plan₁ ≡ true → makes set₂ plan₂ ≡ true
    → plan_text set₁ plan₁ ≡ plan_text set₂ plan₂ → ToldSame set₁ set₂ plan₁ plan₂

-- a line has a figure for each field of its frame, and each fits its field
pub record InFields (frame : Frame) (figures : List ℕ) : Type 0 where
  pub many : length figures ≡ fields_in frame
  pub each : (k : ℕ) → get_or figures k 0 < 16 ^ width_of frame k

-- all lines of a plan's text: the plan's, its servers', the tasks' and the processors'
pub record LinesInFields (set : TaskSet) (plan : Plan) : Type 0 where
  pub figures : InFields Frame.Plan (plan_figures plan)
  pub servers : (q : ℕ) → 1 ≤ q → q ≤ plan.servers → InFields Frame.Server (server_figures plan.server plan.slot q)
  pub tasks : (k : ℕ) → 1 ≤ k → k ≤ set.count → InFields Frame.Placed (placed_figures set.tasks plan.placement k)
  pub processors : (p : ℕ) → 1 ≤ p → p ≤ plan.ring + plan.whole → InFields Frame.Processor (processor_figures plan.first p)

-- No digit of an accepted plan is cut off: every figure of its text fits its field. A set has room for the most tasks, by its type.
abbrev pub NothingCutOff : Type 0
NothingCutOff = (set : TaskSet) (plan : Plan) → length set.tasks ≡ most_tasks → makes set plan ≡ true → LinesInFields set plan

-- The place of a refusal that a file meets, by reading it or by planning it, fits its field.
abbrev pub PlacesFit : Type 0
PlacesFit = (text : List ℕ) (r : Refusal) → (filed_of text).outcome ≡ Err r → place_of r < 16 ^ width_of Frame.Refused 1

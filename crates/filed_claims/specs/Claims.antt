-- What holds of the plan of every accepted task file, each claim as a type: nothing is asked but that the file is accepted. And that
-- unused room never shows. The proofs stand under the same names in proofs/Claims.antt.
-- The note's demands 2 and 3; document 02, Req 04, Req 05 and Req 08; document 01, "Demand, supply, and the report's test" (RULES 2) and "From tasks to servers to ring" (RULES 3).
use Rattle.std.specs.Prelude.{ℕ, ◌+◌, ◌*◌, ◌-◌, ◌≤◌, ◌<◌, ◌≡◌, ◌↔◌, ◌⊎◌, true, cond, List, [], ◌∷◌, ◌++◌, map, eqb, length, get_or, take, Err, Ok}
use Rattle.refusals.specs.declared.Refusal.TheVariants.{Alone}
use Rattle.wholes.specs.Multiple.{LeastMultipleOf}
use Rattle.demand.specs.Load.{Load, Every}
use Rattle.demand.specs.Demand.{jobs, demand}
use Rattle.demand.specs.Supply.{Allowed, supply}
use Rattle.demand.specs.Passes.{Passes, FakePasses}
use Rattle.demand.specs.Steps.{Step}
use Rattle.interrupting.specs.Interrupts.{Bound, greatest}
use Rattle.masking.specs.Masking.{soonest, latest, masked_demand}
use Rattle.verdict.specs.Reserve.{Smallest}
use Rattle.verdict.specs.declared.answer.Verdict.TheVariants.{Yes}
use Rattle.tasks.specs.declared.set.Interrupt.{Interrupt}
use Rattle.tasks.specs.declared.set.Task.{Task}
use Rattle.tasks.specs.declared.set.TaskSet.{TaskSet}
use Rattle.tasks.specs.Set.{most_tasks, longest_horizon, masked_ticks, rule_number, members, interrupts_in, zero_task}
use Rattle.taskfile.specs.File.{file_interrupts}
use Rattle.tasktext.specs.Text.{text_of}
use Rattle.taskwrite.specs.Write.{write_of}
use Rattle.ring.specs.declared.clock.Tick.{Tick}
use Rattle.loads.specs.Charge.{server_loads, server_loss}
use Rattle.loads.specs.Figures.{Figures, figures_of}
use Rattle.members.specs.Server.{server_demand}
use Rattle.packing.specs.declared.Order.{Order}
use Rattle.packing.specs.declared.Fit.{Fit}
use Rattle.packing.specs.declared.Fit.TheVariants.{First}
use Rattle.packing.specs.Rules.{order_of, fit_of}
use Rattle.packing.specs.Turns.{task_at, turns_of, in_turn}
use Rattle.packing.specs.Claims.{TurnsSorted}
use Rattle.servers.specs.Claims.{Named, Opened}
use Rattle.setfigures.specs.Figures.{set_figures}
use Rattle.setfigures.specs.Board.{set_interrupts, set_board}
use Rattle.rows.specs.Rows.{horizon_of}
use Rattle.plan.specs.declared.plan.Plan.{Plan}
use Rattle.plan.specs.Plan.{server_at}
use Rattle.layout.specs.Made.{set_placement}
use Rattle.planagree.specs.Agrees.{SamePlan}
use Rattle.planprocessor.specs.Standing.{is_processor}
use Rattle.whoruns.specs.WhoRuns.{who_runs}
use Rattle.named.specs.Named.{is_server}
use Rattle.doespass.specs.declared.PassAnswer.{PassAnswer}
use Rattle.doespass.specs.DoesPass.{does_pass}
use Rattle.plan_claims.specs.Claims.{SameSet, CheckedPlan, WhoTells, PassTells, server_of_task, members_in, allowed_in}
use Rattle.plantext.specs.Text.{plan_text}
use Rattle.planfile.specs.Write.{write_plan}
use Rattle.taskplan.specs.File.{filed_of}
use Rattle.planfile.specs.Tool.{answered}
use Rattle.askfile.specs.OfFile.{who_in, pass_in}
use Rattle.planfile_claims.specs.Claims.{ToldSame, LinesInFields}
use Rattle.rotas.specs.Rota.{Standing}
use Rattle.fitting_rotas.specs.Rota.{rota_of}
use Rattle.promises.specs.Prints.{PrintsRota}
use Rattle.promises.specs.Claims.{UnrolledRota}

-- a file is accepted: it is read, and the planner gives its set a plan
abbrev pub FileAccepted : (text : List ℕ) → Type 0
FileAccepted text = (filed_of text).outcome ≡ Ok tt

-- the set and the plan of a file
abbrev pub set_in : (text : List ℕ) → TaskSet
set_in text = (filed_of text).set

abbrev pub plan_in : (text : List ℕ) → Plan
plan_in text = (filed_of text).plan

-- A file's set has room for most_tasks tasks, as its type says; also where the file is refused.
abbrev pub FileFull : Type 0
FileFull = (text : List ℕ) → length (set_in text).tasks ≡ most_tasks

-- ---- each task where the file's rule puts it

-- the order and the fit of a set's packing rule, and the places of its tasks in their turns, from 0
abbrev pub order_in : TaskSet → Order
order_in set = order_of (rule_number set.header)

abbrev pub fit_in : TaskSet → Fit
fit_in set = fit_of (rule_number set.header)

abbrev pub turns_in : TaskSet → List ℕ
turns_in set = turns_of (order_in set) (set_figures set)

-- the tasks whose turns are before turn j, and the servers that the plan has them in
abbrev pub come_before : TaskSet → (j : ℕ) → List Figures
come_before set j = in_turn (take j (turns_in set)) (set_figures set)

abbrev pub servers_before : TaskSet → Plan → (j : ℕ) → List ℕ
servers_before set plan j = map (λ (i : ℕ). get_or plan.placement i 0) (take j (turns_in set))

-- the task that comes in turn j, and its server
abbrev pub task_in_turn : TaskSet → (j : ℕ) → Figures
task_in_turn set j = task_at (set_figures set) (get_or (turns_in set) j 0)

abbrev pub server_in_turn : TaskSet → Plan → (j : ℕ) → ℕ
server_in_turn set plan j = get_or plan.placement (get_or (turns_in set) j 0) 0

-- The task of turn j is in the server that the fit names of those that pass with it, beside the tasks that came before it, by the rooms
-- that these leave of the file's horizon; or it opened the next server, since none passes with it.
abbrev pub PlacedByRule : TaskSet → Plan → (j : ℕ) → Type 0
PlacedByRule set plan j =
    Named (fit_in set) (set_board set) (horizon_of set) (come_before set j) (servers_before set plan j) (task_in_turn set j) (server_in_turn set plan j)
    ⊎ Opened (set_board set) (come_before set j) (servers_before set plan j) (task_in_turn set j) (server_in_turn set plan j)

-- The tasks come sorted by their exact loads as the rule says, each once, equal loads in file order, and each goes where the rule says.
pub record ByRule (set : TaskSet) (plan : Plan) : Type 0 where
  pub turns : TurnsSorted (order_in set) (set_figures set)
  pub placed : (j : ℕ) → j < set.count → PlacedByRule set plan j

-- Each task's server, which its 13 line prints, is the one that the rule of the file gives it.
abbrev pub FileByRule : Type 0
FileByRule = (text : List ℕ) → FileAccepted text → ByRule (set_in text) (plan_in text)

-- ---- first fit in file order

-- the own figures of task k; tasks count from 1
abbrev pub figures_at : TaskSet → (k : ℕ) → Figures
figures_at set k = get_or (set_figures set) (k - 1) (figures_of set.header zero_task)

-- Task k is in the lowest-numbered server that passes with it, beside those of the n tasks before it that the plan has there; or it
-- opened the next server, since none passes with it.
abbrev pub PlacedFirst : TaskSet → Plan → (k : ℕ) → Type 0
PlacedFirst set plan k =
    let n = k - 1 in
    Named First (set_board set) (horizon_of set) (take n (set_figures set)) (take n plan.placement) (figures_at set k) (server_of_task plan k)
    ⊎ Opened (set_board set) (take n (set_figures set)) (take n plan.placement) (figures_at set k) (server_of_task plan k)

-- Where the file names no rule, or rule 0, each task's server is the one that first fit in file order gives it.
abbrev pub FileFirstFit : Type 0
FileFirstFit =
    (text : List ℕ) → FileAccepted text → rule_number (set_in text).header ≡ 0 → (k : ℕ) → 1 ≤ k → k ≤ (set_in text).count →
    PlacedFirst (set_in text) (plan_in text) k

-- ---- the smallest reserves

-- the demand and the entry loss of server q, in the plan's own figures
abbrev pub demand_in : TaskSet → Plan → (q : ℕ) → ℕ → ℕ
demand_in set plan q = server_demand (set_board set) (members_in set plan q)

abbrev pub loss_in : TaskSet → Plan → (q : ℕ) → ℕ
loss_in set plan q = server_loss set.header (members_in set plan q)

-- The report's own test, over all lengths. On the ring, the demand and the fake task fit into every length. A whole processor has no
-- fake task: the demand alone fits.
pub record ReportPasses (g : ℕ → ℕ) (S L R : ℕ) : Type 0 where
  pub ring : R < S → FakePasses g S L R
  pub whole : R ≡ S → (t : ℕ) → 1 ≤ t → g t ≤ t

-- R is allowed, from L + 1 to S − 1, or S; it passes the report's test, and no smaller allowed reserve does
pub record ReportSmallest (g : ℕ → ℕ) (S L R : ℕ) : Type 0 where
  pub allowed : Allowed S L R
  pub passes : ReportPasses g S L R
  pub none_smaller : (R' : ℕ) → Allowed S L R' → R' < R → FakePasses g S L R' → ⊥

-- Each reserve is allowed, with it the server's demand is at most its supply at every length, and no smaller allowed reserve passes.
abbrev pub FileSmallest : Type 0
FileSmallest =
    (text : List ℕ) → FileAccepted text → (q : ℕ) → 1 ≤ q → q ≤ (plan_in text).servers →
    Smallest (demand_in (set_in text) (plan_in text) q) (set_in text).header.slot (loss_in (set_in text) (plan_in text) q) (server_at (plan_in text) q).reserve

-- Where interrupts are never held off, B = 0, each is the smallest one that passes the report's own test, or a whole processor.
abbrev pub FileReport : Type 0
FileReport =
    (text : List ℕ) → FileAccepted text → masked_ticks (set_in text).header ≡ 0 → (q : ℕ) → 1 ≤ q → q ≤ (plan_in text).servers →
    ReportSmallest (demand_in (set_in text) (plan_in text) q) (set_in text).header.slot (loss_in (set_in text) (plan_in text) q) (server_at (plan_in text) q).reserve

-- ---- masked interrupts

-- the charged loads of server q, in the plan's own figures: their deadlines are its tasks' d
abbrev pub loads_in : TaskSet → Plan → (q : ℕ) → List Load
loads_in set plan q = server_loads set.header (members_in set plan q)

-- what its tasks and the interrupts ask
abbrev pub asks_in : TaskSet → Plan → (q : ℕ) → ℕ → ℕ
asks_in set plan q t = demand (loads_in set plan q) t + greatest set.header.processors (set_interrupts set) t

-- a server gains B at each length from its smallest d up to, but not including, its largest d, and nothing elsewhere; so a server of
-- one task, or of tasks of one d, gains nothing
pub record MaskedIn (set : TaskSet) (plan : Plan) (q : ℕ) : Type 0 where
  pub inside : (t : ℕ) → soonest (loads_in set plan q) ≤ t → t < latest (loads_in set plan q) →
      demand_in set plan q t ≡ asks_in set plan q t + masked_ticks set.header
  pub outside : (t : ℕ) → (t < soonest (loads_in set plan q)) ⊎ (latest (loads_in set plan q) ≤ t) →
      demand_in set plan q t ≡ asks_in set plan q t
  pub one : length (members_in set plan q) ≡ 1 → (t : ℕ) → demand_in set plan q t ≡ asks_in set plan q t
  pub equal : (d : ℕ) → Every (λ (l : Load). l.deadline ≡ d) (loads_in set plan q) → (t : ℕ) →
      demand_in set plan q t ≡ asks_in set plan q t

-- So it is with each server of a file.
abbrev pub FileMasked : Type 0
FileMasked =
    (text : List ℕ) → FileAccepted text → (q : ℕ) → 1 ≤ q → q ≤ (plan_in text).servers → MaskedIn (set_in text) (plan_in text) q

-- ---- interrupt load

-- what those of some interrupts that are on processor p must have had in a window of t: the sum of C · max(0, floor((t − (D − J))/T) + 1)
unfoldable pub asks_on : (p : ℕ) → List Interrupt → (t : ℕ) → ℕ
asks_on p [] t = 0
asks_on p (i ∷ is) t = cond (eqb i.processor p) (i.cost * jobs (i.deadline - i.jitter) i.period t) 0 + asks_on p is t

-- g is the greatest of that over processors 1 to m
pub record GreatestOf (m : ℕ) (is : List Interrupt) (t g : ℕ) : Type 0 where
  pub most : (p : ℕ) → 1 ≤ p → p ≤ m → asks_on p is t ≤ g
  pub one : (p : ℕ) × (1 ≤ p) × (p ≤ m) × (g ≡ asks_on p is t)

-- A server's demand in a file is that of its tasks, with what it gains, and the greatest over processors of what the file's 07 lines ask.
abbrev pub FileInterrupts : Type 0
FileInterrupts =
    (text : List ℕ) → FileAccepted text → (q t : ℕ) →
    (g : ℕ) × GreatestOf (set_in text).header.processors (file_interrupts text) t g ×
    (demand_in (set_in text) (plan_in text) q t ≡ masked_demand (masked_ticks (set_in text).header) (loads_in (set_in text) (plan_in text) q) t + g)

-- A file without a 07 line is never refused by 13.
abbrev pub FileNeverAlone : Type 0
FileNeverAlone = (text : List ℕ) (k : ℕ) → file_interrupts text ≡ [] → (filed_of text).outcome ≡ Err (Alone k) → ⊥

-- ---- the horizon

-- x is a length at which a deadline of server q or of an interrupt falls, where its demand can step: d + j·T of one of its charged loads,
-- or of an interrupt with d = D − J
abbrev pub StepIn : TaskSet → Plan → (q x : ℕ) → Type 0
StepIn set plan q x = Step (loads_in set plan q) x ⊎ Step (map (λ (b : Bound). b.load) (set_interrupts set)) x

-- demand is at most supply at such lengths from 1 to H
abbrev pub StepsPass : TaskSet → Plan → (q R : ℕ) → Type 0
StepsPass set plan q R =
    (t : ℕ) → 1 ≤ t → t ≤ horizon_of set → StepIn set plan q t →
    demand_in set plan q t ≤ supply set.header.slot (loss_in set plan q) R t

-- H is the least common multiple of S and every T, the tasks' and the interrupts', at most 10,000,000, and up to it the steps decide for
-- each server and any R
pub record HorizonEnough (set : TaskSet) (plan : Plan) : Type 0 where
  pub multiple :
      LeastMultipleOf set.header.slot (map (λ (t : Task). t.period) (members set) ++ map (λ (i : Interrupt). i.period) (interrupts_in set)) (horizon_of set)
  pub short : horizon_of set ≤ longest_horizon
  pub decides : (q R : ℕ) → 1 ≤ q → q ≤ plan.servers →
      Passes (demand_in set plan q) set.header.slot (loss_in set plan q) R ↔ StepsPass set plan q R

-- The file's horizon decides for all lengths, at the steps alone.
abbrev pub FileHorizon : Type 0
FileHorizon = (text : List ℕ) → FileAccepted text → HorizonEnough (set_in text) (plan_in text)

-- ---- what is claimed of any set and plan that the planner makes of it

-- The plan's figures are what the plan of a fitting placement has, and it has room on the board.
abbrev pub FileChecked : Type 0
FileChecked = (text : List ℕ) → FileAccepted text → CheckedPlan (set_in text) (plan_in text)

-- The file's rota stands, and its plan's figures are that rota.
abbrev pub FileStands : Type 0
FileStands = (text : List ℕ) → FileAccepted text → Standing (rota_of (set_in text) (set_placement (set_in text)))

abbrev pub FileIsRota : Type 0
FileIsRota =
    (text : List ℕ) → FileAccepted text →
    PrintsRota (rota_of (set_in text) (set_placement (set_in text))) (set_placement (set_in text)) (plan_in text)

-- Whoever has the printed plan of a file, and nothing else, has that rota: on every processor, at every tick of all time.
abbrev pub FilePrintedRota : Type 0
FilePrintedRota =
    (text : List ℕ) (mark p x : ℕ) → FileAccepted text → 1 ≤ p → p ≤ (plan_in text).ring + (plan_in text).whole →
    UnrolledRota (set_in text) (plan_in text) mark p x

-- the questions asked of a file are those asked of its set and plan, and answer what the plan's own figures say
pub record QuestionsTell (text : List ℕ) : Type 0 where
  pub who_asked : (p : ℕ) (x : Tick) → who_in text p x ≡ who_runs (set_in text) (plan_in text) p x
  pub who : (p : ℕ) (x : Tick) → is_processor (plan_in text) p ≡ true → WhoTells (set_in text) (plan_in text) p x
  pub pass_asked : (q R : ℕ) → pass_in text q R ≡ does_pass (set_in text) (plan_in text) q R
  pub pass : (q R : ℕ) → is_server (plan_in text) q ≡ true → allowed_in (set_in text) (plan_in text) q R ≡ true → PassTells (set_in text) (plan_in text) q R

-- So answer the two questions of an accepted file.
abbrev pub FileQuestions : Type 0
FileQuestions = (text : List ℕ) → FileAccepted text → QuestionsTell text

-- ---- how close a server that passes comes

-- the supply of server q with the reserve R, and its ticks to spare: supply less demand. Beside Passes that is not cut off at 0.
abbrev pub supply_in : TaskSet → Plan → (q R : ℕ) → ℕ → ℕ
supply_in set plan q R x = supply set.header.slot (loss_in set plan q) R x

abbrev pub spare_in : TaskSet → Plan → (q R : ℕ) → ℕ → ℕ
spare_in set plan q R x = supply_in set plan q R x - demand_in set plan q x

-- t is such a length, within H; no other has fewer ticks to spare, and each before it has more
pub record ClosestAt (set : TaskSet) (plan : Plan) (q R t : ℕ) : Type 0 where
  pub step : StepIn set plan q t
  pub within : t ≤ horizon_of set
  pub least : (x : ℕ) → StepIn set plan q x → spare_in set plan q R t ≤ spare_in set plan q R x
  pub first : (x : ℕ) → StepIn set plan q x → x < t → spare_in set plan q R t < spare_in set plan q R x

-- yes with the length t, the demand and the supply there
abbrev pub yes_at : TaskSet → Plan → (q R t : ℕ) → PassAnswer
yes_at set plan q R t =
    record { outcome = Ok tt; verdict = Yes (record { length = t; demand = demand_in set plan q t; supply = supply_in set plan q R t }) }

-- Asked of a server that passes with an allowed reserve, a file's question names the closest length.
abbrev pub FileClosest : Type 0
FileClosest =
    (text : List ℕ) (q R : ℕ) → FileAccepted text → is_server (plan_in text) q ≡ true → allowed_in (set_in text) (plan_in text) q R ≡ true →
    Passes (demand_in (set_in text) (plan_in text) q) (set_in text).header.slot (loss_in (set_in text) (plan_in text) q) R →
    (t : ℕ) × ClosestAt (set_in text) (plan_in text) q R t × (pass_in text q R ≡ yes_at (set_in text) (plan_in text) q R t)

-- ---- what is printed

-- No digit of what is printed is cut off.
abbrev pub FileCutsNothing : Type 0
FileCutsNothing = (text : List ℕ) → FileAccepted text → LinesInFields (set_in text) (plan_in text)

-- Two accepted files for which the tool prints the same bytes have the same plan.
abbrev pub FileTellsPlan : Type 0
FileTellsPlan =
    (text₁ text₂ : List ℕ) → FileAccepted text₁ → FileAccepted text₂ → answered text₁ ≡ answered text₂ →
    ToldSame (set_in text₁) (set_in text₂) (plan_in text₁) (plan_in text₂)

-- ---- unused room never shows

-- Two sets that differ in unused room alone are written with the same bytes, and so are two plans of such sets that differ in unused
-- room alone; and writing them answers the same, into any buffer.
pub record RoomNeverShows : Type 0 where
  pub set_text : (a b : TaskSet) → SameSet a b → text_of a ≡ text_of b
  pub set_written_lem : (a b : TaskSet) (buffer : List ℕ) → SameSet a b → write_of a buffer ≡ write_of b buffer
  pub plan_text_lem : (a b : TaskSet) (p q : Plan) → SameSet a b → SamePlan a.count p q → plan_text a p ≡ plan_text b q
  pub plan_written_lem : (a b : TaskSet) (p q : Plan) (buffer : List ℕ) → SameSet a b → SamePlan a.count p q → write_plan a p buffer ≡ write_plan b q buffer

-- What the examples ask of a task file, and what the project's own definitions answer.
-- Document 01, "What the rack tool covers" and "Examples to prove (A to L) and to run".
use Rattle.std.specs.Prelude.{ℕ, ◌+◌, ◌-◌, List, ◌≡◌}
use Prim.Native.String.{String}
use Rattle.refusals.specs.declared.Refusal.TheVariants.{Full, Alone}
use Rattle.refusals.specs.Refused.{Outcome}
use Rattle.refusals.specs.First.{first_of, when}
use Rattle.demand.specs.Passes.{fake}
use Rattle.tasks.specs.declared.set.TaskSet.{TaskSet}
use Rattle.tasks.specs.Set.{members}
use Rattle.tasks.specs.Search.{first_task, at_task}
use Rattle.taskread.specs.Read.{read_of}
use Rattle.ring.specs.declared.clock.Tick.{Tick}
use Rattle.places.specs.Places.{chosen}
use Rattle.loads.specs.Charge.{server_loss}
use Rattle.members.specs.Server.{server_demand}
use Rattle.setfigures.specs.Figures.{set_figures}
use Rattle.setfigures.specs.Board.{set_board}
use Rattle.rows.specs.Rows.{horizon_of, charged_outcome}
use Rattle.alonerow.specs.Alone.{alone_row}
use Rattle.layout.specs.Made.{set_placement}
use Rattle.planner.specs.Planner.{needed, full_row}
use Rattle.whoruns.specs.declared.WhoAnswer.{WhoAnswer}
use Rattle.doespass.specs.declared.PassAnswer.{PassAnswer}
use Rattle.taskplan.specs.File.{filed_of}
use Rattle.planfile.specs.Tool.{answered}
use Rattle.askfile.specs.OfFile.{who_in, pass_in}
use Rattle.quoted.specs.Quoted.{bytes_of}

-- the fake-task sum of a set's server q with reserve R at length t: its demand, and that of a task of cost and deadline
-- S − R + L and period S; the reserve passes there where the sum is at most t
abbrev pub fake_sum : TaskSet → (q R t : ℕ) → ℕ
fake_sum set q R t =
    let members = chosen (set_figures set) (set_placement set) q in
    server_demand (set_board set) members t + fake set.header.slot (set.header.slot - R + server_loss set.header members) t

abbrev pub fake_sum_in : List ℕ → (q R t : ℕ) → ℕ
fake_sum_in text q R t = fake_sum (read_of text).set q R t

-- the horizon H of a file
abbrev pub horizon_in : List ℕ → ℕ
horizon_in text = horizon_of (read_of text).set

-- the first of rows 1 to 9 that refuses a file, if any
abbrev pub rows_in : List ℕ → Outcome
rows_in text = first_of (read_of text).outcome (charged_outcome (read_of text).set)

-- rows 13 and 10, which are tried where a set's tasks are placed
unfoldable pub placing_rows : TaskSet → Outcome
placing_rows set = first_of (at_task Alone (first_task (alone_row set) (members set))) (when (full_row set) (Full (needed set)))

-- that is the tool's refusal: where none of rows 1 to 9 refuses a file, row 13 or row 10 does, or its plan is made
abbrev pub RowsRefuse : Type 0
RowsRefuse = (text : List ℕ) → (filed_of text).outcome ≡ first_of (rows_in text) (placing_rows (read_of text).set)

-- what is asked of a file
pub data Question : Type 0 where
  -- what does `rota` print
  prints : (file : String) → Question
  -- who runs on a processor at a tick
  runs : (file : String) → (processor : ℕ) → Tick → Question
  -- does a server pass with a reserve
  passes : (file : String) → (server reserve : ℕ) → Question
  -- the fake-task sum of a server with a reserve at a length
  sums : (file : String) → (server reserve length : ℕ) → Question
  -- the horizon
  lasts : (file : String) → Question
  -- which of rows 1 to 9 refuses it, if any
  refuses : (file : String) → Question

pub data Answer : Type 0 where
  text : List ℕ → Answer
  running : WhoAnswer → Answer
  passed : PassAnswer → Answer
  ticks : ℕ → Answer
  outcome : Outcome → Answer

abbrev pub answer_of : Question → Answer
answer_of (prints file) = text (answered (bytes_of file))
answer_of (runs file p x) = running (who_in (bytes_of file) p x)
answer_of (passes file q R) = passed (pass_in (bytes_of file) q R)
answer_of (sums file q R t) = ticks (fake_sum_in (bytes_of file) q R t)
answer_of (lasts file) = ticks (horizon_in (bytes_of file))
answer_of (refuses file) = outcome (rows_in (bytes_of file))

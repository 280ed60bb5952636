-- What a state of the tool before a request had of its own: which lines a task file admits, whether there were interrupts, which cache
-- cost servers and tasks are charged with, what a server's loads ask, and row 11. All that follows from these stands once, over such a
-- state (Reading, Planning, Answers). What no request has touched is cited from where it stands. Before Req 07 an 03 line was LINE, so that
-- what other rows say of one is never asked, and a task had no cache cost of its own. No state had packing rules: a header had no rule.
use Rattle.std.specs.Prelude.{ℕ, pred, List, [], ◌∷◌, Bool, true, false, not, cond, ◌&&◌, ◌||◌, length, eqb, ltb, None}
use Rattle.demand.specs.Load.{Load}
use Rattle.demand.specs.Demand.{demand}
use Rattle.masking.specs.Masking.{masked_demand}
use Rattle.tasks.specs.declared.set.Header.{Header}
use Rattle.tasks.specs.declared.set.Interrupt.{Interrupt}
use Rattle.tasks.specs.declared.set.Task.{Task}
use Rattle.tasks.specs.declared.set.TaskSet.{TaskSet}
use Rattle.tasks.specs.Set.{most_tasks, members, interrupts_in, masked_ticks, cache_cost, with_lines}
use Rattle.tasks.specs.Search.{some}
use Rattle.frames.specs.declared.table.Frame.{Frame}
use Rattle.framesizes.specs.Overflow.{line_overflows}
use Rattle.taskask.specs.Ask.{count_row, twice_row, header_overflows, task_overflows, optional_overflows, interrupt_overflows}
use Rattle.frameread.specs.Line.{formed}
use Rattle.taskfile.specs.File.{from, present, is_header, is_task, is_masked, is_interrupt, first_line, after_last, late_task, count_line_row, header_at, masked_at, tasks_among, file_tasks}
use Rattle.loads.specs.Charge.{cache_of}
use Rattle.loads.specs.Figures.{Figures}

pub record Earlier : Type 0 where
  -- rows 1 to 3 of reading: line k of a text is refused by LINE, by ORDER, by COUNT
  pub line : List ℕ → ℕ → Bool
  pub order : List ℕ → ℕ → Bool
  pub count : List ℕ → ℕ → Bool
  -- the board's figures in a text
  pub header : List ℕ → Header
  -- whether there were interrupts: 07 lines, what they ask beside every server's loads, and row 13
  pub interrupts : Bool
  -- the cache cost that a server of these members is charged with, and a task in row 8
  pub cost : Header → (members : List Figures) → ℕ
  pub own : Header → Task → ℕ
  -- what a server's loads ask
  pub demand : Header → (loads : List Load) → ℕ → ℕ
  -- 11 ASK of a set
  pub asks : TaskSet → Bool

-- of interrupts those that there were: all or none
abbrev pub known : Earlier → List Interrupt → List Interrupt
known e is = cond e.interrupts is []

-- 3 COUNT of a set: no task, or a 65th
unfoldable pub tasks_miscount : TaskSet → Bool
tasks_miscount set = eqb set.count 0 || ltb most_tasks set.count

-- 3 COUNT at line k: the 65th task
unfoldable pub one_too_many : List ℕ → ℕ → Bool
one_too_many text k = is_task text k && eqb (length (tasks_among text (pred k))) most_tasks

-- line k is an 02 line, is an 03 line
abbrev pub is_plain : List ℕ → ℕ → Bool
is_plain text k = formed Frame.Task (from text k)

abbrev pub is_cached : List ℕ → ℕ → Bool
is_cached text k = formed Frame.Cached (from text k)

-- 2 ORDER at line k, where 05 lines stand at line 2 and 07 lines behind the tasks
abbrev pub out_of_order : List ℕ → ℕ → Bool
out_of_order text k =
    first_line (eqb k 1) (not (is_header text k)) (is_header text k || ((is_masked text k && not (eqb k 2)) || late_task text k))

-- the board's figures, with what a 05 line at line 2 gives
abbrev pub masked_header : List ℕ → Header
masked_header text = with_lines (header_at text) (masked_at text) None

-- a figure of a task is too large for its field of an 02 line
unfoldable pub plain_overflows : Task → Bool
plain_overflows t = line_overflows Frame.Task (t.id ∷ t.cost ∷ t.deadline ∷ t.period ∷ [])

-- what loads ask where interrupts can be held off for B ticks
abbrev pub held_off : Header → (loads : List Load) → ℕ → ℕ
held_off h = masked_demand (masked_ticks h)

-- Before document 02, Req 04: lines are of kinds 01 and 02, COUNT for no task has the place 2, and a server asks what its loads ask.
abbrev pub before04 : Earlier
before04 =
    record {
      line = λ text k. present text k && not (is_header text k || is_plain text k);
      order = λ text k. first_line (eqb k 1) (not (is_header text k)) (is_header text k);
      count = λ text k. (eqb k 2 && eqb (length (file_tasks text)) 0) || one_too_many text k;
      header = header_at;
      interrupts = false;
      cost = λ h members. h.cpmdo;
      own = λ h t. h.cpmdo;
      demand = λ h. demand;
      asks = λ set. tasks_miscount set || (twice_row (members set) || (header_overflows set.header || some plain_overflows (members set)));
    }

-- Before document 02, Req 08: a 05 line may stand at line 2, and a server also asks for what it holds interrupts off.
abbrev pub before08 : Earlier
before08 =
    record {
      line = λ text k. present text k && not (is_header text k || (is_plain text k || is_masked text k));
      order = λ text k. first_line (eqb k 1) (not (is_header text k)) (is_header text k || (is_masked text k && not (eqb k 2)));
      count = λ text k. (after_last text k && eqb (length (file_tasks text)) 0) || one_too_many text k;
      header = masked_header;
      interrupts = false;
      cost = λ h members. h.cpmdo;
      own = λ h t. h.cpmdo;
      demand = held_off;
      asks = λ set.
          tasks_miscount set ||
          (twice_row (members set) || (header_overflows set.header || (some plain_overflows (members set) || optional_overflows Frame.Masked set.header.masked)));
    }

-- Before document 02, Req 07: 07 lines may stand behind the tasks, and there are interrupts.
abbrev pub before07 : Earlier
before07 =
    record {
      line = λ text k. present text k && not (is_header text k || (is_plain text k || (is_masked text k || is_interrupt text k)));
      order = out_of_order;
      count = count_line_row;
      header = masked_header;
      interrupts = true;
      cost = λ h members. h.cpmdo;
      own = λ h t. h.cpmdo;
      demand = held_off;
      asks = λ set.
          count_row set ||
          (twice_row (members set) ||
          (header_overflows set.header ||
          (some plain_overflows (members set) || (optional_overflows Frame.Masked set.header.masked || some interrupt_overflows (interrupts_in set)))));
    }

-- Before document 02, Req 05: a task may stand in an 03 line with a cache cost of its own, and a server has the largest among its tasks.
abbrev pub before05 : Earlier
before05 =
    record {
      line = λ text k. present text k && not (is_header text k || (is_plain text k || (is_cached text k || (is_masked text k || is_interrupt text k))));
      order = out_of_order;
      count = count_line_row;
      header = masked_header;
      interrupts = true;
      cost = λ h members. cache_of members;
      own = cache_cost;
      demand = held_off;
      asks = λ set.
          count_row set ||
          (twice_row (members set) ||
          (header_overflows set.header ||
          (some task_overflows (members set) || (optional_overflows Frame.Masked set.header.masked || some interrupt_overflows (interrupts_in set)))));
    }

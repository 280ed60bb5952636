-- The task set as a value: its tasks and its interrupts in file order, the all-zero set, and the set with its unused room at zero.
-- Document 01, "The numbers of a task set" (RULES 1) and "Refusal numbers and their order" (RULES 6); document 02, Req 04 (RULES 1.5), Req 05, Req 07 and Req 08.
use Rattle.std.specs.Prelude.{ℕ, ◌+◌, ◌-◌, List, ◌++◌, Bool, length, take, replicate, set as put, eqb, None, Option, unwrap_or}
use Rattle.tasks.specs.declared.set.Header.{Header}
use Rattle.tasks.specs.declared.set.Task.{Task}
use Rattle.tasks.specs.declared.set.Interrupt.{Interrupt}
use Rattle.tasks.specs.declared.set.Interrupts.{Interrupts}
use Rattle.tasks.specs.declared.set.TaskSet.{TaskSet}

-- the limits of documents 01 and 02
abbrev pub most_tasks : ℕ
most_tasks = 64

abbrev pub most_interrupts : ℕ
most_interrupts = 32

abbrev pub most_processors : ℕ
most_processors = 64

abbrev pub longest_period : ℕ
longest_period = 1000000

abbrev pub longest_horizon : ℕ
longest_horizon = 10000000

abbrev pub last_rule : ℕ
last_rule = 8

abbrev pub zero_header : Header
zero_header = record { processors = 0; slot = 0; relj = 0; relo = 0; ctswo = 0; resd = 0; cpmdo = 0; masked = None; rule = None }

-- the figure that an optional line or field gives, or another where there is none
abbrev pub given_or : Option ℕ → (other : ℕ) → ℕ
given_or figure other = unwrap_or figure other

-- B: what the 05 line gives; without it B is 0
abbrev pub masked_ticks : Header → ℕ
masked_ticks h = given_or h.masked 0

-- the number of the packing rule: what the 06 line gives; without it the rule is 0
abbrev pub rule_number : Header → ℕ
rule_number h = given_or h.rule 0

-- a task's cache cost: what its 03 line gives; a task of an 02 line takes the header's
abbrev pub cache_cost : Header → Task → ℕ
cache_cost h t = given_or t.cache h.cpmdo

-- a header with what its 05 line and its 06 line give
abbrev pub with_lines : Header → (masked rule : Option ℕ) → Header
with_lines h masked rule =
    record {
      processors = h.processors;
      slot = h.slot;
      relj = h.relj;
      relo = h.relo;
      ctswo = h.ctswo;
      resd = h.resd;
      cpmdo = h.cpmdo;
      masked = masked;
      rule = rule;
    }

abbrev pub zero_task : Task
zero_task = record { id = 0; cost = 0; deadline = 0; period = 0; cache = None }

abbrev pub zero_interrupt : Interrupt
zero_interrupt = record { processor = 0; cost = 0; deadline = 0; period = 0; jitter = 0 }

abbrev pub no_interrupts : Interrupts
no_interrupts = record { count = 0; each = replicate most_interrupts zero_interrupt }

abbrev pub zero_set : TaskSet
zero_set = record { header = zero_header; count = 0; tasks = replicate most_tasks zero_task; interrupts = no_interrupts }

-- the tasks that count, in file order
abbrev pub members : TaskSet → List Task
members set = take set.count set.tasks

-- the interrupts that count, in file order
abbrev pub counted : Interrupts → List Interrupt
counted is = take is.count is.each

abbrev pub interrupts_in : TaskSet → List Interrupt
interrupts_in set = counted set.interrupts

-- whether a task has this id
abbrev pub has_id : ℕ → Task → Bool
has_id id t = eqb t.id id

-- these interrupts, the unused room at zero
unfoldable pub interrupts_with : List Interrupt → Interrupts
interrupts_with is = record { count = length is; each = is ++ replicate (most_interrupts - length is) zero_interrupt }

-- a set of these tasks and interrupts, its unused room at zero
unfoldable pub set_of : Header → List Task → List Interrupt → TaskSet
set_of header ts is =
    record {
      header = header;
      count = length ts;
      tasks = ts ++ replicate (most_tasks - length ts) zero_task;
      interrupts = interrupts_with is;
    }

-- a set with one task more at its first unused place
abbrev pub with_task : TaskSet → Task → TaskSet
with_task set task =
    record {
      header = set.header;
      count = set.count + 1;
      tasks = put set.tasks set.count task;
      interrupts = set.interrupts;
    }

-- interrupts with one more at the first unused place
abbrev pub with_interrupt : Interrupts → Interrupt → Interrupts
with_interrupt is i = record { count = is.count + 1; each = put is.each is.count i }

-- a set with these interrupts
abbrev pub set_with : TaskSet → Interrupts → TaskSet
set_with set is = record { header = set.header; count = set.count; tasks = set.tasks; interrupts = is }

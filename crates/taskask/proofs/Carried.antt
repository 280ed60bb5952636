-- What a set's types already hold to their fields' digits, and what row 3 says of the count.
-- Assumes nothing.
use Rattle.std.specs.Prelude.{Some}
use Prim.Native.Nat.{ℕ, ◌≤◌, ◌<◌, ◌^◌}
use mathlib.Core.List.{[], ◌∷◌}
use mathlib.Core.Path.{◌≡◌}
use mathlib.Core.Bool.{Bool, false, ◌||◌}
use native.Mathlib.Omega.{arith}
use lib.Dec.{ltb, eqb}
use borrow.Author.Tests.{ltb-false, le-ltb, eqb-false, ne_eqb}
use Rattle.laws.proofs.Tests.{or_left, or_right}
use lib.ListN.{get_or}
use Rattle.frames.specs.Table.{fields_in, width_of}
use Rattle.frames.specs.declared.table.Frame.{Frame}
use Rattle.framesizes.proofs.TooLarge.{values_fit}
use Rattle.tasks.specs.Values.{header_values, task_values, interrupt_values}
use Rattle.tasks.specs.declared.set.Header.{Header}
use Rattle.tasks.specs.declared.set.Interrupt.{Interrupt}
use Rattle.tasks.specs.declared.set.Task.{Task}
use Rattle.tasks.specs.declared.set.TaskSet.{TaskSet}
use Rattle.tasks.specs.Set.{most_tasks, most_interrupts, members, interrupts_in}
use Rattle.tasks.specs.Search.{some}
use Rattle.taskframe.specs.Frames.{task_frame}
use Rattle.taskask.specs.Ask.{count_row, twice_row, header_overflows, task_overflows, optional_overflows, interrupt_overflows, ask_row}

-- the figures of a header, of a task, of an optional line and of an interrupt that are not too large fit their fields
pub header_fits : (h : Header) → header_overflows h ≡ false → (k : ℕ) → k < fields_in Frame.Header → get_or (header_values h) k 0 < 16 ^ width_of Frame.Header k
unfolding header_overflows
header_fits h e = values_fit Frame.Header (header_values h) e

pub task_fits : (t : Task) → task_overflows t ≡ false → (k : ℕ) → k < fields_in (task_frame t) → get_or (task_values t) k 0 < 16 ^ width_of (task_frame t) k
unfolding task_overflows
task_fits t e = values_fit (task_frame t) (task_values t) e

pub optional_fits : (frame : Frame) (figure : ℕ) → optional_overflows frame (Some figure) ≡ false → (k : ℕ) → k < fields_in frame → get_or (figure ∷ []) k 0 < 16 ^ width_of frame k
unfolding optional_overflows
optional_fits frame figure e = values_fit frame (figure ∷ []) e

pub interrupt_fits : (i : Interrupt) → interrupt_overflows i ≡ false → (k : ℕ) → k < fields_in Frame.Interrupt → get_or (interrupt_values i) k 0 < 16 ^ width_of Frame.Interrupt k
unfolding interrupt_overflows
interrupt_fits i e = values_fit Frame.Interrupt (interrupt_values i) e

-- row 3 of a set, by the answers of its parts
pub count_rows : (set : TaskSet) {a b c : Bool} → eqb set.count 0 ≡ a → ltb most_tasks set.count ≡ b → ltb most_interrupts set.interrupts.count ≡ c → count_row set ≡ (a || (b || c))
unfolding count_row
count_rows set p q r = rw (p, q, r)

-- a set that row 3 lets pass has 1 to 64 tasks, and at most 32 interrupts
module _ (set : TaskSet) (pass : count_row set ≡ false) where
  past_none : (ltb most_tasks set.count || ltb most_interrupts set.interrupts.count) ≡ false
  unfolding count_row
  past_none = or_right (eqb set.count 0) _ pass

  some_task : 1 ≤ set.count
  unfolding count_row
  some_task = omega (arith, eqb-false set.count 0 (or_left (eqb set.count 0) _ pass))

  pub count_within : (1 ≤ set.count) × (set.count ≤ most_tasks)
  count_within = (some_task, ltb-false most_tasks set.count (or_left (ltb most_tasks set.count) _ past_none))

  pub interrupts_within : set.interrupts.count ≤ most_interrupts
  interrupts_within = ltb-false most_interrupts set.interrupts.count (or_right (ltb most_tasks set.count) _ past_none)

-- row 3 does not hold of so many
pub count_right : (set : TaskSet) → 1 ≤ set.count → set.count ≤ most_tasks → set.interrupts.count ≤ most_interrupts → count_row set ≡ false
count_right set some most few =
    count_rows set (ne_eqb set.count 0 (λ (e : set.count ≡ 0). omega arith)) (le-ltb most_tasks set.count most) (le-ltb most_interrupts set.interrupts.count few)

-- row 11 of a set, by the answers of its parts
pub ask_rows : (set : TaskSet) {a b c d e f g : Bool} → count_row set ≡ a → twice_row (members set) ≡ b → header_overflows set.header ≡ c → some task_overflows (members set) ≡ d → optional_overflows Frame.Masked set.header.masked ≡ e → optional_overflows Frame.Rule set.header.rule ≡ f → some interrupt_overflows (interrupts_in set) ≡ g → ask_row set ≡ (a || (b || (c || (d || (e || (f || g))))))
unfolding ask_row
ask_rows set p q r t u v w = rw (p, q, r, t, u, v, w)

-- a set that row 11 lets pass breaks none of its parts
module _ (set : TaskSet) (pass : ask_row set ≡ false) where
  abbrev behind_masked : Bool
  behind_masked = optional_overflows Frame.Rule set.header.rule || some interrupt_overflows (interrupts_in set)

  abbrev behind_tasks : Bool
  behind_tasks = optional_overflows Frame.Masked set.header.masked || behind_masked

  abbrev behind_header : Bool
  behind_header = some task_overflows (members set) || behind_tasks

  abbrev behind_twice : Bool
  behind_twice = header_overflows set.header || behind_header

  pub ask_count : count_row set ≡ false
  unfolding ask_row
  ask_count = or_left (count_row set) _ pass

  past_count : (twice_row (members set) || behind_twice) ≡ false
  unfolding ask_row
  past_count = or_right (count_row set) _ pass

  pub ask_twice : twice_row (members set) ≡ false
  ask_twice = or_left (twice_row (members set)) _ past_count

  past_twice : behind_twice ≡ false
  past_twice = or_right (twice_row (members set)) _ past_count

  pub ask_header : header_overflows set.header ≡ false
  ask_header = or_left (header_overflows set.header) _ past_twice

  past_header : behind_header ≡ false
  past_header = or_right (header_overflows set.header) _ past_twice

  pub ask_tasks : some task_overflows (members set) ≡ false
  ask_tasks = or_left (some task_overflows (members set)) _ past_header

  past_tasks : behind_tasks ≡ false
  past_tasks = or_right (some task_overflows (members set)) _ past_header

  pub ask_masked : optional_overflows Frame.Masked set.header.masked ≡ false
  ask_masked = or_left (optional_overflows Frame.Masked set.header.masked) _ past_tasks

  past_masked : behind_masked ≡ false
  past_masked = or_right (optional_overflows Frame.Masked set.header.masked) _ past_tasks

  pub ask_rule : optional_overflows Frame.Rule set.header.rule ≡ false
  ask_rule = or_left (optional_overflows Frame.Rule set.header.rule) _ past_masked

  pub ask_interrupts : some interrupt_overflows (interrupts_in set) ≡ false
  ask_interrupts = or_right (optional_overflows Frame.Rule set.header.rule) _ past_masked

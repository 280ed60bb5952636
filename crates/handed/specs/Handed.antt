-- The numbers in which a set and a plan are handed in: every field in its order, unused room too.
-- A number that is missing is 0, and a field of w bits takes the last w bits of its number.
-- Document 01: "A set or plan may also be built by the caller."
use Rattle.std.specs.Prelude.{ℕ, ◌+◌, ◌*◌, ◌%◌, ◌^◌, List, cond, get_or, eqb, None, Option, Some}
use Rattle.tasks.specs.Set.{most_tasks}

-- number i, from 0
abbrev pub number_at : (numbers : List ℕ) (i : ℕ) → ℕ
number_at numbers i = get_or numbers i 0

abbrev pub byte_at : (numbers : List ℕ) (i : ℕ) → ℕ
byte_at numbers i = number_at numbers i % 2 ^ 8

abbrev pub half_at : (numbers : List ℕ) (i : ℕ) → ℕ
half_at numbers i = number_at numbers i % 2 ^ 16

abbrev pub word_at : (numbers : List ℕ) (i : ℕ) → ℕ
word_at numbers i = number_at numbers i % 2 ^ 32

-- what an optional line or field gives: whether there is one (0 for none), and its figure
abbrev pub optional_from : (numbers : List ℕ) (at : ℕ) → Option ℕ
optional_from ns at = cond (eqb (number_at ns at) 0) None (Some (half_at ns (at + 1)))

-- where the tasks of a set start, and where the count of the interrupts stands
abbrev pub tasks_at : ℕ
tasks_at = 12

abbrev pub interrupts_at : ℕ
interrupts_at = tasks_at + 6 * most_tasks

-- a server's numbers: its count, its places, then reserve, start and cache cost
abbrev pub per_server : ℕ
per_server = most_tasks + 4

-- a plan: its five figures, each server, the placement, then the first reserve of each processor
abbrev pub servers_at : ℕ
servers_at = 5

abbrev pub placement_at : ℕ
placement_at = servers_at + per_server * most_tasks

abbrev pub first_at : ℕ
first_at = placement_at + most_tasks

abbrev pub most_numbers : ℕ
most_numbers = first_at + 2 * most_tasks

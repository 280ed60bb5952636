-- What a server of these members asks, and whether it passes: its demand, horizon, verdict and reserve, from the board, the header and
-- its interrupts, and the members' own figures. Document 01, "From tasks to servers to ring" (RULES 3), and document 02, Req 07 and Req 08 (the
-- report's Eq. 9 and 10).
use Rattle.std.specs.Prelude.{ℕ, zero, suc, ◌+◌, ◌*◌, ◌/◌, ◌%◌, ◌≤◌, ◌<◌, ◌≡◌, List, [], ◌∷◌, ◌++◌, Bool, length, get_or}
use Rattle.std.specs.Int.{◌∣◌}
use Rattle.wholes.specs.Multiple.{AllPositive}
use Rattle.demand.specs.Load.{Load, Sound, Every, loads_of}
use Rattle.interrupting.specs.Interrupts.{Bound, Numbered, EveryBound, Ordered, greatest, bounds_of}
use Rattle.masking.specs.Masking.{masked_demand}
use Rattle.verdict.specs.Verdict.{own_horizon, passing, verdict_of}
use Rattle.verdict.specs.Reserve.{smallest_reserve}
use Rattle.verdict.specs.declared.answer.Verdict.{Verdict}
use Rattle.tasks.specs.declared.set.Header.{Header}
use Rattle.tasks.specs.Set.{most_tasks, most_interrupts, longest_horizon, masked_ticks}
use Rattle.loads.specs.Charge.{server_loads, server_loss, Member, SmallCost}
use Rattle.loads.specs.Figures.{Figures, figures_to}

-- the header with the interrupts by processor: what a server's demand and horizon come from, beside its members
pub record Board : Type 0 where
  pub header : Header
  pub interrupts : List Bound

-- the board of a header and the numbers of its interrupts, four for each
abbrev pub board_of : Header → (numbers : List ℕ) → Board
board_of h numbers = record { header = h; interrupts = bounds_of numbers 0 (length numbers / 4) }

-- a board without interrupts
abbrev pub uninterrupted : Header → Board
uninterrupted h = record { header = h; interrupts = [] }

-- a board with a slot whose interrupts are sound
pub record SoundBoard (b : Board) : Type 0 where
  pub slot : 1 ≤ b.header.slot
  pub sound : EveryBound (λ (x : Bound). Sound x.load) b.interrupts

-- the demand of a server: its members', where interrupts can be held off, and the greatest of the processors' interrupts
abbrev pub server_demand : Board → (members : List Figures) → ℕ → ℕ
server_demand b members t =
    masked_demand (masked_ticks b.header) (server_loads b.header members) t + greatest b.header.processors b.interrupts t

-- the least common multiple of S and the periods of the members and the interrupts
abbrev pub server_horizon : Board → (members : List Figures) → ℕ
server_horizon b members = own_horizon b.header.slot (server_loads b.header members) b.interrupts

-- a server of these members passes with the reserve R
unfoldable pub passes_with : Board → (members : List Figures) → (R : ℕ) → Bool
passes_with b members R = passing (server_demand b members) (server_horizon b members) b.header.slot (server_loss b.header members) R

-- it passes with a whole processor: R = S
unfoldable pub fits : Board → (members : List Figures) → Bool
fits b members = passes_with b members b.header.slot

-- the smallest allowed reserve with which it passes
unfoldable pub reserve_for : Board → (members : List Figures) → ℕ
reserve_for b members = smallest_reserve (server_demand b members) (server_horizon b members) b.header.slot (server_loss b.header members)

-- does it pass with the reserve R: the whole answer
unfoldable pub verdict_for : Board → (members : List Figures) → (R : ℕ) → Verdict
verdict_for b members R = verdict_of (server_demand b members) (server_horizon b members) b.header.slot (server_loss b.header members) R

-- what charged loads ask of H ticks where their periods divide H: the sum of c · (H / T)
unfoldable pub total_of : (H : ℕ) → List Load → ℕ
total_of H [] = 0
total_of H (l ∷ ls) = l.cost * (H / l.period) + total_of H ls

-- the figures of a file's first n tasks, of small cache costs, with a slot, and a multiple H of the slot and of their periods: the
-- file's horizon is one
pub record Filed (h : Header) (figures : List ℕ) (n H : ℕ) : Type 0 where
  pub there : 4 * n ≤ length figures
  pub few : n ≤ most_tasks
  pub members : Every (Member h) (figures_to figures n)
  pub costs : Every SmallCost (figures_to figures n)
  pub slot : 1 ≤ h.slot
  pub some : 1 ≤ H
  pub short : H ≤ longest_horizon
  pub of_slot : h.slot ∣ H
  pub of_periods : Every (λ (f : Figures). f.period ∣ H) (figures_to figures n)

-- the numbers of interrupts by processor, four for each, no more than there may be; each is numbered, on a processor of the board, and
-- H is a multiple of their periods
pub record Bounded (h : Header) (numbers : List ℕ) (H : ℕ) : Type 0 where
  pub fours : length numbers % 4 ≡ 0
  pub few : length numbers ≤ 4 * most_interrupts
  pub numbered : EveryBound Numbered (board_of h numbers).interrupts
  pub on_board : EveryBound (λ (x : Bound). x.processor ≤ h.processors) (board_of h numbers).interrupts
  pub ordered : Ordered (board_of h numbers).interrupts
  pub of_periods : EveryBound (λ (x : Bound). x.load.period ∣ H) (board_of h numbers).interrupts

-- the numbers of a slice from a place on, so far apart, so many
unfoldable pub spaced : (numbers : List ℕ) → (from stride count : ℕ) → List ℕ
spaced numbers from stride zero = []
spaced numbers from stride (suc k) = spaced numbers from stride k ++ (get_or numbers (from + stride * k) 0 ∷ [])

-- what their least common multiple with a first number asks: they are in the slice, and all are positive
pub record Apart (numbers : List ℕ) (from stride count first : ℕ) : Type 0 where
  pub there : (i : ℕ) → i < count → from + stride * i < length numbers
  pub some : 1 ≤ first
  pub positive : AllPositive (spaced numbers from stride count)

-- what the horizon of the first n loads and of interrupts asks: a slot, and that they are sound
pub record Timed (numbers : List ℕ) (n : ℕ) (interrupts : List ℕ) (S : ℕ) : Type 0 where
  pub there : 3 * n ≤ length numbers
  pub slot : 1 ≤ S
  pub sound : Every Sound (loads_of numbers n)
  pub sound_interrupts : EveryBound (λ (x : Bound). Sound x.load) (bounds_of interrupts 0 (length interrupts / 4))

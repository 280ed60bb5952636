-- What a function asks of a slice of loads with interrupts behind them.
use Rattle.std.specs.Prelude.{ℕ, ◌+◌, ◌*◌, ◌-◌, ◌%◌, ◌≤◌, ◌≡◌, List, length}
use Rattle.demand.specs.Load.{Loaded}
use Rattle.interrupting.specs.Interrupts.{Numbered, EveryBound, Ordered, behind, interrupts_of}

-- n loads of three numbers, then interrupts of four up to the end, by processor: 256 of both at most
pub record Interrupted (numbers : List ℕ) (n : ℕ) : Type 0 where
  pub loads : Loaded numbers n
  pub fours : (length numbers - 3 * n) % 4 ≡ 0
  pub few : n + behind numbers n ≤ 256
  pub bound : EveryBound Numbered (interrupts_of numbers n)
  pub ordered : Ordered (interrupts_of numbers n)

-- What charging the server at some places among a file's figures asks. Document 01, "From tasks to servers to ring" (RULES 3).
use Rattle.std.specs.Prelude.{ℕ, ◌+◌, ◌*◌, ◌≤◌, ◌<◌, List, ◌≡◌, length, take, get_or}
use Rattle.std.specs.Int.{◌∣◌}
use Rattle.demand.specs.Load.{Every}
use Rattle.tasks.specs.declared.set.Header.{Header}
use Rattle.tasks.specs.Set.{most_tasks, longest_horizon}
use Rattle.loads.specs.Charge.{cache_of, Member, SmallCost}
use Rattle.loads.specs.Figures.{Figures, members_at}

-- the first k places are few and have figures, of small cache costs, that may be charged with this one; there is a slot, and H is a
-- multiple of it and of their periods
pub record Served (h : Header) (cache : ℕ) (figures places : List ℕ) (k H : ℕ) : Type 0 where
  pub places_there : k ≤ length places
  pub few : k ≤ most_tasks
  pub there : (i : ℕ) → i < k → 4 * get_or places i 0 + 3 < length figures
  pub members : Every (Member h) (members_at figures (take k places))
  pub costs : Every SmallCost (members_at figures (take k places))
  pub cost : cache ≡ cache_of (members_at figures (take k places))
  pub slot : 1 ≤ h.slot
  pub some : 1 ≤ H
  pub short : H ≤ longest_horizon
  pub of_slot : h.slot ∣ H
  pub of_periods : Every (λ (f : Figures). f.period ∣ H) (members_at figures (take k places))

-- What is kept of each server while tasks are placed, in server order, so that it is not worked out again for each candidate.
use Rattle.std.specs.Prelude.{ℕ, suc, ◌<◌, ◌≡◌, List, length, get_or}
use Rattle.tasks.specs.declared.set.Header.{Header}
use Rattle.tasks.specs.Set.{most_tasks}
use Rattle.places.specs.Places.{chosen}
use Rattle.loads.specs.Figures.{Figures}
use Rattle.shares.specs.declared.Share.{Share}
use Rattle.shares.specs.Share.{share_in}

-- what is kept of a server that there is not yet
abbrev pub no_share : Share
no_share = record { work = 0; jobs = 0; cache = 0; due = 0 }

-- of each server its work and its jobs in H ticks, its cache cost and its smallest deadline; servers that there are not yet have none
pub record Kept (h : Header) (H : ℕ) (done : List Figures) (placement : List ℕ) (kept : List Share) : Type 0 where
  pub room : length kept ≡ most_tasks
  pub each : (k : ℕ) → k < most_tasks → get_or kept k no_share ≡ share_in h H (chosen done placement (suc k))

-- What a task brings into a server, and what is kept of a server: work and jobs in H ticks, cache cost and smallest deadline.
use Rattle.std.specs.Prelude.{ℕ, List, [], ◌∷◌}
use Rattle.tasks.specs.declared.set.Header.{Header}
use Rattle.loads.specs.Figures.{Figures}
use Rattle.loads.specs.Charge.{cache_of}
use Rattle.shares.specs.declared.Share.{Share}
use Rattle.shares.specs.Totals.{work_in, jobs_in}
use Rattle.shares.specs.Soonest.{soonest_in}

abbrev pub share_of : Header → (H : ℕ) → Figures → Share
share_of h H f = record { work = work_in h H (f ∷ []); jobs = jobs_in H (f ∷ []); cache = f.cache; due = soonest_in h (f ∷ []) }

-- those of a server of these members
abbrev pub share_in : Header → (H : ℕ) → (members : List Figures) → Share
share_in h H members =
    record { work = work_in h H members; jobs = jobs_in H members; cache = cache_of members; due = soonest_in h members }

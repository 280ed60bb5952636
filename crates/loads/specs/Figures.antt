-- A task's own figures: C, D and T, and its cache cost. They stand in one slice of numbers, four for each, one task behind the other.
-- Document 01, "The numbers of a task set" (RULES 1); document 02, Req 07.
use Rattle.std.specs.Prelude.{ℕ, ◌+◌, ◌*◌, List, [], ◌∷◌, map, get_or}
use Rattle.demand.specs.Load.{each}
use Rattle.tasks.specs.declared.set.Header.{Header}
use Rattle.tasks.specs.declared.set.Task.{Task}
use Rattle.tasks.specs.Set.{cache_cost}

pub record Figures : Type 0 where
  pub cost : ℕ
  pub deadline : ℕ
  pub period : ℕ
  pub cache : ℕ

-- those of a task
abbrev pub figures_of : Header → Task → Figures
figures_of h t = record { cost = t.cost; deadline = t.deadline; period = t.period; cache = cache_cost h t }

-- the four numbers of each, behind each other
unfoldable pub own_numbers : List Figures → List ℕ
own_numbers [] = []
own_numbers (f ∷ fs) = f.cost ∷ f.deadline ∷ f.period ∷ f.cache ∷ own_numbers fs

-- those of task i in a slice, from 0; of the first n tasks, in order; and of the tasks at some places
abbrev pub figures_at : (numbers : List ℕ) → ℕ → Figures
figures_at numbers i =
    record {
      cost = get_or numbers (4 * i) 0;
      deadline = get_or numbers (4 * i + 1) 0;
      period = get_or numbers (4 * i + 2) 0;
      cache = get_or numbers (4 * i + 3) 0;
    }

abbrev pub figures_to : (numbers : List ℕ) → ℕ → List Figures
figures_to numbers n = each (figures_at numbers) n

abbrev pub members_at : (numbers places : List ℕ) → List Figures
members_at numbers places = map (figures_at numbers) places

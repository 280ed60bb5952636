-- Whether a server takes a task. A placement is the list of each task's server, in file order; servers count from 1.
-- Document 01, "From tasks to servers to ring", rule 1 (RULES 3.1) (the report's Ineq. 1); document 02, Req 07.
use Rattle.std.specs.Prelude.{ℕ, List, [], ◌∷◌, ◌++◌, Bool}
use Rattle.places.specs.Places.{chosen}
use Rattle.loads.specs.Figures.{Figures}
use Rattle.members.specs.Server.{Board, fits}

-- the members of server q with the task added; `done` are the tasks that are placed
abbrev pub with_task : (done : List Figures) → (placement : List ℕ) → Figures → (q : ℕ) → List Figures
with_task done placement f q = chosen done placement q ++ (f ∷ [])

-- it passes so with a whole processor
unfoldable pub takes : Board → (done : List Figures) → (placement : List ℕ) → Figures → (q : ℕ) → Bool
takes b done placement f q = fits b (with_task done placement f q)

-- Row 13 of the refusals: a task that fails alone in a server. Document 02, Req 07 and Req 08.
use Rattle.std.specs.Prelude.{List, [], ◌∷◌, Bool, not}
use Rattle.demand.specs.Load.{Meets, Every}
use Rattle.tasks.specs.declared.set.Header.{Header}
use Rattle.tasks.specs.declared.set.Task.{Task}
use Rattle.tasks.specs.declared.set.TaskSet.{TaskSet}
use Rattle.loads.specs.Charge.{charged_in}
use Rattle.loads.specs.Figures.{Figures, figures_of}
use Rattle.members.specs.Server.{Board, fits}
use Rattle.setfigures.specs.Board.{set_board}

-- a server of a task of these figures alone fails with a whole processor
abbrev pub fails_alone : Board → Figures → Bool
fails_alone b f = not (fits b (f ∷ []))

-- 13 ALONE: a server of this task alone fails with a whole processor
unfoldable pub alone_row : TaskSet → Task → Bool
alone_row set t = fails_alone (set_board set) (figures_of set.header t)

-- each task, charged with its own cache cost, has c ≤ d: row 8 is clear
abbrev pub Met : Header → List Figures → Type 0
Met h figures = Every (λ (f : Figures). Meets (charged_in h f.cache f)) figures

-- `task_frame` meets its contract: each arm is told what the task's line gives.
use mathlib.Core.Path.{sym, ap}
use Rattle.taskframe.specs.Frames.{frame_by}
use Rattle.taskframe.proofs.task_frame.Goals as goal

pub returns-in-Some : goal.returns-in-Some
returns-in-Some c = sym (ap frame_by c.in-Some.is)

pub returns-in-None : goal.returns-in-None
returns-in-None c = sym (ap frame_by c.in-None.is)

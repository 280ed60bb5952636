-- `frames::table::row_of` meets its contract: each arm's row is that of the frame it is for.
-- Assumes nothing.
use mathlib.Core.Path.{sym, ap}
use Rattle.frames.specs.Table.{kind_of, widths_of, sum, front, row_of}
use Rattle.frames_code.proofs.row_of.Goals as goal

pub returns-in-Header : goal.returns-in-Header
unfolding kind_of widths_of sum front row_of
returns-in-Header c = sym (ap row_of c.in-Header.is)

pub returns-in-Task : goal.returns-in-Task
unfolding kind_of widths_of sum front row_of
returns-in-Task c = sym (ap row_of c.in-Task.is)

pub returns-in-Cached : goal.returns-in-Cached
unfolding kind_of widths_of sum front row_of
returns-in-Cached c = sym (ap row_of c.in-Cached.is)

pub returns-in-Masked : goal.returns-in-Masked
unfolding kind_of widths_of sum front row_of
returns-in-Masked c = sym (ap row_of c.in-Masked.is)

pub returns-in-Rule : goal.returns-in-Rule
unfolding kind_of widths_of sum front row_of
returns-in-Rule c = sym (ap row_of c.in-Rule.is)

pub returns-in-Interrupt : goal.returns-in-Interrupt
unfolding kind_of widths_of sum front row_of
returns-in-Interrupt c = sym (ap row_of c.in-Interrupt.is)

pub returns-in-Plan : goal.returns-in-Plan
unfolding kind_of widths_of sum front row_of
returns-in-Plan c = sym (ap row_of c.in-Plan.is)

pub returns-in-Server : goal.returns-in-Server
unfolding kind_of widths_of sum front row_of
returns-in-Server c = sym (ap row_of c.in-Server.is)

pub returns-in-Placed : goal.returns-in-Placed
unfolding kind_of widths_of sum front row_of
returns-in-Placed c = sym (ap row_of c.in-Placed.is)

pub returns-in-Processor : goal.returns-in-Processor
unfolding kind_of widths_of sum front row_of
returns-in-Processor c = sym (ap row_of c.in-Processor.is)

pub returns-in-Refused : goal.returns-in-Refused
unfolding kind_of widths_of sum front row_of
returns-in-Refused c = sym (ap row_of c.in-Refused.is)

pub returns-in-Switch : goal.returns-in-Switch
unfolding kind_of widths_of sum front row_of
returns-in-Switch c = sym (ap row_of c.in-Switch.is)

pub returns-in-Accepted : goal.returns-in-Accepted
unfolding kind_of widths_of sum front row_of
returns-in-Accepted c = sym (ap row_of c.in-Accepted.is)

pub returns-in-Met : goal.returns-in-Met
unfolding kind_of widths_of sum front row_of
returns-in-Met c = sym (ap row_of c.in-Met.is)

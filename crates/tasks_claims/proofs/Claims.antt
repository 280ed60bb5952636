-- The claims of specs/Claims, each under its own name.
use Rattle.tasks_claims.specs.Claims.{ReadExactlyLine, ReadExactlyBoard, ReadExactlyRange, ReadExactlyInterrupt, ReadExactlyDone, ReadRefuses, ReadDetermined, ReadLooksAt, ReadAccepted, MaskedRemembered, RuleRemembered, MaskedOnlyAtTwo, RuleOnlyThere, TasksRemembered, InterruptsRemembered, TaskTooLate, InterruptTooMany, NoTaskPlace, WritesExactly, WritesLeave, WriteDetermined, ReadWritten, ReadWrittenSame, WrittenRead}
use Rattle.tasks_claims.proofs.Exactly as exactly
use Rattle.tasks_claims.proofs.Prefix as prefix
use Rattle.tasks_claims.proofs.Accepted as accepted
use Rattle.tasks_claims.proofs.OptionalLaws as optional
use Rattle.tasks_claims.proofs.TaskLineLaws as lines
use Rattle.tasks_claims.proofs.InterruptLaws as interrupts
use Rattle.tasks_claims.proofs.WriteAnswers as answers
use Rattle.tasks_claims.proofs.RoundTripSet as sets
use Rattle.tasks_claims.proofs.RoundTripText as texts

pub read_exactly_line : ReadExactlyLine
read_exactly_line = exactly.read_exactly_line

pub read_exactly_board : ReadExactlyBoard
read_exactly_board = exactly.read_exactly_board

pub read_exactly_range : ReadExactlyRange
read_exactly_range = exactly.read_exactly_range

pub read_exactly_interrupt : ReadExactlyInterrupt
read_exactly_interrupt = exactly.read_exactly_interrupt

pub read_exactly_done : ReadExactlyDone
read_exactly_done = exactly.read_exactly_done

pub read_refuses : ReadRefuses
read_refuses = exactly.read_refuses

pub read_determined : ReadDetermined
read_determined = exactly.read_determined

pub read_looks_at : ReadLooksAt
read_looks_at = prefix.read_looks_at

pub read_accepted : ReadAccepted
read_accepted = accepted.read_accepted

pub masked_remembered : MaskedRemembered
masked_remembered = optional.masked_remembered

pub rule_remembered : RuleRemembered
rule_remembered = optional.rule_remembered

pub masked_only_at_two : MaskedOnlyAtTwo
masked_only_at_two = optional.masked_only_at_two

pub rule_only_there : RuleOnlyThere
rule_only_there = optional.rule_only_there

pub tasks_remembered : TasksRemembered
tasks_remembered = lines.tasks_remembered

pub interrupts_remembered : InterruptsRemembered
interrupts_remembered = interrupts.interrupts_remembered

pub task_too_late : TaskTooLate
task_too_late = interrupts.task_too_late

pub interrupt_too_many : InterruptTooMany
interrupt_too_many = interrupts.interrupt_too_many

pub no_task_place : NoTaskPlace
no_task_place = optional.no_task_place

pub writes_exactly : WritesExactly
writes_exactly = answers.writes_exactly

pub writes_leave : WritesLeave
writes_leave = answers.writes_leave

pub write_determined : WriteDetermined
write_determined = answers.write_determined

pub read_written : ReadWritten
read_written = sets.read_written

pub read_written_same : ReadWrittenSame
read_written_same = sets.read_written_same

pub written_read : WrittenRead
written_read = texts.written_read

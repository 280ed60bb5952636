-- Each claim of specs/Claims.antt, proved.
-- Assumes nothing.
use Rattle.steps.specs.Claims.{StepsAtDeadlines, LastOfTwo}
use Rattle.steps.proofs.StepLaws.{some_steps, steps_some}
use Rattle.steps.proofs.LastLaws.{last_together, last_greater}

pub steps_at_deadlines : StepsAtDeadlines
steps_at_deadlines ls x sound = (steps_some ls x sound, λ st. some_steps ls x sound st.1)

pub last_of_two : LastOfTwo
last_of_two = record { together = last_together; greater = last_greater }

-- The accepted are at most the names, so one more fits.
-- Assumes nothing.
use native.Mathlib.Omega.{arith}
use Rattle.tally.proofs.TallyLaws.{accepted_most}
use Rattle.under_number.proofs.among_accepted.Goals as goal

pub overflow_add-accepted : goal.overflow_add-accepted
overflow_add-accepted c =
    omega (arith, c.requires.1, accepted_most c.requires.0)

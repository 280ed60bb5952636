-- No entry is above the number of names, so one more fits.
-- Assumes nothing.
use native.Mathlib.Omega.{arith}
use Rattle.tally.proofs.TallyLaws.{refused_most}
use Rattle.under_number.proofs.under_number.Goals as goal

pub overflow_add-refused : goal.overflow_add-refused
overflow_add-refused c =
    omega (arith, c.requires.adds.1, refused_most c.requires.adds.0 c.args.number)

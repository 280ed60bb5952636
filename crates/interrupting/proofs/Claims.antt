-- Each claim of specs/Claims.antt, proved.
-- Assumes nothing.
use mathlib.Core.Path.{refl}
use Rattle.demand.specs.Demand.{jobs, demand}
use Rattle.interrupting.specs.Interrupts.{bound_to, interrupt_demand, greatest}
use Rattle.interrupting.specs.Claims.{GreatestMeans, InterruptsLawful, SumsLawful, TwoInterrupts}
use Rattle.interrupting.proofs.BoundLaws.{highest_below}
use Rattle.interrupting.proofs.GreatestLaws.{greatest_most, greatest_one, greatest_all, greatest_rising, greatest_zero, greatest_turns, greatest_steps}
use Rattle.interrupting.proofs.AskedLaws.{sum_lawful, sum_rising, sum_steps}

pub greatest_means : GreatestMeans
greatest_means = record { most = greatest_most; one = greatest_one; all = λ m bs within. greatest_all m bs (highest_below m bs within) }

pub interrupts_lawful : InterruptsLawful
interrupts_lawful =
    record {
      lawful = λ m bs H sound some divides. record {
        none = greatest_zero bs sound m;
        horizon = some;
        turns = greatest_turns bs sound m H divides;
      };
      rising = λ m bs sound. greatest_rising bs sound m;
      steps = λ m bs sound. greatest_steps bs sound m;
    }

pub sums_lawful : SumsLawful
sums_lawful = record { lawful = sum_lawful; rising = sum_rising; steps = λ A B f g. sum_steps f g A B }

pub two_interrupts : TwoInterrupts
unfolding greatest interrupt_demand bound_to demand jobs
two_interrupts = record { apart = refl; together = refl }

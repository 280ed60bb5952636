-- Each claim of specs/Claims.antt, proved.
-- Assumes nothing.
use Rattle.std.specs.Prelude.{Some}
use Prim.Native.Nat.{◌≤◌}
use mathlib.Core.Path.{◌≡◌, sym, ap, ◌∙◌}
use Rattle.wholes.specs.Claims.{MeasureMeans, MultipleMeans, MultipleOfMeans, WithinMeans, CeilingMeans}
use Rattle.wholes.proofs.MeasureLaws.{common_measure_lem, measure_unique}
use Rattle.wholes.proofs.MultipleLaws.{least_multiple_lem, least_unique, least_multiple_of_lem, least_of_unique}
use Rattle.wholes.proofs.WithinLaws.{within_is, within_value, past_is, past_value}
use Rattle.wholes.proofs.CeilingLaws.{ceiling_least, ceiling_unique}

pub measure_means : MeasureMeans
measure_means = record { is = common_measure_lem; one = λ a b g h x y. measure_unique x y }

pub multiple_means : MultipleMeans
multiple_means = record { is = least_multiple_lem; one = λ a b m n x y. least_unique x y }

pub multiple_of_means : MultipleOfMeans
multiple_of_means = record { is = least_multiple_of_lem; one = λ a bs m n x y. least_of_unique x y }

pub within_means : WithinMeans
within_means = record {
  number = λ limit m n. (within_value limit m n, λ (w : (n ≡ m) × (m ≤ limit)). within_is limit m w.1 ∙ ap Some (sym w.0));
  none = λ limit m. (past_value limit m, past_is limit m);
}

pub ceiling_means : CeilingMeans
ceiling_means = record { is = ceiling_least; one = λ a b k j x y. ceiling_unique x y }

-- Worked values, computed: the horizons of the document's examples J and K, and the zeros.
-- Assumes nothing.
use mathlib.Core.Path.{◌≡◌, refl}
use mathlib.Core.List.{[], ◌∷◌}
use Rattle.wholes.specs.Measure.{measure_in, common_measure}
use Rattle.wholes.specs.Multiple.{least_multiple, least_multiple_of}
use Rattle.wholes.specs.Ceiling.{ceiling_of}

-- J: S 128, T 1,000,000 and 78,125
pub horizon_J : least_multiple_of 128 (1000000 ∷ 78125 ∷ []) ≡ 10000000
unfolding least_multiple_of least_multiple common_measure measure_in
horizon_J = refl

-- K: S 11, T 1,000,000
pub horizon_K : least_multiple_of 11 (1000000 ∷ []) ≡ 11000000
unfolding least_multiple_of least_multiple common_measure measure_in
horizon_K = refl

pub multiple_1000000_78125 : least_multiple 1000000 78125 ≡ 5000000
unfolding least_multiple common_measure measure_in
multiple_1000000_78125 = refl

pub multiple_1000000_128 : least_multiple 1000000 128 ≡ 2000000
unfolding least_multiple common_measure measure_in
multiple_1000000_128 = refl

-- with 0 it is 0
pub multiple_zeros : (least_multiple 0 0 ≡ 0) × (least_multiple 7 0 ≡ 0) × (least_multiple 0 7 ≡ 0)
unfolding least_multiple common_measure measure_in
multiple_zeros = (refl, refl, refl)

-- the common measure of 0 and 0 is 0
pub measure_zeros : (common_measure 0 0 ≡ 0) × (common_measure 7 0 ≡ 7) × (common_measure 0 7 ≡ 7)
unfolding common_measure measure_in
measure_zeros = (refl, refl, refl)

-- A: three reserves of 6 in slots of 10 take two processors
pub ceiling_A : ceiling_of 18 10 ≡ 2
unfolding ceiling_of
ceiling_A = refl

pub ceiling_exact : ceiling_of 20 10 ≡ 2
unfolding ceiling_of
ceiling_exact = refl

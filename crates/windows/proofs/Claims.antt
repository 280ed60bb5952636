-- Each claim of specs/Claims.antt, proved.
-- Assumes nothing.
use Prim.Native.Nat.{ℕ, zero, suc, ◌+◌, ◌*◌, ◌-◌, ◌≤◌, ◌<◌}
use mathlib.Core.Path.{◌≡◌, refl, ap, sym}
use mathlib.Core.Logic.{inl, ⊎_elim}
use native.Mathlib.Nat.{le_trans, le_of_eq}
use native.Mathlib.Omega.{arith}
use Rattle.laws.proofs.Orders.{le_or_lt}
use Rattle.demand.specs.Supply.{supply, supply_past}
use Rattle.demand.proofs.Supply.{supply_all, supply_turn, supply_whole}
use Rattle.demand.proofs.Claims.{loss_never_passes}
use Rattle.windows.specs.Window.{usable_in, FallsShort}
use Rattle.windows.specs.Claims.{SinceIsRight, UsableMeans, LossLeavesNone, SupplyIsWorst, InAnySlot, EveryTick, TestIsRota, PassesIsCovered, FromZero, PassingCovers, WholeCovers, FailingFallsShort, RefusedFallsShort, SmallerFallsShort}
use Rattle.windows.proofs.Since.{to_end_lem, since_below, since_reaches, usable_told, usable_made, usable_never}
use Rattle.windows.proofs.Counting.{window_counts}
use Rattle.windows.proofs.Worst.{least, opens, met_there}
use Rattle.windows.proofs.Covers.{below_supply, from_supply, to_supply, at_every}
use Rattle.windows.proofs.Failing.{fails_somewhere}

pub since_is_right : SinceIsRight
since_is_right = record { below = since_below; reaches = since_reaches }

pub usable_means : UsableMeans
usable_means S L R start x = (usable_told S L R start x, λ w. usable_made S L R start x w.0 w.1)

pub loss_leaves_none : LossLeavesNone
unfolding usable_in
loss_leaves_none S L R start a zero h = refl
loss_leaves_none S L R start a (suc t) h = omega (arith, loss_leaves_none S L R start a t h, usable_never S L R start (a + t) h)

pub supply_is_worst : SupplyIsWorst
supply_is_worst =
    record {
      least = least;
      met = λ S L R start t h g. (opens S R start, omega arith, met_there S L R start t h (omega arith));
    }

pub in_any_slot : InAnySlot
in_any_slot S R start a h g =
    let A = a + to_end_lem S R start in
    let e : A + 1 * S ≡ A + S = omega arith in
    omega (arith, window_counts S 0 R start a S h g, supply_turn S (S - R + 0) A 1 h, ap (supply_past S (S - R + 0)) e)

pub every_tick : EveryTick
every_tick S start a t h =
    let A = a + to_end_lem S S start in
    let none : S - S + 0 ≡ 0 = omega arith in
    let counts = rw none at (window_counts S 0 S start a t h (omega arith)) in
    omega (arith, supply_whole S (A + t), supply_whole S A)

pub test_is_rota : TestIsRota
test_is_rota g S L R start slot below =
    (to_supply g S L R start slot below, λ enough a t later. from_supply g S L R start slot below enough a t)

pub from_zero : FromZero
from_zero g S L R start slot below = (
  λ covered. from_supply g S L R start slot below (to_supply g S L R start slot below covered),
  λ covered a t later. covered a t,
)

pub passes_is_covered : PassesIsCovered
passes_is_covered g S L R start none slot below = (
  λ passes.
      (test_is_rota g S L R start slot below).1
      (λ t. le_trans (at_every g (supply S L R) none passes t) (le_of_eq (below_supply S L R t below))),
  λ covered t p. le_trans (to_supply g S L R start slot below covered t) (le_of_eq (sym (below_supply S L R t below))),
)

pub passing_covers : PassingCovers
passing_covers g S L R start none slot r = (passes_is_covered g S L R start none slot (omega arith)).0

pub whole_covers : WholeCovers
whole_covers g S L none passes t = le_trans (at_every g (supply S L S) none passes t) (le_of_eq (supply_all S L S t refl))

pub failing_falls_short : FailingFallsShort
failing_falls_short g S L R start t slot below fails =
    let worst = supply_is_worst.met S L R start t slot below in
    (worst.0, t, worst.1, omega (arith, worst.2))

-- the same of the test as it is asked
short_there : (g : ℕ → ℕ) (S L R start t : ℕ) → 1 ≤ S → R < S → supply S L R t < g t → FallsShort g S L R start
short_there g S L R start t slot below fails =
    failing_falls_short g S L R start t slot below (omega (arith, below_supply S L R t below))

pub refused_falls_short : RefusedFallsShort
refused_falls_short g H S L R start lawful slot below refused =
    let w = fails_somewhere g H S L R lawful slot refused in
    short_there g S L R start w.0 slot below w.1

pub smaller_falls_short : SmallerFallsShort
smaller_falls_short g H S L R start t lawful some slot below refused =
    ⊎_elim
    (λ (p : R ≤ L). short_there g S L R start t slot below (loss_never_passes.short g S L R t some below p))
    (λ (p : L < R). refused_falls_short g H S L R start lawful slot below (refused (inl (record { enters = omega arith; parts = omega arith }))))
    (le_or_lt R L)

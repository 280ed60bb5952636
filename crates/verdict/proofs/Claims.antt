-- Each claim of specs/Claims.antt, proved.
-- Assumes nothing.
use Prim.Native.Nat.{◌-◌, ◌≤◌}
use native.Mathlib.Omega.{arith}
use native.Mathlib.Nat.{le_antisymm, eq-zero-or-pos}
use mathlib.Core.Path.{◌≡◌, sym, ◌∙◌}
use mathlib.Core.Logic.{⊎_elim}
use mathlib.Core.Bool.{false≢true}
use borrow.Author.Tests.{eq-eqb, ne_eqb}
use Rattle.demand.specs.Supply.{Ring}
use Rattle.search.specs.Search.{first_up_to}
use Rattle.verdict.specs.Verdict.{first_failing}
use Rattle.verdict.specs.Reserve.{enough}
use Rattle.verdict.specs.Claims.{PassingMeans, PassingByFailing, VerdictMeans, ReadWithin, NothingAsked, ClosestOfAll, ClosestFirst, AnyHorizon, OwnHorizon, PassingStays, ReserveMeans, ReserveOne, OneLess}
use Rattle.search.proofs.Bounded.{first_view}
use Rattle.verdict.proofs.Verdict.{passing_yes, passing_no, passing_passes, passes_passing, passing_rises}
use Rattle.verdict.proofs.ClosestLaws.{none_closer, all_further}
use Rattle.verdict.proofs.Tells.{yes_closest, closest_yes, no_fails, fails_no, same_verdict, verdict_within, never_yes}
use Rattle.verdict.proofs.Horizons.{own_lawful}
use Rattle.verdict.proofs.ReserveLaws.{reserve_whole, reserve_part, whole_smallest, part_smallest}

pub passing_means : PassingMeans
passing_means g H S L R lawful slot =
    (passing_passes g H S L R lawful slot, λ e passes. false≢true (sym e ∙ passes_passing g H S L R passes))

pub passing_by_failing : PassingByFailing
passing_by_failing g H S L R =
    let t = first_failing g H S L R in
    ⊎_elim
    (λ (z : t ≡ 0). passing_yes g H S L R z ∙ sym (eq-eqb t 0 z))
    (λ (h : 1 ≤ t). passing_no g H S L R h ∙ sym (ne_eqb t 0 (λ (z : t ≡ 0). omega arith)))
    (eq-zero-or-pos t)

pub verdict_means : VerdictMeans
verdict_means g H S L R a lawful slot some =
    record {
      yes_means = λ t w s.
          (yes_closest g H S L R a lawful slot some t w s, λ h. closest_yes g H S L R lawful slot t w s h.0 h.1);
      no_means = λ t w s. (no_fails g H S L R t w s, fails_no g H S L R lawful slot t w s);
    }

pub read_within : ReadWithin
read_within = verdict_within

pub nothing_asked : NothingAsked
nothing_asked = never_yes

pub closest_of_all : ClosestOfAll
closest_of_all = none_closer

pub closest_first : ClosestFirst
closest_first = all_further

pub any_horizon : AnyHorizon
any_horizon = same_verdict

pub own_horizon_lem : OwnHorizon
own_horizon_lem B ls m bs S sound bound slot = own_lawful ls bs S sound bound slot B m

pub passing_stays : PassingStays
passing_stays = passing_rises

pub reserve_means : ReserveMeans
reserve_means g H S L lawful slot whole =
    let R = first_up_to (enough g H S L) (S - 1) in
    ⊎_elim
    (λ v. rw (reserve_whole g H S L v.1) (whole_smallest g H S L whole v.1))
    (λ v. rw (reserve_part g H S L R v.0 v.1) (part_smallest g H S L lawful slot R v.0 v.1))
    (first_view (enough g H S L) (S - 1))

pub reserve_one : ReserveOne
reserve_one g S L R R' a b =
    le_antisymm (a.least R' b.allowed b.passes) (b.least R a.allowed a.passes)

pub one_less : OneLess
one_less g S L R some r a p =
    ⊎_elim
    (λ (ring : Ring S L R). absurd (omega (arith, ring.enters, r.least (R - 1) a p)))
    (λ (e : R ≡ S). absurd (omega (arith, r.least (R - 1) a p)))
    r.allowed

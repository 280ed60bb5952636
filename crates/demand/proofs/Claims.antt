-- Each claim of specs/Claims.antt, proved.
-- Assumes nothing.
use Prim.Native.Nat.{◌+◌, ◌-◌}
use mathlib.Core.Path.{◌≡◌, refl}
use mathlib.Core.List.{[]}
use native.Mathlib.Nat.{le_refl, le_trans, le_of_eq}
use native.Mathlib.Omega.{arith}
use Rattle.demand.specs.Demand.{jobs, demand}
use Rattle.demand.specs.Supply.{supply_past, supply}
use Rattle.demand.specs.Passes.{Passes, fake, FakePasses}
use Rattle.demand.specs.Claims.{LiteralForms, LastWith, HorizonDecides, DemandDecides, StepsDecide, LoadsLawful, FakeAgrees, FakeDiffers, FakeRises, NeverTurns, AlonePasses, LossNeverPasses}
use Rattle.demand.proofs.Demand.{jobs_code, term_within, demand_cons, demand_nil, demand_first, demand_mono, demand_zero, demand_turn}
use Rattle.demand.proofs.Supply.{supply_gap, supply_all, supply_part}
use Rattle.demand.proofs.Reach.{supply_at_last, past_last}
use Rattle.demand.proofs.Horizon.{beyond, supply_gains}
use Rattle.demand.proofs.Steps.{up_to, rises_at}
use Rattle.demand.proofs.Fake.{supply_room, covered}
use Rattle.demand.proofs.Reserve.{supply_rises, loss_supplies}

pub literal_forms : LiteralForms
literal_forms = record { jobs_form = jobs_code; supply_form = supply_gap }

pub last_with_lem : LastWith
last_with_lem = record { at = supply_at_last; past = past_last }

pub horizon_decides : HorizonDecides
horizon_decides g s H some turns gains within t p = beyond g s H some turns gains within t t (le_refl t) p

pub demand_decides : DemandDecides
demand_decides g S L R H slot lawful within =
    horizon_decides g (supply S L R) H lawful.horizon lawful.turns (λ t. supply_gains S L R t H slot) within

pub steps_decide : StepsDecide
steps_decide Step g S L R H slot none rises at-steps t p h = up_to Step g S L R H slot none rises at-steps t h

pub loads_lawful : LoadsLawful
loads_lawful =
    record {
      lawful = λ ls H sound some divides. record {
        none = demand_zero ls sound;
        horizon = some;
        turns = λ t. le_of_eq (demand_turn ls t H sound divides);
      };
      rising = λ ls sound t u h. demand_mono ls sound h;
      steps = rises_at;
      some = demand_first;
    }

pub fake_agrees : FakeAgrees
fake_agrees g S L R rising r =
    let ring : R ≡ S → ⊥ = λ (e : R ≡ S). omega arith in (
      λ (h : Passes g S L R) t p.
          supply_room S (S - R + L) (g t) (omega arith) t (rw (supply_part S L R t ring) at (h t p)),
      λ (h : FakePasses g S L R) t p.
          rw (supply_part S L R t ring)
          (covered g S (S - R + L) (omega arith) (omega arith) rising h t p),
    )

pub fake_differs : FakeDiffers
unfolding demand jobs supply supply_past fake
fake_differs = record { demand_5 = refl; supply_5 = refl; sum_5 = refl; sum_7 = refl }

pub fake_rises : FakeRises
unfolding demand jobs fake
fake_rises = record { sum_1 = refl; sum_2 = refl }

pub never_turns : NeverTurns
never_turns g S L R R' a a' h passes t p = le_trans (passes t p) (supply_rises S L R R' t a a' h)

pub alone_passes : AlonePasses
alone_passes l S L s m t p = omega (arith, supply_all S L S t refl, demand_cons l [] t, demand_nil t, term_within l t s m)

pub loss_never_passes : LossNeverPasses
loss_never_passes =
    record {
      nothing = loss_supplies;
      short = λ g S L R t some below eaten. omega (arith, loss_supplies S L R t below eaten, some);
    }

-- Examples E, F and G of document 01, as far as they speak of one server, and two of how close it is: computed from the definitions.
use Prim.Native.Nat.{ℕ}
use mathlib.Core.Path.{◌≡◌, refl}
use mathlib.Core.List.{List, [], ◌∷◌}
use Rattle.wholes.specs.Measure.{measure_in, common_measure}
use Rattle.wholes.specs.Multiple.{least_multiple, least_multiple_of}
use Rattle.demand.specs.Load.{Load}
use Rattle.demand.specs.Demand.{jobs, demand}
use Rattle.demand.specs.Supply.{supply_past, supply}
use Rattle.search.specs.Search.{first_up_to}
use Rattle.steps.specs.Stepping.{steps}
use Rattle.slack.specs.Least.{lesser, least_up_to}
use Rattle.slack.specs.Slack.{slack}
use Rattle.verdict.specs.Verdict.{failing, own_horizon, first_failing, closest, reading_at, verdict_at, verdict_of, passing}
use Rattle.verdict.specs.Reserve.{enough, smallest_reserve}
use Rattle.verdict.specs.declared.answer.Verdict.TheVariants.{Yes, No}

-- the loads of a server with one task, without overheads
abbrev pub alone : (C D T : ℕ) → List Load
alone C D T = record { cost = C; deadline = D; period = T } ∷ []

-- two tasks of period 6, with deadlines 3 and 5, the second with this cost
abbrev pub beside : (C : ℕ) → List Load
beside C = record { cost = 1; deadline = 3; period = 6 } ∷ record { cost = C; deadline = 5; period = 6 } ∷ []

pub record Worked : Type 0 where
  -- E. S 4, task 2/7/8: R = 1 fails first at length 7, demand 2, supply 1; the smallest R is 2
  pub e_horizon : own_horizon 4 (alone 2 7 8) [] ≡ 8
  pub E : verdict_of (demand (alone 2 7 8)) 8 4 0 1 ≡ No (record { length = 7; demand = 2; supply = 1 })
  pub e_reserve : smallest_reserve (demand (alone 2 7 8)) 8 4 0 ≡ 2
  -- F. S 4, task 2/5/8, R = 1: fails first at 5, demand 2, supply 1
  pub F : verdict_of (demand (alone 2 5 8)) 8 4 0 1 ≡ No (record { length = 5; demand = 2; supply = 1 })
  -- G. S 10, task 3/10/10, ResD 1: R = 4, and with it the verdict is yes: at length 10 all of the supply of 3 is asked for
  pub g_horizon : own_horizon 10 (alone 3 10 10) [] ≡ 10
  pub g_reserve : smallest_reserve (demand (alone 3 10 10)) 10 10 1 ≡ 4
  pub G : verdict_of (demand (alone 3 10 10)) 10 10 1 4 ≡ Yes (record { length = 10; demand = 3; supply = 3 })
  -- S 3, tasks 1/3/6 and 1/5/6, R = 2: the slack is 1 at length 3, demand 1, supply 2, and at 5, demand 2, supply 3; the smaller is named
  pub tied : verdict_of (demand (beside 1)) 6 3 0 2 ≡ Yes (record { length = 3; demand = 1; supply = 2 })
  -- with 2/5/6 in its place the slack is 0 at 5, which is not the first deadline
  pub later : verdict_of (demand (beside 2)) 6 3 0 2 ≡ Yes (record { length = 5; demand = 3; supply = 3 })

pub worked : Worked
unfolding smallest_reserve enough passing verdict_of verdict_at first_failing first_up_to failing closest reading_at least_up_to lesser steps slack own_horizon least_multiple_of least_multiple common_measure measure_in demand jobs supply supply_past
worked =
    record { e_horizon = refl; E = refl; e_reserve = refl; F = refl; g_horizon = refl; g_reserve = refl; G = refl; tied = refl; later = refl }

-- The claims have something to speak of: the rota of example D of document 01 stands, server 1 on a whole processor, server 2 on
-- the ring. Reserves and verdicts are computed from the definitions; assumes nothing.
use Prim.Native.Nat.{ℕ, zero, suc, ◌≤◌, ◌∣◌}
use mathlib.Core.Path.{◌≡◌, refl, subst}
use mathlib.Core.Bool.{true}
use mathlib.Core.List.{List, [], ◌∷◌}
use native.Mathlib.Nat.{dvd_refl}
use native.Mathlib.Omega.{arith}
use Rattle.demand.specs.Load.{Load, Sound, Every}
use Rattle.demand.specs.Lawful.{Lawful}
use Rattle.demand.specs.Demand.{jobs, demand}
use Rattle.demand.specs.Supply.{supply_past, supply}
use Rattle.demand.proofs.Claims.{loads_lawful}
use Rattle.search.specs.Search.{first_up_to}
use Rattle.verdict.specs.Verdict.{failing, first_failing, verdict_at, verdict_of, passing}
use Rattle.verdict.specs.Reserve.{enough, smallest_reserve, Smallest}
use Rattle.verdict.proofs.Claims.{passing_means, reserve_means}
use Rattle.reserves.specs.Reserves.{reserve_of}
use Rattle.ring_claims.specs.Serves.{RingServer, WholeProcessor}
use Rattle.rotas.specs.Rota.{Rota, IsServer, StandingServer, Standing}

abbrev load : (c : ℕ) → Load
load c = record { cost = c; deadline = 10; period = 10 }

-- D: S 10, loads 5/10/10 and 5/10/10 in server 1, 1/10/10 in server 2
abbrev loads : ℕ → List Load
loads zero = []
loads (suc zero) = load 5 ∷ load 5 ∷ []
loads (suc (suc q)) = load 1 ∷ []

abbrev pub rota_d : Rota
rota_d = record { slot = 10; reserves = 10 ∷ 1 ∷ []; demand_of = λ q. demand (loads q); loss_of = λ q. 0 }

sound : (c : ℕ) → 1 ≤ c → Sound (load c)
sound c h = record { some = h; due = omega arith; constrained = omega arith }

-- server 1 on a whole processor, server 2 on the ring
pub record WorkedD : Type 0 where
  pub stands : Standing rota_d
  pub whole : WholeProcessor 10 rota_d.reserves 1
  pub ring : RingServer 10 rota_d.reserves 2

-- both pass on a whole processor, and these are the smallest reserves
computed :
    (passing (demand (loads 1)) 10 10 0 10 ≡ true) × (smallest_reserve (demand (loads 1)) 10 10 0 ≡ 10)
    × (passing (demand (loads 2)) 10 10 0 10 ≡ true) × (smallest_reserve (demand (loads 2)) 10 10 0 ≡ 1)
unfolding smallest_reserve enough passing verdict_of verdict_at first_failing first_up_to failing demand jobs supply supply_past
computed = (refl, refl, refl, refl)

-- a server of loads of period 10 that passes on a whole processor stands with the reserve that is computed
stands_with : (q : ℕ) → Every Sound (loads q) → Every (λ (l : Load). l.period ∣ 10) (loads q) →
    passing (demand (loads q)) 10 10 0 10 ≡ true → smallest_reserve (demand (loads q)) 10 10 0 ≡ reserve_of rota_d.reserves q →
    1 ≤ demand (loads q) 10 → StandingServer rota_d q
stands_with q sound divides pass e some =
    let lawful : Lawful (demand (loads q)) 10 = loads_lawful.lawful (loads q) 10 sound (omega arith) divides in
    record {
      smallest = subst (Smallest (demand (loads q)) 10 0) e
          (reserve_means (demand (loads q)) 10 10 0 lawful (omega arith) ((passing_means (demand (loads q)) 10 10 0 10 lawful (omega arith)).0 pass));
      horizon = 10;
      lawful = lawful;
      long = 10;
      demanded = some;
    }

each_stands : (q : ℕ) → IsServer rota_d q → StandingServer rota_d q
each_stands zero s = absurd (omega (arith, s.some))
each_stands (suc zero) s =
    stands_with 1 (sound 5 (omega arith), (sound 5 (omega arith), tt)) (dvd_refl 10, (dvd_refl 10, tt)) computed.0 computed.1
    (loads_lawful.some (load 5) (load 5 ∷ []) (sound 5 (omega arith)))
each_stands (suc (suc zero)) s =
    stands_with 2 (sound 1 (omega arith), tt) (dvd_refl 10, tt) computed.2 computed.3
    (loads_lawful.some (load 1) [] (sound 1 (omega arith)))
each_stands (suc (suc (suc q))) s = absurd (omega (arith, s.there))

pub worked_D : WorkedD
worked_D = record {
  stands = record { slot_some = omega arith; servers = each_stands };
  whole = record { some = omega arith; there = omega arith; whole = refl };
  ring = record { some = omega arith; there = omega arith; ring = omega arith };
}

-- Example A's switches, and their number.
-- Assumes nothing.
use Prim.Native.Nat.{ℕ}
use mathlib.Core.Path.{◌≡◌, refl}
use mathlib.Core.List.{List, [], ◌∷◌}
use Rattle.wholes.specs.Ceiling.{ceiling_of}
use Rattle.reserves.specs.Reserves.{ring_ticks, wholes}
use Rattle.ring.specs.Phase.{phase}
use Rattle.ring.specs.Cover.{covers, coverer_up_to, stand_at}
use Rattle.ring.specs.Who.{who_of, first_reserve}
use Rattle.turn.specs.Switches.{Switch, switches, switches_at, switches_before, turn_switches}
use Rattle.turn.specs.Count.{stretches, amid, switch_count}

abbrev to : (tick processor server : ℕ) → Switch
to tick processor server = record { tick = tick; processor = processor; server = server }

-- three reserves of 6 in a slot of 10, on two processors
abbrev a : List ℕ
a = 6 ∷ 6 ∷ 6 ∷ []

a_switches : turn_switches 10 a ≡
    to 0 1 1 ∷ to 0 2 2 ∷ to 2 2 3 ∷ to 6 1 2 ∷ to 8 2 0 ∷ to 10 2 1 ∷ to 12 1 3 ∷ to 16 2 2 ∷ to 18 1 0 ∷ []
unfolding turn_switches switches_before switches_at switches who_of stand_at coverer_up_to covers phase ring_ticks wholes ceiling_of
a_switches = refl

a_count : switch_count 10 a ≡ 9
unfolding switch_count stretches amid first_reserve stand_at coverer_up_to covers phase ring_ticks wholes ceiling_of
a_count = refl

-- What is promised of the switches of a turn, in the words of document 02, Req 01 (RULES 4.3 to 4.5).
-- The proofs stand in proofs/Claims.antt, one for each claim.
use Rattle.std.specs.Prelude.{ℕ, suc, ◌+◌, ◌%◌, ◌≤◌, ◌<◌, ◌^◌, ◌≡◌, List, [], ◌∷◌, false, ◌↔◌, length}
use Rattle.frames.specs.declared.table.Frame.{Frame}
use Rattle.framesizes.specs.Overflow.{line_overflows}
use Rattle.tasks.specs.Set.{most_tasks}
use Rattle.reserves.specs.Reserves.{ring_processors, ring_length}
use Rattle.ring.specs.Who.{who_of}
use Rattle.ring_claims.specs.Slotted.{Slotted}
use Rattle.turn.specs.Switches.{Switch, runs, turn_switches, switch_text}
use Rattle.turn.specs.Count.{switch_count, longest_switches}
use Rattle.turn_claims.specs.List.{Begins, switch_at, StandsIn, Earlier, named}

-- each switch and none missing: a switch stands in the list exactly when its processor begins its server then
abbrev pub SwitchesExactly : Type 0
SwitchesExactly = (S : ℕ) (reserves : List ℕ) (s : Switch) → StandsIn s (turn_switches S reserves) ↔ Begins S reserves s

-- sorted by tick, then processor, strictly: so each stands there once
abbrev pub SwitchesSorted : Type 0
SwitchesSorted =
    (S : ℕ) (reserves : List ℕ) (k : ℕ) → suc k < length (turn_switches S reserves) →
    Earlier (switch_at (turn_switches S reserves) k) (switch_at (turn_switches S reserves) (suc k))

-- no ring servers: no lines
abbrev pub NoSwitches : Type 0
NoSwitches = (S : ℕ) (reserves : List ℕ) → ring_processors S reserves ≡ 0 → switch_text S reserves ≡ []

-- for the boot code: loaded and repeated every r·S ticks, the list names who runs on every ring processor at every tick of all time
abbrev pub SwitchesReplay : Type 0
SwitchesReplay =
    (S : ℕ) (reserves : List ℕ) (p x : ℕ) → 1 ≤ S → 1 ≤ p → p ≤ ring_processors S reserves →
    named (turn_switches S reserves) p (x % ring_length S reserves) ≡ runs S reserves p x

-- where a stretch ends another server's begins, or the idle positions, or after these a server's: every end is a switch
abbrev pub StretchesDiffer : Type 0
StretchesDiffer =
    (S : ℕ) (reserves : List ℕ) (p x : ℕ) → Slotted S reserves → 1 ≤ p → p ≤ ring_processors S reserves →
    runs S reserves p (x + (who_of S reserves p (record { 0 = x })).left) ≡ runs S reserves p x → ⊥

-- how many there are
abbrev pub SwitchesCounted : Type 0
SwitchesCounted = (S : ℕ) (reserves : List ℕ) → Slotted S reserves → length (turn_switches S reserves) ≡ switch_count S reserves

-- the most bytes that the text can have: whoever lends as many has room for it
abbrev pub SwitchesFit : Type 0
SwitchesFit =
    (S : ℕ) (reserves : List ℕ) → Slotted S reserves → length reserves ≤ most_tasks → length (switch_text S reserves) ≤ longest_switches

-- nothing is cut off: the figures of every line fit their fields
abbrev pub SwitchesWhole : Type 0
SwitchesWhole =
    (S : ℕ) (reserves : List ℕ) (s : Switch) → Slotted S reserves → S < 16 ^ 6 → length reserves ≤ most_tasks → Begins S reserves s →
    line_overflows Frame.Switch (s.tick ∷ s.processor ∷ s.server ∷ []) ≡ false

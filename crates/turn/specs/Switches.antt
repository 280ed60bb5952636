-- The switches of one turn of r·S ticks, and their text: every moment when some ring processor changes server or goes idle.
-- Document 02, Req 01 (RULES 4.3 to 4.5).
use Rattle.std.specs.Prelude.{ℕ, zero, suc, List, [], ◌∷◌, ◌++◌, Bool, true, cond, not, eqb}
use Rattle.frames.specs.declared.table.Frame.{Frame}
use Rattle.framewrite.specs.Line.{line_of}
use Rattle.reserves.specs.Reserves.{ring_processors, ring_length}
use Rattle.ring.specs.Who.{who_of}

-- at a tick a processor goes over to a server, or to 0 for idle
pub record Switch : Type 0 where
  pub tick : ℕ
  pub processor : ℕ
  pub server : ℕ

-- the server that runs on processor p at tick x; 0 for idle
abbrev pub runs : (S : ℕ) (reserves : List ℕ) (p x : ℕ) → ℕ
runs S reserves p x = (who_of S reserves p (record { 0 = x })).server

-- tick 0 lists every ring processor, a later tick those that run another server than at the tick before
unfoldable pub switches : (S : ℕ) (reserves : List ℕ) (p x : ℕ) → Bool
switches S reserves p zero = true
switches S reserves p (suc x) = not (eqb (runs S reserves p (suc x)) (runs S reserves p x))

-- the switches of processors 1 to n at a tick
unfoldable pub switches_at : (S : ℕ) (reserves : List ℕ) (x n : ℕ) → List Switch
switches_at S reserves x zero = []
switches_at S reserves x (suc n) =
    switches_at S reserves x n ++
    cond (switches S reserves (suc n) x) (record { tick = x; processor = suc n; server = runs S reserves (suc n) x } ∷ []) []

-- the switches of the ring processors before a tick
unfoldable pub switches_before : (S : ℕ) (reserves : List ℕ) (x : ℕ) → List Switch
switches_before S reserves zero = []
switches_before S reserves (suc x) = switches_before S reserves x ++ switches_at S reserves x (ring_processors S reserves)

-- those of one turn; without ring servers there are none
unfoldable pub turn_switches : (S : ℕ) (reserves : List ℕ) → List Switch
turn_switches S reserves = switches_before S reserves (ring_length S reserves)

-- the 21 line of a switch, and those of several, one behind the other
unfoldable pub switch_line : Switch → List ℕ
switch_line s = line_of Frame.Switch (s.tick ∷ s.processor ∷ s.server ∷ [])

unfoldable pub switch_lines : List Switch → List ℕ
switch_lines [] = []
switch_lines (s ∷ ss) = switch_line s ++ switch_lines ss

unfoldable pub switch_text : (S : ℕ) (reserves : List ℕ) → List ℕ
switch_text S reserves = switch_lines (turn_switches S reserves)

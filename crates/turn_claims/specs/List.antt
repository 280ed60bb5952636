-- What is said of a list of switches: what stands in it, in which order, and whom it names when the boot code has loaded it.
-- Document 02, Req 01 (RULES 4.3 to 4.5).
use Rattle.std.specs.Prelude.{ℕ, suc, ◌≤◌, ◌<◌, ◌≡◌, List, [], ◌∷◌, cond, ◌&&◌, ◌⊎◌, length, get_or, eqb, leb}
use Rattle.reserves.specs.Reserves.{ring_processors, ring_length}
use Rattle.turn.specs.Switches.{Switch, runs}

-- at a tick of the turn a ring processor begins a server, or idle; tick 0 counts as a beginning
pub record Begins (S : ℕ) (reserves : List ℕ) (s : Switch) : Type 0 where
  pub turn : s.tick < ring_length S reserves
  pub from_one : 1 ≤ s.processor
  pub on_ring : s.processor ≤ ring_processors S reserves
  pub names : runs S reserves s.processor s.tick ≡ s.server
  pub begun : (x : ℕ) → suc x ≡ s.tick → runs S reserves s.processor x ≡ s.server → ⊥

-- what stands past the end of a list of switches
abbrev pub no_switch : Switch
no_switch = record { tick = 0; processor = 0; server = 0 }

-- the k-th switch of a list, from 0
abbrev pub switch_at : List Switch → ℕ → Switch
switch_at list k = get_or list k no_switch

-- it stands in the list
abbrev pub StandsIn : Switch → List Switch → Type 0
StandsIn s list = (k : ℕ) × (k < length list) × (switch_at list k ≡ s)

-- by tick, then by processor
abbrev pub Earlier : (s t : Switch) → Type 0
Earlier s t = (s.tick < t.tick) ⊎ ((s.tick ≡ t.tick) × (s.processor < t.processor))

-- whom a loaded list names for processor p at tick x of the turn: the last entry of p at or before x. Entry by entry; `last` is the
-- server of the last such entry so far.
unfoldable pub named_from : (last : ℕ) → List Switch → (p x : ℕ) → ℕ
named_from last [] p x = last
named_from last (s ∷ ss) p x = named_from (cond (eqb s.processor p && leb s.tick x) s.server last) ss p x

abbrev pub named : List Switch → (p x : ℕ) → ℕ
named list p x = named_from 0 list p x

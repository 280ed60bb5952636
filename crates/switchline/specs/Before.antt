-- What runs on a ring processor right before a tick, and until when.
use Rattle.std.specs.Prelude.{ℕ, zero, suc, ◌+◌, List}
use Rattle.ring.specs.Who.{who_of}
use Rattle.turn.specs.Switches.{runs}

-- the server that runs right before tick x, and until when; before tick 0 nobody runs, until tick 0
abbrev pub server_before : (S : ℕ) (reserves : List ℕ) (p x : ℕ) → ℕ
server_before S reserves p zero = 0
server_before S reserves p (suc x) = runs S reserves p x

abbrev pub until_before : (S : ℕ) (reserves : List ℕ) (p x : ℕ) → ℕ
until_before S reserves p zero = 0
until_before S reserves p (suc x) = x + (who_of S reserves p (record { 0 = x })).left

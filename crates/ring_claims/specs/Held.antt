-- The processor ticks that a server holds, counted from the rota: at each tick, over the processors that are there.
-- Document 01: "In any S consecutive ticks a server holds exactly R processor ticks, counted from the rota tick by tick" (RULES 3.6).
use Rattle.std.specs.Prelude.{ℕ, zero, suc, ◌+◌, List, Bool, cond, eqb}
use Rattle.ring.specs.declared.clock.Tick.{Tick}
use Rattle.reserves.specs.Reserves.{processors_of}
use Rattle.ring.specs.Who.{who_of}

-- j ticks later
abbrev pub later : Tick → ℕ → Tick
later x j = record { 0 = x.0 + j }

-- how many of the numbers 1 to n pass a test
unfoldable pub count_to : (ℕ → Bool) → ℕ → ℕ
count_to test zero = 0
count_to test (suc n) = count_to test n + cond (test (suc n)) 1 0

-- the processors that run server q at a tick
unfoldable pub held_at : (S : ℕ) (reserves : List ℕ) (q : ℕ) → Tick → ℕ
held_at S reserves q x = count_to (λ p. eqb (who_of S reserves p x).server q) (processors_of S reserves)

-- the processor ticks of server q in t ticks from x on
unfoldable pub held : (S : ℕ) (reserves : List ℕ) (q : ℕ) → Tick → ℕ → ℕ
held S reserves q x zero = 0
held S reserves q x (suc t) = held S reserves q x t + held_at S reserves q (later x t)

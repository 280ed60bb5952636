-- The phase rule: the one place that turns a tick and a ring processor into a position.
-- Document 01, "From tasks to servers to ring", rule 4 (RULES 3.4).
use Rattle.std.specs.Prelude.{ℕ, ◌+◌, ◌*◌, ◌-◌, ◌%◌}
use Rattle.ring.specs.declared.clock.Tick.{Tick}
use Rattle.ring.specs.declared.clock.Position.{Position}

-- ring processor p (1 to r) is at position (x + (p − 1)·S) mod (r·S) at tick x
unfoldable pub phase : (S r p : ℕ) → Tick → Position
phase S r p x = record { 0 = (x.0 + (p - 1) * S) % (r * S) }

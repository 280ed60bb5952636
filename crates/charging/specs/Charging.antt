-- House charging: what the board's overheads make of a task's figures. The one place that turns tasks into loads.
-- Document 01, "The numbers of a task set" (RULES 1.3).
use Rattle.std.specs.Prelude.{ℕ, ◌+◌, ◌*◌, ◌-◌}

-- d = D − RelJ
unfoldable pub effective_deadline : (D RelJ : ℕ) → ℕ
effective_deadline D RelJ = D - RelJ

-- c = C + RelO + 2·CtswO + CpmdO
unfoldable pub effective_cost : (C RelO CtswO CpmdO : ℕ) → ℕ
effective_cost C RelO CtswO CpmdO = C + RelO + 2 * CtswO + CpmdO

-- L = ResD + CpmdO
unfoldable pub entry_loss : (ResD CpmdO : ℕ) → ℕ
entry_loss ResD CpmdO = ResD + CpmdO

-- The slack at a length: the ticks to spare, supply less demand. Document 02, Req 02 (RULES 4.2).
use Rattle.std.specs.Prelude.{ℕ, ◌-◌}
use Rattle.demand.specs.Supply.{supply_past, supply}

unfoldable pub slack : (g : ℕ → ℕ) → (S L R t : ℕ) → ℕ
slack g S L R t = supply S L R t - g t

-- the same past a gap of f
unfoldable pub slack_past : (g : ℕ → ℕ) → (S f t : ℕ) → ℕ
slack_past g S f t = supply_past S f t - g t

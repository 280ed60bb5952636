-- Masked interrupts: a job that is due after a window may hold interrupts off as the window begins, and so delay one that is due within
-- it. A server's demand gains B ticks at the lengths where there can be both. Document 02, Req 04 (RULES 2.6).
use Rattle.std.specs.Prelude.{ℕ, ◌+◌, ◌^◌, ◌≤◌, ◌<◌, min, max, ◌≡◌, List, [], ◌∷◌, Bool, cond, ◌&&◌, leb, ltb}
use Rattle.demand.specs.Load.{Load}
use Rattle.demand.specs.Demand.{demand}
use Rattle.masking.specs.declared.Gain.{Gain}

-- the smallest of d and the deadlines of loads, and the smallest deadline of loads; 0 for none
unfoldable pub soonest_of : (d : ℕ) → List Load → ℕ
soonest_of d [] = d
soonest_of d (l ∷ ls) = min d (soonest_of l.deadline ls)

unfoldable pub soonest : List Load → ℕ
soonest [] = 0
soonest (l ∷ ls) = soonest_of l.deadline ls

-- the largest deadline of loads; 0 for none
unfoldable pub latest : List Load → ℕ
latest [] = 0
latest (l ∷ ls) = max l.deadline (latest ls)

-- the gain at length t: from `from` up to, but not including, `until`
unfoldable pub gain_at : Gain → (t : ℕ) → ℕ
gain_at k t = cond (leb k.from t && ltb t k.until) k.extra 0

-- a demand with a gain
unfoldable pub gaining : Gain → (g : ℕ → ℕ) → ℕ → ℕ
gaining k g t = g t + gain_at k t

-- loads gain B at each length from their smallest d up to, but not including, their largest d
unfoldable pub gain_of : (B : ℕ) → List Load → Gain
gain_of B ls = record { extra = B; from = soonest ls; until = latest ls }

-- the demand of loads where interrupts can be held off for B ticks
unfoldable pub masked_demand : (B : ℕ) → List Load → ℕ → ℕ
masked_demand B ls = gaining (gain_of B ls) (demand ls)

-- some length gains something
unfoldable pub gains_some : Gain → Bool
gains_some k = ltb 0 k.extra && ltb k.from k.until

-- what the test asks of B and of loads: B is small, and the deadlines are within the horizon
pub record Maskable (B : ℕ) (ls : List Load) (H : ℕ) : Type 0 where
  pub masked_small : B < 2 ^ 36
  pub due : latest ls ≤ H

-- what a search over a demand that gains asks: the gain is these loads' own, B is small, and their deadlines are within hi
pub record Gains (k : Gain) (ls : List Load) (hi : ℕ) : Type 0 where
  pub own : k ≡ gain_of k.extra ls
  pub small_extra : k.extra < 2 ^ 36
  pub due : k.until ≤ hi

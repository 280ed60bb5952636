-- Supply is the worst window's count: no window has less, and a window that opens at a reserve's end has just that.
-- Assumes nothing.
use Prim.Native.Nat.{ℕ, ◌+◌, ◌*◌, ◌-◌, ◌%◌, ◌≤◌, ◌<◌}
use mathlib.Core.Path.{◌≡◌, ap, ◌∙◌}
use native.Mathlib.Nat.{mod-lt}
use native.Mathlib.Omega.{arith}
use Rattle.demand.specs.Supply.{supply_past}
use Rattle.demand.proofs.Supply.{supply_more, supply_turn, supply_within}
use Rattle.windows.specs.Window.{usable_in}
use Rattle.windows.proofs.Since.{to_end_lem}
use Rattle.windows.proofs.Counting.{window_counts}

-- no window has less
pub least : (S L R start a t : ℕ) → 1 ≤ S → R < S → supply_past S (S - R + L) t ≤ usable_in S L R start a t
least S L R start a t h g =
    let A = a + to_end_lem S R start in
    omega (arith, window_counts S L R start a t h (omega arith), supply_more S (S - R + L) A t h)

-- a tick from the second slot on at which a reserve has just ended
abbrev pub opens : (S R start : ℕ) → ℕ
opens S R start = S + start % S + R

-- from there the ticks since a reserve's end are counted by whole slots
opens_turned : (S R start : ℕ) → 1 ≤ S → R ≤ S → opens S R start + to_end_lem S R start ≡ 0 + 3 * S
opens_turned S R start h g = omega (arith, mod-lt start h)

-- k slots and t ticks supply what k slots do, and t ticks
slots_then : (S f k t : ℕ) → 1 ≤ S → supply_past S f (0 + k * S + t) ≡ supply_past S f (0 + k * S) + supply_past S f t
slots_then S f k t h =
    let e : 0 + k * S + t ≡ t + k * S = omega arith in
    let none : supply_past S f 0 ≡ 0 = omega (arith, supply_within S f 0) in
    ap (supply_past S f) e ∙ omega (arith, supply_turn S f t k h, supply_turn S f 0 k h)

-- a window that opens there has just that
pub met_there : (S L R start t : ℕ) → 1 ≤ S → R ≤ S → usable_in S L R start (opens S R start) t ≡ supply_past S (S - R + L) t
met_there S L R start t h g =
    let counts = window_counts S L R start (opens S R start) t h g in
    let counted = rw (opens_turned S R start h g) at counts in
    omega (arith, slots_then S (S - R + L) 3 t h)

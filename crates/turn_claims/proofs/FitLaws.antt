-- The text of a turn's switches: the figures of each fit the fields of its line, and the most bytes that it can have.
-- Assumes nothing.
use Prim.Native.Nat.{ℕ, ◌+◌, ◌*◌, ◌^◌, ◌≤◌, ◌<◌}
use mathlib.Core.Path.{◌≡◌, refl}
use mathlib.Core.List.{List, [], ◌∷◌}
use mathlib.Core.Bool.{false}
use native.Mathlib.Nat.{mul-le-mul, mul-le-mul_right}
use native.Mathlib.Omega.{arith}
use borrow.Author.Tests.{lt-leb}
use lib.ListN.{length}
use Rattle.laws.proofs.Tests.{or_neither}
use Rattle.frames.specs.declared.table.Frame.{Frame}
use Rattle.frames.specs.Table.{widths_of, length_of}
use Rattle.framesizes.specs.Overflow.{some_too_large, line_overflows}
use Rattle.tasks.specs.Set.{most_tasks}
use Rattle.reserves.specs.Reserves.{ring_processors}
use Rattle.ring_claims.specs.Slotted.{Slotted}
use Rattle.turn.specs.Switches.{Switch, turn_switches, switch_text}
use Rattle.turn.specs.Count.{most_switches, longest_switches}
use Rattle.turn.proofs.NextLaws.{running_stretched}
use Rattle.turn.proofs.TextLaws.{lines_length}
use Rattle.turn.proofs.CountLaws.{turn_count, count_most, ring_few}
use Rattle.turn_claims.specs.List.{Begins}

-- a tick of 8 digits, a processor and a server of 2
pub line_fits : (s : Switch) → s.tick < 16 ^ 8 → s.processor < 16 ^ 2 → s.server < 16 ^ 2 →
    line_overflows Frame.Switch (s.tick ∷ s.processor ∷ s.server ∷ []) ≡ false
unfolding line_overflows some_too_large widths_of
line_fits s t p q =
    or_neither (lt-leb (16 ^ 8) s.tick t)
    (or_neither (lt-leb (16 ^ 2) s.processor p) (or_neither (lt-leb (16 ^ 2) s.server q) refl))

-- of a switch that begins: the turn is at most 64 slots of less than 16^6 ticks, and there are at most 64 servers
pub begun_fits : {S : ℕ} {rs : List ℕ} {s : Switch} → Slotted S rs → S < 16 ^ 6 → length rs ≤ most_tasks → Begins S rs s →
    line_overflows Frame.Switch (s.tick ∷ s.processor ∷ s.server ∷ []) ≡ false
begun_fits {S} {rs} {s} res slot few b =
    let most : ring_processors S rs ≤ 64 = omega (arith, ring_few S rs res) in
    let below : S ≤ 16777215 = omega arith in
    let long : ring_processors S rs * S ≤ 64 * 16777215 = mul-le-mul most below in
    let there = (running_stretched S rs s.processor s.tick res b.from_one b.on_ring).there in
    line_fits s (omega (arith, b.turn, long)) (omega (arith, b.on_ring)) (omega (arith, there, b.names))

-- as many lines as switches, and at most so many switches
pub text_fits : {S : ℕ} {rs : List ℕ} → Slotted S rs → length rs ≤ most_tasks → length (switch_text S rs) ≤ longest_switches
unfolding switch_text
text_fits {S} {rs} res few =
    let most : length (turn_switches S rs) ≤ most_switches = omega (arith, turn_count S rs res, count_most S rs res few) in
    rw (lines_length (turn_switches S rs)) (mul-le-mul_right (length_of Frame.Switch + 1) most)

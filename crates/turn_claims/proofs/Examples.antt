-- Example A's list of switches as text.
-- Assumes nothing.
use mathlib.Core.Path.{◌≡◌, refl}
use mathlib.Core.List.{[], ◌∷◌}
use Rattle.wholes.specs.Ceiling.{ceiling_of}
use Rattle.digits.specs.Number.{hex}
use Rattle.digits.specs.Digit.{digit_of}
use Rattle.frames.specs.Table.{kind_of, widths_of}
use Rattle.framewrite.specs.Line.{fields, line_of}
use Rattle.reserves.specs.Reserves.{ring_ticks, wholes}
use Rattle.ring.specs.Phase.{phase}
use Rattle.ring.specs.Cover.{covers, coverer_up_to, stand_at}
use Rattle.ring.specs.Who.{who_of}
use Rattle.quoted.specs.Quoted.{bytes_of}
use Rattle.turn.specs.Switches.{switches, switches_at, switches_before, turn_switches, switch_line, switch_lines, switch_text}

-- three reserves of 6 in a slot of 10, on two processors: tick, processor and server of each line
a_text : switch_text 10 (6 ∷ 6 ∷ 6 ∷ []) ≡
    bytes_of "21000000000101\n21000000000202\n21000000020203\n21000000060102\n21000000080200\n210000000A0201\n210000000C0103\n21000000100202\n21000000120100\n"
unfolding switch_text switch_lines switch_line line_of kind_of widths_of fields hex digit_of turn_switches switches_before switches_at switches who_of stand_at coverer_up_to covers phase ring_ticks wholes ceiling_of
a_text = refl

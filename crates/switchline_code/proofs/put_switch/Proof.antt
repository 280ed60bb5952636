-- `put_switch` meets its contract: the row of the frame gives the line, and what begins ends within a turn.
-- Assumes nothing.
use Prim.Native.Nat.{◌+◌, ◌≤◌}
use mathlib.Core.Path.{◌≡◌, refl, ◌∙◌, ap}
use mathlib.Core.List.{[], ◌∷◌}
use borrow.Author.Rules.{rules}
use native.Mathlib.Omega.{arith}
use lib.ListN.{take}
use Rattle.digits.specs.Stored.{stored}
use Rattle.frames.specs.declared.table.Frame.{Frame}
use Rattle.frames.specs.Table.{length_of, widths_of, fields_in}
use Rattle.frames.proofs.Tables.{fields_most}
use Rattle.framewrite.proofs.LineLaws.{row_fields, row_digits, row_line}
use Rattle.framewrite.specs.Line.{line_of}
use Rattle.ring.specs.declared.cover.Stand.{Stand}
use Rattle.turn.specs.Switches.{switch_line}
use Rattle.switchline.proofs.LaidLaws.{laid_length, laid_room, left_within}
use Rattle.switchline_code.proofs.put_switch.Statement.{statement}
use Rattle.switchline_code.proofs.put_switch.Tie as tie

-- the figures of a line are all there
figures_there : fields_in Frame.Switch ≤ 3
unfolding widths_of
figures_there = omega arith

put_row-end-requires : tie.Need-put_row-end-requires
put_row-end-requires c κs =
    let told = c.requires.1.1.1 in
    let fields = row_fields Frame.Switch told.0 in (
      (omega (arith, fields, fields_most Frame.Switch), omega (arith, fields, figures_there)),
      omega (arith, row_digits Frame.Switch told.0, told.1),
    )

-- what begins ends within a turn
overflow_add-until : tie.Need-overflow_add-until
overflow_add-until c =
    let s = c.before.before.before.before.before.before.before.before.before in
    let turn = s.args.turn in
    let laid = s.requires.0.0 in
    omega (
      arith,
      ap (λ (s : Stand). s.left) c.begun-stand.ensures,
      left_within turn.slot (take turn.servers s.args.reserves.now) s.args.processor s.args.tick laid.slotted.slot_some s.requires.0.1 (omega (arith, s.requires.0.2, laid.ring)),
      laid_length laid,
      laid_room laid,
      s.requires.0.3,
    )

shape_of-out : tie.Need-shape_of-out
shape_of-out c = c.put_row-end.auto.out

returns : tie.Need-returns
unfolding switch_line
returns c =
    let a = c.args in
    let row = c.requires.1.1.1.0 in
    let put = c.put_row-end in
    let stand = c.begun-stand in
    let end : put.result ≡ a.at + length_of Frame.Switch + 1 = omega (arith, put.ensures.0, row_digits Frame.Switch row) in (
      rw (end, stand.ensures) refl,
      put.ensures.1
          ∙ ap (stored a.out.now a.at) (row_line Frame.Switch row _ ∙ ap (λ (s : Stand). line_of Frame.Switch (a.tick ∷ a.processor ∷ s.server ∷ [])) stand.ensures),
    )

pub put_switch_spec : {M : Type 1} → statement M
put_switch_spec =
    tie.close
    (tie.spec
    (λ c κs. search rules)
    (λ c. search rules)
    put_row-end-requires
    overflow_add-until
    shape_of-out
    returns)

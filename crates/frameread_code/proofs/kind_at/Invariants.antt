use mathlib.Core.Path.{◌≡◌}
use lib.ListN.{drop}
use Rattle.frames.specs.Table.{all_frames}
use Rattle.frameread.specs.Line.{first_formed, kind_at}
use Rattle.frameread_code.proofs.kind_at.Given as goal

abbrev pub invariant-loop-i : goal.invariant-loop-i
invariant-loop-i l = first_formed (drop l.i all_frames) (drop l.at l.text) ≡ kind_at (drop l.at l.text)

-- `reading` meets its contract: the demand with its gain, and the supply, at a length. Assumes nothing.
use Prim.Native.Nat.{◌≤◌}
use native.Mathlib.Omega.{arith}
use Rattle.interrupting.proofs.SlicesLaws.{asked_room}
use Rattle.masking.specs.Masking.{gaining}
use Rattle.masking.proofs.GainLaws.{gain_most}
use Rattle.verdict.specs.Verdict.{reading_past}
use Rattle.readings.proofs.reading.Goals as goal

pub overflow_add-asked : goal.overflow_add-asked
overflow_add-asked c =
    let a = c.args in
    let gained : c.at.result ≤ a.gain.extra = rw c.at.ensures (gain_most _ _) in
    omega (
      arith,
      c.asked_at.ensures,
      asked_room a.loads.now a.n c.requires.interrupted.0 a.length c.requires.interrupted.1,
      c.requires.extra_bound,
    )

pub returns : goal.returns
unfolding reading_past gaining
returns c = rw (c.asked_at.ensures, c.at.ensures, c.supply_at-supply.ensures)

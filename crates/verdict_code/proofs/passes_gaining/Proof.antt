-- `passes_gaining` meets its contract: no short length up to the horizon is what passing means. Assumes nothing.
use Prim.Native.Nat.{ℕ}
use native.Mathlib.Omega.{arith}
use Rattle.interrupting.specs.Interrupts.{asked}
use Rattle.masking.specs.Masking.{gaining}
use Rattle.verdict.proofs.Judged.{gap_asked, gap_usable, none_passing}
use Rattle.verdict_code.proofs.passes_gaining.Statement.{statement}
use Rattle.verdict_code.proofs.passes_gaining.Tie as tie

-- what is asked with the gain
abbrev asking : tie.Start → ℕ → ℕ
asking s = gaining s.args.gain (asked s.args.loads.now s.args.n)

gap_of-gap-requires : tie.Need-gap_of-gap-requires
gap_of-gap-requires c κs = gap_asked c.requires.1.0 c.requires.1.1.0

none_fails-requires : tie.Need-none_fails-requires
none_fails-requires c κs =
    let t = c.requires.1.0 in
    let usable = gap_usable t c.requires.1.1.0 c.gap_of-gap.ensures in
    (c.requires.0, (record { usable = omega (arith, usable); small_extra = omega arith; small = omega (arith, t.horizon_small) }, c.requires.1.1.1))

returns : tie.Need-returns
returns c =
    let s = c.before.before.before in
    none_passing (asking s) s.args.horizon s.args.loss s.args.reserve s.requires.1.0.slot_some c.gap_of-gap.ensures
    c.none_fails.ensures

pub passes_gaining_spec : {M : Type 1} → statement M
passes_gaining_spec =
    tie.close
    (tie.spec
    gap_of-gap-requires
    none_fails-requires
    returns)

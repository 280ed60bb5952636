-- The byte stands here, or further on, or nowhere.
use Rattle.std.proofs.Common.{◌≡◌, ℕ, take, drop, ap, arith}
use Rattle.names.specs.Parts.{index_of}
use Rattle.names_code.proofs.FindLaws.{find_here, find_next, find_none}
use Rattle.names_code.proofs.find.Goals as goal

pub returns-then-bytes-at-clause-place : goal.returns-then-bytes-at-clause-place
returns-then-bytes-at-clause-place c =
    omega (arith, c.loop-at.invariant, find_here c.args.byte c.args.bytes.now c.args.end c.requires.1 c.loop-at.at c.loop-at-test.true c.if-bytes-at.true)

pub loop-at-preserved : goal.loop-at-preserved
loop-at-preserved c =
    omega (arith, c.loop-at.invariant, find_next c.args.byte c.args.bytes.now c.args.end c.requires.1 c.loop-at.at c.loop-at-test.true c.if-bytes-at.false)

pub returns-clause-place : goal.returns-clause-place
returns-clause-place c =
    let at : c.loop-at.at ≡ c.args.end = omega arith in
    omega (arith, find_none c.args.byte c.args.bytes.now c.args.end c.requires.1, ap (λ (n : ℕ). index_of c.args.byte (drop n (take c.args.end c.args.bytes.now))) at, c.loop-at.invariant)

-- `begun` meets its contract: at tick 0 who runs first, later what stands behind the server before.
-- Assumes nothing.
use Prim.Native.Nat.{ℕ, ◌≤◌}
use mathlib.Core.Path.{◌≡◌, sym, ap, ◌∙◌}
use borrow.Author.Rules.{rules}
use native.Mathlib.Omega.{arith}
use lib.ListN.{take}
use Rattle.reserves.specs.Reserves.{ring_processors}
use Rattle.ring.specs.Who.{who_of}
use Rattle.switchline.proofs.LaidLaws.{laid_slotted}
use Rattle.switchline.proofs.StepLaws.{before_stretched, after_begins}
use Rattle.switchline_code.proofs.begun.Statement.{statement}
use Rattle.switchline_code.proofs.begun.Tie as tie

-- the processor is one of the ring's
on_ring : (s : tie.Start) → s.args.processor ≤ ring_processors s.args.turn.slot (take s.args.turn.servers s.args.reserves.now)
on_ring s = omega (arith, s.requires.0.2, s.requires.0.0.ring)

returns-then-tick-eq0 : tie.Need-returns-then-tick-eq0
returns-then-tick-eq0 c =
    let first : c.args.tick ≡ 0 = omega (arith, c.if-tick-eq0.true) in
    c.who.ensures ∙
    ap (λ (x : ℕ). who_of c.args.turn.slot (take c.args.turn.servers c.args.reserves.now) c.args.processor (record { 0 = x })) (sym first)

stand_after-requires : tie.Need-stand_after-requires
stand_after-requires c κs =
    let s = c.before.before in
    let later : 1 ≤ s.args.tick = omega (arith, c.if-tick-eq0.false) in (
      (s.requires.0.0.slotted, s.requires.0.0.idle),
      before_stretched (laid_slotted s.requires.0.0) s.args.processor s.requires.0.1 (on_ring s) s.args.tick later s.requires.1.0,
    )

returns : tie.Need-returns
returns c =
    let s = c.before.before.before in
    let later : 1 ≤ s.args.tick = omega (arith, c.if-tick-eq0.false) in
    c.stand_after.ensures ∙
    after_begins (laid_slotted s.requires.0.0) s.args.processor s.requires.0.1 (on_ring s) s.args.tick later s.requires.1.0 s.requires.1.1

pub begun_spec : {M : Type 1} → statement M
begun_spec =
    tie.close
    (tie.spec
    (λ c κs. search rules)
    returns-then-tick-eq0
    stand_after-requires
    returns)

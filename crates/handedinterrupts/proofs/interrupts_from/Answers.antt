-- `handedinterrupts::interrupts_from` meets its contract: each place holds the interrupt of its numbers. Assumes nothing.
use Prim.Native.Nat.{ℕ, ◌+◌, ◌*◌}
use Rattle.std.proofs.Common.{rules}
use Rattle.handed.specs.Handed.{interrupts_at}
use Rattle.handed.proofs.HandedLaws.{made_up}
use Rattle.handedinterrupts.specs.Interrupts.{interrupt_from, interrupts_from}
use Rattle.handedinterrupts.proofs.interrupts_from.Goals as goal

pub returns : goal.returns
unfolding interrupts_from
returns c =
    rw (
      made_up _ (λ (i : ℕ). interrupt_from c.args.numbers.now (interrupts_at + 1 + 5 * i)) _ (λ i y q l k. search rules) c.from_fn.ensures.items,
      c.number_at.ensures,
    )

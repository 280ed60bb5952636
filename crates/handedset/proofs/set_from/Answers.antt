-- `handedset::set_from` meets its contract: each place holds the task of its numbers. Assumes nothing.
use Prim.Native.Nat.{ℕ, ◌+◌, ◌*◌}
use Rattle.std.proofs.Common.{rules}
use Rattle.handed.specs.Handed.{tasks_at}
use Rattle.handed.proofs.HandedLaws.{made_up}
use Rattle.handedset.specs.Set.{task_from, set_from}
use Rattle.handedset.proofs.set_from.Goals as goal

pub returns : goal.returns
unfolding set_from
returns c =
    rw (
      made_up _ (λ (i : ℕ). task_from c.args.numbers.now (tasks_at + 6 * i)) _ (λ i y q l k. search rules) c.from_fn.ensures.items,
      c.header_from.ensures,
      c.number_at.ensures,
      c.interrupts_from.ensures,
    )

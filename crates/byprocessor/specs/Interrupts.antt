-- Interrupts as they ask: each with d = D − J, those of processor 1 first, then those of processor 2, and so on, each in file order; and
-- their numbers with the unused room at zero. Document 02, Req 08.
use Rattle.std.specs.Prelude.{ℕ, zero, suc, ◌-◌, ◌*◌, ◌≤◌, ◌<◌, List, [], ◌∷◌, ◌++◌, map, cond, eqb, length, get_or, replicate}
use Rattle.digits.specs.Stored.{stored}
use Rattle.interrupting.specs.Interrupts.{Bound, bound_numbers}
use Rattle.tasks.specs.declared.set.Interrupt.{Interrupt}
use Rattle.tasks.specs.declared.set.Interrupts.{Interrupts}
use Rattle.tasks.specs.Set.{most_interrupts, zero_interrupt, counted}

-- what an interrupt asks of its processor
abbrev pub bound_of : Interrupt → Bound
bound_of i =
    record {
      processor = i.processor;
      load = record { cost = i.cost; deadline = i.deadline - i.jitter; period = i.period };
    }

-- those of processor p, in their order
unfoldable pub on_processor : (p : ℕ) → List Interrupt → List Interrupt
on_processor p [] = []
on_processor p (i ∷ is) = cond (eqb i.processor p) (i ∷ on_processor p is) (on_processor p is)

-- those of processors 1 to m, processor by processor
unfoldable pub by_processor : (m : ℕ) → List Interrupt → List Bound
by_processor zero is = []
by_processor (suc m) is = by_processor m is ++ map bound_of (on_processor (suc m) is)

-- their numbers, four for each
unfoldable pub interrupt_numbers : List Bound → List ℕ
interrupt_numbers bs = stored (replicate (4 * most_interrupts) 0) 0 (bound_numbers bs)

-- what the order by processor asks of interrupts: few of them, each with J ≤ D
pub record Timely (interrupts : Interrupts) : Type 0 where
  pub few : interrupts.count ≤ most_interrupts
  pub early : (k : ℕ) → k < length (counted interrupts) → (get_or (counted interrupts) k zero_interrupt).jitter ≤ (get_or (counted interrupts) k zero_interrupt).deadline

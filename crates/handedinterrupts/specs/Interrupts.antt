-- The interrupts of a set that is handed in as numbers: their count and each place of them.
use Rattle.std.specs.Prelude.{ℕ, ◌+◌, ◌*◌, ◌-◌, List}
use Rattle.tasks.specs.declared.set.Interrupt.{Interrupt}
use Rattle.tasks.specs.declared.set.Interrupts.{Interrupts}
use Rattle.tasks.specs.Set.{most_interrupts}
use Rattle.places.specs.Padded.{up_to}
use Rattle.handed.specs.Handed.{number_at, byte_at, half_at, word_at, interrupts_at}

-- the interrupt whose numbers stand from a place on
abbrev pub interrupt_from : (numbers : List ℕ) (at : ℕ) → Interrupt
interrupt_from ns at =
    record {
      processor = byte_at ns at;
      cost = word_at ns (at + 1);
      deadline = word_at ns (at + 2);
      period = word_at ns (at + 3);
      jitter = half_at ns (at + 4);
    }

unfoldable pub interrupts_from : (numbers : List ℕ) → Interrupts
interrupts_from ns =
    record { count = number_at ns interrupts_at; each = up_to (λ (k : ℕ). interrupt_from ns (interrupts_at + 1 + 5 * (k - 1))) most_interrupts }

-- What each earlier state had is what there is now: before Req 05 for sets without a packing rule, before Req 07 without cache costs of
-- tasks either, before Req 08 without interrupts either, before Req 04 without a 05 line either, where B is 0.
-- Assumes nothing.
use Rattle.std.specs.Prelude.{None, Option}
use Prim.Native.Nat.{ℕ}
use mathlib.Core.List.{List, [], ◌∷◌}
use mathlib.Core.Bool.{Bool, ◌||◌, or-false}
use mathlib.Core.Path.{◌≡◌, refl, ◌∙◌, ap, ap₂}
use lib.Dec.{eqb, ltb}
use lib.ListN.{take}
use Rattle.laws.proofs.Tests.{true_false}
use Rattle.frames.specs.declared.table.Frame.{Frame}
use Rattle.frames.specs.Table.{widths_of}
use Rattle.framesizes.specs.Overflow.{line_overflows, some_too_large}
use Rattle.demand.specs.Load.{Every}
use Rattle.masking.specs.Masking.{masked_demand}
use Rattle.masking.proofs.MaskedLaws.{masked_none}
use Rattle.tasks.specs.declared.set.Task.{Task}
use Rattle.tasks.specs.declared.set.TaskSet.{TaskSet}
use Rattle.tasks.specs.Set.{most_tasks, most_interrupts, members, interrupts_in, given_or}
use Rattle.tasks.specs.Search.{some}
use Rattle.taskask.specs.Ask.{count_row, twice_row, header_overflows, task_overflows, optional_overflows, interrupt_overflows, ask_row}
use Rattle.loads.specs.Figures.{Figures, figures_of}
use Rattle.before.specs.Earlier.{before04, before05, before07, before08, tasks_miscount, plain_overflows}
use Rattle.before.specs.Claims.{Unruled, Uncached}
use Rattle.before.proofs.AlikeLaws.{some_same}
use Rattle.before.proofs.CacheLaws.{Costs, header_costs, cache_same}
use Rattle.before.proofs.PlanningLaws.{AsNow}

-- a task without a cost of its own stands in an 02 line
plain_at : (t : Task) → t.cache ≡ None → task_overflows t ≡ plain_overflows t
unfolding task_overflows plain_overflows line_overflows some_too_large widths_of
plain_at t none = rw none refl

-- ---- row 11, request by request

ask_unruled : (set : TaskSet) → Unruled set → ask_row set ≡ before05.asks set
unfolding ask_row optional_overflows
ask_unruled set none =
    ap
    (λ (rule : Option ℕ).
    count_row set ||
    (twice_row (members set) ||
    (header_overflows set.header ||
    (some task_overflows (members set) ||
    (optional_overflows Frame.Masked set.header.masked ||
    (optional_overflows Frame.Rule rule || some interrupt_overflows (interrupts_in set))))))) none

ask_uncached : (set : TaskSet) → Uncached set → before05.asks set ≡ before07.asks set
ask_uncached set none =
    ap
    (λ (wide : Bool).
    count_row set ||
    (twice_row (members set) ||
    (header_overflows set.header || (wide || (optional_overflows Frame.Masked set.header.masked || some interrupt_overflows (interrupts_in set))))))
    (some_same (λ (t : Task). t.cache ≡ None) task_overflows plain_overflows plain_at (members set) none)

ask_uninterrupted : (set : TaskSet) → set.interrupts.count ≡ 0 → before07.asks set ≡ before08.asks set
unfolding count_row tasks_miscount some
ask_uninterrupted set none =
    ap
    (λ (n : ℕ).
    (eqb set.count 0 || (ltb most_tasks set.count || ltb most_interrupts n)) ||
    (twice_row (members set) ||
    (header_overflows set.header ||
    (some plain_overflows (members set) || (optional_overflows Frame.Masked set.header.masked || some interrupt_overflows (take n set.interrupts.each))))))
    none
    ∙ ap₂
    (λ (many wide : Bool).
    (eqb set.count 0 || many) || (twice_row (members set) || (header_overflows set.header || (some plain_overflows (members set) || wide))))
    (or-false (ltb most_tasks set.count))
    (or-false (optional_overflows Frame.Masked set.header.masked))

ask_unmasked : (set : TaskSet) → set.header.masked ≡ None → before08.asks set ≡ before04.asks set
unfolding optional_overflows
ask_unmasked set none =
    ap
    (λ (m : Option ℕ). tasks_miscount set || (twice_row (members set) || (header_overflows set.header || (some plain_overflows (members set) || optional_overflows Frame.Masked m))))
    none
    ∙ ap
    (λ (b : Bool). tasks_miscount set || (twice_row (members set) || (header_overflows set.header || b)))
    (or-false (some plain_overflows (members set)))

-- ---- the states

-- before Req 05 every cost was charged as it is
abbrev pub AnyCost : Figures → Type 0
AnyCost f = Unit {0}

any_costs : (ts : List Task) (figures : Task → Figures) → Every (λ (t : Task). AnyCost (figures t)) ts
any_costs [] figures = tt
any_costs (t ∷ ts) figures = (tt, any_costs ts figures)

module _ (set : TaskSet) (unruled : Unruled set) where
  pub as_now05 : AsNow AnyCost before05 set
  as_now05 =
      record {
        unruled = unruled;
        costs = any_costs (members set) (figures_of set.header);
        cost = λ ms all some. refl;
        own = λ t any. refl;
        interrupts = λ e. true_false e;
        demand = λ ls t. refl;
        ask = ask_unruled set unruled;
      }

  module _ (uncached : Uncached set) where
    pub as_now07 : AsNow (Costs set.header) before07 set
    as_now07 =
        record {
          unruled = unruled;
          costs = header_costs set.header (members set) uncached;
          cost = cache_same set.header;
          own = λ t costs. costs;
          interrupts = λ e. true_false e;
          demand = λ ls t. refl;
          ask = ask_unruled set unruled ∙ ask_uncached set uncached;
        }

    module _ (none : set.interrupts.count ≡ 0) where
      pub as_now08 : AsNow (Costs set.header) before08 set
      as_now08 =
          record {
            unruled = unruled;
            costs = as_now07.costs;
            cost = cache_same set.header;
            own = λ t costs. costs;
            interrupts = λ e. none;
            demand = λ ls t. refl;
            ask = as_now07.ask ∙ ask_uninterrupted set none;
          }

      pub as_now04 : set.header.masked ≡ None → AsNow (Costs set.header) before04 set
      as_now04 unmasked =
          record {
            unruled = unruled;
            costs = as_now07.costs;
            cost = cache_same set.header;
            own = λ t costs. costs;
            interrupts = λ e. none;
            demand = λ ls t. ap (λ (m : Option ℕ). masked_demand (given_or m 0) ls t) unmasked ∙ masked_none ls t;
            ask = as_now08.ask ∙ ask_unmasked set unmasked;
          }

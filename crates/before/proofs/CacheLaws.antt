-- Members that all have the header's cache cost are charged with it, where there is one.
-- Assumes nothing.
use Rattle.std.specs.Prelude.{None, Option, ℕ}
use Prim.Native.Nat.{◌≤◌}
use native.Mathlib.Omega.{arith}
use mathlib.Core.List.{List, [], ◌∷◌}
use mathlib.Core.Path.{◌≡◌, ap}
use lib.ListN.{length}
use Rattle.demand.specs.Load.{Every}
use Rattle.tasks.specs.declared.set.Header.{Header}
use Rattle.tasks.specs.declared.set.Task.{Task}
use Rattle.tasks.specs.Set.{given_or, cache_cost}
use Rattle.loads.specs.Charge.{cache_of}
use Rattle.loads.specs.Figures.{Figures, figures_of}

-- figures with the header's cache cost
abbrev pub Costs : Header → Figures → Type 0
Costs h f = f.cache ≡ h.cpmdo

-- a task without a cost of its own has it
header_cost : (h : Header) (t : Task) → t.cache ≡ None → cache_cost h t ≡ h.cpmdo
header_cost h t none = ap (λ (own : Option ℕ). given_or own h.cpmdo) none

pub header_costs : (h : Header) (ts : List Task) → Every (λ (t : Task). t.cache ≡ None) ts → Every (λ (t : Task). Costs h (figures_of h t)) ts
header_costs h [] none = tt
header_costs h (t ∷ ts) none = (header_cost h t none.0, header_costs h ts none.1)

module _ (h : Header) where
  cache_most : (ms : List Figures) → Every (Costs h) ms → cache_of ms ≤ h.cpmdo
  unfolding cache_of
  cache_most [] all = omega arith
  cache_most (f ∷ ms) all = omega (arith, all.0, cache_most ms all.1)

  pub cache_same : (ms : List Figures) → Every (Costs h) ms → 1 ≤ length ms → cache_of ms ≡ h.cpmdo
  unfolding cache_of
  cache_same [] all some = absurd (omega arith)
  cache_same (f ∷ ms) all some = omega (arith, all.0, cache_most ms all.1)

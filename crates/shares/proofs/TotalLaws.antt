-- What a server's loads ask of H ticks: the two parts, a task more, and that they are small.
-- Assumes nothing.
use Prim.Native.Nat.{ℕ, ◌+◌, ◌*◌, ◌/◌, ◌^◌, ◌≤◌}
use native.Mathlib.Nat.{div-le_self, mul-le-mul}
use native.Mathlib.Omega.{arith}
use mathlib.Core.Path.{◌≡◌, ap, ◌∙◌}
use mathlib.Core.List.{List, [], ◌∷◌, ◌++◌, map, map-append}
use lib.ListN.{length}
use Rattle.charging.specs.Charging.{effective_cost}
use Rattle.demand.specs.Load.{Load, Every}
use Rattle.tasks.specs.declared.set.Header.{Header}
use Rattle.tasks.specs.Set.{longest_horizon}
use Rattle.loads.specs.Figures.{Figures}
use Rattle.loads.specs.Charge.{cache_of, charged_in, server_loads, Member, Overheads}
use Rattle.members.specs.Server.{total_of}
use Rattle.shares.specs.Totals.{total_in, work_in, jobs_in}

-- ---- the two parts

-- a cost that is larger by the cache cost asks it at each job
cost_split : (C R S cache jobs : ℕ) → (C + R + 2 * S + cache) * jobs ≡ (C + R + 2 * S + 0) * jobs + cache * jobs
cost_split C R S cache jobs = omega arith

pub charged_split : (h : Header) (H cache : ℕ) (ms : List Figures) → total_of H (map (charged_in h cache) ms) ≡ work_in h H ms + cache * jobs_in H ms
unfolding total_of jobs_in charged_in effective_cost
charged_split h H cache [] = omega arith
charged_split h H cache (f ∷ ms) = omega (arith, cost_split f.cost h.relo h.ctswo cache (H / f.period), charged_split h H cache ms)

pub total_split : (h : Header) (H : ℕ) (ms : List Figures) → total_in h H ms ≡ work_in h H ms + cache_of ms * jobs_in H ms
unfolding server_loads
total_split h H ms = charged_split h H (cache_of ms) ms

-- ---- a task more

total_append : (H : ℕ) (ls ks : List Load) → total_of H (ls ++ ks) ≡ total_of H ls + total_of H ks
unfolding total_of
total_append H [] ks = omega arith
total_append H (l ∷ ls) ks = omega (arith, total_append H ls ks)

pub work_more : (h : Header) (H : ℕ) (ms : List Figures) (f : Figures) → work_in h H (ms ++ (f ∷ [])) ≡ work_in h H ms + work_in h H (f ∷ [])
work_more h H ms f = ap (total_of H) (map-append (charged_in h 0) ms (f ∷ [])) ∙ total_append H (map (charged_in h 0) ms) (charged_in h 0 f ∷ [])

pub jobs_more : (H : ℕ) (ms : List Figures) (f : Figures) → jobs_in H (ms ++ (f ∷ [])) ≡ jobs_in H ms + jobs_in H (f ∷ [])
unfolding jobs_in
jobs_more H [] f = omega arith
jobs_more H (g ∷ ms) f = omega (arith, jobs_more H ms f)

-- ---- small numbers

module _ (H : ℕ) (short : H ≤ longest_horizon) where
  pub jobs_small : (ms : List Figures) → jobs_in H ms ≤ length ms * longest_horizon
  unfolding jobs_in
  jobs_small [] = omega arith
  jobs_small (f ∷ ms) = omega (arith, div-le_self H f.period, jobs_small ms)

  -- a cost below 2 ^ 21, as often as there are jobs
  pub cost_small : (cost jobs : ℕ) → cost ≤ 2 ^ 21 → jobs ≤ longest_horizon → cost * jobs ≤ 2 ^ 45
  cost_small cost jobs c j =
      let most : cost * jobs ≤ 2 ^ 21 * longest_horizon = mul-le-mul c j in
      omega arith

  pub work_small : (h : Header) (ms : List Figures) → Overheads h → Every (Member h) ms → work_in h H ms ≤ length ms * 2 ^ 45
  unfolding total_of charged_in effective_cost
  work_small h [] o e = omega arith
  work_small h (f ∷ ms) o e =
      let m = e.0 in
      omega (
        arith,
        cost_small (f.cost + h.relo + 2 * h.ctswo + 0) (H / f.period) (omega (arith, m.meets, m.constrained, m.short, o.release, o.switch))
            (omega (arith, div-le_self H f.period)),
        work_small h ms o e.1,
      )

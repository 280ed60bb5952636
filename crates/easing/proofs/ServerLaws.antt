-- A server that is eased: its tasks' figures, its loads, its cache cost and its entry loss, and its demand.
-- Assumes nothing.
use Prim.Native.Nat.{ℕ, ◌≤◌, ◌<◌}
use native.Mathlib.Nat.{le_refl}
use native.Mathlib.Omega.{arith}
use mathlib.Core.Path.{◌≡◌, sym, ap, ap₂, subst, ◌∙◌}
use mathlib.Core.List.{List, [], ◌∷◌, map}
use lib.ListN.{length, get_or, length-map, get_or-map}
use Rattle.charging.specs.Charging.{effective_cost, entry_loss}
use Rattle.demand.specs.Load.{Load, Sound, Every}
use Rattle.interrupting.specs.Interrupts.{Bound, greatest}
use Rattle.tasks.specs.declared.set.Header.{Header}
use Rattle.tasks.specs.declared.set.Task.{Task}
use Rattle.tasks.specs.declared.set.TaskSet.{TaskSet}
use Rattle.tasks.specs.Set.{masked_ticks, cache_cost, members, zero_task}
use Rattle.loads.specs.Figures.{Figures, figures_of}
use Rattle.loads.specs.Charge.{cache_of, charged_in, server_loads, server_loss, Member}
use Rattle.loads.proofs.ChargeLaws.{loads_sound}
use Rattle.packing.proofs.EachLaws.{every_there, map_there}
use Rattle.cache_claims.proofs.Claims.{largest_cost}
use Rattle.byprocessor.specs.Interrupts.{by_processor}
use Rattle.setfigures.specs.Figures.{set_figures}
use Rattle.setfigures.specs.Board.{set_interrupts}
use Rattle.rows.proofs.Clears.{figures_members}
use Rattle.easing.specs.Eased.{Left, none, gone, kept, figures_in, loads_in, cache_in, demand_in, loss_in, Among, ServerOf, TaskEased, Eased}
use Rattle.easing.proofs.LighterLaws.{Lighter, masked_falls}

-- ---- a server's tasks are the set's

-- what holds of all tasks holds of one among them
every_among : (P : Figures → Type 0) (f : Task → Figures) (ts : List Task) (t : Task) → Every P (map f ts) → Among ts t → P (f t)
every_among P f ts t e (i, there, same) =
    subst P (get_or-map f ts i zero_task ∙ ap f same) (every_there P (f zero_task) (map f ts) i (omega (arith, there, length-map ts f)) e)

pub server_members_lem : {set : TaskSet} {server : List Task} → ServerOf set server → Every (Member set.header) (figures_in set server)
unfolding set_figures
server_members_lem {set} {server} s = each server s.own
  where
    each : (ts : List Task) → Every (Among (members set)) ts → Every (Member set.header) (figures_in set ts)
    each [] e = tt
    each (t ∷ ts) e =
        (every_among (Member set.header) (figures_of set.header) (members set) t (figures_members set s.charged) e.0, each ts e.1)

-- ---- what an eased server has

-- the largest cache cost of those that are left is no larger
cache_falls : {h k : Header} {ts us : List Task} → Left (TaskEased h k) ts us → cache_of (map (figures_of k) us) ≤ cache_of (map (figures_of h) ts)
unfolding cache_of
cache_falls none = le_refl 0
cache_falls (gone l) = omega (arith, cache_falls l)
cache_falls (kept e l) = omega (arith, e.cache, cache_falls l)

-- one of a server's tasks has its cache cost
pub one_has : (h : Header) (t : Task) (ts : List Task) →
    (i : ℕ) × (i < length (t ∷ ts)) × (cache_cost h (get_or (t ∷ ts) i zero_task) ≡ cache_of (map (figures_of h) (t ∷ ts)))
one_has h t ts =
    let one = (largest_cost (figures_of h t) (map (figures_of h) ts)).one in
    let there : one.0 < length (t ∷ ts) = omega (arith, one.1, length-map ts (figures_of h)) in
    (one.0, there, sym (ap (λ (f : Figures). f.cache) (map_there (figures_of h) zero_task (figures_of h t) (t ∷ ts) one.0 there)) ∙ one.2)

module _ {set set' : TaskSet} {server server' : List Task} (e : Eased set set' server server') where
  abbrev h : Header
  h = set.header

  abbrev k : Header
  k = set'.header

  pub server_cache : cache_in set' server' ≤ cache_in set server
  server_cache = cache_falls e.tasks

  pub server_loss_lem : loss_in set' server' ≤ loss_in set server
  unfolding server_loss entry_loss
  server_loss_lem = omega (arith, e.delay, server_cache)

  -- charged by it, a task that is left is lighter
  charged_lighter : (t u : Task) → TaskEased h k t u → Lighter (masked_ticks k) (charged_in h (cache_in set server) (figures_of h t)) (charged_in k (cache_in set' server') (figures_of k u))
  unfolding charged_in effective_cost
  charged_lighter t u l = record {
    cost = omega (arith, l.cost, e.release, e.switch, server_cache);
    period = l.period;
    due = l.due;
  }

  left_lighter : {ts us : List Task} → Left (TaskEased h k) ts us →
      Left (Lighter (masked_ticks k)) (map (charged_in h (cache_in set server)) (map (figures_of h) ts)) (map (charged_in k (cache_in set' server')) (map (figures_of k) us))
  left_lighter none = none
  left_lighter (gone l) = gone (left_lighter l)
  left_lighter (kept {x} {y} r l) = kept (charged_lighter x y r) (left_lighter l)

  pub server_lighter : Left (Lighter (masked_ticks k)) (loads_in set server) (loads_in set' server')
  unfolding server_loads
  server_lighter = left_lighter e.tasks

  -- the interrupts by processor are the same
  same_interrupts : set_interrupts set' ≡ set_interrupts set
  unfolding set_interrupts
  same_interrupts = ap₂ by_processor e.processors e.interrupts

  module _ (s : ServerOf set server) where
    -- the periods are positive
    periods_some : Every (λ (l : Load). 1 ≤ l.period) (loads_in set server)
    periods_some = sound_periods (loads_in set server) (loads_sound h (figures_in set server) (server_members_lem s))
      where
        sound_periods : (ls : List Load) → Every Sound ls → Every (λ (l : Load). 1 ≤ l.period) ls
        sound_periods [] e = tt
        sound_periods (l ∷ ls) e = (omega (arith, e.0.due, e.0.constrained), sound_periods ls e.1)

    -- the demand is no larger at any length
    pub server_falls : (t : ℕ) → demand_in set' server' t ≤ demand_in set server t
    server_falls t =
        omega (
          arith,
          masked_falls (masked_ticks h) e.masked server_lighter periods_some t,
          ap₂ (λ (m : ℕ) (bs : List Bound). greatest m bs t) e.processors same_interrupts,
        )

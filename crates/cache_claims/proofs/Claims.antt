-- The claims of specs/Claims.antt, proved.
use Prim.Native.Nat.{ℕ, zero, suc, ◌+◌, ◌-◌, ◌/◌, ◌≤◌, ◌<◌}
use native.Mathlib.Decide.{ℕ_discrete}
use native.Mathlib.Nat.{le_refl}
use native.Mathlib.Omega.{arith}
use mathlib.Core.Path.{◌≡◌, refl, ap, ◌∙◌}
use mathlib.Core.Logic.{◌⊎◌, inl, inr}
use mathlib.Core.List.{List, [], ◌∷◌, ◌++◌, map, map-append}
use lib.ListN.{length, get_or}
use Rattle.laws.proofs.Orders.{le_or_lt}
use Rattle.laws.proofs.Tests.{never_true}
use Rattle.charging.specs.Charging.{effective_cost, entry_loss}
use Rattle.demand.specs.Load.{Load, Sound, Every}
use Rattle.demand.specs.Demand.{jobs, demand}
use Rattle.demand.specs.Supply.{supply}
use Rattle.demand.proofs.Demand.{jobs_due}
use Rattle.demand.proofs.Supply.{supply_all, supply_part, supply_within}
use Rattle.masking.proofs.MaskedLaws.{masked_above}
use Rattle.tasks.specs.declared.set.Header.{Header}
use Rattle.tasks.specs.Set.{masked_ticks}
use Rattle.loads.specs.Figures.{Figures}
use Rattle.loads.specs.Charge.{cache_of, charged_in, server_loads, server_loss, Member}
use Rattle.loads.proofs.ChargeLaws.{cache_more, cache_most, charged_sound}
use Rattle.members.specs.Server.{passes_with}
use Rattle.members.proofs.ServerLaws.{with_passes, alone_fits}
use Rattle.cache_claims.specs.Claims.{LargestCost, NeverCheaper, held_by, PushedPast, AlonePasses}

-- one of the tasks has the largest cost
one_has : (f : Figures) (ms : List Figures) → (i : ℕ) × (i < length (f ∷ ms)) × ((get_or (f ∷ ms) i f).cache ≡ cache_of (f ∷ ms))
unfolding cache_of
one_has f [] = (0, omega arith, omega arith)
one_has f (g ∷ ms) = by (le_or_lt (cache_of (g ∷ ms)) f.cache) (one_has g ms)
  where
    by : (cache_of (g ∷ ms) ≤ f.cache) ⊎ (f.cache < cache_of (g ∷ ms)) → (i : ℕ) × (i < length (g ∷ ms)) × ((get_or (g ∷ ms) i g).cache ≡ cache_of (g ∷ ms)) →
        (i : ℕ) × (i < length (f ∷ g ∷ ms)) × ((get_or (f ∷ g ∷ ms) i f).cache ≡ cache_of (f ∷ g ∷ ms))
    by (inl own) w = (0, omega arith, omega arith)
    by (inr other) w = (suc w.0, omega (arith, w.1), other_default (g ∷ ms) w.0 w.1 ∙ w.2 ∙ omega arith)
      where
        other_default : (fs : List Figures) (i : ℕ) → i < length fs → (get_or fs i f).cache ≡ (get_or fs i g).cache
        other_default [] i h = absurd (omega arith)
        other_default (x ∷ fs) zero h = refl
        other_default (x ∷ fs) (suc i) h = other_default fs i (omega arith)

pub largest_cost : LargestCost
largest_cost f ms = record { one = one_has f ms; none_more = cache_most (f ∷ ms) }

pub never_cheaper : NeverCheaper
unfolding charged_in effective_cost server_loss entry_loss
never_cheaper h ms f =
    let more : cache_of ms ≤ cache_of (ms ++ (f ∷ [])) = omega (arith, cache_more ms f) in
    record { cost = more; charged = λ g. omega (arith, more); loss = omega (arith, more) }

-- ---- c past d

-- a load among others asks at its deadline for a job at least
asks_at : (before : List Load) (l : Load) (after : List Load) → l.cost ≤ demand (before ++ (l ∷ after)) l.deadline
unfolding demand
asks_at [] l after =
    let one : jobs l.deadline l.period l.deadline ≡ (l.deadline - l.deadline) / l.period + 1 = jobs_due l.period (le_refl l.deadline) in
    rw one (omega arith)
asks_at (k ∷ before) l after = omega (arith, asks_at before l after)

-- a reserve supplies no more ticks than there are
supply_most : (S L R t : ℕ) → supply S L R t ≤ t
supply_most S L R t =
    elim (ℕ_discrete R S) [
      | yes whole ↦ omega (arith, supply_all S L R t whole)
      | no part ↦ omega (arith, supply_part S L R t part, supply_within S (S - R + L) t)
    ]

pub pushed_past : PushedPast
unfolding server_loads
pushed_past b before f after R sound members past =
    never_true (passes_with b ms R)
    (λ e. absurd (omega (
      arith,
      with_passes b ms members sound R e own.deadline sound_own.due,
      masked_above (masked_ticks h) (server_loads h ms) own.deadline,
      ap (λ (ls : List Load). demand ls own.deadline) (map-append (charged_in h (cache_of ms)) before (f ∷ after)),
      asks_at (map (charged_in h (cache_of ms)) before) own (map (charged_in h (cache_of ms)) after),
      supply_most h.slot (server_loss h ms) R own.deadline,
      past,
    )))
  where
    h : Header
    h = b.header

    ms : List Figures
    ms = before ++ (f ∷ after)

    own : Load
    own = held_by h ms f

    member : (fs : List Figures) → Every (Member h) (fs ++ (f ∷ after)) → Member h f
    member [] e = e.0
    member (g ∷ fs) e = member fs e.1

    sound_own : Sound own
    sound_own = charged_sound h (cache_of ms) f (member before members)

pub alone_passes : AlonePasses
alone_passes h f member slot meets = alone_fits h f member slot meets

-- A task among the members of a server asks for no more alone than they ask together, so that it passes alone where they pass.
-- Assumes nothing.
use Prim.Native.Nat.{ℕ, suc, ◌*◌, ◌≤◌, ◌<◌}
use native.Mathlib.Nat.{le_refl, mul-le-mul}
use native.Mathlib.Omega.{arith}
use mathlib.Core.Path.{◌≡◌, refl, ap, subst}
use mathlib.Core.Bool.{Bool, true, false}
use mathlib.Core.List.{List, [], ◌∷◌, map}
use lib.Dec.{eqb}
use lib.ListN.{length, get_or}
use borrow.Author.Tests.{eq-eqb}
use Rattle.demand.specs.Load.{Load, Every}
use Rattle.loads.specs.Figures.{Figures}
use Rattle.charging.specs.Charging.{effective_cost, effective_deadline}
use Rattle.demand.specs.Demand.{jobs, demand}
use Rattle.demand.proofs.Supply.{supply_all}
use Rattle.masking.specs.Masking.{masked_demand}
use Rattle.masking.proofs.Claims.{nothing_gained}
use Rattle.masking.proofs.MaskedLaws.{masked_above}
use Rattle.tasks.specs.declared.set.Header.{Header}
use Rattle.tasks.specs.Set.{masked_ticks}
use Rattle.places.specs.Places.{keep, chosen}
use Rattle.loads.specs.Charge.{cache_of, charged_in, server_loads, server_loss}
use Rattle.loads.proofs.ChargeLaws.{cache_most, loads_alone}
use Rattle.members.specs.Server.{Board}
use Rattle.servers.specs.Fitting.{PassesWhole}

-- what follows for each from two things that hold of each
pub every_zip : {A : Type 0} (P Q R : A → Type 0) (ls : List A) → ((l : A) → P l → Q l → R l) → Every P ls → Every Q ls → Every R ls
every_zip P Q R [] f p q = tt
every_zip P Q R (l ∷ ls) f p q = (f l p.0 q.0, every_zip P Q R ls f p.1 q.1)

-- what follows for each from what holds of each
every_so : {A : Type 0} (P Q : A → Type 0) (ls : List A) → ((l : A) → P l → Q l) → Every P ls → Every Q ls
every_so P Q ls f p = every_zip P P Q ls (λ l a b. f l a) p p

-- ---- tasks that have a server each

-- what holds of those of each server holds of all
pub every_by_server : (P : Figures → Type 0) (figures : List Figures) (placement : List ℕ) (N : ℕ) → length placement ≡ length figures →
    ((i : ℕ) → i < length placement → (1 ≤ get_or placement i 0) × (get_or placement i 0 ≤ N)) →
    ((q : ℕ) → 1 ≤ q → q ≤ N → Every P (chosen figures placement q)) → Every P figures
unfolding chosen
every_by_server P [] placement N even there each = tt
every_by_server P (l ∷ figures) [] N even there each = absurd (omega arith)
every_by_server P (l ∷ figures) (a ∷ placement) N even there each = (
  (subst (λ (x : Bool). Every P (keep x l (chosen figures placement a))) (eq-eqb a a refl) (each a (there 0 (omega arith)).0 (there 0 (omega arith)).1)).0,
  every_by_server P figures placement N (omega arith) (λ i h. there (suc i) (omega arith)) (λ q first last. rest (eqb a q) q (each q first last)),
)
  where
    rest : (x : Bool) (q : ℕ) → Every P (keep x l (chosen figures placement q)) → Every P (chosen figures placement q)
    rest true q e = e.1
    rest false q e = e

-- ---- one among many

-- a larger cache cost asks for more
cost_below : (h : Header) (less cache : ℕ) (f : Figures) (jobs : ℕ) → less ≤ cache → (charged_in h less f).cost * jobs ≤ (charged_in h cache f).cost * jobs
unfolding charged_in effective_cost
cost_below h less cache f jobs le = mul-le-mul (omega arith) (le_refl jobs)

-- a member at its own cache cost, or at any smaller one, asks for no more than all members at theirs
member_below : (h : Header) (cache : ℕ) (ms : List Figures) → Every (λ (f : Figures). f.cache ≤ cache) ms →
    Every (λ (f : Figures). (t : ℕ) → demand (charged_in h f.cache f ∷ []) t ≤ demand (map (charged_in h cache) ms) t) ms
unfolding demand charged_in
member_below h cache [] most = tt
member_below h cache (m ∷ ms) most = (
  λ t. omega (arith, cost_below h m.cache cache m (jobs (effective_deadline m.deadline h.relj) m.period t) most.0),
  every_so (λ (f : Figures). (t : ℕ) → demand (charged_in h f.cache f ∷ []) t ≤ demand (map (charged_in h cache) ms) t)
      (λ (f : Figures). (t : ℕ) → demand (charged_in h f.cache f ∷ []) t ≤ demand (map (charged_in h cache) (m ∷ ms)) t)
      ms
      (λ f below t. omega (arith, below t))
      (member_below h cache ms most.1),
)

-- so each passes alone where all pass
pub alone_passes : (b : Board) (ms : List Figures) → PassesWhole b ms → Every (λ (f : Figures). PassesWhole b (f ∷ [])) ms
unfolding server_loads
alone_passes b ms all =
    every_so (λ (f : Figures). (t : ℕ) → demand (charged_in h f.cache f ∷ []) t ≤ demand (map (charged_in h (cache_of ms)) ms) t)
    (λ (f : Figures). PassesWhole b (f ∷ []))
    ms
    (λ f below t some. omega (
      arith,
      all t some,
      below t,
      ap (λ (ls : List Load). masked_demand (masked_ticks h) ls t) (loads_alone h f),
      nothing_gained.one (masked_ticks h) (charged_in h f.cache f) t,
      masked_above (masked_ticks h) (server_loads h ms) t,
      supply_all h.slot (server_loss h ms) h.slot t refl,
      supply_all h.slot (server_loss h (f ∷ [])) h.slot t refl,
    ))
    (member_below h (cache_of ms) ms (cache_most ms))
  where
    h : Header
    h = b.header

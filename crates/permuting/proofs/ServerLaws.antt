-- A server's members in another order: the same cache cost, the same loads in another order, the same demand and entry loss.
-- Assumes nothing.
use Prim.Native.Nat.{ℕ, ◌+◌, ◌*◌, ◌/◌, min, max}
use native.Mathlib.Omega.{arith}
use mathlib.Core.Path.{◌≡◌, refl, ap, ap₂, subst, ◌∙◌}
use mathlib.Core.List.{List, [], ◌∷◌, map}
use Rattle.demand.specs.Load.{Load}
use Rattle.demand.specs.Demand.{jobs, demand}
use Rattle.interrupting.specs.Interrupts.{greatest}
use Rattle.masking.specs.Masking.{soonest_of, soonest, latest, gain_at, gaining, gain_of, masked_demand}
use Rattle.masking.specs.declared.Gain.{Gain}
use Rattle.tasks.specs.declared.set.Header.{Header}
use Rattle.tasks.specs.Set.{masked_ticks}
use Rattle.loads.specs.Figures.{Figures}
use Rattle.loads.specs.Charge.{cache_of, charged_in, server_loads, server_loss}
use Rattle.packing.proofs.PermutedLaws.{Permuted, none, head, swap, onward, permuted_map}
use Rattle.members.specs.Server.{Board, server_demand, total_of}
use Rattle.charging.specs.Charging.{entry_loss}

-- ---- loads

-- demand is a sum
pub sum_permuted : {xs ys : List Load} → Permuted xs ys → (t : ℕ) → demand xs t ≡ demand ys t
unfolding demand
sum_permuted none t = refl
sum_permuted (head {x} p) t = ap (λ (n : ℕ). x.cost * jobs x.deadline x.period t + n) (sum_permuted p t)
sum_permuted swap t = omega arith
sum_permuted (onward p r) t = sum_permuted p t ∙ sum_permuted r t

-- so is what loads ask of H ticks
pub total_permuted : (H : ℕ) {xs ys : List Load} → Permuted xs ys → total_of H xs ≡ total_of H ys
unfolding total_of
total_permuted H none = refl
total_permuted H (head {x} p) = ap (λ (n : ℕ). x.cost * (H / x.period) + n) (total_permuted H p)
total_permuted H swap = omega arith
total_permuted H (onward p r) = total_permuted H p ∙ total_permuted H r

-- the smallest deadline is that of either of two first
soonest_swap : (a b : ℕ) (xs : List Load) → min a (soonest_of b xs) ≡ min b (soonest_of a xs)
unfolding soonest_of
soonest_swap a b [] = omega arith
soonest_swap a b (x ∷ xs) = omega arith

-- and of those that follow it
soonest_rest : (d : ℕ) {xs ys : List Load} → Permuted xs ys → soonest_of d xs ≡ soonest_of d ys
unfolding soonest_of
soonest_rest d none = refl
soonest_rest d (head {x} p) = ap (min d) (soonest_rest x.deadline p)
soonest_rest d (swap {x} {y} {xs}) = ap (min d) (soonest_swap x.deadline y.deadline xs)
soonest_rest d (onward p r) = soonest_rest d p ∙ soonest_rest d r

-- the smallest deadline
pub soonest_permuted : {xs ys : List Load} → Permuted xs ys → soonest xs ≡ soonest ys
unfolding soonest soonest_of
soonest_permuted none = refl
soonest_permuted (head {x} p) = soonest_rest x.deadline p
soonest_permuted (swap {x} {y} {xs}) = soonest_swap x.deadline y.deadline xs
soonest_permuted (onward p r) = soonest_permuted p ∙ soonest_permuted r

-- the largest deadline
pub latest_permuted : {xs ys : List Load} → Permuted xs ys → latest xs ≡ latest ys
unfolding latest
latest_permuted none = refl
latest_permuted (head {x} p) = ap (max x.deadline) (latest_permuted p)
latest_permuted swap = omega arith
latest_permuted (onward p r) = latest_permuted p ∙ latest_permuted r

-- so what they gain, and their demand where interrupts can be held off
pub gain_permuted : (B : ℕ) {xs ys : List Load} → Permuted xs ys → gain_of B xs ≡ gain_of B ys
unfolding gain_of
gain_permuted B p = rw (soonest_permuted p, latest_permuted p)

pub masked_permuted : (B : ℕ) {xs ys : List Load} → Permuted xs ys → (t : ℕ) → masked_demand B xs t ≡ masked_demand B ys t
unfolding masked_demand gaining
masked_permuted B p t = ap₂ ◌+◌ (sum_permuted p t) (ap (λ (k : Gain). gain_at k t) (gain_permuted B p))

-- ---- a server's members

-- its cache cost
pub cache_permuted : {xs ys : List Figures} → Permuted xs ys → cache_of xs ≡ cache_of ys
unfolding cache_of
cache_permuted none = refl
cache_permuted (head {x} p) = ap (max x.cache) (cache_permuted p)
cache_permuted swap = omega arith
cache_permuted (onward p r) = cache_permuted p ∙ cache_permuted r

-- its loads
pub loads_permuted : (h : Header) {xs ys : List Figures} → Permuted xs ys → Permuted (server_loads h xs) (server_loads h ys)
unfolding server_loads
loads_permuted h {xs} {ys} p =
    subst (λ (cache : ℕ). Permuted (map (charged_in h (cache_of xs)) xs) (map (charged_in h cache) ys)) (cache_permuted p)
    (permuted_map (charged_in h (cache_of xs)) p)

-- its demand
pub demand_permuted : (b : Board) {xs ys : List Figures} → Permuted xs ys → (t : ℕ) → server_demand b xs t ≡ server_demand b ys t
demand_permuted b p t =
    ap (λ (n : ℕ). n + greatest b.header.processors b.interrupts t)
    (masked_permuted (masked_ticks b.header) (loads_permuted b.header p) t)

-- its entry loss
pub loss_permuted : (h : Header) {xs ys : List Figures} → Permuted xs ys → server_loss h xs ≡ server_loss h ys
unfolding server_loss
loss_permuted h p = ap (entry_loss h.resd) (cache_permuted p)

-- A server's members in another order: the same horizon, and so the same test, reserve and verdict.
-- Assumes nothing.
use Prim.Native.Nat.{ℕ}
use native.Mathlib.Nat.{dvd_trans}
use mathlib.Core.Path.{◌≡◌, refl, sym, ap, ◌∙◌}
use mathlib.Core.List.{List, map}
use Rattle.wholes.specs.Multiple.{LeastMultiple, least_multiple, least_multiple_of}
use Rattle.wholes.proofs.MultipleLaws.{least_multiple_lem, least_unique, multiple_of_append}
use Rattle.demand.specs.Load.{Load}
use Rattle.interrupting.specs.Interrupts.{Bound}
use Rattle.verdict.specs.Verdict.{own_horizon, passing, verdict_of}
use Rattle.verdict.specs.Reserve.{smallest_reserve}
use Rattle.loads.specs.Figures.{Figures}
use Rattle.loads.specs.Charge.{server_loss}
use Rattle.packing.proofs.PermutedLaws.{Permuted, none, head, swap, onward, permuted_map}
use Rattle.members.specs.Server.{Board, server_demand, server_horizon, passes_with, fits, reserve_for, verdict_for}
use Rattle.permuting.proofs.ServerLaws.{loads_permuted, demand_permuted, loss_permuted}

-- ---- the least common multiple

-- of two numbers in either order
multiple_swap : (a x y : ℕ) → least_multiple (least_multiple a x) y ≡ least_multiple (least_multiple a y) x
multiple_swap a x y = least_unique (least_multiple_lem (least_multiple a x) y) other
  where
    ax : LeastMultiple a x (least_multiple a x)
    ax = least_multiple_lem a x

    ay : LeastMultiple a y (least_multiple a y)
    ay = least_multiple_lem a y

    both : LeastMultiple (least_multiple a y) x (least_multiple (least_multiple a y) x)
    both = least_multiple_lem (least_multiple a y) x

    other : LeastMultiple (least_multiple a x) y (least_multiple (least_multiple a y) x)
    other = record {
      of_first = ax.least (least_multiple (least_multiple a y) x) (dvd_trans a ay.of_first both.of_first) both.of_second;
      of_second = dvd_trans y ay.of_second both.of_first;
      least = λ n p q. both.least n (ay.least n (dvd_trans a ax.of_first p) q) (dvd_trans x ax.of_second p);
    }

-- of a list in any order
pub multiple_permuted : (a : ℕ) {xs ys : List ℕ} → Permuted xs ys → least_multiple_of a xs ≡ least_multiple_of a ys
unfolding least_multiple_of
multiple_permuted a none = refl
multiple_permuted a (head {x} p) = multiple_permuted (least_multiple a x) p
multiple_permuted a (swap {x} {y} {xs}) = ap (λ (m : ℕ). least_multiple_of m xs) (multiple_swap a x y)
multiple_permuted a (onward p r) = multiple_permuted a p ∙ multiple_permuted a r

-- ---- loads

-- their horizon with a slot and interrupts
pub own_permuted : (S : ℕ) (bs : List Bound) {xs ys : List Load} → Permuted xs ys → own_horizon S xs bs ≡ own_horizon S ys bs
unfolding own_horizon
own_permuted S bs {xs} {ys} p =
    multiple_of_append S (map (λ (l : Load). l.period) xs) (map (λ (b : Bound). b.load.period) bs) ∙
    ap (λ (m : ℕ). least_multiple_of m (map (λ (b : Bound). b.load.period) bs)) (multiple_permuted S (permuted_map (λ (l : Load). l.period) p)) ∙
    sym (multiple_of_append S (map (λ (l : Load). l.period) ys) (map (λ (b : Bound). b.load.period) bs))

-- ---- a server's members

module _ (b : Board) {xs ys : List Figures} (p : Permuted xs ys) where
  -- the horizon
  pub horizon_permuted : server_horizon b xs ≡ server_horizon b ys
  horizon_permuted = own_permuted b.header.slot b.interrupts (loads_permuted b.header p)

  -- the demand at every length
  demands : server_demand b xs ≡ server_demand b ys
  demands = λ i t. demand_permuted b p t i

  -- what a test makes of a server's demand, horizon and entry loss
  tested : {A : Type 0} (f : (ℕ → ℕ) → ℕ → ℕ → A) →
      f (server_demand b xs) (server_horizon b xs) (server_loss b.header xs) ≡ f (server_demand b ys) (server_horizon b ys) (server_loss b.header ys)
  tested f = λ i. f (demands i) (horizon_permuted i) (loss_permuted b.header p i)

  -- whether it passes with a reserve
  pub passes_permuted : (R : ℕ) → passes_with b xs R ≡ passes_with b ys R
  unfolding passes_with
  passes_permuted R = tested (λ (g : ℕ → ℕ) (H L : ℕ). passing g H b.header.slot L R)

  -- and with a whole processor
  pub fits_permuted : fits b xs ≡ fits b ys
  unfolding fits
  fits_permuted = passes_permuted b.header.slot

  -- its smallest reserve
  pub reserve_permuted : reserve_for b xs ≡ reserve_for b ys
  unfolding reserve_for
  reserve_permuted = tested (λ (g : ℕ → ℕ) (H L : ℕ). smallest_reserve g H b.header.slot L)

  -- and the whole answer
  pub verdict_permuted : (R : ℕ) → verdict_for b xs R ≡ verdict_for b ys R
  unfolding verdict_for
  verdict_permuted R = tested (λ (g : ℕ → ℕ) (H L : ℕ). verdict_of g H b.header.slot L R)

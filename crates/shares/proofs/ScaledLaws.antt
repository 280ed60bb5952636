-- What a server's loads ask of two multiples of their periods: the totals are as the multiples, and so is what is left of them.
-- Assumes nothing.
use Prim.Native.Nat.{ℕ, ◌-◌, ◌*◌, ◌/◌, ◌∣◌}
use native.Mathlib.Nat.{mul_comm, mul-sub, mul-div_cancel'}
use native.Mathlib.Omega.{arith}
use mathlib.Core.Path.{◌≡◌, sym, ap, ap₂, ◌∙◌}
use mathlib.Core.List.{List, [], ◌∷◌, map}
use Rattle.demand.specs.Load.{Every}
use Rattle.tasks.specs.declared.set.Header.{Header}
use Rattle.loads.specs.Figures.{Figures}
use Rattle.loads.specs.Charge.{cache_of, charged_in, server_loads}
use Rattle.members.specs.Server.{total_of}
use Rattle.shares.specs.Totals.{total_in}

-- the periods of these members divide H
abbrev pub PeriodsDivide : (H : ℕ) → List Figures → Type 0
PeriodsDivide H members = Every (λ (f : Figures). f.period ∣ H) members

turned : (c T a b : ℕ) → c * a * (T * b) ≡ c * b * (T * a)
turned c T a b = omega arith

-- a cost at each job
cost_scaled : (c T H K : ℕ) → T ∣ H → T ∣ K → c * (H / T) * K ≡ c * (K / T) * H
cost_scaled c T H K h k =
    ap (λ (n : ℕ). c * (H / T) * n) (sym (mul-div_cancel' T k)) ∙ turned c T (H / T) (K / T) ∙ ap (λ (n : ℕ). c * (K / T) * n) (mul-div_cancel' T h)

module _ (h : Header) (H K : ℕ) where
  charged_scaled : (cache : ℕ) (ms : List Figures) → PeriodsDivide H ms → PeriodsDivide K ms →
      total_of H (map (charged_in h cache) ms) * K ≡ total_of K (map (charged_in h cache) ms) * H
  unfolding total_of charged_in
  charged_scaled cache [] d e = omega arith
  charged_scaled cache (f ∷ ms) d e =
      omega (arith, cost_scaled (charged_in h cache f).cost f.period H K d.0 e.0, charged_scaled cache ms d.1 e.1)

  pub total_scaled : (ms : List Figures) → PeriodsDivide H ms → PeriodsDivide K ms → total_in h H ms * K ≡ total_in h K ms * H
  unfolding server_loads
  total_scaled ms d e = charged_scaled (cache_of ms) ms d e

  -- what is left
  pub left_scaled : (ms : List Figures) → PeriodsDivide H ms → PeriodsDivide K ms → K * (H - total_in h H ms) ≡ H * (K - total_in h K ms)
  left_scaled ms d e =
      mul-sub K H (total_in h H ms) ∙
      ap₂ (λ (x y : ℕ). x - y) (mul_comm K H) (mul_comm K (total_in h H ms) ∙ total_scaled ms d e ∙ mul_comm (total_in h K ms) H) ∙
      sym (mul-sub H K (total_in h K ms))

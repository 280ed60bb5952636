-- The order and the fit of a rule, by its third. Assumes nothing.
use Prim.Native.Nat.{ℕ, zero, suc, ◌/◌, ◌%◌}
use mathlib.Core.Path.{◌≡◌, refl, sym, ap}
use Rattle.packing.specs.declared.Order.TheVariants.{Rising}
use Rattle.packing.specs.declared.Fit.TheVariants.{Worst}
use Rattle.packing.specs.Rules.{third_order, third_fit, order_of, fit_of}

-- one third
pub order_third : (rule k : ℕ) → rule % 3 ≡ k → third_order k ≡ order_of rule
unfolding order_of
order_third rule k e = ap third_order (sym e)

pub fit_third : (rule k : ℕ) → rule / 3 ≡ k → third_fit k ≡ fit_of rule
unfolding fit_of
fit_third rule k e = ap third_fit (sym e)

-- neither of the first two
last_order : (k : ℕ) → (k ≡ 0 → ⊥) → (k ≡ 1 → ⊥) → Rising ≡ third_order k
last_order zero a b = absurd (a refl)
last_order (suc zero) a b = absurd (b refl)
last_order (suc (suc k)) a b = refl

last_fit : (k : ℕ) → (k ≡ 0 → ⊥) → (k ≡ 1 → ⊥) → Worst ≡ third_fit k
last_fit zero a b = absurd (a refl)
last_fit (suc zero) a b = absurd (b refl)
last_fit (suc (suc k)) a b = refl

pub order_last : (rule : ℕ) → (rule % 3 ≡ 0 → ⊥) → (rule % 3 ≡ 1 → ⊥) → Rising ≡ order_of rule
unfolding order_of
order_last rule a b = last_order (rule % 3) a b

pub fit_last : (rule : ℕ) → (rule / 3 ≡ 0 → ⊥) → (rule / 3 ≡ 1 → ⊥) → Worst ≡ fit_of rule
unfolding fit_of
fit_last rule a b = last_fit (rule / 3) a b

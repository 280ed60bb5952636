-- The nine packing rules by their numbers: 00 to 02 first fit in file order, by falling and by rising load, 03 to 05 best fit, 06 to 08
-- worst fit. Document 02, Req 05 (source document 003).
use Rattle.std.specs.Prelude.{ℕ, zero, suc, ◌/◌, ◌%◌}
use Rattle.packing.specs.declared.Order.{Order}
use Rattle.packing.specs.declared.Order.TheVariants.{File, Falling, Rising}
use Rattle.packing.specs.declared.Fit.{Fit}
use Rattle.packing.specs.declared.Fit.TheVariants.{First, Best, Worst}

abbrev pub third_order : ℕ → Order
third_order zero = File
third_order (suc zero) = Falling
third_order (suc (suc n)) = Rising

abbrev pub third_fit : ℕ → Fit
third_fit zero = First
third_fit (suc zero) = Best
third_fit (suc (suc n)) = Worst

-- the order and the fit of a rule
unfoldable pub order_of : (rule : ℕ) → Order
order_of rule = third_order (rule % 3)

unfoldable pub fit_of : (rule : ℕ) → Fit
fit_of rule = third_fit (rule / 3)

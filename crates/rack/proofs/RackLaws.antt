-- What the tool answered is the plan's bytes: a text that fits or not.
-- Assumes nothing.
use Prim.Native.Nat.{ℕ}
use mathlib.Core.List.{List}
use mathlib.Core.Path.{◌≡◌, sym, ◌∙◌, ap}
use Rattle.refusals.specs.Refused.{Written}
use Rattle.planfit.specs.Fit.{Fits}
use Rattle.planfile.specs.Tool.{answered}
use Rattle.rack.specs.Rack.{bytes_of, plan_bytes, plan_leaves}

pub plan_told : (tasks out left : List ℕ) (w v : Written) → w ≡ v → Fits out (answered tasks) w left
    → (bytes_of v ≡ plan_bytes tasks out) × (left ≡ plan_leaves tasks out)
unfolding plan_bytes plan_leaves
plan_told tasks out left w v e f = (ap bytes_of (sym e ∙ f.answered), f.holds)

-- The line of a refusal is short.
-- Assumes nothing.
use Prim.Native.Nat.{ℕ}
use mathlib.Core.List.{List}
use native.Mathlib.Omega.{arith}
use Rattle.refusals.specs.declared.Refusal.{Refusal}
use Rattle.refusals.specs.Refused.{Written}
use Rattle.planlines.specs.Line.{refusal_text}
use Rattle.planlines.proofs.LineLaws.{refusal_bytes}
use Rattle.planfit.specs.Fit.{Fits}
use Rattle.wordline.specs.Lined.{Lined}

pub refusal_lined : {buffer after : List ℕ} {w : Written} (r : Refusal) → Fits buffer (refusal_text r) w after → Lined buffer (refusal_text r) w after
refusal_lined r f = (f, omega (arith, refusal_bytes r))

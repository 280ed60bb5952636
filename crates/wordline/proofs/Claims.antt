-- Proofs of what is promised of lines.
-- Assumes nothing.
use mathlib.Core.Path.{◌∙◌, ap}
use native.Mathlib.Omega.{arith}
use Rattle.refusals.specs.Refused.{Written}
use Rattle.refusals.specs.Leaves.{leaves}
use Rattle.planfit.proofs.FitLaws.{fitted_bytes}
use Rattle.wordline.specs.Claims as claims

pub RoomSuffices : claims.RoomSuffices
RoomSuffices buffer line after answer f room =
    let fits = fitted_bytes buffer line (omega (arith, f.1, room)) in
    (f.0.answered ∙ fits, f.0.holds ∙ ap (λ (w : Written). leaves w buffer line) fits)

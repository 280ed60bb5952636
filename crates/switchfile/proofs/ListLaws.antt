-- The list of a file's plan as it fits, or the file's refusal.
-- Assumes nothing.
use Rattle.std.specs.Prelude.{Err, Ok}
use Prim.Native.Nat.{ℕ}
use mathlib.Core.Path.{◌≡◌, ap, ◌∙◌}
use mathlib.Core.List.{List}
use Rattle.refusals.specs.declared.Refusal.{Refusal}
use Rattle.refusals.specs.Refused.{Written}
use Rattle.refusals.specs.Leaves.{leaves}
use Rattle.planfit.specs.Fit.{fitted, Fits}
use Rattle.taskplan.specs.declared.FileAnswer.{FileAnswer}
use Rattle.taskplan.specs.File.{filed_of}
use Rattle.taskplan.proofs.FileLaws.{when_done, when_refused}
use Rattle.switchlist.specs.Write.{plan_switches}
use Rattle.switchfile.specs.OfFile.{listed}

module _ (text buffer : List ℕ) {file : FileAnswer} (e : file ≡ filed_of text) where
  abbrev list : List ℕ
  list = plan_switches (filed_of text).plan

  fit : FileAnswer → Written
  fit f = fitted buffer (plan_switches f.plan)

  -- what is answered is what is listed, and so is what it leaves
  as_listed : (w : Written) → w ≡ listed text buffer → leaves w buffer list ≡ leaves (listed text buffer) buffer list
  as_listed w f = ap (λ (v : Written). leaves v buffer list) f

  pub list_fits : {w : Written} {left : List ℕ} → file.outcome ≡ Ok tt → Fits buffer (plan_switches file.plan) w left →
      (w ≡ listed text buffer) × (left ≡ leaves (listed text buffer) buffer list)
  unfolding listed fit
  list_fits {w} {left} d f =
      let is : fit file ≡ listed text buffer = when_done Err (λ (g : FileAnswer). g.outcome) fit e d in (
        f.answered ∙ is,
        f.holds ∙ ap (λ (g : FileAnswer). leaves (fit file) buffer (plan_switches g.plan)) e ∙ as_listed (fit file) is,
      )

  pub list_refused : {r : Refusal} → file.outcome ≡ Err r → (Err r ≡ listed text buffer) × (buffer ≡ leaves (listed text buffer) buffer list)
  unfolding listed fit
  list_refused {r} d =
      let is : Err r ≡ listed text buffer = when_refused Err (λ (g : FileAnswer). g.outcome) fit e d in
      (is, as_listed (Err r) is)

-- A line's answer, taken apart.
-- Assumes nothing.
use Rattle.std.specs.Prelude.{Err, Ok}
use mathlib.Core.Path.{◌≡◌, refl, sym}
use Rattle.laws.proofs.Tests.{clash}
use Rattle.refusals.specs.declared.Refusal.{Refusal}
use Rattle.refusals.specs.Refused.{Outcome}
use Rattle.refusals.proofs.FirstLaws.{done_refused}
use Rattle.lineanswer.specs.Answer.{line_or, of_line}

module _ {A : Type 0} where
  pub of_line_lem : (o : Outcome) (g : A) → of_line (line_or o g) ≡ o
  of_line_lem (Ok _) g = refl
  of_line_lem (Err r) g = refl

  pub line_given : (o : Outcome) (g h : A) → line_or o g ≡ Ok h → (o ≡ Ok tt) × (h ≡ g)
  line_given (Ok _) g h e = (refl, cc)
  line_given (Err r) g h e = clash (cc)

  pub line_refused : (o : Outcome) (g : A) (r : Refusal) → line_or o g ≡ Err r → o ≡ Ok tt → ⊥
  line_refused (Ok _) g r e d = clash (cc)
  line_refused (Err s) g r e d = done_refused (sym d)

-- Laws of answers in words: the line of an idle processor, of one that runs a server, of a yes and of a no.
-- Assumes nothing.
use Prim.Native.Nat.{ℕ}
use mathlib.Core.Path.{◌≡◌}
use mathlib.Core.List.{[], ◌∷◌}
use borrow.Author.Tests.{eq-eqb, ne_eqb}
use Rattle.verdict.specs.declared.answer.Reading.{Reading}
use Rattle.verdict.specs.declared.answer.Verdict.{Verdict}
use Rattle.verdict.specs.declared.answer.Verdict.TheVariants.{Yes, No}
use Rattle.wordline.specs.Words.{said}
use Rattle.answerwords.specs.Answers.{idle_words, runs_words, yes_words, no_words, stand_line, ticks_to_spare, verdict_line}

module _ (server left p x : ℕ) where
  pub idle_line : server ≡ 0 → said idle_words (p ∷ x ∷ left ∷ []) ≡ stand_line server left p x
  unfolding stand_line
  idle_line e = rw (eq-eqb server 0 e)

  pub runs_line : (server ≡ 0 → ⊥) → said runs_words (server ∷ p ∷ x ∷ left ∷ []) ≡ stand_line server left p x
  unfolding stand_line
  runs_line e = rw (ne_eqb server 0 e)

module _ {verdict : Verdict} {reading : Reading} (q R : ℕ) where
  pub yes_line : {spare : ℕ} → verdict ≡ Yes reading → spare ≡ ticks_to_spare reading →
      said yes_words (q ∷ R ∷ reading.length ∷ reading.demand ∷ reading.supply ∷ spare ∷ [])
      ≡ verdict_line verdict q R
  unfolding verdict_line
  yes_line e s = rw (e, s)

  pub no_line : verdict ≡ No reading →
      said no_words (q ∷ R ∷ reading.length ∷ reading.demand ∷ reading.supply ∷ [])
      ≡ verdict_line verdict q R
  unfolding verdict_line
  no_line e = rw e

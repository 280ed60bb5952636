-- `wordline::fit_words` meets its contract: the line is put together beside, and copied where it fits.
-- Assumes nothing.
use mathlib.Core.Path.{sym, ◌∙◌, ap}
use native.Mathlib.Omega.{arith}
use lib.Seq.{length-take-le}
use Rattle.digits.specs.Stored.{stored}
use Rattle.wordline.specs.Words.{said}
use Rattle.wordline.proofs.WordLaws.{said_short}
use Rattle.planfit.proofs.FitLaws.{no_room, stored_whole}
use Rattle.wordline.proofs.LineLaws.{front_is}
use Rattle.wordline.proofs.fit_words.Goals as goal

pub put_words-n-requires-clause-numbers_in_bounds : goal.put_words-n-requires-clause-numbers_in_bounds
put_words-n-requires-clause-numbers_in_bounds c =
    omega (arith, said_short c.args.words.now c.args.numbers.now (λ k. omega (arith, c.type_inv.numbers k)), c.requires.words_len_bound)

pub returns-then-out-n : goal.returns-then-out-n
returns-then-out-n c = (
  no_room c.args.out.now (said c.args.words.now c.args.numbers.now) (omega (arith, c.if-out-n.true, c.put_words-n.ensures.value)),
  omega (arith, said_short c.args.words.now c.args.numbers.now (λ k. omega (arith, c.type_inv.numbers k)), c.requires.words_len_bound),
)

pub slice_bounds-line-end : goal.slice_bounds-line-end
slice_bounds-line-end c = omega (arith, c.put_words-n.ensures.value, said_short c.args.words.now c.args.numbers.now (λ k. omega (arith, c.type_inv.numbers k)), c.requires.words_len_bound, c.put_words-n.auto.out)

pub slice_bounds-store-end : goal.slice_bounds-store-end
slice_bounds-store-end c = sym (length-take-le _ _ (omega (arith, c.put_words-n.ensures.value, said_short c.args.words.now c.args.numbers.now (λ k. omega (arith, c.type_inv.numbers k)), c.requires.words_len_bound, c.put_words-n.auto.out)))

pub returns : goal.returns
returns c = (
  stored_whole c.args.out.now (said c.args.words.now c.args.numbers.now) _ c.put_words-n.ensures.value c.if-out-n.false
      (c.store.ensures ∙ ap (stored c.args.out.now 0) (front_is _ _ c.put_words-n.ensures.out_after c.put_words-n.ensures.value)),
  omega (arith, said_short c.args.words.now c.args.numbers.now (λ k. omega (arith, c.type_inv.numbers k)), c.requires.words_len_bound),
)

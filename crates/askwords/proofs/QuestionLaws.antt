-- Laws of questions in words: which question the words ask, by each test, and the line that answers none.
-- Assumes nothing.
use Rattle.std.specs.Prelude.{None, Ok, Some}
use Prim.Native.Nat.{ℕ}
use mathlib.Core.Path.{◌≡◌, refl, sym, subst}
use mathlib.Core.List.{List, []}
use mathlib.Core.Bool.{Bool, true, false}
use native.Mathlib.Omega.{arith}
use Rattle.laws.specs.Same.{same}
use Rattle.laws.proofs.Tests.{same_test}
use Rattle.laws.proofs.SameLaws.{same_equal, equal_same}
use Rattle.quoted.specs.Quoted.{bytes_of}
use Rattle.digits.proofs.Stored.{stored_nil}
use Rattle.decimals.specs.Decimal.{decimal_of}
use Rattle.planfit.proofs.FitLaws.{stored_whole}
use Rattle.wordline.specs.Lined.{Lined}
use Rattle.askwords.specs.declared.Question.TheVariants.{Who, Pass, Unclear}
use Rattle.askwords.specs.Question.{question_with, question_of}

-- a test that passes exactly where two words are equal is that of their bytes
pub same_word : (a b : List ℕ) {r : Bool} → (r ≡ true → a ≡ b) × (a ≡ b → r ≡ true) → same a b ≡ r
same_word a b {r} tells =
    same_test (same a b) r (λ (p : same a b ≡ true). tells.1 (same_equal a b p)) (λ (p : r ≡ true). subst (λ (l : List ℕ). same a l ≡ true) (tells.0 p) (equal_same a))

-- the question by the two numbers and the word
module _ (word first second : List ℕ) where
  pub first_wrong : decimal_of first ≡ None → Unclear ≡ question_of word first second
  unfolding question_of question_with
  first_wrong e = rw e

  module _ {one : ℕ} (e : decimal_of first ≡ Some one) where
    pub second_wrong : decimal_of second ≡ None → Unclear ≡ question_of word first second
    unfolding question_of question_with
    second_wrong f = rw (e, f)

    module _ {other : ℕ} (f : decimal_of second ≡ Some other) where
      pub asks_who : same word (bytes_of "who") ≡ true → Who one other ≡ question_of word first second
      unfolding question_of question_with
      asks_who p = rw (e, f, p)

      module _ (p : same word (bytes_of "who") ≡ false) where
        pub asks_pass : same word (bytes_of "pass") ≡ true → Pass one other ≡ question_of word first second
        unfolding question_of question_with
        asks_pass q = rw (e, f, p, q)

        pub asks_neither : same word (bytes_of "pass") ≡ false → Unclear ≡ question_of word first second
        unfolding question_of question_with
        asks_neither q = rw (e, f, p, q)

-- nothing fits every buffer, and changes none
pub nothing_lined : (buffer : List ℕ) → Lined buffer [] (Ok 0) buffer
nothing_lined buffer = (stored_whole buffer [] 0 refl (omega arith) (sym (stored_nil buffer 0)), omega arith)

-- Laws of where a byte stands first in a part of a text, from a place on.
-- Assumes nothing.
use Rattle.std.proofs.Common.{◌≡◌, ℕ, ◌+◌, ◌≤◌, ◌<◌, List, length, take, drop, get_or, Bool, true, false, not, eqb, ap, ◌∙◌, eq-eqb, arith}
use lib.ListN.{length-drop}
use lib.Seq.{length-take-le}
use borrow.Author.Tests.{ne_eqb}
use Rattle.std.proofs.lemmas.List.{get_or-take}
use Rattle.std.proofs.lemmas.List.Sums.{prefix_len-drop_no, prefix_len-drop_yes}
use Rattle.names.specs.Parts.{index_of}
use Rattle.names.proofs.PartLaws.{index_within}

module _ (b : ℕ) (xs : List ℕ) (end : ℕ) (within : end ≤ length xs) where
  at_test : (at : ℕ) (t : Bool) → at < end → eqb (get_or xs at 0) b ≡ t → not (eqb (get_or (take end xs) at 0) b) ≡ not t
  at_test at t h e = ap (λ (x : ℕ). not (eqb x b)) (get_or-take end xs at 0 h) ∙ ap not e

  -- the byte stands here
  pub find_here : (at : ℕ) → at < end → get_or xs at 0 ≡ b → index_of b (drop at (take end xs)) ≡ 0
  unfolding index_of
  find_here at h e =
      prefix_len-drop_no (λ (x : ℕ). not (eqb x b)) (take end xs) at 0 (omega (arith, length-take-le end xs within)) (at_test at true h (eq-eqb _ _ e))

  -- or another one, and it stands further on
  pub find_next : (at : ℕ) → at < end → (get_or xs at 0 ≡ b → ⊥) → index_of b (drop at (take end xs)) ≡ 1 + index_of b (drop (at + 1) (take end xs))
  unfolding index_of
  find_next at h other =
      prefix_len-drop_yes (λ (x : ℕ). not (eqb x b)) (take end xs) at 0 (omega (arith, length-take-le end xs within)) (at_test at false h (ne_eqb _ _ other))

  -- behind the end it stands nowhere
  pub find_none : index_of b (drop end (take end xs)) ≡ 0
  find_none = omega (arith, index_within b (drop end (take end xs)), length-drop end (take end xs), length-take-le end xs within)

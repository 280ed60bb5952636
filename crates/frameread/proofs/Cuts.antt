-- Laws of a text's first line: where legal digits and an LF stand at its start, and how a closed text is cut.
-- Assumes nothing.
use Prim.Native.Nat.{ℕ}
use mathlib.Core.Path.{◌≡◌, refl, ◌∙◌, ap}
use mathlib.Core.Bool.{Bool, true, false, cond, ◌||◌, or-true}
use mathlib.Core.List.{List, [], ◌∷◌, ◌++◌}
use lib.Dec.{eqb}
use borrow.Author.Tests.{eqb-true}
use Rattle.digits.specs.Digit.{all_legal}
use Rattle.frames.specs.Table.{LF}
use Rattle.frameread.specs.Line.{line, after, closed}
use Rattle.digits.proofs.Digits.{legal_not_LF, legal_head, legal_tail}

-- legal digits and an LF: the first line is the digits, and it is closed
pub line_cut : (ds rest : List ℕ) → all_legal ds ≡ true → line (ds ++ (LF ∷ rest)) ≡ ds
unfolding line
line_cut [] rest p = refl
line_cut (d ∷ ds) rest p =
    ap (λ (t : Bool). cond t [] (d ∷ line (ds ++ (LF ∷ rest)))) (legal_not_LF d (legal_head d ds p))
    ∙ ap (λ (l : List ℕ). d ∷ l) (line_cut ds rest (legal_tail d ds p))

pub closed_cut : (ds rest : List ℕ) → closed (ds ++ (LF ∷ rest)) ≡ true
unfolding closed
closed_cut [] rest = refl
closed_cut (d ∷ ds) rest = rw (closed_cut ds rest) (or-true (eqb d LF))

-- a closed text is its first line, an LF, and what comes after
pub closed_split : (text : List ℕ) → closed text ≡ true → text ≡ line text ++ (LF ∷ after text)
unfolding closed line after
closed_split [] p = cc
closed_split (b ∷ bs) p = go (eqb b LF) refl p (closed_split bs)
  where
    go : (t : Bool) → eqb b LF ≡ t → (t || closed bs) ≡ true → (closed bs ≡ true → bs ≡ line bs ++ (LF ∷ after bs))
        → b ∷ bs ≡ cond t [] (b ∷ line bs) ++ (LF ∷ cond t bs (after bs))
    go true e q ih = ap (λ (n : ℕ). n ∷ bs) (eqb-true b LF e)
    go false e q ih = ap (λ (l : List ℕ). b ∷ l) (ih q)

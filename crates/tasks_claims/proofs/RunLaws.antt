-- Laws of lines that pass a test, one behind the other: where they end, and what they hold.
-- Assumes nothing.
use Prim.Native.Nat.{ℕ, zero, suc, ◌+◌, ◌*◌, ◌≤◌, ◌<◌}
use native.Mathlib.Omega.{arith}
use native.Mathlib.Decide.{ℕ_discrete}
use mathlib.Core.List.{List, [], ◌∷◌, ◌++◌}
use mathlib.Core.Bool.{Bool, true, false}
use mathlib.Core.Path.{◌≡◌, refl, ap, sym, ◌∙◌, subst}
use lib.ListN.{length, drop, get_or, length-append, get_or-append}
use lib.Seq.{get_or-append_seam}
use Rattle.frameread.specs.Line.{formed}
use Rattle.frames.specs.Table.{length_of}
use Rattle.frames.specs.declared.table.Frame.{Frame}
use Rattle.taskfile.specs.File.{past, among}
use Rattle.taskfile.proofs.Past.{past_formed}
use Rattle.taskfile.proofs.AmongLaws.{among_here, among_other}
use Rattle.tasks_claims.specs.Claims.{lines_with, bytes_with, Run}

-- the lines of n of them, in figures
pub lines_is : (lines n : ℕ) → lines_with lines n ≡ lines + n
lines_is lines zero = omega arith
lines_is lines (suc n) = omega (arith, lines_is lines n)

-- their bytes, no more than those of the longest kind
pub bytes_most : (kind : List ℕ → Frame) (text : List ℕ) (lines most : ℕ) → ((rest : List ℕ) → length_of (kind rest) ≤ most) → (bytes n : ℕ) → bytes_with kind text lines bytes n ≤ bytes + (most + 1) * n
bytes_most kind text lines most longest bytes zero = omega arith
bytes_most kind text lines most longest bytes (suc n) =
    omega (arith, bytes_most kind text lines most longest bytes n, longest (past (lines_with lines n) text))

module _ (test : List ℕ → Bool) (text : List ℕ) (lines : ℕ) where
  -- fewer taken
  pub run_less : (m n : ℕ) → m ≤ n → Run test text lines n → Run test text lines m
  run_less m n le run j h = run j (omega arith)

  -- one more taken
  pub run_more : (n : ℕ) → Run test text lines n → test (past (lines_with lines n) text) ≡ true → Run test text lines (suc n)
  run_more n run next j lt =
      elim (ℕ_discrete j n) [
        | yes e ↦ subst (λ (k : ℕ). test (past (lines_with lines k) text) ≡ true) (sym e) next
        | no ne ↦ run j (omega (arith, ne))
      ]

  -- where each is of its kind, behind them stands what follows their bytes, and the text has those bytes
  pub past_run : (kind : List ℕ → Frame) → ((rest : List ℕ) → test rest ≡ true → formed (kind rest) rest ≡ true) → (at n : ℕ) → past lines text ≡ drop at text → at ≤ length text → Run test text lines n → (past (lines_with lines n) text ≡ drop (bytes_with kind text lines at n) text) × (bytes_with kind text lines at n ≤ length text)
  past_run kind of at zero rest within run = (rest, within)
  past_run kind of at (suc n) rest within run =
      let ih = past_run kind of at n rest within (run_less n (suc n) (omega arith) run) in
      let here = past (lines_with lines n) text in
      past_formed (kind here) text (lines_with lines n) (bytes_with kind text lines at n) ih.0 ih.1 (ap (formed (kind here)) (sym ih.0) ∙ of here (run n (omega arith)))

  -- each of them holds one
  pub run_count : {A : Type 0} (figures : List ℕ → A) → among test figures text lines ≡ [] → (n : ℕ) → Run test text lines n → length (among test figures text (lines_with lines n)) ≡ n
  run_count figures none zero run = ap length none
  run_count figures none (suc n) run =
      ap length (among_here test figures text (lines_with lines n) (run n (omega arith)))
      ∙ length-append (among test figures text (lines_with lines n)) (figures (past (lines_with lines n) text) ∷ [])
      ∙ omega (arith, run_count figures none n (run_less n (suc n) (omega arith) run))

  -- and none that passes another test
  pub run_other : {A : Type 0} (other : List ℕ → Bool) (figures : List ℕ → A) → ((rest : List ℕ) → test rest ≡ true → other rest ≡ false) → (n : ℕ) → Run test text lines n → among other figures text (lines_with lines n) ≡ among other figures text lines
  run_other other figures apart zero run = refl
  run_other other figures apart (suc n) run =
      among_other other figures text (lines_with lines n) (apart (past (lines_with lines n) text) (run n (omega arith)))
      ∙ run_other other figures apart n (run_less n (suc n) (omega arith) run)

  -- the one at place i, from 0, is that of line i behind the others
  pub run_at : {A : Type 0} (figures : List ℕ → A) (z : A) → among test figures text lines ≡ [] → (n i : ℕ) → Run test text lines n → i < n → get_or (among test figures text (lines_with lines n)) i z ≡ figures (past (lines_with lines i) text)
  run_at figures z none zero i run lt = absurd (omega arith)
  run_at {A = A} figures z none (suc n) i run lt =
      ap (λ (l : List A). get_or l i z) (among_here test figures text (lines_with lines n) (run n (omega arith)))
      ∙ elim (ℕ_discrete i n) [
        | yes same ↦
            let here : i ≡ length (among test figures text (lines_with lines n)) = same ∙ sym count in
            ap (λ (k : ℕ). get_or (among test figures text (lines_with lines n) ++ (figures (past (lines_with lines n) text) ∷ [])) k z) here
            ∙ get_or-append_seam (among test figures text (lines_with lines n)) (figures (past (lines_with lines n) text)) [] z
            ∙ ap (λ (k : ℕ). figures (past (lines_with lines k) text)) (sym same)
        | no other ↦
            get_or-append (among test figures text (lines_with lines n)) (figures (past (lines_with lines n) text) ∷ []) z i (omega (arith, count, other, lt))
            ∙ run_at figures z none n i less (omega (arith, other, lt))
      ]
    where
      less : Run test text lines n
      less = run_less n (suc n) (omega arith) run

      count : length (among test figures text (lines_with lines n)) ≡ n
      count = run_count figures none n less

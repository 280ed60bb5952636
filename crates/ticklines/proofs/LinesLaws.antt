-- Laws of the lines of the switches at a tick and before it: how a processor and a tick add to them, and that they grow.
-- Assumes nothing.
use Prim.Native.Nat.{ℕ, zero, suc, ◌+◌, ◌≤◌}
use mathlib.Core.Path.{◌≡◌, ap, ◌∙◌}
use mathlib.Core.List.{List, [], ◌∷◌, ◌++◌, append-nil}
use mathlib.Core.Bool.{true, false}
use native.Mathlib.Decide.{dec_lt}
use native.Mathlib.Omega.{arith}
use lib.ListN.{length, length-append}
use Rattle.frames.specs.declared.table.Frame.{Frame}
use Rattle.frames.specs.Table.{length_of}
use Rattle.framewrite.proofs.LineLaws.{line_length}
use Rattle.laws.proofs.Choices.{cond_true, cond_false}
use Rattle.reserves.specs.Reserves.{ring_processors}
use Rattle.turn.proofs.TextLaws.{lines_append}
use Rattle.turn.specs.Switches.{Switch, runs, switches, switches_at, switches_before, switch_line, switch_lines}

-- two lists' lines have the bytes of both
bytes_append : (a b : List Switch) → length (switch_lines (a ++ b)) ≡ length (switch_lines a) + length (switch_lines b)
bytes_append a b = ap (λ (l : List ℕ). length l) (lines_append a b) ∙ length-append (switch_lines a) (switch_lines b)

pub line_bytes : (s : Switch) → length (switch_line s) ≡ length_of Frame.Switch + 1
unfolding switch_line
line_bytes s = line_length Frame.Switch _

-- what never falls from a number to the next never falls
climbs : (f : ℕ → ℕ) → ((n : ℕ) → f n ≤ f (suc n)) → (i n : ℕ) → i ≤ n → f i ≤ f n
climbs f up i zero h = let e : i ≡ 0 = omega arith in rw e (omega arith)
climbs f up i (suc n) h =
    elim (dec_lt i (suc n)) [
      | yes below ↦ omega (arith, climbs f up i n (omega arith), up n)
      | no past ↦ let e : i ≡ suc n = omega (arith, past, h) in rw e (omega arith)
    ]

module _ (S : ℕ) (rs : List ℕ) where
  -- a processor that switches adds a line to those of its tick, and one that stays adds none
  pub at_over : (x n : ℕ) → switches S rs (suc n) x ≡ true
      → switch_lines (switches_at S rs x (suc n)) ≡ switch_lines (switches_at S rs x n) ++ switch_line (record { tick = x; processor = suc n; server = runs S rs (suc n) x })
  unfolding switches_at switch_lines
  at_over x n e =
      ap (λ (l : List Switch). switch_lines (switches_at S rs x n ++ l)) (cond_true (s ∷ []) [] e)
      ∙ lines_append (switches_at S rs x n) (s ∷ [])
      ∙ ap (λ (l : List ℕ). switch_lines (switches_at S rs x n) ++ l) (append-nil (switch_line s))
    where
      s : Switch
      s = record { tick = x; processor = suc n; server = runs S rs (suc n) x }

  pub at_on : (x n : ℕ) → switches S rs (suc n) x ≡ false → switches_at S rs x (suc n) ≡ switches_at S rs x n
  unfolding switches_at
  at_on x n e =
      ap (λ (l : List Switch). switches_at S rs x n ++ l) (cond_false (record { tick = x; processor = suc n; server = runs S rs (suc n) x } ∷ []) [] e)
      ∙ append-nil (switches_at S rs x n)

  -- the lines of fewer processors, or of fewer ticks, have no more bytes
  pub at_bytes : (x i n : ℕ) → i ≤ n → length (switch_lines (switches_at S rs x i)) ≤ length (switch_lines (switches_at S rs x n))
  unfolding switches_at
  at_bytes x i n h =
      climbs (λ (k : ℕ). length (switch_lines (switches_at S rs x k)))
      (λ k. rw (bytes_append (switches_at S rs x k)) (omega arith)) i n h

  pub before_bytes : (i n : ℕ) → i ≤ n → length (switch_lines (switches_before S rs i)) ≤ length (switch_lines (switches_before S rs n))
  unfolding switches_before
  before_bytes i n h =
      climbs (λ (k : ℕ). length (switch_lines (switches_before S rs k)))
      (λ k. rw (bytes_append (switches_before S rs k)) (omega arith)) i n h

  -- the lines before the next tick are those before this tick, and its own
  pub before_next : (x : ℕ) → switch_lines (switches_before S rs (suc x)) ≡ switch_lines (switches_before S rs x) ++ switch_lines (switches_at S rs x (ring_processors S rs))
  unfolding switches_before
  before_next x = lines_append (switches_before S rs x) (switches_at S rs x (ring_processors S rs))

-- Laws of one ring processor at one tick: where its time is over it switches to what follows, where it runs on what is carried stays.
-- Assumes nothing.
use Prim.Native.Nat.{ℕ, zero, suc, ◌≤◌, ◌<◌}
use mathlib.Core.Path.{◌≡◌, refl, sym, ap, subst, ◌∙◌}
use mathlib.Core.List.{List}
use mathlib.Core.Bool.{true, false}
use native.Mathlib.Omega.{arith}
use Rattle.ring.specs.Who.{who_of}
use Rattle.ring_claims.specs.Slotted.{Slotted}
use Rattle.reserves.specs.Reserves.{ring_processors}
use Rattle.turn.specs.Stretch.{Stretched, stand_after}
use Rattle.turn.specs.Switches.{switches}
use Rattle.turn.proofs.NextLaws.{left_some, running_stretched, steps_over, steps_on}
use Rattle.switchline.specs.Before.{server_before, until_before}

module _ {S : ℕ} {rs : List ℕ} (res : Slotted S rs) (p : ℕ) (l : 1 ≤ p) (h : p ≤ ring_processors S rs) where
  -- nobody's time is over before the tick
  pub until_ahead : (x : ℕ) → x ≤ until_before S rs p x
  until_ahead zero = omega arith
  until_ahead (suc x) = omega (arith, left_some S rs p x res.slot_some l)

  -- where it is over the processor switches; at tick 0 each does
  pub is_over : (x : ℕ) → until_before S rs p x ≡ x → switches S rs p x ≡ true
  unfolding switches
  is_over zero e = refl
  is_over (suc x) e = (steps_over S rs p x res l h e).0

  -- where it is not the processor runs on, and what is carried stays
  pub runs_on : (x : ℕ) → x < until_before S rs p x → switches S rs p x ≡ false
  runs_on zero m = absurd (omega arith)
  runs_on (suc x) m = (steps_on S rs p x res l h m).0

  pub server_on : (x : ℕ) → x < until_before S rs p x → server_before S rs p (suc x) ≡ server_before S rs p x
  server_on zero m = absurd (omega arith)
  server_on (suc x) m = (steps_on S rs p x res l h m).1

  pub until_on : (x : ℕ) → x < until_before S rs p x → until_before S rs p (suc x) ≡ until_before S rs p x
  until_on zero m = absurd (omega arith)
  until_on (suc x) m = (steps_on S rs p x res l h m).2

  -- what ran right before a tick has a stretch
  pub before_stretched : {q : ℕ} (x : ℕ) → 1 ≤ x → q ≡ server_before S rs p x → Stretched S rs q
  before_stretched zero m e = absurd (omega arith)
  before_stretched (suc x) m e = subst (Stretched S rs) (sym e) (running_stretched S rs p x res l h)

  -- and where its time is over, what stands behind that begins
  pub after_begins : {q : ℕ} (x : ℕ) → 1 ≤ x → q ≡ server_before S rs p x → x ≡ until_before S rs p x → stand_after S rs q ≡ who_of S rs p (record { 0 = x })
  after_begins zero m e over = absurd (omega arith)
  after_begins (suc x) m e over = ap (stand_after S rs) e ∙ sym (steps_over S rs p x res l h (sym over)).1

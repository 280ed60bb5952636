-- Laws of two demands together, and of what loads and the interrupts behind them ask.
-- Assumes nothing.
use Prim.Native.Nat.{ℕ, suc, ◌+◌, ◌≤◌}
use mathlib.Core.List.{List}
use mathlib.Core.Logic.{◌⊎◌, inl, inr, ⊎_elim}
use native.Mathlib.Nat.{add-le-add}
use native.Mathlib.Omega.{arith}
use Rattle.demand.specs.Load.{Sound, loads_of}
use Rattle.demand.specs.Lawful.{Rising, RisesAt, Lawful}
use Rattle.demand.specs.Demand.{demand}
use Rattle.demand.proofs.Demand.{demand_mono}
use Rattle.interrupting.specs.Interrupts.{Bound, Numbered, EveryBound, interrupts_of, greatest_of_all, highest, asked}
use Rattle.interrupting.specs.Interrupted.{Interrupted}
use Rattle.interrupting.proofs.BoundLaws.{bounds_map}
use Rattle.interrupting.proofs.GreatestLaws.{greatest_rising}

-- ---- two demands together

module _ (f g : ℕ → ℕ) where
  pub sum_rising : Rising f → Rising g → Rising (λ t. f t + g t)
  sum_rising rf rg t u h = add-le-add (rf t u h) (rg t u h)

  pub sum_lawful : (H : ℕ) → Lawful f H → Lawful g H → Lawful (λ t. f t + g t) H
  sum_lawful H lf lg =
      record {
        none = omega (arith, lf.none, lg.none);
        horizon = lf.horizon;
        turns = λ t. omega (arith, lf.turns t, lg.turns t);
      }

  pub sum_steps : (A B : ℕ → Type 0) → RisesAt A f → RisesAt B g → RisesAt (λ t. A t ⊎ B t) (λ t. f t + g t)
  sum_steps A B rf rg t =
      ⊎_elim
      (λ a. inl (inl a))
      (λ (p : f (suc t) ≤ f t). ⊎_elim (λ b. inl (inr b)) (λ (q : g (suc t) ≤ g t). inr (add-le-add p q)) (rg t))
      (rf t)

-- ---- loads and interrupts

module _ (numbers : List ℕ) (n : ℕ) (its : Interrupted numbers n) where
  pub its_sound : EveryBound (λ (b : Bound). Sound b.load) (interrupts_of numbers n)
  its_sound = bounds_map Numbered (λ (b : Bound). Sound b.load) (interrupts_of numbers n) (λ b e. e.sound) its.bound

  pub of_all_rising : Rising (greatest_of_all (interrupts_of numbers n))
  unfolding greatest_of_all
  of_all_rising = greatest_rising (interrupts_of numbers n) its_sound (highest (interrupts_of numbers n))

  pub asked_rising : Rising (asked numbers n)
  unfolding asked
  asked_rising t u h = add-le-add (demand_mono (loads_of numbers n) its.loads.sound h) (of_all_rising t u h)

  -- what the loads ask is part of it
  pub asked_above : (t : ℕ) → demand (loads_of numbers n) t ≤ asked numbers n t
  unfolding asked
  asked_above t = omega arith

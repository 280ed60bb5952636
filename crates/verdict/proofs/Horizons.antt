-- The own horizon of a server: the periods of its loads and of the interrupts divide it, and what they ask is lawful under it.
-- Assumes nothing.
use Prim.Native.Nat.{ℕ, zero, suc, ◌+◌, ◌≤◌, ◌∣◌, suc-le-suc}
use native.Mathlib.Omega.{arith}
use native.Mathlib.Nat.{le_of_suc-le-suc, dvd_trans}
use mathlib.Core.Path.{◌≡◌, subst, sym}
use mathlib.Core.List.{List, [], ◌∷◌, map}
use Rattle.wholes.specs.Multiple.{least_multiple_of, Divide, AllPositive}
use Rattle.wholes.proofs.MultipleLaws.{multiple_of_pos, first_divides_of, others_divide_of, multiple_of_append}
use Rattle.demand.specs.Load.{Load, Sound, Every}
use Rattle.demand.specs.Lawful.{Lawful}
use Rattle.interrupting.specs.Interrupts.{Bound, EveryBound, greatest}
use Rattle.interrupting.proofs.AskedLaws.{sum_lawful}
use Rattle.interrupting.proofs.Claims.{interrupts_lawful}
use Rattle.masking.specs.Masking.{latest, masked_demand}
use Rattle.masking.proofs.MaskedLaws.{masked_within, masked_lawful}
use Rattle.verdict.specs.Verdict.{own_horizon}

-- the periods of loads, and those of interrupts
abbrev pub periods_of : List Load → List ℕ
periods_of ls = map (λ (l : Load). l.period) ls

abbrev pub interrupt_periods : List Bound → List ℕ
interrupt_periods bs = map (λ (b : Bound). b.load.period) bs

-- what divides as a list divides one by one
every_divides : (ls : List Load) (m : ℕ) → Divide (periods_of ls) m → Every (λ (l : Load). l.period ∣ m) ls
every_divides [] m d = tt
every_divides (l ∷ ls) m d = (d 0 (omega arith), every_divides ls m (λ i h. d (suc i) (suc-le-suc h)))

each_divides : (bs : List Bound) (m : ℕ) → Divide (interrupt_periods bs) m → EveryBound (λ (b : Bound). b.load.period ∣ m) bs
each_divides [] m d = tt
each_divides (b ∷ bs) m d = (d 0 (omega arith), each_divides bs m (λ i h. d (suc i) (suc-le-suc h)))

periods_some : (ls : List Load) → Every Sound ls → AllPositive (periods_of ls)
periods_some [] e i h = absurd (omega arith)
periods_some (l ∷ ls) e zero h = omega (arith, e.0.due, e.0.constrained)
periods_some (l ∷ ls) e (suc i) h = periods_some ls e.1 i (le_of_suc-le-suc h)

interrupts_some : (bs : List Bound) → EveryBound (λ (b : Bound). Sound b.load) bs → AllPositive (interrupt_periods bs)
interrupts_some [] e i h = absurd (omega arith)
interrupts_some (b ∷ bs) e zero h = omega (arith, e.0.due, e.0.constrained)
interrupts_some (b ∷ bs) e (suc i) h = interrupts_some bs e.1 i (le_of_suc-le-suc h)

module _ (ls : List Load) (bs : List Bound) (S : ℕ) where
  -- that of the loads, and then of the interrupts
  pub own_apart : own_horizon S ls bs ≡ least_multiple_of (least_multiple_of S (periods_of ls)) (interrupt_periods bs)
  unfolding own_horizon
  own_apart = multiple_of_append S (periods_of ls) (interrupt_periods bs)

  -- it is a multiple of every period, and at least 1
  pub own_periods : Every (λ (l : Load). l.period ∣ own_horizon S ls bs) ls
  own_periods =
      let first = least_multiple_of S (periods_of ls) in
      every_divides ls (own_horizon S ls bs)
      (λ i h. dvd_trans _ (others_divide_of S (periods_of ls) i h) (subst (λ (m : ℕ). first ∣ m) (sym own_apart) (first_divides_of first (interrupt_periods bs))))

  pub own_interrupts : EveryBound (λ (b : Bound). b.load.period ∣ own_horizon S ls bs) bs
  own_interrupts =
      let first = least_multiple_of S (periods_of ls) in
      each_divides bs (own_horizon S ls bs) (subst (Divide (interrupt_periods bs)) (sym own_apart) (others_divide_of first (interrupt_periods bs)))

  module _ (sound : Every Sound ls) (bound : EveryBound (λ (b : Bound). Sound b.load) bs) (slot : 1 ≤ S) where
    pub own_some : 1 ≤ own_horizon S ls bs
    own_some =
        rw own_apart
        (multiple_of_pos (least_multiple_of S (periods_of ls)) (interrupt_periods bs) (multiple_of_pos S (periods_of ls) slot (periods_some ls sound)) (interrupts_some bs bound))

    -- so what loads and interrupts ask is lawful under it, whatever the loads gain, and the loads' deadlines are within it
    pub own_lawful : (B m : ℕ) → Lawful (λ t. masked_demand B ls t + greatest m bs t) (own_horizon S ls bs)
    own_lawful B m =
        sum_lawful (masked_demand B ls) (greatest m bs) (own_horizon S ls bs)
        (masked_lawful B ls (own_horizon S ls bs) sound own_some own_periods)
        (interrupts_lawful.lawful m bs (own_horizon S ls bs) bound own_some own_interrupts)

    pub own_due : latest ls ≤ own_horizon S ls bs
    own_due = masked_within ls (own_horizon S ls bs) sound own_some own_periods

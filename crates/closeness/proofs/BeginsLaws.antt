-- Laws of the first length at which something is asked: of loads, of one interrupt more, and where it steps.
-- Assumes nothing.
use Prim.Native.Nat.{ℕ, zero, suc, ◌+◌, ◌-◌, ◌≤◌, ◌<◌, min}
use mathlib.Core.Path.{◌≡◌, refl, ◌∙◌}
use mathlib.Core.Bool.{true}
use mathlib.Core.List.{List, [], ◌∷◌, ◌++◌}
use mathlib.Core.Logic.{⊎_elim}
use native.Mathlib.Nat.{add-lt-add_of_lt_of_le}
use native.Mathlib.Omega.{arith}
use lib.ListN.{length}
use Rattle.laws.proofs.Orders.{le_or_lt}
use Rattle.demand.specs.Load.{Load, Sound, Every, loads_of}
use Rattle.demand.specs.Demand.{demand}
use Rattle.demand.proofs.Demand.{demand_nil, demand_first, demand_cons, term_none}
use Rattle.interrupting.specs.Interrupts.{Bound, asked, interrupt_demand, greatest_of_all, highest}
use Rattle.interrupting.specs.Interrupted.{Interrupted}
use Rattle.interrupting.proofs.AskedLaws.{of_all_rising}
use Rattle.interrupting.proofs.GreatestLaws.{interrupt_own, greatest_most, greatest_past, greatest_next, greatest_nothing}
use Rattle.steps.specs.Stepping.{StepsAt, steps}
use Rattle.steps.proofs.StepLaws.{does_step, some_steps}
use Rattle.masking.specs.declared.Gain.{Gain}
use Rattle.masking.specs.Masking.{gains_some, soonest, Gains}
use Rattle.masking.proofs.EndsLaws.{latest_below}
use Rattle.masking.proofs.GainLaws.{gains_somewhere}
use Rattle.masking.proofs.OwnLaws.{own_from, own_until, own_early, own_begins, own_ends}
use Rattle.closeness.specs.Begins.{Begins, sooner_of}

-- it is a step
pub begins_steps : {g : ℕ → ℕ} {first : ℕ} → Begins g first → 1 ≤ first → steps g first ≡ true
begins_steps {g} {first} b some = does_step g first (omega (arith, b.none (first - 1) (omega arith), b.some some))

-- demands that agree begin together
begins_as : {g h : ℕ → ℕ} {first : ℕ} → ((x : ℕ) → h x ≡ g x) → Begins g first → Begins h first
begins_as {first = first} same b =
    record {
      none = λ x lt. same x ∙ b.none x lt;
      some = λ le. omega (arith, same first, b.some le);
      never = λ z x. same x ∙ b.never z x;
    }

-- ---- loads

-- loads begin where their gain does
pub own_first : {k : Gain} (ls : List Load) {hi : ℕ} → Gains k ls hi → Every Sound ls → Begins (demand ls) k.from
unfolding soonest
own_first {k} [] own e =
    let from : k.from ≡ 0 = own_from own in
    record { none = λ x h. demand_nil x; some = λ (h : 1 ≤ k.from). absurd (omega arith); never = λ z x. demand_nil x }
own_first {k} (l ∷ ls) own e =
    let st = own_begins (l ∷ ls) own e (omega arith) in
    record {
      none = own_early own;
      some = λ h. omega (arith, some_steps (l ∷ ls) k.from e st.1);
      never = λ (z : k.from ≡ 0). absurd (omega (arith, st.0));
    }

-- where some length gains there are some
pub gains_there : {k : Gain} (ls : List Load) {hi : ℕ} → Gains k ls hi → gains_some k ≡ true → 1 ≤ length ls
gains_there {k} [] own s = absurd (omega (arith, (gains_somewhere k s).1, own_until own, latest_below 0 [] tt))
gains_there (l ∷ ls) own s = omega arith

-- where nothing is asked up to hi, so that there are none, nothing is gained either
pub gains_nothing : {k : Gain} (ls : List Load) {hi : ℕ} → Gains k ls hi → Every Sound ls → ((x : ℕ) → x ≤ hi → demand ls x ≡ 0) → k.until ≡ 0
gains_nothing {k} [] own e nothing = omega (arith, own_until own, latest_below 0 [] tt)
gains_nothing {k} (l ∷ ls) own e nothing =
    let st = own_ends (l ∷ ls) own e (omega arith) in
    absurd (omega (arith, some_steps (l ∷ ls) k.until e st.1, nothing k.until own.due))

-- where the loads step, loads and interrupts do
module _ (numbers : List ℕ) (n : ℕ) (its : Interrupted numbers n) where
  asked_steps : (x : ℕ) → StepsAt (demand (loads_of numbers n)) x → steps (asked numbers n) x ≡ true
  unfolding asked
  asked_steps x st =
      does_step (asked numbers n) x (add-lt-add_of_lt_of_le st (of_all_rising numbers n its (x - 1) x (omega arith)))

  module _ {k : Gain} {hi : ℕ} (own : Gains k (loads_of numbers n) hi) (there : 1 ≤ length (loads_of numbers n)) where
    pub from_steps : steps (asked numbers n) k.from ≡ true
    from_steps =
        asked_steps k.from (some_steps (loads_of numbers n) k.from its.loads.sound (own_begins (loads_of numbers n) own its.loads.sound there).1)

    pub until_steps : steps (asked numbers n) k.until ≡ true
    until_steps =
        asked_steps k.until (some_steps (loads_of numbers n) k.until its.loads.sound (own_ends (loads_of numbers n) own its.loads.sound there).1)

-- ---- interrupts

-- one more: where nothing was asked it asks from its deadline on
module _ (bs : List Bound) (b : Bound) (sound : Sound b.load) (there : 1 ≤ b.processor) (top : highest bs ≤ b.processor) where
  -- what its processor asks is part of the greatest
  its_part : (x : ℕ) → interrupt_demand b.processor bs x ≤ greatest_of_all bs x
  unfolding greatest_of_all
  its_part x =
      omega (arith, greatest_most b.processor bs x b.processor there (omega arith), greatest_past (highest bs) b.processor bs x (omega arith) top)

  next_none : (x : ℕ) → greatest_of_all bs x ≡ 0 → x < b.load.deadline → greatest_of_all (bs ++ (b ∷ [])) x ≡ 0
  next_none x none early =
      omega (arith, greatest_next bs b x there top, interrupt_own b.processor bs b x refl, its_part x, term_none b.load early)

  next_more : (x : ℕ) → greatest_of_all bs x ≤ greatest_of_all (bs ++ (b ∷ [])) x
  next_more x = omega (arith, greatest_next bs b x there top)

  next_some : 1 ≤ greatest_of_all (bs ++ (b ∷ [])) b.load.deadline
  next_some =
      let d = b.load.deadline in
      omega (
        arith,
        greatest_next bs b d there top,
        interrupt_own b.processor bs b d refl,
        demand_first b.load [] sound,
        demand_cons b.load [] d,
        demand_nil d,
      )

  -- so beside loads too
  pub begins_next : (ls : List Load) (first : ℕ) → Begins (λ t. demand ls t + greatest_of_all bs t) first →
      Begins (λ t. demand ls t + greatest_of_all (bs ++ (b ∷ [])) t) (sooner_of first b.load.deadline)
  begins_next ls zero a =
      record {
        none = λ x (h : x < b.load.deadline). let nothing = a.never refl x in omega (arith, nothing, next_none x (omega (arith, nothing)) h);
        some = λ h. omega (arith, next_some);
        never = λ (z : b.load.deadline ≡ 0). absurd (omega (arith, sound.due));
      }
  begins_next ls (suc first) a =
      ⊎_elim
      (λ (le : suc first ≤ b.load.deadline).
      let e : min (suc first) b.load.deadline ≡ suc first = omega arith in
      rw e
      (record {
        none = λ x (h : x < suc first). let nothing = a.none x h in omega (arith, nothing, next_none x (omega (arith, nothing)) (omega arith));
        some = λ h. omega (arith, a.some h, next_more (suc first));
        never = λ (z : suc first ≡ 0). absurd (omega arith);
      }))
      (λ (lt : b.load.deadline < suc first).
      let e : min (suc first) b.load.deadline ≡ b.load.deadline = omega arith in
      rw e
      (record {
        none = λ x (h : x < b.load.deadline). let nothing = a.none x (omega arith) in omega (arith, nothing, next_none x (omega (arith, nothing)) h);
        some = λ h. omega (arith, next_some);
        never = λ (z : b.load.deadline ≡ 0). absurd (omega (arith, sound.due));
      }))
      (le_or_lt (suc first) b.load.deadline)

-- and with none it is the loads'
pub begins_alone : (ls : List Load) {first : ℕ} → Begins (demand ls) first → Begins (λ t. demand ls t + greatest_of_all [] t) first
begins_alone ls b = begins_as (λ x. omega (arith, greatest_nothing x)) b

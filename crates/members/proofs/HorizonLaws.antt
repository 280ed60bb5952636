-- The horizon of loads and interrupts with a slot: what it divides, and how the least common multiple of numbers in a slice grows, one
-- by one, up to a limit.
-- Assumes nothing.
use Rattle.std.specs.Prelude.{None, Some}
use Prim.Native.Nat.{ℕ, zero, suc, ◌+◌, ◌*◌, ◌/◌, ◌≤◌, ◌<◌, ◌∣◌}
use native.Mathlib.Omega.{arith}
use native.Mathlib.Nat.{le_of_suc-le-suc, le_of_dvd}
use mathlib.Core.Path.{◌≡◌, sym, ap, ap₂, subst, ◌∙◌}
use mathlib.Core.List.{List, [], ◌∷◌, ◌++◌, map}
use lib.ListN.{length, get_or}
use Rattle.wholes.specs.Multiple.{Divide, AllPositive, least_multiple, least_multiple_of, within}
use Rattle.wholes.proofs.MultipleLaws.{multiple_of_divides, multiple_of_append, multiple_of_pos, first_divides_of, others_divide_of}
use Rattle.wholes.proofs.WithinLaws.{within_is, past_is, within_value, past_value}
use Rattle.demand.specs.Load.{Load, Sound, Every, loads_of}
use Rattle.interrupting.specs.Interrupts.{Bound, EveryBound, bounds_of}
use Rattle.verdict.specs.Verdict.{own_horizon}
use Rattle.members.specs.Server.{spaced, Apart, Timed}
use Rattle.members.proofs.SpacedLaws.{spaced_length, spaced_next, spaced_at, spaced_loads, spaced_bounds}

-- ---- periods as a list of numbers

-- what divides load by load, and interrupt by interrupt, divides as one list
divides : (ls : List Load) (bs : List Bound) (H : ℕ) → Every (λ (l : Load). l.period ∣ H) ls → EveryBound (λ (x : Bound). x.load.period ∣ H) bs →
    Divide (map (λ (l : Load). l.period) ls ++ map (λ (x : Bound). x.load.period) bs) H
divides [] [] H e f i h = absurd (omega arith)
divides [] (x ∷ bs) H e f zero h = f.0
divides [] (x ∷ bs) H e f (suc i) h = divides [] bs H e f.1 i (le_of_suc-le-suc h)
divides (l ∷ ls) bs H e f zero h = e.0
divides (l ∷ ls) bs H e f (suc i) h = divides ls bs H e.1 f i (le_of_suc-le-suc h)

-- the horizon divides every multiple of the slot and the periods
pub own_divides : (S : ℕ) (ls : List Load) (bs : List Bound) (H : ℕ) → S ∣ H → Every (λ (l : Load). l.period ∣ H) ls →
    EveryBound (λ (x : Bound). x.load.period ∣ H) bs → own_horizon S ls bs ∣ H
unfolding own_horizon
own_divides S ls bs H s e f =
    multiple_of_divides S (map (λ (l : Load). l.period) ls ++ map (λ (x : Bound). x.load.period) bs) H s (divides ls bs H e f)

-- periods of sound loads are positive
loads_positive : (ls : List Load) → Every Sound ls → AllPositive (map (λ (l : Load). l.period) ls)
loads_positive [] e i h = absurd (omega arith)
loads_positive (l ∷ ls) e zero h = omega (arith, e.0.due, e.0.constrained)
loads_positive (l ∷ ls) e (suc i) h = loads_positive ls e.1 i (le_of_suc-le-suc h)

bounds_positive : (bs : List Bound) → EveryBound (λ (x : Bound). Sound x.load) bs → AllPositive (map (λ (x : Bound). x.load.period) bs)
bounds_positive [] e i h = absurd (omega arith)
bounds_positive (x ∷ bs) e zero h = omega (arith, e.0.due, e.0.constrained)
bounds_positive (x ∷ bs) e (suc i) h = bounds_positive bs e.1 i (le_of_suc-le-suc h)

-- ---- the least common multiple of numbers in a slice

module _ {numbers : List ℕ} {from stride n first : ℕ} (a : Apart numbers from stride n first) (limit : ℕ) where
  abbrev up_to : ℕ → ℕ
  up_to i = least_multiple_of first (spaced numbers from stride i)

  -- with more numbers it does not fall
  grows : {k : ℕ} → k ≤ n → up_to k ≤ up_to n
  grows {k} h =
      le_of_dvd (multiple_of_pos first (spaced numbers from stride n) a.some a.positive)
      (multiple_of_divides first (spaced numbers from stride k) (up_to n) (first_divides_of first (spaced numbers from stride n)) each)
    where
      each : Divide (spaced numbers from stride k) (up_to n)
      each i l =
          let below : i < k = omega (arith, spaced_length numbers from stride k) in
          subst (λ (v : ℕ). v ∣ up_to n) (spaced_at numbers from stride n i (omega arith) ∙ sym (spaced_at numbers from stride k i below))
          (others_divide_of first (spaced numbers from stride n) i (omega (arith, spaced_length numbers from stride n)))

  -- past the limit after some is past it after all
  pub stays_past : {k : ℕ} → k ≤ n → limit < up_to k → None ≡ within limit (up_to n)
  stays_past h l = sym (past_is limit (up_to n) (omega (arith, grows h)))

  module _ {m i : ℕ} (e : m ≡ up_to i) (h : i < n) where
    step : least_multiple m (get_or numbers (from + stride * i) 0) ≡ up_to (i + 1)
    unfolding least_multiple_of
    step =
        ap (λ (k : ℕ). least_multiple k (get_or numbers (from + stride * i) 0)) e ∙
        sym
        (ap (least_multiple_of first) (spaced_next numbers from stride i)
        ∙ multiple_of_append first (spaced numbers from stride i) (get_or numbers (from + stride * i) 0 ∷ []))

    -- the next multiple is within the limit: one number on
    pub goes_on : {next : ℕ} → within limit (least_multiple m (get_or numbers (from + stride * i) 0)) ≡ Some next → (next ≡ up_to (i + 1)) × (next ≤ limit)
    goes_on {next} p =
        let v = within_value limit (least_multiple m (get_or numbers (from + stride * i) 0)) next p in
        (v.0 ∙ step, omega (arith, v.0, v.1))

    -- it is past the limit
    pub stops : within limit (least_multiple m (get_or numbers (from + stride * i) 0)) ≡ None → None ≡ within limit (up_to n)
    stops p =
        stays_past {k = i + 1} (omega arith) (omega (arith, step, past_value limit (least_multiple m (get_or numbers (from + stride * i) 0)) p))

-- all numbers are passed
pub all_passed : (limit first from stride m i n : ℕ) (numbers : List ℕ) → i ≤ n → n ≤ i → m ≡ least_multiple_of first (spaced numbers from stride i) → m ≤ limit →
    Some m ≡ within limit (least_multiple_of first (spaced numbers from stride n))
all_passed limit first from stride m i n numbers h g e l =
    let all : m ≡ least_multiple_of first (spaced numbers from stride n) =
    e ∙ ap (λ (k : ℕ). least_multiple_of first (spaced numbers from stride k)) (let i≡n : i ≡ n = omega arith in i≡n) in
    ap Some all ∙ sym (within_is limit (least_multiple_of first (spaced numbers from stride n)) (omega arith))

-- ---- loads, then interrupts

module _ {numbers : List ℕ} {n : ℕ} {interrupts : List ℕ} {S : ℕ} (t : Timed numbers n interrupts S) where
  -- the multiple of the slot and the loads' periods, and the interrupts' periods
  abbrev of_loads : ℕ
  of_loads = least_multiple_of S (spaced numbers 2 3 n)

  abbrev bound : List ℕ
  bound = spaced interrupts 3 4 (length interrupts / 4)

  pub loads_apart : Apart numbers 2 3 n S
  loads_apart = record {
    there = λ i h. omega (arith, t.there);
    some = t.slot;
    positive = rw (spaced_loads numbers n) (loads_positive (loads_of numbers n) t.sound);
  }

  loads_some : 1 ≤ of_loads
  loads_some = multiple_of_pos S (spaced numbers 2 3 n) t.slot loads_apart.positive

  bound_positive : AllPositive bound
  bound_positive = rw (spaced_bounds interrupts (length interrupts / 4)) (bounds_positive (bounds_of interrupts 0 (length interrupts / 4)) t.sound_interrupts)

  pub bounds_apart : {own : ℕ} → own ≡ of_loads → Apart interrupts 3 4 (length interrupts / 4) own
  bounds_apart e = record {
    there = λ i h. omega arith;
    some = omega (arith, e, loads_some);
    positive = bound_positive;
  }

  -- one behind the other they are the horizon
  own_is : least_multiple_of of_loads bound ≡ own_horizon S (loads_of numbers n) (bounds_of interrupts 0 (length interrupts / 4))
  unfolding own_horizon
  own_is =
      sym (multiple_of_append S (spaced numbers 2 3 n) bound) ∙
      ap (least_multiple_of S) (ap₂ ◌++◌ (spaced_loads numbers n) (spaced_bounds interrupts (length interrupts / 4)))

  module _ (limit : ℕ) where
    -- past the limit after the loads is past it after all
    pub loads_past : within limit of_loads ≡ None → None ≡ within limit (own_horizon S (loads_of numbers n) (bounds_of interrupts 0 (length interrupts / 4)))
    loads_past p =
        let more : of_loads ≤ least_multiple_of of_loads bound =
        le_of_dvd (multiple_of_pos of_loads bound loads_some bound_positive) (first_divides_of of_loads bound) in
        sym (past_is limit _ (omega (arith, sym own_is, more, past_value limit of_loads p)))

    -- within it, the interrupts' periods go on from there
    pub loads_within : {own : ℕ} → within limit of_loads ≡ Some own → own ≡ of_loads
    loads_within {own} p = (within_value limit of_loads own p).0

    pub bounds_passed : {own : ℕ} → own ≡ of_loads →
        within limit (least_multiple_of own bound) ≡ within limit (own_horizon S (loads_of numbers n) (bounds_of interrupts 0 (length interrupts / 4)))
    bounds_passed e = ap (within limit) (ap (λ (k : ℕ). least_multiple_of k bound) e ∙ own_is)

-- Laws of the smallest and the largest deadline of loads: both are deadlines, and all lie between them.
-- Assumes nothing.
use Prim.Native.Nat.{ℕ, ◌≤◌, ◌<◌, min, max}
use mathlib.Core.Path.{◌≡◌, refl, sym}
use mathlib.Core.List.{List, [], ◌∷◌, ◌++◌}
use mathlib.Core.Logic.{◌⊎◌, inl, inr, ⊎_elim}
use native.Mathlib.Nat.{le_refl, le_trans}
use native.Mathlib.Omega.{arith}
use lib.ListN.{length}
use Rattle.laws.proofs.Orders.{le_or_lt}
use Rattle.demand.specs.Load.{Load, Sound, Every}
use Rattle.demand.specs.Steps.{Some}
use Rattle.masking.specs.Masking.{soonest_of, soonest, latest}

-- the smallest is at most d, and at most each deadline
pub soonest_first : (d : ℕ) (ls : List Load) → soonest_of d ls ≤ d
unfolding soonest_of
soonest_first d [] = le_refl d
soonest_first d (l ∷ ls) = omega arith

pub soonest_each : (m d : ℕ) (ls : List Load) → m ≤ soonest_of d ls → Every (λ (l : Load). m ≤ l.deadline) ls
unfolding soonest_of
soonest_each m d [] h = tt
soonest_each m d (l ∷ ls) h =
    let rest : m ≤ soonest_of l.deadline ls = omega arith in
    (le_trans rest (soonest_first l.deadline ls), soonest_each m l.deadline ls rest)

-- it is d or one of the deadlines
pub soonest_found : (m d : ℕ) (ls : List Load) → m ≡ soonest_of d ls → (d ≡ m) ⊎ Some (λ (l : Load). l.deadline ≡ m) ls
unfolding soonest_of
soonest_found m d [] e = inl (sym e)
soonest_found m d (l ∷ ls) e =
    ⊎_elim
    (λ (p : d ≤ soonest_of l.deadline ls). inl (omega arith))
    (λ (p : soonest_of l.deadline ls < d). inr (soonest_found m l.deadline ls (omega arith)))
    (le_or_lt d (soonest_of l.deadline ls))

-- whatever d and the deadlines are at least, the smallest is
pub soonest_above : (m d : ℕ) (ls : List Load) → m ≤ d → Every (λ (l : Load). m ≤ l.deadline) ls → m ≤ soonest_of d ls
unfolding soonest_of
soonest_above m d [] h e = h
soonest_above m d (l ∷ ls) h e = omega (arith, soonest_above m l.deadline ls e.0 e.1)

-- no deadline exceeds the largest
pub latest_each : (m : ℕ) (ls : List Load) → latest ls ≤ m → Every (λ (l : Load). l.deadline ≤ m) ls
unfolding latest
latest_each m [] h = tt
latest_each m (l ∷ ls) h = (omega arith, latest_each m ls (omega arith))

-- which is one of them
pub latest_found : (m : ℕ) (l : Load) (ls : List Load) → m ≡ latest (l ∷ ls) → Some (λ (l : Load). l.deadline ≡ m) (l ∷ ls)
unfolding latest
latest_found m l [] e = inl (omega arith)
latest_found m l (k ∷ ls) e =
    ⊎_elim
    (λ (p : latest (k ∷ ls) ≤ l.deadline). inl (omega arith))
    (λ (p : l.deadline < latest (k ∷ ls)). inr (latest_found m k ls (omega arith)))
    (le_or_lt (latest (k ∷ ls)) l.deadline)

-- whatever the deadlines are at most, the largest is
pub latest_below : (m : ℕ) (ls : List Load) → Every (λ (l : Load). l.deadline ≤ m) ls → latest ls ≤ m
unfolding latest
latest_below m [] e = omega arith
latest_below m (l ∷ ls) e = omega (arith, latest_below m ls e.1, e.0)

-- sound loads are due at 1 or later
pub sound_due : (ls : List Load) → Every Sound ls → Every (λ (l : Load). 1 ≤ l.deadline) ls
sound_due [] e = tt
sound_due (l ∷ ls) e = (e.0.due, sound_due ls e.1)

pub soonest_some : (l : Load) (ls : List Load) → Every Sound (l ∷ ls) → 1 ≤ soonest (l ∷ ls)
unfolding soonest
soonest_some l ls e = soonest_above 1 l.deadline ls e.0.due (sound_due ls e.1)

-- the smallest is at most the largest
pub soonest_latest : (ls : List Load) → soonest ls ≤ latest ls
unfolding soonest latest
soonest_latest [] = le_refl 0
soonest_latest (l ∷ ls) = omega (arith, soonest_first l.deadline ls)

-- loads of one deadline have it as smallest and as largest
pub equal_ends : (d : ℕ) (ls : List Load) → Every (λ (l : Load). l.deadline ≡ d) ls → latest ls ≤ soonest ls
unfolding soonest latest
equal_ends d [] e = le_refl 0
equal_ends d (l ∷ ls) e =
    let above : d ≤ soonest_of l.deadline ls = soonest_above d l.deadline ls (omega (arith, e.0)) (due_from ls e.1) in
    let below : latest ls ≤ d = latest_below d ls (due_to ls e.1) in
    omega (arith, e.0)
  where
    due_from : (ls : List Load) → Every (λ (l : Load). l.deadline ≡ d) ls → Every (λ (l : Load). d ≤ l.deadline) ls
    due_from [] e = tt
    due_from (l ∷ ls) e = (omega (arith, e.0), due_from ls e.1)

    due_to : (ls : List Load) → Every (λ (l : Load). l.deadline ≡ d) ls → Every (λ (l : Load). l.deadline ≤ d) ls
    due_to [] e = tt
    due_to (l ∷ ls) e = (omega (arith, e.0), due_to ls e.1)

-- one load more
pub soonest_next : (d : ℕ) (ls : List Load) (l : Load) → soonest_of d (ls ++ (l ∷ [])) ≡ min (soonest_of d ls) l.deadline
unfolding soonest_of
soonest_next d [] l = refl
soonest_next d (k ∷ ls) l = omega (arith, soonest_next k.deadline ls l)

pub latest_next : (ls : List Load) (l : Load) → latest (ls ++ (l ∷ [])) ≡ max (latest ls) l.deadline
unfolding latest
latest_next [] l = omega arith
latest_next (k ∷ ls) l = omega (arith, latest_next ls l)

pub soonest_more : (ls : List Load) (l : Load) → 1 ≤ length ls → soonest (ls ++ (l ∷ [])) ≡ min (soonest ls) l.deadline
unfolding soonest
soonest_more [] l h = absurd (omega arith)
soonest_more (k ∷ ls) l h = soonest_next k.deadline ls l

pub soonest_alone : (ls : List Load) (l : Load) → length ls ≡ 0 → soonest (ls ++ (l ∷ [])) ≡ l.deadline
unfolding soonest soonest_of
soonest_alone [] l e = refl
soonest_alone (k ∷ ls) l e = absurd (omega arith)

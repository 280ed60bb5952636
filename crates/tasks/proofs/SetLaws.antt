-- Laws of a set's members and of its interrupts: those that count, those of a set made of them, and one more.
-- Assumes nothing.
use Prim.Native.Nat.{ℕ, suc, ◌+◌, ◌-◌, ◌≤◌, ◌<◌}
use native.Mathlib.Omega.{arith}
use mathlib.Core.List.{List, [], ◌∷◌, ◌++◌}
use mathlib.Core.Path.{◌≡◌, refl, sym, ◌∙◌}
use lib.ListN.{length, get_or, replicate, set as put, length-append}
use lib.Seq.{get_or-take, length-take-le, take-append_seam, set_at, append_snoc}
use Rattle.tasks.specs.declared.set.Header.{Header}
use Rattle.tasks.specs.declared.set.Task.{Task}
use Rattle.tasks.specs.declared.set.Interrupt.{Interrupt}
use Rattle.tasks.specs.declared.set.TaskSet.{TaskSet}
use Rattle.tasks.specs.Set.{most_tasks, most_interrupts, members, counted, interrupts_in, interrupts_with, set_of, set_with, with_task, with_interrupt, zero_task, zero_interrupt, no_interrupts}

-- a set's members where its count fits its room
pub members_length : (set : TaskSet) → set.count ≤ length set.tasks → length (members set) ≡ set.count
members_length set fits = length-take-le set.count set.tasks fits

pub member_at : (set : TaskSet) (i : ℕ) (z : Task) → i < set.count → get_or (members set) i z ≡ get_or set.tasks i z
member_at set i z lt = get_or-take set.count set.tasks i z lt

-- the members of a set of these tasks are these tasks, its interrupts are these interrupts
pub members_set : (header : Header) (ts : List Task) (is : List Interrupt) → members (set_of header ts is) ≡ ts
unfolding set_of
members_set header ts is = take-append_seam ts _

pub interrupts_set : (header : Header) (ts : List Task) (is : List Interrupt) → interrupts_in (set_of header ts is) ≡ is
unfolding set_of interrupts_with
interrupts_set header ts is = take-append_seam is _

pub counted_with : (is : List Interrupt) → counted (interrupts_with is) ≡ is
unfolding interrupts_with
counted_with is = take-append_seam is _

pub with_none : interrupts_with [] ≡ no_interrupts
unfolding interrupts_with
with_none = refl

-- a set without interrupts, given some
pub set_with_lem : (header : Header) (ts : List Task) (old is : List Interrupt) → set_with (set_of header ts old) (interrupts_with is) ≡ set_of header ts is
unfolding set_of
set_with_lem header ts old is = refl

-- a row of these, filled up to so many, with one more at its first unused place
fill_more : {A : Type 0} (most : ℕ) (zero x : A) (xs : List A) → length xs < most → put (xs ++ replicate (most - length xs) zero) (length xs) x ≡ (xs ++ (x ∷ [])) ++ replicate (most - length (xs ++ (x ∷ []))) zero
fill_more most zero x xs lt =
    let count : length xs + 1 ≡ length (xs ++ (x ∷ [])) = sym (length-append xs (x ∷ [])) in
    let left : most - length xs ≡ suc (most - length (xs ++ (x ∷ []))) = omega arith in
    rw left (set_at xs zero (replicate (most - length (xs ++ (x ∷ []))) zero) x (length xs) refl ∙ sym (append_snoc xs x _))

-- a set with one task more is the set of one task more
pub set_more : (header : Header) (ts : List Task) (is : List Interrupt) (t : Task) → length ts < most_tasks → with_task (set_of header ts is) t ≡ set_of header (ts ++ (t ∷ [])) is
unfolding set_of
set_more header ts is t lt =
    let count : length ts + 1 ≡ length (ts ++ (t ∷ [])) = sym (length-append ts (t ∷ [])) in
    let tasks = fill_more most_tasks zero_task t ts lt in
    λ i. record { header = header; count = count i; tasks = tasks i; interrupts = interrupts_with is }

-- and interrupts with one more are those of one more
pub interrupts_more : (is : List Interrupt) (x : Interrupt) → length is < most_interrupts → with_interrupt (interrupts_with is) x ≡ interrupts_with (is ++ (x ∷ []))
unfolding interrupts_with
interrupts_more is x lt =
    let count : length is + 1 ≡ length (is ++ (x ∷ [])) = sym (length-append is (x ∷ [])) in
    let each = fill_more most_interrupts zero_interrupt x is lt in
    λ i. record { count = count i; each = each i }

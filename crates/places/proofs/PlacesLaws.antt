-- Laws of the tasks of one server: one task more, what is read at its places, where they lie and how many there are.
use Prim.Native.Nat.{ℕ, zero, suc, ◌+◌, ◌≤◌, ◌<◌}
use native.Mathlib.Omega.{arith}
use native.Mathlib.Nat.{le_of_suc-le-suc}
use mathlib.Core.Path.{◌≡◌, refl, ap, ap₂, ◌∙◌}
use mathlib.Core.Bool.{Bool, true, false}
use mathlib.Core.List.{List, [], ◌∷◌, ◌++◌, map, append-nil}
use lib.Dec.{eqb}
use lib.ListN.{length, get_or}
use borrow.Author.Tests.{eq-eqb, ne_eqb}
use Rattle.tasks.specs.Set.{most_tasks}
use Rattle.places.specs.Places.{keep, places_from, places_in, chosen}

-- ---- what is kept or left out at the front

-- it leaves the rest alone
keep_append : {A : Type 0} (b : Bool) (x : A) (xs ys : List A) → keep b x (xs ++ ys) ≡ keep b x xs ++ ys
keep_append true x xs ys = refl
keep_append false x xs ys = refl

-- of each element something
keep_map : {A B : Type 0} (f : A → B) (b : Bool) (x : A) (xs : List A) → map f (keep b x xs) ≡ keep b (f x) (map f xs)
keep_map f true x xs = refl
keep_map f false x xs = refl

-- at most one element more
keep_few : {A : Type 0} (b : Bool) (x : A) (xs : List A) (n : ℕ) → length xs ≤ n → length (keep b x xs) ≤ suc n
keep_few true x xs n h = omega arith
keep_few false x xs n h = omega arith

-- no element less
keep_some : {A : Type 0} (b : Bool) (x : A) (xs : List A) → 1 ≤ length xs → 1 ≤ length (keep b x xs)
keep_some true x xs h = omega arith
keep_some false x xs h = h

-- ---- what belongs to the tasks of a server

-- one task more, in server a
pub in_more : {A : Type 0} (xs : List A) (placement : List ℕ) (x : A) (a q : ℕ) → length placement ≡ length xs →
    chosen (xs ++ (x ∷ [])) (placement ++ (a ∷ [])) q ≡ chosen xs placement q ++ keep (eqb a q) x []
unfolding chosen
in_more [] [] x a q e = refl
in_more [] (b ∷ placement) x a q e = absurd (omega arith)
in_more (y ∷ xs) [] x a q e = absurd (omega arith)
in_more (y ∷ xs) (b ∷ placement) x a q e =
    ap (keep (eqb b q) y) (in_more xs placement x a q (omega arith)) ∙
    keep_append (eqb b q) y (chosen xs placement q) (keep (eqb a q) x [])

-- the server that the task joins has one task more
pub in_joined : {A : Type 0} (xs : List A) (placement : List ℕ) (x : A) (a q : ℕ) → length placement ≡ length xs → a ≡ q →
    chosen (xs ++ (x ∷ [])) (placement ++ (a ∷ [])) q ≡ chosen xs placement q ++ (x ∷ [])
in_joined {A} xs placement x a q e h =
    in_more xs placement x a q e ∙ ap (λ (b : Bool). chosen xs placement q ++ keep {A = A} b x []) (eq-eqb a q h)

-- every other server has what it had
pub in_apart : {A : Type 0} (xs : List A) (placement : List ℕ) (x : A) (a q : ℕ) → length placement ≡ length xs → (a ≡ q → ⊥) →
    chosen (xs ++ (x ∷ [])) (placement ++ (a ∷ [])) q ≡ chosen xs placement q
in_apart {A} xs placement x a q e h =
    in_more xs placement x a q e ∙ ap (λ (b : Bool). chosen xs placement q ++ keep {A = A} b x []) (ne_eqb a q h) ∙ append-nil (chosen xs placement q)

-- a server has no more tasks than there are
pub in_few : {A : Type 0} (xs : List A) (placement : List ℕ) (q : ℕ) → length (chosen xs placement q) ≤ length xs
unfolding chosen
in_few [] placement q = omega arith
in_few (x ∷ xs) [] q = omega arith
in_few (x ∷ xs) (a ∷ placement) q = keep_few (eqb a q) x (chosen xs placement q) (length xs) (in_few xs placement q)

-- a server that a task is in has a task
pub in_some : {A : Type 0} (xs : List A) (placement : List ℕ) (i q : ℕ) → length placement ≡ length xs → i < length placement → get_or placement i 0 ≡ q →
    1 ≤ length (chosen xs placement q)
unfolding chosen
in_some [] [] i q e h g = absurd (omega arith)
in_some [] (a ∷ placement) i q e h g = absurd (omega arith)
in_some (x ∷ xs) [] i q e h g = absurd (omega arith)
in_some (x ∷ xs) (a ∷ placement) zero q e h g = rw (eq-eqb a q g) (omega arith)
in_some (x ∷ xs) (a ∷ placement) (suc i) q e h g =
    keep_some (eqb a q) x (chosen xs placement q) (in_some xs placement i q (omega arith) (le_of_suc-le-suc h) g)

-- ---- the places

-- what is read at the places of a server's tasks, from place k on, belongs to them
from_reads : {A : Type 0} (f : ℕ → A) (d : A) (k : ℕ) (xs : List A) (placement : List ℕ) (q : ℕ) →
    ((i : ℕ) → f (k + i) ≡ get_or xs i d) → length placement ≤ length xs → map f (places_from k placement q) ≡ chosen xs placement q
unfolding places_from chosen
from_reads f d k [] [] q g h = refl
from_reads f d k [] (a ∷ placement) q g h = absurd (omega arith)
from_reads f d k (x ∷ xs) [] q g h = refl
from_reads {A} f d k (x ∷ xs) (a ∷ placement) q g h =
    keep_map f (eqb a q) k (places_from (suc k) placement q) ∙
    ap₂ (λ (y : A) (ys : List A). keep (eqb a q) y ys) (ap f (omega arith) ∙ g 0)
    (from_reads f d (suc k) xs placement q (λ i. ap f (omega arith) ∙ g (suc i)) (le_of_suc-le-suc h))

-- what is read at the places of a server's tasks belongs to them
pub places_read : {A : Type 0} (d : A) (xs : List A) (placement : List ℕ) (q : ℕ) → length placement ≤ length xs →
    map (λ (i : ℕ). get_or xs i d) (places_in placement q) ≡ chosen xs placement q
places_read d xs placement q h =
    from_reads (λ (i : ℕ). get_or xs i d) d 0 xs placement q (λ i. ap (λ (j : ℕ). get_or xs j d) (omega arith)) h

-- one task more, in server a, from place k on
from_more : (k : ℕ) (placement : List ℕ) (a q : ℕ) →
    places_from k (placement ++ (a ∷ [])) q ≡ places_from k placement q ++ keep (eqb a q) (k + length placement) []
unfolding places_from
from_more k [] a q = ap (λ (i : ℕ). keep (eqb a q) i []) (omega arith)
from_more k (b ∷ placement) a q =
    ap (keep (eqb b q) k)
    (from_more (suc k) placement a q ∙ ap (λ (i : ℕ). places_from (suc k) placement q ++ keep (eqb a q) i []) (omega arith)) ∙
    keep_append (eqb b q) k (places_from (suc k) placement q) (keep (eqb a q) (k + suc (length placement)) [])

-- one task more, in server a
pub places_more : (placement : List ℕ) (a q : ℕ) →
    places_in (placement ++ (a ∷ [])) q ≡ places_in placement q ++ keep (eqb a q) (length placement) []
places_more placement a q =
    from_more 0 placement a q ∙ ap (λ (i : ℕ). places_in placement q ++ keep (eqb a q) i []) (omega arith)

-- the server that the task joins has its place more
pub places_joined : (placement : List ℕ) (a q : ℕ) → a ≡ q →
    places_in (placement ++ (a ∷ [])) q ≡ places_in placement q ++ (length placement ∷ [])
places_joined placement a q h =
    places_more placement a q ∙ ap (λ (b : Bool). places_in placement q ++ keep b (length placement) []) (eq-eqb a q h)

-- every other server has the places that it had
pub places_apart : (placement : List ℕ) (a q : ℕ) → (a ≡ q → ⊥) → places_in (placement ++ (a ∷ [])) q ≡ places_in placement q
places_apart placement a q h =
    places_more placement a q ∙ ap (λ (b : Bool). places_in placement q ++ keep b (length placement) []) (ne_eqb a q h) ∙
    append-nil (places_in placement q)

-- no more places than tasks
from_few : (k : ℕ) (placement : List ℕ) (q : ℕ) → length (places_from k placement q) ≤ length placement
unfolding places_from
from_few k [] q = omega arith
from_few k (a ∷ placement) q = keep_few (eqb a q) k (places_from (suc k) placement q) (length placement) (from_few (suc k) placement q)

pub places_few : (placement : List ℕ) (q : ℕ) → length (places_in placement q) ≤ length placement
places_few placement q = from_few 0 placement q

-- and few where the placement is
pub places_most : (placement : List ℕ) (q : ℕ) → length placement ≤ most_tasks → length (places_in placement q) ≤ most_tasks
places_most placement q h = omega (arith, places_few placement q)

-- what holds of the element kept and of the others holds of each
keep_below : (b : Bool) (k n : ℕ) (xs : List ℕ) → k < n → ((i : ℕ) → i < length xs → get_or xs i 0 < n) →
    (i : ℕ) → i < length (keep b k xs) → get_or (keep b k xs) i 0 < n
keep_below true k n xs h f zero g = h
keep_below true k n xs h f (suc i) g = f i (le_of_suc-le-suc g)
keep_below false k n xs h f i g = f i g

-- each place is one of a task
from_below : (k : ℕ) (placement : List ℕ) (q : ℕ) (i : ℕ) → i < length (places_from k placement q) →
    get_or (places_from k placement q) i 0 < k + length placement
unfolding places_from
from_below k [] q i h = absurd (omega arith)
from_below k (a ∷ placement) q i h =
    keep_below (eqb a q) k (k + suc (length placement)) (places_from (suc k) placement q) (omega arith)
    (λ j g. omega (arith, from_below (suc k) placement q j g)) i h

pub places_below : (placement : List ℕ) (q i : ℕ) → i < length (places_in placement q) → get_or (places_in placement q) i 0 < length placement
places_below placement q i h = omega (arith, from_below 0 placement q i h)

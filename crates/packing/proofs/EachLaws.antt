-- The first numbers in their order, and lists read by them.
-- Assumes nothing.
use Prim.Native.Nat.{ℕ, zero, suc, ◌≤◌, ◌<◌}
use native.Mathlib.Omega.{arith}
use mathlib.Core.Path.{◌≡◌, refl, sym, ap, ap₂, ◌∙◌}
use mathlib.Core.Logic.{⊎_elim}
use mathlib.Core.List.{List, [], ◌∷◌, ◌++◌, map, map-append}
use lib.ListN.{length, get_or, get_or-append}
use lib.Seq.{ext_get_or, get_or_at}
use Rattle.laws.proofs.Orders.{le_or_lt}
use Rattle.demand.specs.Load.{Every, each}
use Rattle.demand.proofs.Demand.{each_length, every_snoc}

-- the places of n tasks: 0, 1, .. n − 1
abbrev pub all_places : ℕ → List ℕ
all_places n = each (λ (i : ℕ). i) n

-- what a function gives for them is what it gives for each
pub each_map : {A : Type 0} (f : ℕ → A) (n : ℕ) → each f n ≡ map f (all_places n)
unfolding each
each_map f zero = refl
each_map {A} f (suc n) =
    ap (λ (xs : List A). xs ++ (f n ∷ [])) (each_map f n) ∙ sym (map-append f (all_places n) (n ∷ []))

-- f i stands at place i
pub each_at : {A : Type 0} (f : ℕ → A) (d : A) (n i : ℕ) → i < n → get_or (each f n) i d ≡ f i
unfolding each
each_at f d zero i h = absurd (omega arith)
each_at {A} f d (suc n) i h =
    ⊎_elim
    (λ (p : suc i ≤ n). get_or-append (each f n) (f n ∷ []) d i (omega (arith, each_length f n)) ∙ each_at f d n i p)
    (λ (p : n < suc i).
    let last : n ≡ i = omega arith in
    ap (λ (j : ℕ). get_or (each f n ++ (f n ∷ [])) j d) (sym last) ∙ get_or_at (each f n) (f n) [] d n (each_length f n) ∙ ap f last)
    (le_or_lt (suc i) n)

-- a list is what is read of it at each place
pub each_read : {A : Type 0} (d : A) (xs : List A) → each (λ (i : ℕ). get_or xs i d) (length xs) ≡ xs
each_read d xs =
    ext_get_or d (each (λ (i : ℕ). get_or xs i d) (length xs)) xs (each_length (λ (i : ℕ). get_or xs i d) (length xs))
    (λ i h. each_at (λ (j : ℕ). get_or xs j d) d (length xs) i (omega (arith, each_length (λ (j : ℕ). get_or xs j d) (length xs))))

-- each is below n
pub all_below : (n m : ℕ) → n ≤ m → Every (λ (i : ℕ). i < m) (all_places n)
unfolding each
all_below zero m h = tt
all_below (suc n) m h = every_snoc (λ (i : ℕ). i < m) (all_places n) n (all_below n m (omega arith)) h

-- functions that agree on a list give the same for it
pub map_agree : {A B : Type 0} (f g : A → B) (xs : List A) → Every (λ (x : A). f x ≡ g x) xs → map f xs ≡ map g xs
map_agree f g [] e = refl
map_agree f g (x ∷ xs) e = ap₂ ◌∷◌ e.0 (map_agree f g xs e.1)

-- what holds of each holds at every place
pub every_there : {A : Type 0} (P : A → Type 0) (d : A) (xs : List A) (i : ℕ) → i < length xs → Every P xs → P (get_or xs i d)
every_there P d [] i h e = absurd (omega arith)
every_there P d (x ∷ xs) zero h e = e.0
every_there P d (x ∷ xs) (suc i) h e = every_there P d xs i (omega arith) e.1

-- what a function gives for the element at a place stands at that place
pub map_there : {A B : Type 0} (f : A → B) (d : A) (e : B) (xs : List A) (i : ℕ) → i < length xs → get_or (map f xs) i e ≡ f (get_or xs i d)
map_there f d e [] i h = absurd (omega arith)
map_there f d e (x ∷ xs) zero h = refl
map_there f d e (x ∷ xs) (suc i) h = map_there f d e xs i (omega arith)

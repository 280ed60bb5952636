-- What is claimed of the searches, each claim as a type. They are proved in proofs/Claims.antt.
use Rattle.std.specs.Prelude.{ℕ, ◌≤◌, ◌≡◌, ◌↔◌, Bool}
use Rattle.search.specs.Search.{last_up_to, first_up_to, first_after, NoneIn, Last, First, Next}

-- last_up_to answers t exactly when t is the largest in 1..n, and 0 exactly when there is none
abbrev pub LastMeans : Type 0
LastMeans =
    (p : ℕ → Bool) (n : ℕ)
    → ((t : ℕ) → 1 ≤ t → (last_up_to p n ≡ t) ↔ Last p n t) × ((last_up_to p n ≡ 0) ↔ NoneIn p 0 n)

-- first_up_to answers t exactly when t is the smallest of all and within n, and 0 exactly when there is none in 1..n
abbrev pub FirstMeans : Type 0
FirstMeans =
    (p : ℕ → Bool) (n : ℕ)
    → ((t : ℕ) → 1 ≤ t → (first_up_to p n ≡ t) ↔ ((t ≤ n) × First p t)) × ((first_up_to p n ≡ 0) ↔ NoneIn p 0 n)

-- first_after answers t exactly when t is the smallest above lo and within n, and 0 exactly when there is none
abbrev pub FirstAfterMeans : Type 0
FirstAfterMeans =
    (p : ℕ → Bool) (lo n : ℕ)
    → ((t : ℕ) → 1 ≤ t → (first_after p lo n ≡ t) ↔ ((t ≤ n) × Next p lo t)) × ((first_after p lo n ≡ 0) ↔ NoneIn p lo n)

-- What is claimed of the least, as a type. It is proved in proofs/Claims.antt.
use Rattle.std.specs.Prelude.{ℕ, ◌≤◌, ◌≡◌, ◌↔◌, Bool}
use Rattle.search.specs.Search.{NoneIn}
use Rattle.slack.specs.Least.{least_up_to, Least}

-- least_up_to answers t exactly when t is the smallest in 1..n with the smallest value, and 0 exactly when none in 1..n has p
abbrev pub LeastMeans : Type 0
LeastMeans =
    (p : ℕ → Bool) (v : ℕ → ℕ) (n : ℕ)
    → ((t : ℕ) → 1 ≤ t → (least_up_to p v n ≡ t) ↔ Least p v n t) × ((least_up_to p v n ≡ 0) ↔ NoneIn p 0 n)

-- The record of a server, as the code finds it, is that of the definitions.
-- Assumes nothing.
use Prim.Native.Nat.{ℕ, zero, suc, ◌+◌, ◌-◌}
use mathlib.Core.Path.{◌≡◌, ap, ◌∙◌}
use mathlib.Core.List.{List, ◌++◌}
use native.Mathlib.Omega.{arith}
use lib.ListN.{length, drop, replicate}
use Rattle.digits.specs.Stored.{stored}
use Rattle.tasks.specs.Set.{most_tasks}
use Rattle.places.specs.Padded.{padded}
use Rattle.places.specs.Places.{places_in}
use Rattle.reserves.specs.Reserves.{reserve_of}
use Rattle.layout.specs.Layout.{ring_start, cost_of, server_of}

-- zeros without the first k
drop_zeros : (k n : ℕ) → drop {A = ℕ} k (replicate n 0) ≡ replicate (n - k) 0
drop_zeros zero n = let e : n ≡ n - zero = omega arith in ap (λ (m : ℕ). replicate {A = ℕ} m 0) e
drop_zeros (suc k) zero = let e : zero ≡ zero - suc k = omega arith in ap (λ (m : ℕ). replicate {A = ℕ} m 0) e
drop_zeros (suc k) (suc n) = let e : n - k ≡ suc n - suc k = omega arith in drop_zeros k n ∙ ap (λ (m : ℕ). replicate {A = ℕ} m 0) e

-- numbers stored at the front of zeros are padded
pub stored_padded : (ns : List ℕ) → stored (replicate most_tasks 0) 0 ns ≡ padded ns
unfolding stored
stored_padded ns =
    let e : 0 + length ns ≡ length ns = omega arith in
    ap (λ (l : List ℕ). ns ++ l) (ap (λ (k : ℕ). drop {A = ℕ} k (replicate most_tasks 0)) e ∙ drop_zeros (length ns) most_tasks)

-- the parts of a server's record
pub server_made : (S : ℕ) (caches placement reserves : List ℕ) (q : ℕ) {count reserve start cache : ℕ} {places : List ℕ} →
    count ≡ length (places_in placement q) → places ≡ stored (replicate most_tasks 0) 0 (places_in placement q) →
    reserve ≡ reserve_of reserves q → start ≡ ring_start S reserves q → cache ≡ cost_of caches q →
    record { count = count; places = places; reserve = reserve; start = record { 0 = start }; cache = cache } ≡ server_of S caches placement reserves q
server_made S caches placement reserves q e1 e2 e3 e4 e5 = rw (e1, e2 ∙ stored_padded (places_in placement q), e3, e4, e5)

-- Laws of a server's numbers: how many they are, and its parts stored one behind the other.
-- Assumes nothing.
use Prim.Native.Nat.{ℕ, ◌+◌, ◌≤◌}
use mathlib.Core.Path.{◌≡◌, refl}
use mathlib.Core.List.{List, [], ◌∷◌}
use native.Mathlib.Omega.{arith}
use lib.ListN.{length, length-append}
use Rattle.digits.specs.Stored.{stored}
use Rattle.digits.proofs.Stored.{stored_three}
use Rattle.tasks.specs.Set.{most_tasks}
use Rattle.places.proofs.PaddedLaws.{up_length}
use Rattle.plan.specs.declared.server.Server.{Server}
use Rattle.handed.specs.Handed.{per_server}
use Rattle.numberedserver.specs.Server.{place_numbers, server_numbers}

-- the places of a server are most_tasks numbers, a server is per_server
pub places_length : (places : List ℕ) → length (place_numbers places) ≡ most_tasks
unfolding place_numbers
places_length places = up_length _ most_tasks

pub server_length : (s : Server) → length (server_numbers s) ≡ per_server
unfolding server_numbers
server_length s = omega (arith, length-append (place_numbers s.places) (s.reserve ∷ s.start.0 ∷ s.cache ∷ []), places_length s.places)

-- count, places and the rest, stored one behind the other, are a server's numbers
pub server_stored : (b : List ℕ) (at : ℕ) (s : Server) {places x y z : List ℕ} → places ≡ place_numbers s.places → at + per_server ≤ length b
    → x ≡ stored b at (s.count ∷ []) → y ≡ stored x (at + 1) places → z ≡ stored y (at + 1 + most_tasks) (s.reserve ∷ s.start.0 ∷ s.cache ∷ [])
    → z ≡ stored b at (server_numbers s)
unfolding server_numbers
server_stored b at s row fits e f g =
    rw (g, f, e, row)
    (stored_three b at (s.count ∷ []) (place_numbers s.places) (s.reserve ∷ s.start.0 ∷ s.cache ∷ []) (at + 1) (at + 1 + most_tasks) refl (omega (arith, places_length s.places)) (omega (arith, places_length s.places)))

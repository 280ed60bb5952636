-- What the tests of the server and the reserve that a question names say: the server's number is among them, the reserve is allowed.
-- Assumes nothing.
use Prim.Native.Nat.{ℕ, ◌+◌, ◌≤◌}
use mathlib.Core.Path.{◌≡◌, refl}
use mathlib.Core.Bool.{Bool, true, false, ◌&&◌, ◌||◌}
use mathlib.Core.Logic.{inl, inr}
use borrow.Author.Tests.{leb-true, eqb-true}
use lib.Dec.{leb, eqb}
use Rattle.laws.proofs.Tests.{and_left, and_right}
use Rattle.demand.specs.Supply.{Allowed}
use Rattle.plan.specs.declared.plan.Plan.{Plan}
use Rattle.named.specs.Named.{is_server, allowed}

-- the test of a reserve says that it is allowed
module _ (S L R : ℕ) where
  abbrev enters : Bool
  enters = leb (L + 1) R

  abbrev parts : Bool
  parts = leb (R + 1) S

  by_ring : (x : Bool) → (enters && parts) ≡ x → (x || eqb R S) ≡ true → Allowed S L R
  by_ring true g e = inl (record { enters = leb-true (L + 1) R (and_left enters parts g); parts = leb-true (R + 1) S (and_right enters parts g) })
  by_ring false g e = inr (eqb-true R S e)

  -- both tests of a ring reserve hold, or it is the slot
  pub allowed_is : allowed S L R ≡ true → Allowed S L R
  unfolding allowed
  allowed_is e = by_ring (enters && parts) refl e

-- a server that is there has a number from 1 to their number
pub server_within : (plan : Plan) (q : ℕ) → is_server plan q ≡ true → (1 ≤ q) × (q ≤ plan.servers)
unfolding is_server
server_within plan q e =
    (leb-true 1 q (and_left (leb 1 q) (leb q plan.servers) e), leb-true q plan.servers (and_right (leb 1 q) (leb q plan.servers) e))

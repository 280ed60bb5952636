-- Laws of the numbers of all servers and processors: how many each has, and how they are put one behind the other.
-- Assumes nothing.
use Prim.Native.Nat.{ℕ, ◌+◌, ◌*◌, ◌≤◌, ◌<◌}
use mathlib.Core.Path.{◌≡◌, refl, sym, ◌∙◌, ap, ap₂}
use mathlib.Core.List.{List}
use native.Mathlib.Nat.{suc-mul, mul-le-mul_right}
use native.Mathlib.Omega.{arith}
use lib.ListN.{length, get_or}
use Rattle.digits.specs.Stored.{stored}
use Rattle.digits.proofs.Stored.{stored_nil, stored_stored}
use Rattle.tasks.specs.Set.{most_tasks}
use Rattle.framelines.specs.Lines.{joined}
use Rattle.framelines.proofs.LinesLaws.{joined_length}
use Rattle.framelines.proofs.FillLaws.{joined_next}
use Rattle.ring.specs.declared.cover.Stand.{Stand}
use Rattle.plan.specs.declared.server.Server.{Server}
use Rattle.plan.specs.Plan.{no_server, zero_stand}
use Rattle.handed.specs.Handed.{per_server}
use Rattle.numberedserver.specs.Server.{server_numbers}
use Rattle.numberedserver.proofs.ServerLaws.{server_length}
use Rattle.numberedparts.specs.Parts.{server_numbers_at, stand_numbers, stand_numbers_at}

-- a server's and a processor's numbers
pub servers_each : (servers : List Server) (q : ℕ) → length (server_numbers_at servers q) ≡ per_server
unfolding server_numbers_at
servers_each servers q = server_length _

pub stands_each : (first : List Stand) (p : ℕ) → length (stand_numbers_at first p) ≡ 2
unfolding stand_numbers_at
stands_each first p = refl

-- the server and the first reserve at a place from 0
pub server_there : (servers : List Server) (i : ℕ) → server_numbers (get_or servers i no_server) ≡ server_numbers_at servers (i + 1)
unfolding server_numbers_at
server_there servers i = ap (λ (k : ℕ). server_numbers (get_or servers k no_server)) (omega arith)

pub stand_there : (first : List Stand) (i : ℕ) → stand_numbers (get_or first i zero_stand) ≡ stand_numbers_at first (i + 1)
unfolding stand_numbers_at
stand_there first i = ap (λ (k : ℕ). stand_numbers (get_or first k zero_stand)) (omega arith)

-- the numbers of the first i of so many are put at a place of a buffer, the rest of it as before
pub record PutFirst (f : ℕ → List ℕ) (b : List ℕ) (at : ℕ) (out : List ℕ) (i : ℕ) : Type 0 where
  pub within : i ≤ most_tasks
  pub same : length out ≡ length b
  pub holds : out ≡ stored b at (joined f i)

pub put_none : (f : ℕ → List ℕ) (b : List ℕ) (at : ℕ) → PutFirst f b at b 0
unfolding joined
put_none f b at = record { within = omega arith; same = refl; holds = sym (stored_nil b at) }

module _ (f : ℕ → List ℕ) (k : ℕ) (each : (j : ℕ) → length (f j) ≡ k) (b : List ℕ) (at : ℕ) (fits : at + most_tasks * k ≤ length b) where
  -- there is room for the next ones
  pub put_room : {i : ℕ} → i < most_tasks → at + k * i + k ≤ length b
  put_room {i} h = omega (arith, suc-mul i k, mul-le-mul_right k h)

  -- the next ones stand right behind those before them
  pub put_next : {out left : List ℕ} {i : ℕ} → PutFirst f b at out i → i < most_tasks → left ≡ stored out (at + k * i) (f (i + 1)) → length left ≡ length out → PutFirst f b at left (i + 1)
  put_next {out} {left} {i} so h step same =
      record {
        within = omega arith;
        same = same ∙ so.same;
        holds =
            step
            ∙ ap₂ (λ (o : List ℕ) (n : ℕ). stored o n (f (i + 1))) so.holds place
            ∙ stored_stored b at (joined f i) (f (i + 1)) (omega (arith, front, each (i + 1), put_room h))
            ∙ ap (stored b at) (sym (joined_next f i));
      }
    where
      front : length (joined f i) ≡ i * k
      front = joined_length f k each i

      place : at + k * i ≡ at + length (joined f i)
      place = omega (arith, front)

  pub put_all : {out : List ℕ} {i : ℕ} → PutFirst f b at out i → most_tasks ≤ i → out ≡ stored b at (joined f most_tasks)
  put_all so h = so.holds ∙ ap (λ (n : ℕ). stored b at (joined f n)) (omega (arith, so.within))

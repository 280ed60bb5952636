-- When a plan that is handed in agrees with another: in every figure that is used. Unused room is not compared.
-- Document 01, "Refusal numbers and their order" (RULES 6).
use Rattle.std.specs.Prelude.{ℕ, ◌+◌, ◌≤◌, ◌<◌, List, [], ◌∷◌, map, ◌≡◌, Bool, true, false, ◌&&◌, take, get_or, eqb}
use Rattle.tasks.specs.Set.{most_tasks}
use Rattle.ring.specs.declared.cover.Stand.{Stand}
use Rattle.plan.specs.declared.plan.Plan.{Plan}
use Rattle.plan.specs.declared.server.Server.{Server}
use Rattle.plan.specs.Plan.{no_server}

-- two lists are alike by a test: equally long, and the test passes at each place
unfoldable pub alike : {A : Type 0} → (A → A → Bool) → List A → List A → Bool
alike t [] [] = true
alike t [] (y ∷ ys) = false
alike t (x ∷ xs) [] = false
alike t (x ∷ xs) (y ∷ ys) = t x y && alike t xs ys

-- the first n of two rows of numbers are the same
abbrev pub same_front : ℕ → List ℕ → List ℕ → Bool
same_front n a b = alike eqb (take n a) (take n b)

-- the numbers of the plan line
unfoldable pub same_figures : (a b : Plan) → Bool
same_figures a b =
    eqb a.whole b.whole &&
    (eqb a.ring b.ring &&
    (eqb a.servers b.servers && (eqb a.slot b.slot && eqb a.idle b.idle)))

-- what is used of a server: of its places those of its tasks
abbrev pub used : Server → Server
used s = record { count = s.count; places = take s.count s.places; reserve = s.reserve; start = s.start; cache = s.cache }

-- number of tasks, reserve, start, cache cost and places of a server
unfoldable pub same_server : (a b : Server) → Bool
same_server a b =
    eqb a.count b.count &&
    (eqb a.reserve b.reserve &&
    (eqb a.start.0 b.start.0 && (eqb a.cache b.cache && alike eqb a.places b.places)))

abbrev pub same_used : (a b : Server) → Bool
same_used a b = same_server (used a) (used b)

-- each server
unfoldable pub same_servers : (a b : Plan) → Bool
same_servers a b = alike same_used (take a.servers a.server) (take b.servers b.server)

-- first server and first duration of a processor
abbrev pub same_stand : (a b : Stand) → Bool
same_stand a b = eqb a.server b.server && eqb a.left b.left

-- the first reserves of a plan's processors
abbrev pub firsts : Plan → List Stand
firsts plan = take (plan.ring + plan.whole) plan.first

unfoldable pub same_processors : (a b : Plan) → Bool
same_processors a b = alike same_stand (firsts a) (firsts b)

-- two plans of so many tasks agree
unfoldable pub agrees : (tasks : ℕ) → (a b : Plan) → Bool
agrees n a b =
    same_figures a b &&
    (same_servers a b && (same_front n a.placement b.placement && same_processors a b))

-- the servers of a plan, without unused room
abbrev pub used_servers : Plan → List Server
used_servers plan = map used (take plan.servers plan.server)

-- two plans that differ in unused room alone, for a set of so many tasks
pub record SamePlan (n : ℕ) (a b : Plan) : Type 0 where
  pub whole : a.whole ≡ b.whole
  pub ring : a.ring ≡ b.ring
  pub servers : a.servers ≡ b.servers
  pub slot : a.slot ≡ b.slot
  pub idle : a.idle ≡ b.idle
  pub server : used_servers a ≡ used_servers b
  pub placement : take n a.placement ≡ take n b.placement
  pub first : firsts a ≡ firsts b

-- a plan has no more servers, processors, and tasks in a server than there is room for
pub record InRoom (plan : Plan) : Type 0 where
  pub servers : plan.servers ≤ most_tasks
  pub processors : plan.ring + plan.whole ≤ most_tasks
  pub tasks : (i : ℕ) → i < plan.servers → (get_or plan.server i no_server).count ≤ most_tasks

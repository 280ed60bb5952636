-- What a plan that is laid out holds: its reserves, its cache costs, and the server and the first reserve at each place.
-- Assumes nothing.
use Prim.Native.Nat.{ℕ, zero, suc, pred, ◌+◌, ◌≤◌, ◌<◌}
use mathlib.Core.Path.{◌≡◌, refl, sym, ap, ◌∙◌}
use mathlib.Core.List.{List, [], ◌∷◌, ◌++◌, map, map-append}
use native.Mathlib.Numerals.{add-one}
use native.Mathlib.Omega.{arith}
use lib.ListN.{length, take, get_or}
use lib.Seq.{ext_get_or}
use Rattle.tasks.specs.declared.set.TaskSet.{TaskSet}
use Rattle.tasks.specs.Set.{most_tasks}
use Rattle.places.specs.Padded.{up_to}
use Rattle.places.proofs.PaddedLaws.{pad_take, pad_at, up_length, up_at, up_there}
use Rattle.places.proofs.PlacesLaws.{places_most}
use Rattle.reserves.specs.Reserves.{reserve_of, processors_of}
use Rattle.ring.specs.declared.cover.Stand.{Stand}
use Rattle.ring.specs.Who.{first_reserve}
use Rattle.plan.specs.declared.server.Server.{Server}
use Rattle.plan.specs.Plan.{zero_server, zero_stand, reserves_in, caches_in}
use Rattle.servers.specs.Placement.{servers_in, cache_in, caches_of}
use Rattle.setfigures.specs.Figures.{set_figures}
use Rattle.layout.specs.Layout.{cost_of, server_of, laid_out}
use Rattle.layout.specs.Made.{caches_with}

-- each server of a placement has its cache cost: that of its members
pub caches_count : (set : TaskSet) (placement : List ℕ) → length (caches_with set placement) ≡ servers_in placement
unfolding caches_with caches_of
caches_count set placement = up_length (cache_in (set_figures set) placement) (servers_in placement)

pub cost_with : (set : TaskSet) (placement : List ℕ) (q : ℕ) → 1 ≤ q → q ≤ servers_in placement → cost_of (caches_with set placement) q ≡ cache_in (set_figures set) placement q
unfolding caches_with caches_of
cost_with set placement zero h l = absurd (omega arith)
cost_with set placement (suc q) h l = up_at (cache_in (set_figures set) placement) (servers_in placement) q l ∙ ap (cache_in (set_figures set) placement) (add-one q)

-- something of f 1 to f n
map_up : {A B : Type 0} (g : A → B) (f : ℕ → A) (n : ℕ) → map g (up_to f n) ≡ up_to (λ (k : ℕ). g (f k)) n
unfolding up_to
map_up g f zero = refl
map_up g f (suc n) = map-append g (up_to f n) (f (suc n) ∷ []) ∙ ap (λ (l : List _). l ++ (g (f (suc n)) ∷ [])) (map_up g f n)

-- what a row has for servers 1 and on is the row
up_row : (row : List ℕ) {n : ℕ} → length row ≡ n → up_to (reserve_of row) n ≡ row
up_row row {n} e =
    ext_get_or 0 (up_to (reserve_of row) n) row (up_length (reserve_of row) n ∙ sym e)
    (λ i h.
    let here : i < n = omega (arith, h, up_length (reserve_of row) n) in
    up_at (reserve_of row) n i here ∙ ap (λ (k : ℕ). get_or row (pred k) 0) (add-one i))

module _ (S : ℕ) (caches placement reserves : List ℕ) where
  -- a number of each of the plan's servers
  laid_row : (number : Server → ℕ) →
      map number (take (laid_out S caches placement reserves).servers (laid_out S caches placement reserves).server) ≡ up_to (λ (q : ℕ). number (server_of S caches placement reserves q)) (length reserves)
  unfolding laid_out
  laid_row number =
      ap (map number)
      (pad_take zero_server (up_to (server_of S caches placement reserves) (length reserves)) (length reserves) (up_length (server_of S caches placement reserves) (length reserves)))
      ∙ map_up number (server_of S caches placement reserves) (length reserves)

  -- the plan's reserves are the reserves
  pub laid_reserves : reserves_in (laid_out S caches placement reserves) ≡ reserves
  laid_reserves = laid_row (λ (s : Server). s.reserve) ∙ up_row reserves refl

  -- and its cache costs the cache costs, where each server has one
  pub laid_caches : length caches ≡ length reserves → caches_in (laid_out S caches placement reserves) ≡ caches
  laid_caches even = laid_row (λ (s : Server). s.cache) ∙ up_row caches even

  -- server i + 1 stands at place i
  pub laid_server : (d : Server) (i : ℕ) → i < length reserves → get_or (laid_out S caches placement reserves).server i d ≡ server_of S caches placement reserves (i + 1)
  unfolding laid_out
  laid_server d i h =
      pad_at zero_server (up_to (server_of S caches placement reserves) (length reserves)) i d (omega (arith, up_length (server_of S caches placement reserves) (length reserves)))
      ∙ up_there (server_of S caches placement reserves) d (length reserves) i h

  -- and the first reserve of processor i + 1
  pub laid_first : (d : Stand) (i : ℕ) → i < processors_of S reserves → get_or (laid_out S caches placement reserves).first i d ≡ first_reserve S reserves (i + 1)
  unfolding laid_out
  laid_first d i h =
      pad_at zero_stand (up_to (first_reserve S reserves) (processors_of S reserves)) i d (omega (arith, up_length (first_reserve S reserves) (processors_of S reserves)))
      ∙ up_there (first_reserve S reserves) d (processors_of S reserves) i h

  -- no server has more tasks than there is room for
  pub laid_count : length placement ≤ most_tasks → (d : Server) (i : ℕ) → i < length reserves →
      (get_or (laid_out S caches placement reserves).server i d).count ≤ most_tasks
  laid_count few d i h = rw (laid_server d i h) (places_most placement (i + 1) few)

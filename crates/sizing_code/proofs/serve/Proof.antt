-- `serve` meets its contract: the tasks are placed, and then each server is sized. Assumes nothing.
use Prim.Native.Nat.{ℕ, suc, ◌≤◌}
use mathlib.Core.Path.{◌≡◌, sym, ap, ◌∙◌}
use mathlib.Core.List.{List}
use native.Mathlib.Omega.{arith}
use lib.ListN.{length, get_or, take}
use native.Mathlib.Numerals.{add-one}
use Rattle.demand.proofs.Demand.{each_length}
use Rattle.loads.specs.Figures.{Figures, figures_at, figures_to}
use Rattle.tasks.specs.Set.{most_tasks}
use Rattle.places.specs.Padded.{padded, up_to}
use Rattle.places.proofs.PaddedLaws.{padded_length, pad_at, up_length, up_at}
use Rattle.members.specs.Server.{Board, board_of}
use Rattle.sizing.specs.Reserve.{reserve_in, reserves_of, sized, servers_of, Costed}
use Rattle.servers.specs.Placement.{servers_in, placement_of, cache_in, caches_of}
use Rattle.servers.proofs.SoFarLaws.{Held, held}
use Rattle.sizing_code.proofs.serve.Statement.{statement}
use Rattle.sizing_code.proofs.serve.Tie as tie

-- a placement and the reserves of its servers are the answer
served : {b : Board} {figures : List Figures} {n : ℕ} {placement cache : List ℕ} {count : ℕ} → Held b figures n placement cache count →
    (reserve : List ℕ) → reserve ≡ padded (up_to (reserve_in b figures (take n placement)) count) →
    record { count = count; placement = placement; cache = cache; reserve = reserve } ≡ servers_of b figures
unfolding sized reserves_of
served w reserve r = rw (r, w.front, w.count_is, w.placement_is, w.cache_is)

-- each server's cache cost stands in its row
costed : {b : Board} {figures : List Figures} {n : ℕ} {placement cache : List ℕ} {count : ℕ} → Held b figures n placement cache count →
    Costed figures (take n placement) cache count
unfolding caches_of
costed {b} {figures} {n} {placement} {cache} {count} w =
    record {
      there = omega (arith, w.few, ap length w.cache_is, padded_length ups (omega (arith, few, long)));
      each = λ k h.
          ap (λ (l : List ℕ). get_or l k 0) w.cache_is ∙ pad_at 0 ups k 0 (omega (arith, long, w.count_is)) ∙ up_at own (servers_in (placement_of b figures)) k (omega (arith, w.count_is)) ∙
          ap own (add-one k) ∙ ap (λ (p : List ℕ). cache_in figures p (suc k)) (sym w.front);
    }
  where
    own : ℕ → ℕ
    own q = cache_in figures (placement_of b figures) q

    ups : List ℕ
    ups = caches_of figures (placement_of b figures)

    long : length ups ≡ servers_in (placement_of b figures)
    long = up_length own (servers_in (placement_of b figures))

    few : servers_in (placement_of b figures) ≤ most_tasks
    few = omega (arith, w.count_is, w.few)

place-placed-requires : tie.Need-place-placed-requires
place-placed-requires c κs = c.requires

-- what is known once the tasks are placed
placed : (c : tie.After-place-placed) →
    let s = c.before.before.before in
    Held (board_of s.args.header s.args.interrupts.now) (figures_to s.args.figures.now s.args.n) s.args.n c.place-placed.result.placement c.place-placed.result.cache c.place-placed.result.count
placed c =
    held (board_of c.args.header c.args.interrupts.now) (figures_to c.args.figures.now c.args.n) c.args.n c.place-placed.result (each_length (figures_at c.args.figures.now) c.args.n) c.requires.0.few c.place-placed.ensures

slice_bounds-size-end : tie.Need-slice_bounds-size-end
slice_bounds-size-end c = sym (placed c.before.before.before).room

slice_bounds-size-end-2 : tie.Need-slice_bounds-size-end-2
slice_bounds-size-end-2 c = sym (placed c.before.before.before.before).cache_room

size-reserve-requires : tie.Need-size-reserve-requires
size-reserve-requires c κs =
    let at = c.before.before.before.before in
    let w = placed at in
    (at.requires.0, (at.requires.1, ((omega (arith, w.room, at.requires.0.few), w.few), costed w)))

returns : tie.Need-returns
returns c = served (placed c.before.before.before.before.before) c.size-reserve.result c.size-reserve.ensures

pub serve_spec : {M : Type 1} → statement M
serve_spec =
    tie.close
    (tie.spec
    place-placed-requires
    slice_bounds-size-end
    slice_bounds-size-end-2
    size-reserve-requires
    returns)

-- `placed_in_turn` meets its contract: the turns, the figures in turn, their placement, and that in file order. Assumes nothing.
use Prim.Native.Nat.{◌*◌}
use mathlib.Core.Path.{◌≡◌, sym}
use lib.ListN.{take, replicate}
use Rattle.digits.specs.Stored.{stored}
use Rattle.tasks.specs.Set.{most_tasks}
use Rattle.places.specs.Padded.{padded}
use Rattle.loads.specs.Figures.{own_numbers, figures_to}
use Rattle.packing.specs.Turns.{turns_of, in_turn}
use Rattle.members.specs.Server.{Board, board_of, Filed}
use Rattle.servers.specs.Placement.{placed_by, placed}
use Rattle.placed_in_turn.proofs.InTurnLaws as laws
use Rattle.placed_in_turn.proofs.placed_in_turn.Statement.{statement}
use Rattle.placed_in_turn.proofs.placed_in_turn.Tie as tie

-- the file, and the board
file : (s : tie.Start) → Filed s.args.header s.args.figures.now s.args.n s.args.horizon
file s = s.requires.0

abbrev board : tie.Start → Board
board s = board_of s.args.header s.args.interrupts.now

-- the turns
module _ (c : tie.After-turns-places) where
  abbrev at-turns : tie.Start
  at-turns = c.before.before.before

  are : c.turns-places.result ≡ padded (turns_of at-turns.args.order (figures_to at-turns.args.figures.now at-turns.args.n))
  are = c.turns-places.ensures

-- the figures in turn
module _ (c : tie.After-in_turn-own) where
  abbrev turned : tie.After-turns-places
  turned = c.before.before

  abbrev at_own : tie.Start
  at_own = at-turns turned

  stand : c.in_turn-own.result ≡ stored (replicate (4 * most_tasks) 0) 0 (own_numbers (in_turn (take at_own.args.n turned.turns-places.result) (figures_to at_own.args.figures.now at_own.args.n)))
  stand = c.in_turn-own.ensures

-- their placement
module _ (c : tie.After-placed_in-placed) where
  abbrev own : tie.After-in_turn-own
  own = c.before.before

  abbrev at-placed : tie.Start
  at-placed = at_own own

  made : c.placed_in-placed.result ≡ placed (figures_to own.in_turn-own.result at-placed.args.n) (placed_by at-placed.args.fit (board at-placed) at-placed.args.horizon (figures_to own.in_turn-own.result at-placed.args.n))
  made = c.placed_in-placed.ensures

turns-places-requires : tie.Need-turns-places-requires
turns-places-requires c κs = laws.comparable (file c.before.before)

slice_bounds-in_turn-end : tie.Need-slice_bounds-in_turn-end
slice_bounds-in_turn-end c = let at = c.before in sym (laws.places_room (file (at-turns at)) (at-turns at).args.order (are at))

in_turn-own-requires : tie.Need-in_turn-own-requires
in_turn-own-requires c κs = let at = c.before in laws.turned (file (at-turns at)) (at-turns at).args.order (are at)

slice_bounds-placed_in-end : tie.Need-slice_bounds-placed_in-end
slice_bounds-placed_in-end c = let at = c.before in sym (laws.own_room (file (at_own at)) (at_own at).args.order (are (turned at)) (stand at))

placed_in-placed-requires : tie.Need-placed_in-placed-requires
placed_in-placed-requires c κs =
    let at = c.before in
    (laws.own_file (file (at_own at)) (at_own at).args.order (are (turned at)) (stand at), (at_own at).requires.1)

slice_bounds-in_file_order-end : tie.Need-slice_bounds-in_file_order-end
slice_bounds-in_file_order-end c =
    let at = turned (own c.before.before.before) in
    sym (laws.places_room (file (at-turns at)) (at-turns at).args.order (are at))

slice_bounds-in_file_order-end-2 : tie.Need-slice_bounds-in_file_order-end-2
slice_bounds-in_file_order-end-2 c =
    let at = c.before.before.before.before in
    let s = at-placed at in
    sym (laws.kept (file s) s.args.order (are (turned (own at))) (stand (own at)) s.args.fit (board s) (made at)).room

in_file_order-placement-requires : tie.Need-in_file_order-placement-requires
in_file_order-placement-requires c κs =
    let at = c.before.before.before.before in
    let s = at-placed at in
    laws.assigned (file s) s.args.order (are (turned (own at))) (stand (own at)) s.args.fit (board s) (made at)

returns : tie.Need-returns
returns c =
    let at = c.before.before.before.before.before in
    let s = at-placed at in
    laws.in_order (file s) s.args.order (are (turned (own at))) (stand (own at)) s.args.fit (board s) (made at) c.in_file_order-placement.ensures

pub placed_in_turn_spec : {M : Type 1} → statement M
placed_in_turn_spec =
    tie.close
    (tie.spec
    turns-places-requires
    slice_bounds-in_turn-end
    in_turn-own-requires
    slice_bounds-placed_in-end
    placed_in-placed-requires
    slice_bounds-in_file_order-end
    slice_bounds-in_file_order-end-2
    in_file_order-placement-requires
    returns)

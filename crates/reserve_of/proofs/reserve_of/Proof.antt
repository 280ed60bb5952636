-- `reserve_of` meets its contract: the members of the server are charged, and its own entry loss and horizon decide. Assumes nothing.
use Prim.Native.Nat.{ℕ, ◌+◌, ◌*◌, ◌≤◌}
use mathlib.Core.Path.{◌≡◌, refl, sym, ap, ◌∙◌}
use mathlib.Core.List.{List, ◌++◌}
use borrow.Author.Rules.{rules}
use native.Mathlib.Omega.{arith}
use lib.ListN.{length, take}
use lib.Seq.{length-take-le}
use Rattle.verdict.specs.Reserve.{smallest_reserve}
use Rattle.tasks.specs.Set.{most_tasks, most_interrupts}
use Rattle.places.specs.Places.{chosen}
use Rattle.loads.specs.Charge.{numbers_of, server_loads, Overheads}
use Rattle.loads.specs.Figures.{Figures, figures_to, members_at}
use Rattle.charging.specs.Charging.{entry_loss}
use Rattle.members.specs.Server.{Board, board_of, server_demand, server_horizon, reserve_for}
use Rattle.served.specs.Served.{Served}
use Rattle.served.proofs.ServedLaws.{small_cache, own_loss, own_room, may_test, front_within, front_is, front_interrupted, front_maskable, front_asked}
use Rattle.taking.proofs.ChargedLaws.{Standing, standing_found, standing_served}
use Rattle.reserve_of.proofs.reserve_of.Statement.{statement}
use Rattle.reserve_of.proofs.reserve_of.Tie as tie

-- the header's overheads are numbers of two bytes
overheads : (s : tie.Start) → Overheads s.args.header
overheads s = record { release = search rules; switch = search rules; delay = search rules }

-- the board
abbrev board : (s : tie.Start) → Board
board s = board_of s.args.header s.args.interrupts.now

-- once the members' places are found
module _ (c : tie.After-places_of-count) where
  abbrev start : tie.Start
  start = c.before.before.before.before.before

  abbrev found : List ℕ
  found = c.places_of-count.new.places

  standing : Standing start.args.figures.now start.args.n
      (chosen (figures_to start.args.figures.now start.args.n) (take start.args.n start.args.placement.now) start.args.q) found c.places_of-count.result
  standing =
      standing_found start.args.figures.now start.args.placement.now _ start.args.n start.args.q start.requires.1.1.0 refl
      c.places_of-count.ensures.0 c.places_of-count.ensures.1 start.requires.0.few

  served : Served start.args.header start.args.cache start.args.figures.now found c.places_of-count.result start.args.horizon
  served = standing_served start.args.cache start.requires.0 standing start.requires.1.1.1

-- once they are charged
module _ (c : tie.After-charge_server-own) where
  abbrev at_places : tie.After-places_of-count
  at_places = c.before.before.before.before

  abbrev from : tie.Start
  from = start at_places

  abbrev loads : List ℕ
  loads = c.charge_server-own.new.loads

  abbrev members : List Figures
  members = members_at from.args.figures.now (take at_places.places_of-count.result (found at_places))

  -- how far their numbers and the interrupts' go
  abbrev end : ℕ
  end = 3 * at_places.places_of-count.result + length from.args.interrupts.now

  end-small : end ≤ 3 * most_tasks + 4 * most_interrupts
  end-small = own_room (served at_places) from.requires.1.0 refl

  inside : end ≤ length loads
  inside = front_within (served at_places) from.requires.1.0 _ (own_room (served at_places) from.requires.1.0 refl) c.charge_server-own.ensures.1 refl

  front : take end loads ≡ numbers_of (server_loads from.args.header members) ++ from.args.interrupts.now
  front = front_is (served at_places) from.requires.1.0 _ (own_room (served at_places) from.requires.1.0 refl) c.charge_server-own.ensures.1 refl

charge_server-own-requires : tie.Need-charge_server-own-requires
charge_server-own-requires c κs =
    let at = c.before.before.before in
    let w = (start at).requires.1.0 in
    (served at, (w, own_room (served at) w refl))

overflow_mul-end : tie.Need-overflow_mul-end
overflow_mul-end c = omega (arith, end-small c.before.before.before)

overflow_add-end : tie.Need-overflow_add-end
overflow_add-end c = omega (arith, end-small c.before.before.before)

slice_bounds-loads-end : tie.Need-slice_bounds-loads-end
slice_bounds-loads-end c = omega (arith, end-small c.before.before.before)

slice_bounds-smallest_reserve-end : tie.Need-slice_bounds-smallest_reserve-end
slice_bounds-smallest_reserve-end c = sym (length-take-le _ _ (omega (arith, inside c.before.before.before.before)))

loss-requires : tie.Need-loss-requires
loss-requires c κs = omega (arith, small_cache (served (at_places c.before.before.before.before)))

smallest_reserve-requires : tie.Need-smallest_reserve-requires
unfolding entry_loss
smallest_reserve-requires c κs =
    let at = c.before.before.before.before.before in
    let s = from at in
    let o = overheads s in
    let w = served (at_places at) in
    let t = may_test w s.requires.1.0 o 0 at.charge_server-own.ensures.0 (omega arith) in (
      front_interrupted w s.requires.1.0 (front at) o,
      (
        record {
          slot_some = t.slot_some;
          slot_small = t.slot_small;
          loss_small = omega (arith, c.loss.ensures, o.delay, small_cache w, s.requires.0.short);
          horizon_small = omega (arith, t.slot_small, t.horizon_small);
        },
        front_maskable w s.requires.1.0 (front at) _ at.charge_server-own.ensures.0 (omega (arith, c.masked_ticks-masked.type_inv)),
      ),
    )

returns : tie.Need-returns
unfolding reserve_for
returns c =
    let at = c.before.before.before.before.before.before in
    let s = from at in
    let h = s.args.header in
    let ms = members at in
    let w = served (at_places at) in
    c.smallest_reserve.ensures ∙
    ap (λ (g : ℕ → ℕ). smallest_reserve g at.charge_server-own.result h.slot c.loss.result)
    (front_asked w s.requires.1.0 (front at) c.masked_ticks-masked.ensures) ∙
    ap (λ (H : ℕ). smallest_reserve (server_demand (board s) ms) H h.slot c.loss.result) at.charge_server-own.ensures.0 ∙
    ap (smallest_reserve (server_demand (board s) ms) (server_horizon (board s) ms) h.slot) (own_loss w c.loss.ensures) ∙
    ap (reserve_for (board s)) (standing (at_places at)).is

pub reserve_of_spec : {M : Type 1} → statement M
reserve_of_spec =
    tie.close
    (tie.spec
    (λ c. search rules)
    (λ c κs. search rules)
    (λ c. search rules)
    (λ c. search rules)
    charge_server-own-requires
    (λ c κs. search rules)
    (λ c. search rules)
    (λ c. search rules)
    overflow_mul-end
    overflow_add-end
    slice_bounds-loads-end
    slice_bounds-smallest_reserve-end
    loss-requires
    smallest_reserve-requires
    returns)

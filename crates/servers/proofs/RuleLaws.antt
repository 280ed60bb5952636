-- The planner's placement as code comes by it: in file order without turns, and with rooms in any horizon of the file's.
-- Assumes nothing.
use Prim.Native.Nat.{ℕ, ◌*◌, ◌≤◌, ◌∣◌}
use mathlib.Core.Path.{◌≡◌, sym, ap₂, subst, ◌∙◌}
use mathlib.Core.List.{List, [], ◌∷◌, map}
use lib.ListN.{length}
use Rattle.demand.specs.Load.{Load, Every}
use Rattle.verdict.proofs.Horizons.{own_periods, own_some}
use Rattle.tasks.specs.declared.set.Header.{Header}
use Rattle.tasks.specs.Set.{rule_number}
use Rattle.loads.specs.Figures.{Figures, figures_to}
use Rattle.loads.specs.Charge.{cache_of, charged_in, server_loads, Member, SmallCost}
use Rattle.loads.proofs.ChargeLaws.{loads_sound}
use Rattle.packing.specs.declared.Fit.{Fit}
use Rattle.packing.specs.declared.Order.{Order}
use Rattle.packing.specs.declared.Order.TheVariants.{File}
use Rattle.packing.specs.Rules.{order_of, fit_of}
use Rattle.packing.specs.Turns.{turns_of, in_turn, in_file_order}
use Rattle.members.specs.Server.{Board, SoundBoard, board_of, server_horizon, Filed, Bounded}
use Rattle.members.proofs.BoundedLaws.{bounded_sound}
use Rattle.servers.specs.Placement.{placed_by, placement_by, placement_of}
use Rattle.servers.proofs.TurnedLaws.{every_turned}
use Rattle.servers.proofs.Claims.{in_file, any_multiple}

-- what divides the loads' periods divides the members'
periods_own : (h : Header) (cache K : ℕ) (ms : List Figures) → Every (λ (l : Load). l.period ∣ K) (map (charged_in h cache) ms) → Every (λ (f : Figures). f.period ∣ K) ms
unfolding charged_in
periods_own h cache K [] e = tt
periods_own h cache K (f ∷ ms) e = (e.0, periods_own h cache K ms e.1)

-- the tasks' horizon is a multiple of their periods, and at least 1
module _ (b : Board) (figures : List Figures) (sound : SoundBoard b) (members : Every (Member b.header) figures) where
  pub horizon_periods : Every (λ (f : Figures). f.period ∣ server_horizon b figures) figures
  unfolding server_loads
  horizon_periods =
      periods_own b.header (cache_of figures) (server_horizon b figures) figures (own_periods (server_loads b.header figures) b.interrupts b.header.slot)

  pub horizon_some : 1 ≤ server_horizon b figures
  horizon_some = own_some (server_loads b.header figures) b.interrupts b.header.slot (loads_sound b.header figures members) sound.sound sound.slot

module _ {h : Header} {numbers : List ℕ} {n H : ℕ} (file : Filed h numbers n H) where
  -- the figures of the tasks in turn are a file as well
  pub file_turned : (order : Order) {own : List ℕ} → 4 * n ≤ length own → figures_to own n ≡ in_turn (turns_of order (figures_to numbers n)) (figures_to numbers n) → Filed h own n H
  file_turned order {own} there e =
      record {
        there = there;
        few = file.few;
        members = carried (Member h) file.members;
        costs = carried SmallCost file.costs;
        slot = file.slot;
        some = file.some;
        short = file.short;
        of_slot = file.of_slot;
        of_periods = carried (λ (f : Figures). f.period ∣ H) file.of_periods;
      }
    where
      carried : (P : Figures → Type 0) → Every P (figures_to numbers n) → Every P (figures_to own n)
      carried P all = subst (Every P) (sym e) (every_turned order (figures_to numbers n) P all)

  module _ {interrupts : List ℕ} (bounded : Bounded h interrupts H) where
    -- rooms in H give the planner's placement
    any_horizon : placement_by (rule_number h) (board_of h interrupts) H (figures_to numbers n) ≡ placement_of (board_of h interrupts) (figures_to numbers n)
    unfolding placement_of
    any_horizon =
        let b = board_of h interrupts in
        let figures = figures_to numbers n in
        let sound = bounded_sound bounded file.slot in
        any_multiple (rule_number h) b H (server_horizon b figures) figures file.some (horizon_some b figures sound file.members) file.of_periods
        (horizon_periods b figures sound file.members)

    -- in the tasks' turns
    pub placed_in_turn : {order : Order} {fit : Fit} → order ≡ order_of (rule_number h) → fit ≡ fit_of (rule_number h) →
        in_file_order (turns_of order (figures_to numbers n)) (placed_by fit (board_of h interrupts) H (in_turn (turns_of order (figures_to numbers n)) (figures_to numbers n)))
        ≡ placement_of (board_of h interrupts) (figures_to numbers n)
    unfolding placement_by
    placed_in_turn by_order by_fit =
        ap₂
        (λ (o : Order) (f : Fit).
        in_file_order (turns_of o (figures_to numbers n)) (placed_by f (board_of h interrupts) H (in_turn (turns_of o (figures_to numbers n)) (figures_to numbers n))))
        by_order by_fit ∙ any_horizon

    -- and in file order, as they stand
    pub placed_in_file : {fit : Fit} → order_of (rule_number h) ≡ File → fit ≡ fit_of (rule_number h) →
        placed_by fit (board_of h interrupts) H (figures_to numbers n) ≡ placement_of (board_of h interrupts) (figures_to numbers n)
    placed_in_file by_order by_fit =
        sym (in_file (board_of h interrupts) H (figures_to numbers n) _) ∙ placed_in_turn (sym by_order) by_fit

-- Placing in turn, step by step: the turns of a file's tasks, their figures in turn, the placement of these, and that in file order.
-- Assumes nothing.
use Prim.Native.Nat.{ℕ, ◌+◌, ◌*◌, ◌<◌}
use native.Mathlib.Omega.{arith}
use mathlib.Core.Path.{◌≡◌, ap, ◌∙◌}
use mathlib.Core.List.{List}
use lib.ListN.{length, take, replicate}
use Rattle.digits.specs.Stored.{stored}
use Rattle.demand.proofs.Demand.{each_length}
use Rattle.tasks.specs.declared.set.Header.{Header}
use Rattle.tasks.specs.Set.{most_tasks}
use Rattle.places.specs.Padded.{padded}
use Rattle.loads.specs.Figures.{Figures, own_numbers, figures_at, figures_to}
use Rattle.packing.specs.declared.Fit.{Fit}
use Rattle.packing.specs.declared.Order.{Order}
use Rattle.packing.specs.Turns.{turns_of, in_turn, in_file_order}
use Rattle.sorting.specs.Sorting.{Compared, Comparable}
use Rattle.sorting.proofs.SortLaws.{turns_front, turns_long, turns_places}
use Rattle.turns_code.specs.Turned.{Turned, Assigned}
use Rattle.turns_code.proofs.TurnLaws as turned-laws
use Rattle.members.specs.Server.{Board, Filed}
use Rattle.members.proofs.FiledLaws.{filed_first, filed_last}
use Rattle.servers.specs.declared.placement.Placed.{Placed}
use Rattle.servers.specs.Placement.{placed_by, placed}
use Rattle.servers.proofs.Claims.{by_fit_few}
use Rattle.servers.proofs.TurnedLaws.{in_turn_length, turned_even}
use Rattle.servers.proofs.SoFarLaws.{Holds, holds, placed_turned}
use Rattle.servers.proofs.RuleLaws.{file_turned}

module _ {h : Header} {numbers : List ℕ} {n H : ℕ} (file : Filed h numbers n H) where
  -- a file's loads can be compared
  compared : (i : ℕ) → i < n → Compared numbers i
  compared i below =
      let last = filed_last i (filed_first (i + 1) (omega arith) file) in
      let member = last.1 in
      record {
        there = last.0;
        cost = omega (arith, member.meets, member.constrained, member.short);
        deadline = omega (arith, member.constrained, member.short);
        period = omega (arith, member.short);
      }

  pub comparable : Comparable numbers n
  comparable = record { few = file.few; compared = compared }

  -- the turns, as they stand in a row
  module _ (order : Order) {places : List ℕ} (are : places ≡ padded (turns_of order (figures_to numbers n))) where
    abbrev figures : List Figures
    figures = figures_to numbers n

    abbrev turns : List ℕ
    turns = turns_of order figures

    pub places_room : length places ≡ most_tasks
    places_room = turns_long order numbers n are file.few

    pub turned : Turned numbers places n
    turned =
        record {
          few = file.few;
          figures_there = file.there;
          turns_there = omega (arith, places_room, file.few);
          below = turns_places order numbers n are;
        }

    -- the figures in turn
    module _ {own : List ℕ} (stand : own ≡ stored (replicate (4 * most_tasks) 0) 0 (own_numbers (in_turn (take n places) figures))) where
      own_tasks : figures_to own n ≡ in_turn turns figures
      own_tasks = turned-laws.in_turn_figures turned stand ∙ ap (λ (ts : List ℕ). in_turn ts figures) (turns_front order numbers n are)

      pub own_room : length own ≡ 4 * most_tasks
      own_room = turned-laws.in_turn_length turned stand

      pub own_file : Filed h own n H
      own_file = file_turned file order (omega (arith, own_room, file.few)) own_tasks

      -- their placement
      module _ (fit : Fit) (b : Board) {r : Placed} (made : r ≡ placed (figures_to own n) (placed_by fit b H (figures_to own n))) where
        abbrev tasks : List Figures
        tasks = in_turn turns figures

        abbrev servers : List ℕ
        servers = placed_by fit b H tasks

        many : length figures ≡ n
        many = each_length (figures_at numbers) n

        pub kept : Holds tasks servers n r.placement r.cache r.count
        kept =
            holds tasks servers n r (turned_even order figures fit b H ∙ many) (omega (arith, by_fit_few fit b H tasks, in_turn_length order figures, many)) file.few
            (made ∙ ap (λ (fs : List Figures). placed fs (placed_by fit b H fs)) own_tasks)

        pub assigned : Assigned places r.placement n
        assigned =
            record {
              few = file.few;
              turns_there = omega (arith, places_room, file.few);
              servers_there = omega (arith, kept.room, file.few);
              below = turns_places order numbers n are;
            }

        -- in file order
        pub in_order : {placement : List ℕ} → placement ≡ padded (in_file_order (take n places) (take n r.placement)) →
            record { count = r.count; placement = placement; cache = r.cache } ≡ placed figures (in_file_order turns servers)
        in_order is =
            rw (is, turns_front order numbers n are, kept.front, kept.count_is, kept.cache_is) (placed_turned order figures servers (turned_even order figures fit b H))

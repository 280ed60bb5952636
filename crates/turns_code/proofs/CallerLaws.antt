-- What follows where the turns are those of the figures: what may be asked, and the answers in the words of packing. Assumes nothing.
use Prim.Native.Nat.{ℕ, ◌*◌, ◌≤◌}
use native.Mathlib.Omega.{arith}
use mathlib.Core.Path.{◌≡◌, sym, ap, subst, ◌∙◌}
use mathlib.Core.List.{List}
use lib.ListN.{length, take, replicate}
use Rattle.digits.specs.Stored.{stored}
use Rattle.demand.specs.Load.{Every}
use Rattle.tasks.specs.Set.{most_tasks}
use Rattle.places.specs.Padded.{padded}
use Rattle.loads.specs.Figures.{Figures, own_numbers, figures_to}
use Rattle.packing.specs.declared.Order.{Order}
use Rattle.packing.specs.Turns.{turns_of, in_turn, in_file_order}
use Rattle.packing.proofs.PermutedLaws.{permuted_back, permuted_every}
use Rattle.packing.proofs.TurnedLaws.{tasks_permuted}
use Rattle.sorting.proofs.SortLaws.{turns_front, turns_long, turns_places}
use Rattle.turns_code.specs.Turned.{Turned, Assigned}
use Rattle.turns_code.proofs.TurnLaws.{in_turn_figures}

module _ (order : Order) (figures : List ℕ) (n : ℕ) (few : n ≤ most_tasks) {turns : List ℕ} (e : turns ≡ padded (turns_of order (figures_to figures n))) where
  -- the figures may be taken into their turns
  pub turned_of : 4 * n ≤ length figures → Turned figures turns n
  turned_of there =
      record {
        few = few;
        figures_there = there;
        turns_there = omega (arith, turns_long order figures n e few);
        below = turns_places order figures n e;
      }

  -- and servers back into file order
  pub assigned_of : {placement : List ℕ} → n ≤ length placement → Assigned turns placement n
  assigned_of there =
      record {
        few = few;
        turns_there = omega (arith, turns_long order figures n e few);
        servers_there = there;
        below = turns_places order figures n e;
      }

  -- the servers in file order
  pub servers_filed : (placement : List ℕ) {servers : List ℕ} → servers ≡ padded (in_file_order (take n turns) (take n placement)) →
      servers ≡ padded (in_file_order (turns_of order (figures_to figures n)) (take n placement))
  servers_filed placement p = p ∙ ap (λ (ts : List ℕ). padded (in_file_order ts (take n placement))) (turns_front order figures n e)

  module _ (there : 4 * n ≤ length figures) {r : List ℕ} (p : r ≡ stored (replicate (4 * most_tasks) 0) 0 (own_numbers (in_turn (take n turns) (figures_to figures n)))) where
    -- the tasks in their turns
    pub in_turn_tasks : figures_to r n ≡ in_turn (turns_of order (figures_to figures n)) (figures_to figures n)
    in_turn_tasks =
        in_turn_figures (turned_of there) p ∙ ap (λ (ts : List ℕ). in_turn ts (figures_to figures n)) (turns_front order figures n e)

    -- what holds of each task holds of each in its turn
    pub in_turn_every : (P : Figures → Type 0) → Every P (figures_to figures n) → Every P (figures_to r n)
    in_turn_every P all =
        subst (λ (fs : List Figures). Every P fs) (sym in_turn_tasks) (permuted_every P (permuted_back (tasks_permuted order (figures_to figures n))) all)

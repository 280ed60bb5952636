-- A placement of tasks in their turns, put into file order: its servers are the same, have the same tasks, and fit where they did.
-- Assumes nothing.
use Prim.Native.Nat.{ℕ, suc, ◌≤◌, ◌<◌, max}
use native.Mathlib.Omega.{arith}
use mathlib.Core.Path.{◌≡◌, refl, sym, ap, ◌∙◌}
use mathlib.Core.List.{List, [], ◌∷◌}
use lib.ListN.{length, length-map, get_or}
use Rattle.demand.specs.Load.{Every}
use Rattle.loads.specs.Figures.{Figures}
use Rattle.packing.specs.declared.Fit.{Fit}
use Rattle.packing.specs.declared.Order.{Order}
use Rattle.packing.specs.Turns.{task_at, turns_of, in_turn, in_file_order}
use Rattle.packing.proofs.PermutedLaws.{Permuted, none, head, swap, onward, permuted_back, permuted_every}
use Rattle.packing.proofs.EachLaws.{every_there}
use Rattle.packing.proofs.TurnsLaws.{turns_length, turns_below}
use Rattle.packing.proofs.TurnedLaws.{tasks_permuted, file_length, placement_turned, chosen_turned, server_turned}
use Rattle.members.specs.Server.{Board}
use Rattle.permuting.proofs.ServerLaws.{demand_permuted, loss_permuted}
use Rattle.servers.specs.Placement.{servers_in, placed_by}
use Rattle.servers.specs.Fitting.{Parted, Fitting}
use Rattle.servers.proofs.PlacementLaws.{by_fit_length}

-- how many servers there are is the greatest of a placement's numbers
servers_permuted : {p r : List ℕ} → Permuted p r → servers_in p ≡ servers_in r
unfolding servers_in
servers_permuted none = refl
servers_permuted (head {x} p) = ap (max x) (servers_permuted p)
servers_permuted swap = omega arith
servers_permuted (onward p r) = servers_permuted p ∙ servers_permuted r

-- what holds at every place holds of all
every_of : (P : ℕ → Type 0) (p : List ℕ) → ((i : ℕ) → i < length p → P (get_or p i 0)) → Every P p
every_of P [] at = tt
every_of P (a ∷ p) at = (at 0 (omega arith), every_of P p (λ i h. at (suc i) (omega arith)))

-- ---- the tasks in turn

module _ (order : Order) (figures : List Figures) where
  -- what holds of the file's tasks holds of them in turn
  pub every_turned : (P : Figures → Type 0) → Every P figures → Every P (in_turn (turns_of order figures) figures)
  every_turned P e = permuted_every P (permuted_back (tasks_permuted order figures)) e

  -- as many as in the file, and each has a server
  pub in_turn_length : length (in_turn (turns_of order figures) figures) ≡ length figures
  in_turn_length = length-map (turns_of order figures) (task_at figures) ∙ turns_length order figures

  pub turned_even : (fit : Fit) (b : Board) (H : ℕ) → length (placed_by fit b H (in_turn (turns_of order figures) figures)) ≡ length figures
  turned_even fit b H = by_fit_length fit b H (in_turn (turns_of order figures) figures) ∙ in_turn_length

  -- ---- their placement in file order

  module _ (p : List ℕ) (even : length p ≡ length figures) where
    abbrev filed : List ℕ
    filed = in_file_order (turns_of order figures) p

    -- there are as many servers
    pub servers_turned : servers_in filed ≡ servers_in p
    servers_turned = sym (servers_permuted (placement_turned order figures p even))

    -- the server of turn j stands at the place of its task
    at_place : (j : ℕ) → j < length p → (i : ℕ) × (i < length filed) × (get_or filed i 0 ≡ get_or p j 0)
    at_place j h =
        let turns = turns_of order figures in
        let below = every_there (λ (i : ℕ). i < length figures) 0 turns j (omega (arith, turns_length order figures)) (turns_below order figures) in
        (get_or turns j 0, omega (arith, below, file_length order figures p even), server_turned order figures p even j (omega arith))

    -- each task has one server, and none is empty
    parted_turned : {tasks : List Figures} → Parted tasks p → Parted figures filed
    parted_turned w =
        record {
          one_each = file_length order figures p even;
          there =
              λ i h.
              let t = every_there (λ (q : ℕ). (1 ≤ q) × (q ≤ servers_in p)) 0 filed i h
              (permuted_every (λ (q : ℕ). (1 ≤ q) × (q ≤ servers_in p)) (placement_turned order figures p even) (every_of (λ (q : ℕ). (1 ≤ q) × (q ≤ servers_in p)) p w.there)) in
              (t.0, omega (arith, t.1, servers_turned));
          none_empty =
              λ q first there.
              let e = w.none_empty q first (omega (arith, servers_turned)) in
              let t = at_place e.0 e.1 in
              (t.0, t.1, t.2 ∙ e.2);
        }

    -- every server passes still
    pub fitting_turned : (b : Board) → Fitting b (in_turn (turns_of order figures) figures) p → Fitting b figures filed
    fitting_turned b w =
        record {
          parted = parted_turned w.parted;
          passes =
              λ q first there t some.
              let same = permuted_back (chosen_turned order figures p even q) in
              rw (demand_permuted b same t, loss_permuted b.header same) (w.passes q first (omega (arith, servers_turned)) t some);
        }

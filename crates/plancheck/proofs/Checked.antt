-- A plan that the planner makes of a set: what agrees in both.
-- Assumes nothing.
use Rattle.std.specs.Prelude.{Err, Ok}
use Prim.Native.Nat.{ℕ, ◌+◌}
use mathlib.Core.Path.{◌≡◌, refl, sym, ap, ap₂, ◌∙◌}
use mathlib.Core.Bool.{Bool, true, false}
use mathlib.Core.List.{List, [], ◌∷◌, map}
use native.Mathlib.Omega.{arith}
use lib.ListN.{length, take, length-map}
use Rattle.tasks.specs.Set.{most_tasks}
use Rattle.laws.proofs.Tests.{and_left, and_right, true_false}
use Rattle.refusals.specs.declared.Refusal.{Refusal}
use Rattle.refusals.specs.Refused.{Outcome}
use Rattle.places.specs.Padded.{padded}
use Rattle.servers.specs.Placement.{servers_in}
use Rattle.places.proofs.PaddedLaws.{padded_take}
use Rattle.servers.proofs.PlacementLaws.{placement_length}
use Rattle.reserves.specs.Slotted.{SlottedFirst}
use Rattle.tasks.specs.declared.set.TaskSet.{TaskSet}
use Rattle.plan.specs.declared.plan.Plan.{Plan}
use Rattle.setfigures.specs.Figures.{set_figures}
use Rattle.setfigures.specs.Board.{set_board}
use Rattle.plan.specs.declared.server.Server.{Server}
use Rattle.plan.specs.Plan.{no_server, reserves_in, caches_in}
use Rattle.layout.specs.Layout.{laid_out}
use Rattle.layout.specs.Made.{reserves_with, caches_with, plan_with, set_placement, set_reserves, set_caches, plan_made}
use Rattle.plan.proofs.RecordLaws.{take_map}
use Rattle.layout.proofs.LaidLaws.{caches_count, laid_reserves, laid_caches, laid_count}
use Rattle.planagree.specs.Agrees.{used, agrees, SamePlan, InRoom}
use Rattle.plancheck.specs.Makes.{is_done, makes}
use Rattle.planner.specs.Planner.{Clear, Placeable, needed, plan_outcome, plan_of}
use Rattle.planagree.proofs.AgreeLaws.{agree_same}
use Rattle.setfigures.proofs.FigureLaws.{figures_length}
use Rattle.planner.proofs.Served.{laid_by}
use Rattle.planner.proofs.Made.{fits, count_most, few_figures, members, alone, sound, slot_below, set_count, needed_few, made_servers, made_needs, plan_outcome_lem, outcome_clear}

is_done_lem : (o : Outcome) → is_done o ≡ true → o ≡ Ok tt
is_done_lem (Ok _) e = refl
is_done_lem (Err r) e = true_false (sym e)

-- the check by the planner's own answer
module _ (set : TaskSet) (plan : Plan) where
  pub makes_refused : {r : Refusal} → (plan_of set).outcome ≡ Err r → false ≡ makes set plan
  unfolding makes
  makes_refused e = rw (sym (plan_outcome_lem set) ∙ e)

  -- done: the comparison with the plan made decides
  pub makes_by : {b : Bool} {p : Plan} → plan_outcome set ≡ Ok tt → p ≡ plan_made set → b ≡ agrees set.count plan p → b ≡ makes set plan
  unfolding makes
  makes_by e q h = rw (e, ← q) h

  -- a plan that is made is made of a set that is not refused
  pub makes_done : makes set plan ≡ true → plan_outcome set ≡ Ok tt
  unfolding makes
  makes_done e = is_done_lem (plan_outcome set) (and_left (is_done (plan_outcome set)) (agrees set.count plan (plan_made set)) e)

  -- and agrees with the set's own plan
  pub makes_agrees : makes set plan ≡ true → agrees set.count plan (plan_made set) ≡ true
  unfolding makes
  makes_agrees e = and_right (is_done (plan_outcome set)) (agrees set.count plan (plan_made set)) e

-- a number that unused room leaves as it is
module _ (number : Server → ℕ) (kept : (s : Server) → number (used s) ≡ number s) where
  used_row : (servers : List Server) → map number (map used servers) ≡ map number servers
  used_row [] = refl
  used_row (s ∷ servers) = ap₂ (λ (n : ℕ) (l : List ℕ). n ∷ l) (kept s) (used_row servers)

  row_same : {n : ℕ} {a b : Plan} → SamePlan n a b → map number (take a.servers a.server) ≡ map number (take b.servers b.server)
  row_same {a = a} {b = b} s = sym (used_row (take a.servers a.server)) ∙ ap (map number) s.server ∙ used_row (take b.servers b.server)

-- plans that are the same in what is used have the same reserves
pub reserves_same : {n : ℕ} {a b : Plan} → SamePlan n a b → reserves_in a ≡ reserves_in b
reserves_same s = row_same (λ (s : Server). s.reserve) (λ s. refl) s

-- what a plan that is checked has of its set
pub record OfSet (set : TaskSet) (plan : Plan) : Type 0 where
  pub clear : Clear set
  pub slot : plan.slot ≡ set.header.slot
  pub processors : plan.ring + plan.whole ≡ needed set
  pub servers : plan.servers ≡ servers_in (set_placement set)
  pub reserves : reserves_in plan ≡ set_reserves set
  pub caches : caches_in plan ≡ set_caches set
  pub placement : take set.count plan.placement ≡ set_placement set

module _ (set : TaskSet) (full : length set.tasks ≡ most_tasks) (plan : Plan) where
  made_slot : (plan_made set).slot ≡ set.header.slot
  unfolding plan_made plan_with laid_out
  made_slot = refl

  made_count : (plan_made set).servers ≡ length (set_reserves set)
  unfolding plan_made plan_with laid_out set_reserves
  made_count = refl

  made_reserves : reserves_in (plan_made set) ≡ set_reserves set
  unfolding plan_made plan_with set_reserves
  made_reserves = laid_reserves set.header.slot (caches_with set (set_placement set)) (set_placement set) (reserves_with set (set_placement set))

  made_caches : Clear set → caches_in (plan_made set) ≡ set_caches set
  unfolding plan_made plan_with set_caches set_reserves
  made_caches clear =
      laid_caches set.header.slot (caches_with set (set_placement set)) (set_placement set) (reserves_with set (set_placement set))
      (caches_count set (set_placement set) ∙ sym (set_count set full clear))

  made_placement : (plan_made set).placement ≡ padded (set_placement set)
  unfolding plan_made plan_with laid_out
  made_placement = refl

  -- the placement has a server for each task
  pub placement_count : Clear set → length (set_placement set) ≡ set.count
  unfolding set_placement
  placement_count clear = placement_length (set_board set) (set_figures set) ∙ figures_length set (fits set full clear)

  -- the set's own plan has room for all of it
  pub made_room : Clear set → InRoom (plan_made set)
  unfolding plan_made plan_with set_reserves
  made_room clear = record {
    servers = made_servers set full clear;
    processors = omega (arith, made_needs set, needed_few set full clear);
    tasks = λ i h.
        laid_count set.header.slot (caches_with set (set_placement set)) (set_placement set) (reserves_with set (set_placement set))
        (omega (arith, placement_count clear, count_most set full clear)) no_server i (omega (arith, h, made_count));
  }

  module _ (e : makes set plan ≡ true) where
    placeable_set : Placeable set
    placeable_set = (outcome_clear set (makes_done set plan e)).0

    clear_set : Clear set
    clear_set = placeable_set.clear

    -- a checked plan is the set's own in all that is used
    pub same_made : SamePlan set.count plan (plan_made set)
    same_made = agree_same plan (plan_made set) set.count (makes_agrees set plan e)

    -- what it has of its set
    pub of_set : OfSet set plan
    of_set = record {
      clear = clear_set;
      slot = same_made.slot ∙ made_slot;
      processors = ap (λ (n : ℕ). n + plan.whole) same_made.ring ∙ ap (λ (n : ℕ). (plan_made set).ring + n) same_made.whole ∙ made_needs set;
      servers = same_made.servers ∙ made_count ∙ set_count set full clear_set;
      reserves = reserves_same same_made ∙ made_reserves;
      caches = row_same (λ (s : Server). s.cache) (λ s. refl) same_made ∙ made_caches clear_set;
      placement = same_made.placement ∙ ap (take set.count) made_placement ∙ padded_take (set_placement set) set.count (placement_count clear_set);
    }

    -- its reserves are laid
    pub laid_in : length plan.server ≡ most_tasks → SlottedFirst set.header.slot (map (λ (s : Server). s.reserve) plan.server) plan.servers
    unfolding set_placement set_reserves reserves_with
    laid_in room =
        laid_by (set_board set) (set_figures set) (few_figures set full clear_set) (members set full clear_set) (alone set full placeable_set)
        (sound set full clear_set) (slot_below set full clear_set) (map (λ (s : Server). s.reserve) plan.server) plan.servers
        (length-map plan.server _ ∙ room) of_set.servers (take_map (λ (s : Server). s.reserve) plan.servers plan.server ∙ of_set.reserves)

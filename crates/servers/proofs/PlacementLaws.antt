-- Placing grows by one task at a time, and what is placed stays, whatever the step: the laws that the loop over tasks goes by.
use Prim.Native.Nat.{ℕ, ◌+◌, max}
use native.Mathlib.Omega.{arith}
use mathlib.Core.Path.{◌≡◌, sym, ap, subst, ◌∙◌}
use mathlib.Core.List.{List, [], ◌∷◌, ◌++◌, append_assoc, append-nil}
use lib.ListN.{length, length-append}
use Rattle.loads.specs.Figures.{Figures}
use Rattle.demand.proofs.Demand.{each_length}
use Rattle.packing.specs.declared.Fit.{Fit}
use Rattle.packing.specs.Turns.{in_file_order}
use Rattle.packing.proofs.TurnsLaws.{turns_length}
use Rattle.tasks.specs.Set.{rule_number}
use Rattle.members.specs.Server.{Board, server_horizon}
use Rattle.servers.specs.Placement.{servers_in, Step, place_by, join_by, placed_by, placement_by, placement_of}

-- one task more: its server is among those that there are, or is the highest
pub servers_more : (placement : List ℕ) (a : ℕ) → servers_in (placement ++ (a ∷ [])) ≡ max (servers_in placement) a
unfolding servers_in
servers_more [] a = omega arith
servers_more (b ∷ placement) a = omega (arith, servers_more placement a)

-- what holds of no task, and of one task more, holds of every list of tasks
pub by_last : (P : List Figures → Type 0) → P [] → ((ls : List Figures) (l : Figures) → P ls → P (ls ++ (l ∷ []))) → (ls : List Figures) → P ls
by_last P none more ls = go ls [] none
  where
    go : (left done : List Figures) → P done → P (done ++ left)
    go [] done h = subst P (sym (append-nil done)) h
    go (l ∷ left) done h = subst P (append_assoc done (l ∷ []) left) (go left (done ++ (l ∷ [])) (more done l h))

module _ (step : Step) where
  -- all tasks, from none placed on
  abbrev pub placed : List Figures → List ℕ
  placed figures = place_by step [] [] figures

  -- each task that comes adds one server to the list
  from_length : (done : List Figures) (placement : List ℕ) (left : List Figures) → length (place_by step done placement left) ≡ length placement + length left
  unfolding place_by
  from_length done placement [] = omega arith
  from_length done placement (l ∷ left) =
      from_length (done ++ (l ∷ [])) (placement ++ (step done placement l ∷ [])) left ∙
      omega (arith, length-append placement (step done placement l ∷ []))

  -- one task more comes last
  from_more : (done : List Figures) (placement : List ℕ) (left : List Figures) (l : Figures) →
      place_by step done placement (left ++ (l ∷ [])) ≡
      place_by step done placement left ++ (step (done ++ left) (place_by step done placement left) l ∷ [])
  unfolding place_by
  from_more done placement [] l =
      ap (λ (ls : List Figures). placement ++ (step ls placement l ∷ [])) (sym (append-nil done))
  from_more done placement (k ∷ left) l =
      from_more (done ++ (k ∷ [])) (placement ++ (step done placement k ∷ [])) left l ∙
      ap
      (λ (ls : List Figures).
      place_by step (done ++ (k ∷ [])) (placement ++ (step done placement k ∷ [])) left
      ++ (step ls (place_by step (done ++ (k ∷ [])) (placement ++ (step done placement k ∷ [])) left) l ∷ []))
      (append_assoc done (k ∷ []) left)

  -- each task has one server
  pub placed_length : (figures : List Figures) → length (placed figures) ≡ length figures
  placed_length figures = from_length [] [] figures ∙ omega arith

  -- one task more is placed by the step, and what is placed stays
  pub placed_more : (figures : List Figures) (l : Figures) → placed (figures ++ (l ∷ [])) ≡ placed figures ++ (step figures (placed figures) l ∷ [])
  placed_more figures l = from_more [] [] figures l

  -- what a placement of no task has, and keeps with each task, it has
  pub placed_keeps : (P : List Figures → List ℕ → Type 0) → P [] [] →
      ((done : List Figures) (placement : List ℕ) (l : Figures) → P done placement → P (done ++ (l ∷ [])) (placement ++ (step done placement l ∷ []))) →
      (figures : List Figures) → P figures (placed figures)
  unfolding place_by
  placed_keeps P none more =
      by_last (λ (figures : List Figures). P figures (placed figures)) none
      (λ done l held. subst (P (done ++ (l ∷ []))) (sym (placed_more done l)) (more done (placed done) l held))

  -- more tasks only add to the end
  pub placed_grows : (before after : List Figures) → (rest : List ℕ) × (placed (before ++ after) ≡ placed before ++ rest)
  placed_grows before =
      by_last (λ (after : List Figures). (rest : List ℕ) × (placed (before ++ after) ≡ placed before ++ rest))
      ([], ap placed (append-nil before) ∙ sym (append-nil (placed before)))
      more
    where
      more : (ls : List Figures) (l : Figures) → (rest : List ℕ) × (placed (before ++ ls) ≡ placed before ++ rest)
          → (rest : List ℕ) × (placed (before ++ (ls ++ (l ∷ []))) ≡ placed before ++ rest)
      more ls l w =
          let q = step (before ++ ls) (placed (before ++ ls)) l in (
            w.0 ++ (q ∷ []),
            ap placed (sym (append_assoc before ls (l ∷ []))) ∙
                placed_more (before ++ ls) l ∙
                ap (λ (p : List ℕ). p ++ (q ∷ [])) w.1 ∙
                append_assoc (placed before) w.0 (q ∷ []),
          )

-- ---- by a fit

module _ (fit : Fit) (b : Board) (H : ℕ) where
  pub by_fit_length : (tasks : List Figures) → length (placed_by fit b H tasks) ≡ length tasks
  unfolding placed_by
  by_fit_length tasks = placed_length (join_by fit b H) tasks

  pub by_fit_more : (tasks : List Figures) (l : Figures) →
      placed_by fit b H (tasks ++ (l ∷ [])) ≡ placed_by fit b H tasks ++ (join_by fit b H tasks (placed_by fit b H tasks) l ∷ [])
  unfolding placed_by
  by_fit_more tasks l = placed_more (join_by fit b H) tasks l

-- ---- the planner's placement

module _ (b : Board) where
  pub placement_by_length : (rule H : ℕ) (figures : List Figures) → length (placement_by rule b H figures) ≡ length figures
  unfolding placement_by in_file_order
  placement_by_length rule H figures = each_length _ _ ∙ turns_length _ figures

  pub placement_length : (figures : List Figures) → length (placement_of b figures) ≡ length figures
  unfolding placement_of
  placement_length figures = placement_by_length (rule_number b.header) (server_horizon b figures) figures

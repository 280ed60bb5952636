-- The members that a checked plan's own figures name are those of the planner's placement, whatever room the set has.
-- Assumes nothing.
use Prim.Native.Nat.{ℕ, zero, suc, ◌≤◌}
use mathlib.Core.Path.{◌≡◌, refl, ap, ◌∙◌}
use mathlib.Core.Bool.{true}
use mathlib.Core.List.{List, [], ◌∷◌, ◌++◌}
use native.Mathlib.Nat.{min-le_left}
use native.Mathlib.Omega.{arith}
use lib.Dec.{eqb}
use lib.ListN.{length, take, length-map, length-take}
use Rattle.tasks.specs.declared.set.TaskSet.{TaskSet}
use Rattle.tasks.specs.Set.{members}
use Rattle.places.specs.Padded.{padded}
use Rattle.places.specs.Places.{keep, chosen}
use Rattle.loads.specs.Figures.{figures_of}
use Rattle.servers.proofs.PlacementLaws.{placement_length}
use Rattle.setfigures.specs.Figures.{set_figures}
use Rattle.setfigures.specs.Board.{set_board}
use Rattle.plan.specs.declared.plan.Plan.{Plan}
use Rattle.layout.specs.Layout.{laid_out}
use Rattle.layout.specs.Made.{plan_with, set_placement, plan_made}
use Rattle.plancheck.specs.Makes.{makes}
use Rattle.planagree.proofs.AgreeLaws.{agree_same}
use Rattle.plancheck.proofs.Checked.{makes_agrees}
use Rattle.planserver.specs.Members.{server_members}
use Rattle.plan_claims.specs.Claims.{members_in}

-- what stands past the last element has no part in it
chosen_take : {A : Type 0} (xs : List A) (n : ℕ) (placement : List ℕ) (q : ℕ) → length xs ≤ n → chosen xs (take n placement) q ≡ chosen xs placement q
unfolding chosen
chosen_take [] n placement q h = refl
chosen_take (x ∷ xs) zero placement q h = absurd (omega arith)
chosen_take (x ∷ xs) (suc n) [] q h = refl
chosen_take (x ∷ xs) (suc n) (a ∷ placement) q h = ap (keep (eqb a q) x) (chosen_take xs n placement q (omega arith))

chosen_front : {A : Type 0} (xs : List A) (placement more : List ℕ) (q : ℕ) → length placement ≡ length xs → chosen xs (placement ++ more) q ≡ chosen xs placement q
unfolding chosen
chosen_front [] [] more q e = refl
chosen_front [] (a ∷ placement) more q e = absurd (omega arith)
chosen_front (x ∷ xs) [] more q e = absurd (omega arith)
chosen_front (x ∷ xs) (a ∷ placement) more q e = ap (keep (eqb a q) x) (chosen_front xs placement more q (omega arith))

module _ (set : TaskSet) where
  -- no more figures than the set counts tasks
  figures_few : length (set_figures set) ≤ set.count
  unfolding set_figures
  figures_few =
      omega (arith, length-map (members set) (figures_of set.header), length-take set.count set.tasks, min-le_left set.count (length set.tasks))

  made_placement : (plan_made set).placement ≡ padded (set_placement set)
  unfolding plan_made plan_with laid_out
  made_placement = refl

  placement_count : length (set_placement set) ≡ length (set_figures set)
  unfolding set_placement
  placement_count = placement_length (set_board set) (set_figures set)

  -- the members of a server of a checked plan
  pub members_made : (plan : Plan) → makes set plan ≡ true → (q : ℕ) → members_in set plan q ≡ server_members set q
  members_made plan e q =
      ap (λ (p : List ℕ). chosen (set_figures set) p q)
      ((agree_same plan (plan_made set) set.count (makes_agrees set plan e)).placement ∙ ap (take set.count) made_placement)
      ∙ chosen_take (set_figures set) set.count (padded (set_placement set)) q figures_few
      ∙ chosen_front (set_figures set) (set_placement set) _ q placement_count

-- The tasks of a server of a plan are the set's, and their figures are the server's members.
-- Assumes nothing.
use Prim.Native.Nat.{ℕ, suc}
use native.Mathlib.Omega.{arith}
use mathlib.Core.Path.{◌≡◌, refl, ap, ◌∙◌}
use mathlib.Core.Bool.{Bool, true, false}
use mathlib.Core.List.{List, [], ◌∷◌, map}
use lib.Dec.{eqb}
use Rattle.demand.specs.Load.{Every}
use Rattle.tasks.specs.declared.set.Task.{Task}
use Rattle.tasks.specs.declared.set.TaskSet.{TaskSet}
use Rattle.tasks.specs.Set.{members}
use Rattle.places.specs.Places.{keep, chosen}
use Rattle.loads.specs.Figures.{figures_of}
use Rattle.setfigures.specs.Figures.{set_figures}
use Rattle.plan.specs.declared.plan.Plan.{Plan}
use Rattle.plan_claims.specs.Claims.{members_in}
use Rattle.easing.specs.Eased.{figures_in, Among}
use Rattle.easing_claims.specs.Claims.{tasks_in}

-- what is chosen of a list, and then something of each
chosen_map : {A B : Type 0} (f : A → B) (xs : List A) (placement : List ℕ) (q : ℕ) → map f (chosen xs placement q) ≡ chosen (map f xs) placement q
unfolding chosen
chosen_map f [] placement q = refl
chosen_map f (x ∷ xs) [] q = refl
chosen_map f (x ∷ xs) (a ∷ placement) q = kept (eqb a q) ∙ ap (keep (eqb a q) (f x)) (chosen_map f xs placement q)
  where
    kept : (b : Bool) → map f (keep b x (chosen xs placement q)) ≡ keep b (f x) (map f (chosen xs placement q))
    kept true = refl
    kept false = refl

pub tasks_figures : (set : TaskSet) (plan : Plan) (q : ℕ) → figures_in set (tasks_in set plan q) ≡ members_in set plan q
unfolding set_figures
tasks_figures set plan q = chosen_map (figures_of set.header) (members set) _ q

-- what is chosen of a list is among it
chosen_among : (ts : List Task) (placement : List ℕ) (q : ℕ) → Every (Among ts) (chosen ts placement q)
unfolding chosen
chosen_among [] placement q = tt
chosen_among (t ∷ ts) [] q = tt
chosen_among (t ∷ ts) (a ∷ placement) q = kept (eqb a q) (further (chosen ts placement q) (chosen_among ts placement q))
  where
    further : (us : List Task) → Every (Among ts) us → Every (Among (t ∷ ts)) us
    further [] e = tt
    further (u ∷ us) e = ((suc e.0.0, omega (arith, e.0.1), e.0.2), further us e.1)

    kept : (b : Bool) → Every (Among (t ∷ ts)) (chosen ts placement q) → Every (Among (t ∷ ts)) (keep b t (chosen ts placement q))
    kept true rest = ((0, omega arith, refl), rest)
    kept false rest = rest

pub tasks_among_lem : (set : TaskSet) (plan : Plan) (q : ℕ) → Every (Among (members set)) (tasks_in set plan q)
tasks_among_lem set plan q = chosen_among (members set) _ q

-- What is placed in the tasks' turns, taken back into file order: each server has the same tasks, each task the same server.
-- Assumes nothing.
use Prim.Native.Nat.{ℕ, ◌<◌}
use native.Mathlib.Omega.{arith}
use mathlib.Core.Path.{◌≡◌, refl, sym, ap, ap₂, ◌∙◌}
use mathlib.Core.Bool.{Bool, true, false}
use mathlib.Core.List.{List, [], ◌∷◌, map}
use lib.Dec.{eqb}
use lib.ListN.{length, get_or}
use Rattle.laws.proofs.Choices.{cond_eqb, cond_eqb_not}
use Rattle.demand.specs.Load.{Every, each}
use Rattle.demand.proofs.Demand.{each_length}
use Rattle.places.specs.Places.{keep, chosen}
use Rattle.loads.specs.Figures.{Figures}
use Rattle.packing.specs.declared.Order.{Order}
use Rattle.packing.specs.declared.Order.TheVariants.{File}
use Rattle.packing.specs.Turns.{task_at, turns_of, in_turn, server_at, in_file_order}
use Rattle.packing.proofs.PermutedLaws.{Permuted, none, head, swap, onward, permuted_same, permuted_back, permuted_equal, permuted_map}
use Rattle.packing.proofs.EachLaws.{all_places, each_map, each_at, each_read, map_agree, every_there, map_there}
use Rattle.packing.proofs.TurnsLaws.{Distinct, turns_permuted, turns_length, turns_below, turns_distinct, turns_file}

-- ---- what belongs to one server

module _ {A : Type 0} where
  -- kept or left out at the front
  keep_permuted : (b : Bool) (x : A) {xs ys : List A} → Permuted xs ys → Permuted (keep b x xs) (keep b x ys)
  keep_permuted true x p = head p
  keep_permuted false x p = p

  -- two kept or left out in either order
  keep_swap : (b c : Bool) (x y : A) (xs : List A) → Permuted (keep b x (keep c y xs)) (keep c y (keep b x xs))
  keep_swap true true x y xs = swap
  keep_swap true false x y xs = permuted_same (x ∷ xs)
  keep_swap false c x y xs = permuted_same (keep c y xs)

  -- what each place has and its server: a server has the same, whatever the order of the places
  pub chosen_permuted : (f : ℕ → A) (s : ℕ → ℕ) (q : ℕ) {is js : List ℕ} → Permuted is js →
      Permuted (chosen (map f is) (map s is) q) (chosen (map f js) (map s js) q)
  unfolding chosen
  chosen_permuted f s q none = none
  chosen_permuted f s q (head {x} p) = keep_permuted (eqb (s x) q) (f x) (chosen_permuted f s q p)
  chosen_permuted f s q (swap {x} {y} {xs}) = keep_swap (eqb (s x) q) (eqb (s y) q) (f x) (f y) (chosen (map f xs) (map s xs) q)
  chosen_permuted f s q (onward p r) = onward (chosen_permuted f s q p) (chosen_permuted f s q r)

-- ---- the server of each place

-- the first turn's place has the first server
server_first : (p : ℕ) (ts : List ℕ) (a : ℕ) (placement : List ℕ) → server_at (p ∷ ts) (a ∷ placement) p ≡ a
unfolding server_at
server_first p ts a placement = cond_eqb {a = p} a (server_at ts placement p) refl

-- other places go by the other turns
server_rest : (p : ℕ) (ts : List ℕ) (a : ℕ) (placement is : List ℕ) → Every (λ (i : ℕ). p ≡ i → ⊥) is →
    Every (λ (i : ℕ). server_at (p ∷ ts) (a ∷ placement) i ≡ server_at ts placement i) is
unfolding server_at
server_rest p ts a placement [] e = tt
server_rest p ts a placement (i ∷ is) e =
    (cond_eqb_not a (server_at ts placement i) e.0, server_rest p ts a placement is e.1)

-- so the turns' places have the servers in the order of the turns
pub servers_turned : (turns placement : List ℕ) → Distinct turns → length placement ≡ length turns →
    map (server_at turns placement) turns ≡ placement
servers_turned [] [] d e = refl
servers_turned [] (a ∷ placement) d e = absurd (omega arith)
servers_turned (p ∷ ts) [] d e = absurd (omega arith)
servers_turned (p ∷ ts) (a ∷ placement) d e =
    ap₂ ◌∷◌ (server_first p ts a placement)
    (map_agree (server_at (p ∷ ts) (a ∷ placement)) (server_at ts placement) ts (server_rest p ts a placement ts d.0) ∙
    servers_turned ts placement d.1 (omega arith))

-- ---- the tasks and a placement, in turn and in file order

-- the tasks are those at each place
tasks_read : (figures : List Figures) → map (task_at figures) (all_places (length figures)) ≡ figures
tasks_read figures =
    sym (each_map (task_at figures) (length figures)) ∙ each_read (record { cost = 0; deadline = 0; period = 0; cache = 0 }) figures

module _ (order : Order) (figures : List Figures) where
  -- the tasks in their turns are the file's
  pub tasks_permuted : Permuted (in_turn (turns_of order figures) figures) figures
  tasks_permuted =
      onward (permuted_back (permuted_map (task_at figures) (turns_permuted order figures))) (permuted_equal (tasks_read figures))

  module _ (placement : List ℕ) (many : length placement ≡ length figures) where
    -- in turn
    turned : map (server_at (turns_of order figures) placement) (turns_of order figures) ≡ placement
    turned = servers_turned (turns_of order figures) placement (turns_distinct order figures) (many ∙ sym (turns_length order figures))

    -- in file order
    filed : in_file_order (turns_of order figures) placement ≡ map (server_at (turns_of order figures) placement) (all_places (length figures))
    unfolding in_file_order
    filed =
        ap (each (server_at (turns_of order figures) placement)) (turns_length order figures) ∙
        each_map (server_at (turns_of order figures) placement) (length figures)

    -- each task has a server
    pub file_length : length (in_file_order (turns_of order figures) placement) ≡ length figures
    unfolding in_file_order
    file_length = each_length (server_at (turns_of order figures) placement) (length (turns_of order figures)) ∙ turns_length order figures

    -- the servers are the same
    pub placement_turned : Permuted placement (in_file_order (turns_of order figures) placement)
    placement_turned =
        onward (permuted_equal (sym turned))
        (onward (permuted_back (permuted_map (server_at (turns_of order figures) placement) (turns_permuted order figures))) (permuted_equal (sym filed)))

    -- each has the same tasks
    pub chosen_turned : (q : ℕ) →
        Permuted (chosen (in_turn (turns_of order figures) figures) placement q) (chosen figures (in_file_order (turns_of order figures) placement) q)
    chosen_turned q =
        onward
        (permuted_equal (ap (λ (p : List ℕ). chosen (in_turn (turns_of order figures) figures) p q) (sym turned)))
        (onward
        (permuted_back (chosen_permuted (task_at figures) (server_at (turns_of order figures) placement) q (turns_permuted order figures)))
        (permuted_equal (ap₂ (λ (fs : List Figures) (p : List ℕ). chosen fs p q) (tasks_read figures) (sym filed))))

    -- each task has the server of its turn
    pub server_turned : (j : ℕ) → j < length figures →
        get_or (in_file_order (turns_of order figures) placement) (get_or (turns_of order figures) j 0) 0 ≡ get_or placement j 0
    unfolding in_file_order
    server_turned j h =
        let turns = turns_of order figures in
        let there : j < length turns = omega (arith, turns_length order figures) in
        let below : get_or turns j 0 < length turns =
        omega (arith, turns_length order figures, every_there (λ (i : ℕ). i < length figures) 0 turns j there (turns_below order figures)) in
        each_at (server_at turns placement) 0 (length turns) (get_or turns j 0) below ∙
        sym (map_there (server_at turns placement) 0 0 turns j there) ∙ ap (λ (p : List ℕ). get_or p j 0) turned

-- ---- file order changes nothing

pub in_turn_file : (figures : List Figures) → in_turn (turns_of File figures) figures ≡ figures
in_turn_file figures = ap (map (task_at figures)) (turns_file figures) ∙ tasks_read figures

pub in_file_file : (figures : List Figures) (placement : List ℕ) → length placement ≡ length figures →
    in_file_order (turns_of File figures) placement ≡ placement
in_file_file figures placement e =
    filed File figures placement e ∙ ap (map (server_at (turns_of File figures) placement)) (sym (turns_file figures)) ∙
    turned File figures placement e

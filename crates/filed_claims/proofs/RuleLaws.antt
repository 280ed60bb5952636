-- Each task where the rule puts it, in a row of servers that begins with the placement of a rule: in its turn, and by first fit in file
-- order.
-- Assumes nothing.
use Prim.Native.Nat.{ℕ, suc, ◌<◌}
use mathlib.Core.Path.{◌≡◌, sym, ap, subst, subst₂, ◌∙◌}
use mathlib.Core.Logic.{◌⊎◌}
use mathlib.Core.List.{List, [], ◌∷◌, ◌++◌, map}
use native.Mathlib.Omega.{arith}
use lib.ListN.{length, get_or, take, drop, length-map}
use lib.Seq.{split_at, length-take-le, take-take, get_or-take}
use Rattle.demand.specs.Load.{Every}
use Rattle.loads.specs.Charge.{Member}
use Rattle.loads.specs.Figures.{Figures}
use Rattle.packing.specs.declared.Fit.{Fit}
use Rattle.packing.specs.declared.Fit.TheVariants.{First}
use Rattle.packing.specs.Rules.{order_of, fit_of}
use Rattle.packing.specs.Turns.{task_at, turns_of, in_turn, server_at, in_file_order}
use Rattle.packing.proofs.EachLaws.{each_at, map_agree, map_there}
use Rattle.packing.proofs.TurnsLaws.{turns_length, turns_below, turns_distinct}
use Rattle.packing.proofs.TurnedLaws as turned
use Rattle.plan.proofs.RecordLaws.{take_map}
use Rattle.members.specs.Server.{Board, SoundBoard}
use Rattle.servers.specs.Placement.{placed_by, placement_by}
use Rattle.servers.specs.Claims.{Named, Opened}
use Rattle.servers.proofs.Claims.{by_fit, first_in_file}
use Rattle.servers.proofs.PlacementLaws.{by_fit_length}
use Rattle.servers.proofs.TurnedLaws.{every_turned, in_turn_length}

-- the task goes to the server that the fit names, or to a new one
abbrev pub Goes : Fit → Board → (H : ℕ) → (done : List Figures) → (placement : List ℕ) → Figures → (q : ℕ) → Type 0
Goes fit b H done placement f q = Named fit b H done placement f q ⊎ Opened b done placement f q

-- what holds of every entry, and gives another
every_gives : {A : Type 0} (P Q : A → Type 0) (xs : List A) → ((x : A) → P x → Q x) → Every P xs → Every Q xs
every_gives P Q [] gives e = tt
every_gives P Q (x ∷ xs) gives e = (gives x e.0, every_gives P Q xs gives e.1)

-- ---- tasks in the order in which they come

module _ (fit : Fit) (b : Board) (H : ℕ) (tasks : List Figures) (sound : SoundBoard b) (members : Every (Member b.header) tasks) (n : ℕ) (d : Figures)
    (there : n < length tasks) where
  parts : tasks ≡ take n tasks ++ (get_or tasks n d ∷ drop (suc n) tasks)
  parts = split_at tasks n d there

  long : length (take n tasks) ≡ n
  long = length-take-le n tasks (omega arith)

  -- task n, from 0, beside those before it
  nth_goes : Goes fit b H (take n tasks) (take n (placed_by fit b H tasks)) (get_or tasks n d) (get_or (placed_by fit b H tasks) n 0)
  nth_goes =
      let w = by_fit fit b H (take n tasks) (get_or tasks n d) (drop (suc n) tasks) sound (subst (Every (Member b.header)) parts members) in
      let all = placed_by fit b H (take n tasks ++ (get_or tasks n d ∷ drop (suc n) tasks)) in
      let whole : placed_by fit b H tasks ≡ all = ap (placed_by fit b H) parts in
      let front : take n (placed_by fit b H tasks) ≡ placed_by fit b H (take n tasks) = ap (take n) whole ∙ ap (λ (m : ℕ). take m all) (sym long) ∙ w.0 in
      let here : get_or (placed_by fit b H tasks) n 0 ≡ get_or all (length (take n tasks)) 0 =
      ap (λ (l : List ℕ). get_or l n 0) whole ∙ ap (λ (m : ℕ). get_or all m 0) (sym long) in
      subst₂ (λ (p : List ℕ) (q : ℕ). Goes fit b H (take n tasks) p (get_or tasks n d) q) (sym front) (sym here) w.1

-- ---- a row of servers, in file order

module _ (rule : ℕ) (b : Board) (H : ℕ) (figures : List Figures) (sound : SoundBoard b) (members : Every (Member b.header) figures)
    (row : List ℕ) (count : ℕ) (many : length figures ≡ count) where
  abbrev turns : List ℕ
  turns = turns_of (order_of rule) figures

  abbrev tasks : List Figures
  tasks = in_turn turns figures

  abbrev servers : List ℕ
  servers = placed_by (fit_of rule) b H tasks

  module _ (same : take count row ≡ placement_by rule b H figures) where
    -- a task's server is that of its turn
    of_turn : (i : ℕ) → i < length figures → get_or row i 0 ≡ server_at turns servers i
    unfolding placement_by in_file_order
    of_turn i below =
        sym (get_or-take count row i 0 (omega arith)) ∙ ap (λ (l : List ℕ). get_or l i 0) same ∙
        each_at (server_at turns servers) 0 (length turns) i (omega (arith, turns_length (order_of rule) figures))

    -- the servers in turn
    row_turned : map (λ (i : ℕ). get_or row i 0) turns ≡ servers
    row_turned =
        map_agree (λ (i : ℕ). get_or row i 0) (server_at turns servers) turns
        (every_gives (λ (i : ℕ). i < length figures) (λ (i : ℕ). get_or row i 0 ≡ server_at turns servers i) turns of_turn (turns_below (order_of rule) figures)) ∙
        turned.servers_turned turns servers (turns_distinct (order_of rule) figures) (by_fit_length (fit_of rule) b H tasks ∙ length-map turns _)

    -- the task of turn j
    pub turn_goes : (j : ℕ) → j < length figures →
        Goes (fit_of rule) b H (in_turn (take j turns) figures) (map (λ (i : ℕ). get_or row i 0) (take j turns)) (task_at figures (get_or turns j 0)) (get_or row (get_or turns j 0) 0)
    turn_goes j there =
        let none : Figures = task_at figures 0 in
        let below : j < length turns = omega (arith, turns_length (order_of rule) figures) in
        let before : take j tasks ≡ in_turn (take j turns) figures = take_map (task_at figures) j turns in
        let placed : take j servers ≡ map (λ (i : ℕ). get_or row i 0) (take j turns) = ap (take j) (sym row_turned) ∙ take_map (λ (i : ℕ). get_or row i 0) j turns in
        let task : get_or tasks j none ≡ task_at figures (get_or turns j 0) = map_there (task_at figures) 0 none turns j below in
        let server : get_or servers j 0 ≡ get_or row (get_or turns j 0) 0 =
        ap (λ (l : List ℕ). get_or l j 0) (sym row_turned) ∙ map_there (λ (i : ℕ). get_or row i 0) 0 0 turns j below in
        subst₂ (λ (p : List ℕ) (q : ℕ). Goes (fit_of rule) b H (in_turn (take j turns) figures) p (task_at figures (get_or turns j 0)) q) placed server
        (subst₂ (λ (done : List Figures) (f : Figures). Goes (fit_of rule) b H done (take j servers) f (get_or servers j 0)) before task
        (nth_goes (fit_of rule) b H tasks sound (every_turned (order_of rule) figures (Member b.header) members) j none (omega (arith, in_turn_length (order_of rule) figures))))

-- ---- first fit in file order

module _ (b : Board) (H : ℕ) (figures : List Figures) (sound : SoundBoard b) (members : Every (Member b.header) figures) (row : List ℕ) (count : ℕ) where
  -- task n, from 0
  pub first_goes : take count row ≡ placement_by 0 b H figures → (n : ℕ) (d : Figures) → n < length figures → n < count →
      Goes First b H (take n figures) (take n row) (get_or figures n d) (get_or row n 0)
  first_goes same n d there within =
      let whole : take count row ≡ placed_by First b H figures = same ∙ first_in_file b H figures in
      subst₂ (λ (p : List ℕ) (q : ℕ). Goes First b H (take n figures) p (get_or figures n d) q)
      (ap (take n) (sym whole) ∙ take-take n count row (omega arith))
      (ap (λ (l : List ℕ). get_or l n 0) (sym whole) ∙ get_or-take count row n 0 within)
      (nth_goes First b H figures sound members n d there)

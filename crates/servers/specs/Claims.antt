-- What is claimed of placing, each claim as a type. The proofs stand under the same names in proofs/Claims.antt.
-- Document 01, "From tasks to servers to ring", rule 1 (RULES 3.1); document 02, Req 05.
use Rattle.std.specs.Prelude.{ℕ, suc, ◌≤◌, ◌≡◌, ◌⊎◌, true, List, [], ◌∷◌, ◌++◌, length, get_or, take}
use Rattle.std.specs.Int.{◌∣◌}
use Rattle.demand.specs.Load.{Every}
use Rattle.loads.specs.Figures.{Figures}
use Rattle.places.specs.Places.{chosen}
use Rattle.loads.specs.Charge.{Member}
use Rattle.members.specs.Server.{Board, SoundBoard, fits}
use Rattle.packing.specs.declared.Fit.{Fit}
use Rattle.packing.specs.declared.Fit.TheVariants.{First}
use Rattle.servers.specs.Placement.{servers_in, Step, place_by, room_in, placed_by, placement_by, placement_of}
use Rattle.joining.specs.Join.{FitRule, join, Picks}
use Rattle.joining.specs.Fits.{fit_by, Rather}
use Rattle.taking.specs.Takes.{takes}
use Rattle.servers.specs.Fitting.{PassesWhole, Fitting}

-- ---- one step, whatever the rule

-- q is a server that takes the task, or a new one
abbrev pub TakesOrNew : Board → (done : List Figures) → (placement : List ℕ) → Figures → (q : ℕ) → Type 0
TakesOrNew b done placement l q =
    ((1 ≤ q) × (q ≤ servers_in placement) × (takes b done placement l q ≡ true)) ⊎ (q ≡ suc (servers_in placement))

-- a step that always answers such a server
abbrev pub TakesOrOpens : Board → Step → Type 0
TakesOrOpens b step = (done : List Figures) (placement : List ℕ) (l : Figures) → TakesOrNew b done placement l (step done placement l)

-- Every fit picks candidates, whatever the rooms.
abbrev pub FitsPick : Type 0
FitsPick = (fit : Fit) (room : ℕ → ℕ) → Picks (fit_by fit room)

-- Joining by any rules that pick candidates, above any lower end, takes the task or opens a server.
abbrev pub JoinTakesOrOpens : Type 0
JoinTakesOrOpens =
    (b : Board) (rule : (done : List Figures) → (placement : List ℕ) → FitRule) (lo : Step) →
    ((done : List Figures) (placement : List ℕ) → Picks (rule done placement)) →
    TakesOrOpens b (λ done placement l. join (rule done placement) (takes b done placement l) (lo done placement l) (servers_in placement))

-- A fitting placement stays one with a task more, in a server that takes it or in a new one, where the task fits alone.
abbrev pub OneMoreFits : Type 0
OneMoreFits =
    (b : Board) (done : List Figures) (placement : List ℕ) (l : Figures) (q : ℕ) → SoundBoard b → Every (Member b.header) (done ++ (l ∷ [])) →
    fits b (l ∷ []) ≡ true → Fitting b done placement → TakesOrNew b done placement l q →
    Fitting b (done ++ (l ∷ [])) (placement ++ (q ∷ []))

-- ---- all tasks, by any rule

-- the tasks each fit alone
abbrev pub FitAlone : Board → List Figures → Type 0
FitAlone b figures = Every (λ (l : Figures). fits b (l ∷ []) ≡ true) figures

-- Tasks that fit alone, placed by any step that takes or opens, are fittingly placed.
abbrev pub PlacedFits : Type 0
PlacedFits =
    (b : Board) (step : Step) (figures : List Figures) → SoundBoard b → Every (Member b.header) figures → FitAlone b figures → TakesOrOpens b step →
    Fitting b figures (place_by step [] [] figures)

-- So are they by each of the rules, in whatever order it takes them, with rooms in any H.
abbrev pub RuleFits : Type 0
RuleFits =
    (rule : ℕ) (b : Board) (H : ℕ) (figures : List Figures) → SoundBoard b → Every (Member b.header) figures → FitAlone b figures →
    Fitting b figures (placement_by rule b H figures)

-- So is the planner's placement.
abbrev pub PlannerFits : Type 0
PlannerFits =
    (b : Board) (figures : List Figures) → SoundBoard b → Every (Member b.header) figures → FitAlone b figures →
    Fitting b figures (placement_of b figures)

-- In a placement that fits each task fits alone: one that does not, on a board with interrupts, fits in no server.
abbrev pub AloneNowhere : Type 0
AloneNowhere =
    (b : Board) (figures : List Figures) (placement : List ℕ) → SoundBoard b → Every (Member b.header) figures → Fitting b figures placement →
    FitAlone b figures

-- server q, with a task more, passes with R = S
abbrev pub PassesWith : Board → (done : List Figures) → (placement : List ℕ) → Figures → (q : ℕ) → Type 0
PassesWith b done placement l q = PassesWhole b (chosen done placement q ++ (l ∷ []))

-- q passes with the task, and of all servers that do it is the one that the fit names, by the rooms that they have before the task joins
pub record Named (fit : Fit) (b : Board) (H : ℕ) (done : List Figures) (placement : List ℕ) (l : Figures) (q : ℕ) : Type 0 where
  pub first : 1 ≤ q
  pub there : q ≤ servers_in placement
  pub passes : PassesWith b done placement l q
  pub rather : (x : ℕ) → 1 ≤ x → x ≤ servers_in placement → PassesWith b done placement l x → Rather fit (room_in b H done placement) q x

-- q is a new server, since none passes with the task
pub record Opened (b : Board) (done : List Figures) (placement : List ℕ) (l : Figures) (q : ℕ) : Type 0 where
  pub new : q ≡ suc (servers_in placement)
  pub none : (x : ℕ) → 1 ≤ x → x ≤ servers_in placement → PassesWith b done placement l x → ⊥

-- Each task goes to the server that the fit names of those that pass with it when it comes; otherwise to a new one.
-- Those before it are placed as if it and those after it never came.
abbrev pub ByFit : Type 0
ByFit =
    (fit : Fit) (b : Board) (H : ℕ) (before : List Figures) (l : Figures) (after : List Figures) → SoundBoard b →
    Every (Member b.header) (before ++ (l ∷ after))
    → let all = placed_by fit b H (before ++ (l ∷ after)) in
    let q = get_or all (length before) 0 in
    (take (length before) all ≡ placed_by fit b H before)
    × (Named fit b H before (placed_by fit b H before) l q ⊎ Opened b before (placed_by fit b H before) l q)

-- Rooms in any common multiple of the tasks' periods give the same placement.
abbrev pub AnyMultiple : Type 0
AnyMultiple =
    (rule : ℕ) (b : Board) (H K : ℕ) (figures : List Figures) → 1 ≤ H → 1 ≤ K → Every (λ (f : Figures). f.period ∣ H) figures →
    Every (λ (f : Figures). f.period ∣ K) figures → placement_by rule b H figures ≡ placement_by rule b K figures

-- Rule 0 is first fit over the tasks as they stand in the file.
abbrev pub FirstInFile : Type 0
FirstInFile = (b : Board) (H : ℕ) (figures : List Figures) → placement_by 0 b H figures ≡ placed_by First b H figures

-- The claims of specs/Claims.antt, proved.
use Prim.Native.Nat.{ℕ, suc, ◌≤◌, ◌∣◌}
use native.Mathlib.Omega.{arith}
use mathlib.Core.Path.{◌≡◌, sym, ap, subst, ◌∙◌}
use mathlib.Core.Logic.{◌⊎◌, inl, inr, ⊎_elim}
use mathlib.Core.Bool.{true}
use mathlib.Core.List.{List, [], ◌∷◌, ◌++◌, append_assoc}
use lib.ListN.{length, get_or, take}
use lib.Seq.{take_at, get_or_at, append_snoc}
use Rattle.laws.proofs.Tests.{true_false}
use Rattle.demand.specs.Load.{Every}
use Rattle.loads.specs.Figures.{Figures}
use Rattle.demand.proofs.Demand.{every_front, every_last}
use Rattle.search.specs.Search.{NoneIn}
use Rattle.places.specs.Places.{chosen}
use Rattle.loads.specs.Charge.{Member}
use Rattle.members.specs.Server.{Board, SoundBoard, server_horizon, fits}
use Rattle.tasks.specs.Set.{rule_number}
use Rattle.packing.specs.declared.Fit.{Fit}
use Rattle.packing.specs.declared.Fit.TheVariants.{First}
use Rattle.packing.specs.declared.Order.TheVariants.{File}
use Rattle.packing.specs.Rules.{order_of, fit_of}
use Rattle.packing.specs.Turns.{turns_of, in_turn, in_file_order}
use Rattle.packing.proofs.TurnedLaws.{in_turn_file, in_file_file}
use Rattle.servers.specs.Placement.{servers_in, Step, room_in, join_by, placed_by, placement_by, placement_of}
use Rattle.joining.specs.Join.{join}
use Rattle.joining.specs.Fits.{fit_by}
use Rattle.taking.specs.Takes.{takes}
use Rattle.servers.specs.Fitting.{PassesWhole, Fitting}
use Rattle.servers.specs.Claims.{TakesOrOpens, FitAlone, FitsPick, JoinTakesOrOpens, OneMoreFits, PlacedFits, RuleFits, PlannerFits, AloneNowhere, PassesWith, Named, Opened, ByFit, AnyMultiple, FirstInFile}
use Rattle.members.proofs.ServerLaws.{fits_passes, passes_fits}
use Rattle.members.proofs.FiledLaws.{every_chosen}
use Rattle.servers.proofs.PlacementLaws.{placed, placed_length, placed_more, placed_keeps, placed_grows}
use Rattle.joining.proofs.JoinLaws.{join_view}
use Rattle.joining.proofs.FitLaws as fits
use Rattle.joining.proofs.FitLaws.{Fitted, join_fit_view}
use Rattle.servers.proofs.FittingLaws.{in_range, fitting_none, few_more, fitting_more}
use Rattle.servers.proofs.AloneLaws.{every_zip, every_by_server, alone_passes}
use Rattle.taking.proofs.ChargedLaws.{every_with}
use Rattle.servers.proofs.RoomLaws.{rooms_same}
use Rattle.servers.proofs.TurnedLaws.{every_turned, in_turn_length, turned_even, servers_turned, fitting_turned}

-- ---- one step, whatever the rule

pub fits_pick : FitsPick
fits_pick fit room = fits.fits_pick fit room

pub join_takes_or_opens : JoinTakesOrOpens
join_takes_or_opens b rule lo picks done placement l =
    ⊎_elim inr (λ w. inl (omega (arith, w.0), w.1, w.2))
    (join_view (rule done placement) (takes b done placement l) (lo done placement l) (servers_in placement) (picks done placement))

pub one_more_fits : OneMoreFits
one_more_fits b done placement l q sound members alone = fitting_more b done placement l q sound members alone

-- ---- all tasks, by any rule

-- what holds of every load of two lists holds of the first
every_part : (P : Figures → Type 0) (ls ks : List Figures) → Every P (ls ++ ks) → Every P ls
every_part P [] ks e = tt
every_part P (l ∷ ls) ks e = (e.0, every_part P ls ks e.1)

pub placed_fits : PlacedFits
placed_fits b step figures sound members alone opens =
    placed_keeps step
    (λ (done : List Figures) (placement : List ℕ). Every (Member b.header) done → FitAlone b done → Fitting b done placement)
    (λ ms alones. fitting_none b)
    (λ done placement l held ms alones.
    one_more_fits b done placement l (step done placement l) sound ms (every_last (λ (k : Figures). fits b (k ∷ []) ≡ true) done l alones)
    (held (every_front (Member b.header) done l ms) (every_front (λ (k : Figures). fits b (k ∷ []) ≡ true) done l alones)) (opens done placement l))
    figures members alone

-- the step of a fit takes the task or opens a server
pub fit_takes_or_opens : (fit : Fit) (b : Board) (H : ℕ) → TakesOrOpens b (join_by fit b H)
unfolding join_by
fit_takes_or_opens fit b H =
    join_takes_or_opens b (λ done placement. fit_by fit (room_in b H done placement)) _ (λ done placement. fits_pick fit (room_in b H done placement))

by_fit_fits : (fit : Fit) (b : Board) (H : ℕ) (tasks : List Figures) → SoundBoard b → Every (Member b.header) tasks → FitAlone b tasks →
    Fitting b tasks (placed_by fit b H tasks)
unfolding placed_by
by_fit_fits fit b H tasks sound members alone = placed_fits b (join_by fit b H) tasks sound members alone (fit_takes_or_opens fit b H)

pub rule_fits : RuleFits
unfolding placement_by
rule_fits rule b H figures sound members alone =
    let order = order_of rule in
    let tasks = in_turn (turns_of order figures) figures in
    fitting_turned order figures (placed_by (fit_of rule) b H tasks) (turned_even order figures (fit_of rule) b H) b
    (by_fit_fits (fit_of rule) b H tasks sound (every_turned order figures (Member b.header) members)
    (every_turned order figures (λ (l : Figures). fits b (l ∷ []) ≡ true) alone))

pub planner_fits : PlannerFits
unfolding placement_of
planner_fits b figures = rule_fits (rule_number b.header) b (server_horizon b figures) figures

pub alone_nowhere : AloneNowhere
alone_nowhere b figures placement sound members w =
    every_by_server (λ (l : Figures). fits b (l ∷ []) ≡ true) figures placement (servers_in placement) w.parted.one_each w.parted.there
    (λ q first there.
    let own = chosen figures placement q in
    every_zip (Member b.header) (λ (l : Figures). PassesWhole b (l ∷ [])) (λ (l : Figures). fits b (l ∷ []) ≡ true) own
    (λ l member passes. passes_fits b (l ∷ []) (member, tt) sound passes)
    (every_chosen (Member b.header) figures placement q members) (alone_passes b own (w.passes q first there)))

-- there are never more servers than tasks
pub by_fit_few : (fit : Fit) (b : Board) (H : ℕ) (tasks : List Figures) → servers_in (placed_by fit b H tasks) ≤ length tasks
unfolding placed_by servers_in
by_fit_few fit b H tasks =
    let step = join_by fit b H in
    omega (
      arith,
      placed_length step tasks,
      placed_keeps step (λ (done : List Figures) (placement : List ℕ). servers_in placement ≤ length placement) (omega arith)
          (λ done placement l few. few_more placement (step done placement l) (in_range b done placement l (step done placement l) (fit_takes_or_opens fit b H done placement l)) few) tasks,
    )

pub rule_few : (rule : ℕ) (b : Board) (H : ℕ) (figures : List Figures) → servers_in (placement_by rule b H figures) ≤ length figures
unfolding placement_by
rule_few rule b H figures =
    let order = order_of rule in
    let tasks = in_turn (turns_of order figures) figures in
    omega (
      arith,
      servers_turned order figures (placed_by (fit_of rule) b H tasks) (turned_even order figures (fit_of rule) b H),
      by_fit_few (fit_of rule) b H tasks,
      in_turn_length order figures,
    )

pub servers_few : (b : Board) (figures : List Figures) → servers_in (placement_of b figures) ≤ length figures
unfolding placement_of
servers_few b figures = rule_few (rule_number b.header) b (server_horizon b figures) figures

-- what a fit means over all lengths
module _ (fit : Fit) (b : Board) (H : ℕ) (done : List Figures) (placement : List ℕ) (l : Figures) (sound : SoundBoard b) (members : Every (Member b.header) (done ++ (l ∷ []))) where
  -- that a server takes the task, or does not, says whether it passes with it
  takes_passes : (q : ℕ) → takes b done placement l q ≡ true → PassesWith b done placement l q
  unfolding takes
  takes_passes q t = fits_passes b (chosen done placement q ++ (l ∷ [])) (every_with (Member b.header) done placement l members q) sound t

  passes_takes : (q : ℕ) → PassesWith b done placement l q → takes b done placement l q ≡ true
  unfolding takes
  passes_takes q p = passes_fits b (chosen done placement q ++ (l ∷ [])) (every_with (Member b.header) done placement l members q) sound p

  -- the rule in those words
  pub fit_means : Named fit b H done placement l (join_by fit b H done placement l) ⊎ Opened b done placement l (join_by fit b H done placement l)
  unfolding join_by
  fit_means = ⊎_elim (λ w. inr (opened w)) (λ w. inl (named w)) (join_fit_view fit room (takes b done placement l) 0 (servers_in placement))
    where
      room : ℕ → ℕ
      room = room_in b H done placement

      q : ℕ
      q = join (fit_by fit room) (takes b done placement l) 0 (servers_in placement)

      opened : (q ≡ suc (servers_in placement)) × NoneIn (takes b done placement l) 0 (servers_in placement) → Opened b done placement l q
      opened w = record { new = w.0; none = λ x first there passes. true_false (sym (passes_takes x passes) ∙ w.1 x first there) }

      named : Fitted fit room (takes b done placement l) 0 (servers_in placement) q → Named fit b H done placement l q
      named w =
          record {
            first = w.above;
            there = w.within;
            passes = takes_passes q w.has;
            rather = λ x first there passes. w.rather x first there (passes_takes x passes);
          }

pub by_fit : ByFit
unfolding placed_by
by_fit fit b H before l after sound members = (
  ap (take (length before)) split ∙ take_at p (q ∷ rest) (length before) (placed_length step before),
  subst (λ (x : ℕ). Named fit b H before p l x ⊎ Opened b before p l x)
      (sym (ap (λ (all : List ℕ). get_or all (length before) 0) split ∙ get_or_at p q rest 0 (length before) (placed_length step before)))
      (fit_means fit b H before p l sound (every_part (Member b.header) (before ++ (l ∷ [])) after (subst (Every (Member b.header)) (sym parts) members))),
)
  where
    step : Step
    step = join_by fit b H

    p : List ℕ
    p = placed step before

    q : ℕ
    q = step before p l

    rest : List ℕ
    rest = (placed_grows step (before ++ (l ∷ [])) after).0

    parts : (before ++ (l ∷ [])) ++ after ≡ before ++ (l ∷ after)
    parts = append_assoc before (l ∷ []) after

    split : placed step (before ++ (l ∷ after)) ≡ p ++ (q ∷ rest)
    split =
        ap (placed step) (sym parts) ∙
        (placed_grows step (before ++ (l ∷ [])) after).1 ∙
        ap (λ (placement : List ℕ). placement ++ rest) (placed_more step before l) ∙
        append_snoc p q rest

pub any_multiple : AnyMultiple
unfolding placement_by
any_multiple rule b H K figures some other of-h of-k =
    let order = order_of rule in
    ap (in_file_order (turns_of order figures))
    (rooms_same b H K some other (fit_of rule) (in_turn (turns_of order figures) figures) (every_turned order figures (λ (f : Figures). f.period ∣ H) of-h)
    (every_turned order figures (λ (f : Figures). f.period ∣ K) of-k))

-- in file order the turns change nothing
pub in_file : (b : Board) (H : ℕ) (figures : List Figures) (fit : Fit) →
    in_file_order (turns_of File figures) (placed_by fit b H (in_turn (turns_of File figures) figures)) ≡ placed_by fit b H figures
in_file b H figures fit =
    in_file_file figures (placed_by fit b H (in_turn (turns_of File figures) figures)) (turned_even File figures fit b H) ∙ ap (placed_by fit b H) (in_turn_file figures)

pub first_in_file : FirstInFile
unfolding placement_by order_of fit_of
first_in_file b H figures = in_file b H figures First

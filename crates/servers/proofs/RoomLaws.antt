-- Rooms in any common multiple of the tasks' periods give the same placement.
-- Assumes nothing.
use Prim.Native.Nat.{ℕ, ◌≤◌, ◌∣◌}
use mathlib.Core.Path.{◌≡◌, refl, sym, ap, ap₂, ◌∙◌}
use mathlib.Core.List.{List, [], ◌∷◌, ◌++◌}
use Rattle.demand.proofs.Demand.{every_front}
use Rattle.loads.specs.Figures.{Figures}
use Rattle.places.specs.Places.{chosen}
use Rattle.packing.specs.declared.Fit.{Fit}
use Rattle.members.specs.Server.{Board}
use Rattle.members.proofs.FiledLaws.{every_chosen}
use Rattle.shares.proofs.ScaledLaws.{PeriodsDivide}
use Rattle.taking.specs.Takes.{takes}
use Rattle.joining.proofs.FitLaws.{join_room_same}
use Rattle.servers.specs.Placement.{servers_in, place_by, join_by, placed_by}
use Rattle.servers.proofs.PlacementLaws.{by_last, by_fit_more}

module _ (b : Board) (H K : ℕ) (some : 1 ≤ H) (other : 1 ≤ K) where
  none_same : (fit : Fit) → placed_by fit b H [] ≡ placed_by fit b K []
  unfolding placed_by place_by
  none_same fit = refl

  join_same : (fit : Fit) (done : List Figures) (placement : List ℕ) (l : Figures) → PeriodsDivide H done → PeriodsDivide K done →
      join_by fit b H done placement l ≡ join_by fit b K done placement l
  unfolding join_by
  join_same fit done placement l of-h of-k =
      join_room_same fit b.header H K (chosen done placement) some other (λ q. every_chosen (λ (f : Figures). f.period ∣ H) done placement q of-h)
      (λ q. every_chosen (λ (f : Figures). f.period ∣ K) done placement q of-k) (takes b done placement l) _ (servers_in placement)

  pub rooms_same : (fit : Fit) (tasks : List Figures) → PeriodsDivide H tasks → PeriodsDivide K tasks → placed_by fit b H tasks ≡ placed_by fit b K tasks
  rooms_same fit = by_last (λ (tasks : List Figures). PeriodsDivide H tasks → PeriodsDivide K tasks → placed_by fit b H tasks ≡ placed_by fit b K tasks) (λ _ _. none) more
    where
      none : placed_by fit b H [] ≡ placed_by fit b K []
      none = none_same fit

      more : (done : List Figures) (l : Figures) → (PeriodsDivide H done → PeriodsDivide K done → placed_by fit b H done ≡ placed_by fit b K done) →
          PeriodsDivide H (done ++ (l ∷ [])) → PeriodsDivide K (done ++ (l ∷ [])) → placed_by fit b H (done ++ (l ∷ [])) ≡ placed_by fit b K (done ++ (l ∷ []))
      more done l held of-h of-k =
          let h = every_front (λ (f : Figures). f.period ∣ H) done l of-h in
          let k = every_front (λ (f : Figures). f.period ∣ K) done l of-k in
          by_fit_more fit b H done l ∙
          ap₂ (λ (p : List ℕ) (q : ℕ). p ++ (q ∷ [])) (held h k)
          (join_same fit done (placed_by fit b H done) l h k ∙ ap (λ (p : List ℕ). join_by fit b K done p l) (held h k)) ∙
          sym (by_fit_more fit b K done l)

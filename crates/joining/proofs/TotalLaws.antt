-- A server that would ask more than H ticks of H with a task in it does not take it; and what is kept of servers is small.
-- Assumes nothing.
use Prim.Native.Nat.{ℕ, ◌+◌, ◌*◌, ◌≤◌, ◌<◌, ◌∣◌, max}
use native.Mathlib.Omega.{arith}
use mathlib.Core.Path.{◌≡◌, ap₂, ◌∙◌}
use mathlib.Core.Bool.{false}
use mathlib.Core.List.{List, [], ◌∷◌, ◌++◌}
use Rattle.demand.specs.Load.{Every}
use Rattle.demand.proofs.Demand.{every_snoc, every_front, every_last}
use Rattle.places.specs.Places.{chosen}
use Rattle.loads.specs.Figures.{Figures}
use Rattle.loads.specs.Charge.{cache_of, Member}
use Rattle.loads.proofs.ChargeLaws.{cache_more}
use Rattle.members.specs.Server.{Board, SoundBoard}
use Rattle.members.proofs.ServerLaws.{total_fails}
use Rattle.members.proofs.FiledLaws.{every_chosen}
use Rattle.shares.specs.Totals.{work_in, jobs_in}
use Rattle.shares.proofs.TotalLaws.{total_split, work_more, jobs_more}
use Rattle.taking.specs.Takes.{with_task, takes}
use Rattle.taking.proofs.ChargedLaws.{every_with}

module _ (b : Board) (H : ℕ) (done : List Figures) (placement : List ℕ) (f : Figures) (q : ℕ) (sound : SoundBoard b) (positive : 1 ≤ H)
    (members : Every (Member b.header) (done ++ (f ∷ []))) (periods : Every (λ (g : Figures). g.period ∣ H) (done ++ (f ∷ []))) where
  abbrev ms : List Figures
  ms = chosen done placement q

  periods_with : Every (λ (g : Figures). g.period ∣ H) (with_task done placement f q)
  periods_with =
      every_snoc (λ (g : Figures). g.period ∣ H) ms f
      (every_chosen (λ (g : Figures). g.period ∣ H) done placement q (every_front (λ (g : Figures). g.period ∣ H) done f periods))
      (every_last (λ (g : Figures). g.period ∣ H) done f periods)

  -- what the server would ask, from what is kept of it and what the task brings
  pub no_room : {work jobs cost : ℕ} → work ≡ work_in b.header H ms + work_in b.header H (f ∷ []) → jobs ≡ jobs_in H ms + jobs_in H (f ∷ []) →
      cost ≡ max (cache_of ms) f.cache → H < work + cost * jobs → takes b done placement f q ≡ false
  unfolding takes
  no_room {work} {jobs} {cost} e g c above =
      total_fails b (with_task done placement f q) (every_with (Member b.header) done placement f members q) sound H positive periods_with
      (omega (
        arith,
        total_split b.header H (with_task done placement f q),
        e ∙ sym_more,
        ap₂ (λ (x y : ℕ). x * y) (c ∙ sym_cache) (g ∙ sym_jobs),
      ))
    where
      sym_more : work_in b.header H ms + work_in b.header H (f ∷ []) ≡ work_in b.header H (with_task done placement f q)
      sym_more = omega (arith, work_more b.header H ms f)

      sym_jobs : jobs_in H ms + jobs_in H (f ∷ []) ≡ jobs_in H (with_task done placement f q)
      sym_jobs = omega (arith, jobs_more H ms f)

      sym_cache : max (cache_of ms) f.cache ≡ cache_of (with_task done placement f q)
      sym_cache = omega (arith, cache_more ms f)

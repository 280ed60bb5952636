-- A task and a server, from what is kept of the server and what the task brings: the numbers are small, the cache cost that the server has
-- with the task, and that the task is ruled out without a look at the members.
-- Assumes nothing.
use Prim.Native.Nat.{ℕ, ◌+◌, ◌*◌, ◌^◌, ◌≤◌, ◌<◌, max}
use native.Mathlib.Omega.{arith}
use mathlib.Core.Path.{◌≡◌, sym, ap, ◌∙◌}
use mathlib.Core.Bool.{Bool, true, false}
use mathlib.Core.List.{List, [], ◌∷◌, ◌++◌}
use lib.ListN.{length, take}
use Rattle.demand.specs.Load.{Every}
use Rattle.demand.proofs.Demand.{each_next, each_length, every_last}
use Rattle.tasks.specs.declared.set.Header.{Header}
use Rattle.tasks.specs.Set.{masked_ticks}
use Rattle.places.specs.Places.{chosen}
use Rattle.places.proofs.PlacesLaws.{in_few}
use Rattle.loads.specs.Figures.{Figures, figures_at, figures_to}
use Rattle.loads.specs.Charge.{cache_of, Member, Overheads, SmallCost}
use Rattle.loads.proofs.ChargeLaws.{cache_more, cache_small}
use Rattle.members.specs.Server.{Board, board_of, Filed, Bounded}
use Rattle.members.proofs.BoundedLaws.{bounded_sound}
use Rattle.members.proofs.FiledLaws.{every_chosen, filed_first, filed_last}
use Rattle.shares.specs.declared.Share.{Share}
use Rattle.shares.specs.Share.{share_of, share_in}
use Rattle.shares.specs.Totals.{total_in}
use Rattle.shares.proofs.TotalLaws.{total_split, work_small, jobs_small}
use Rattle.taking.specs.Takes.{with_task, takes}
use Rattle.joining.specs.Soonest.{masked_out}
use Rattle.joining.proofs.TotalLaws.{no_room}
use Rattle.joining.proofs.SoonestLaws.{kept_out}

-- the servers that take task i
abbrev pub candidates : Board → (figures placement : List ℕ) → (i : ℕ) → ℕ → Bool
candidates b figures placement i = takes b (figures_to figures i) (take i placement) (figures_at figures i)

-- task i comes to server q: what is kept of the server, and what the task brings
pub record Candidate (h : Header) (figures placement : List ℕ) (i H q : ℕ) (own share : Share) : Type 0 where
  pub file : Filed h figures (i + 1) H
  pub brings : share ≡ share_of h H (figures_at figures i)
  pub keeps : own ≡ share_in h H (chosen (figures_to figures i) (take i placement) q)

module _ {h : Header} {figures placement : List ℕ} {i H q : ℕ} {own share : Share} (w : Candidate h figures placement i H q own share) where
  all_members : Every (Member h) (figures_to figures i ++ (figures_at figures i ∷ []))
  all_members = rw (sym (each_next (figures_at figures) i)) w.file.members

  all_costs : Every SmallCost (figures_to figures i ++ (figures_at figures i ∷ []))
  all_costs = rw (sym (each_next (figures_at figures) i)) w.file.costs

  abbrev ms : List Figures
  ms = chosen (figures_to figures i) (take i placement) q

  ms_few : length ms ≤ 63
  ms_few = omega (arith, in_few (figures_to figures i) (take i placement) q, each_length (figures_at figures) i, w.file.few)

  pub own_work_fits : Overheads h → own.work + share.work < 2 ^ 62
  own_work_fits o =
      omega (
        arith,
        ap (λ (s : Share). s.work) w.keeps,
        ap (λ (s : Share). s.work) w.brings,
        ms_few,
        work_small H w.file.short h ms o (every_chosen (Member h) (figures_to figures i) (take i placement) q (filed_first i (omega arith) w.file).members),
        work_small H w.file.short h (figures_at figures i ∷ []) o ((filed_last i w.file).1, tt),
      )

  pub own_jobs_fit : own.jobs + share.jobs < 2 ^ 32
  own_jobs_fit =
      omega (
        arith,
        ap (λ (s : Share). s.jobs) w.keeps,
        ap (λ (s : Share). s.jobs) w.brings,
        ms_few,
        jobs_small H w.file.short ms,
        jobs_small H w.file.short (figures_at figures i ∷ []),
      )

  -- its cache cost is small
  pub own_cost_fits : own.cache < 2 ^ 16
  own_cost_fits =
      omega (arith, ap (λ (s : Share). s.cache) w.keeps, cache_small ms (every_chosen SmallCost (figures_to figures i) (take i placement) q (filed_first i (omega arith) w.file).costs))

  -- and so is the task's
  pub share_cost_fits : share.cache < 2 ^ 16
  share_cost_fits = omega (arith, ap (λ (s : Share). s.cache) w.brings, every_last SmallCost (figures_to figures i) (figures_at figures i) all_costs)

  -- what its members ask of the horizon
  pub own_total : own.work + own.cache * own.jobs ≡ total_in h H ms
  own_total = ap (λ (s : Share). s.work + s.cache * s.jobs) w.keeps ∙ sym (total_split h H ms)

  -- the cache cost that it has with the task
  module _ {cost : ℕ} (is : cost ≡ max own.cache share.cache) where
    larger_is : cost ≡ max (cache_of ms) (figures_at figures i).cache
    larger_is = omega (arith, ap (λ (s : Share). s.cache) w.keeps, ap (λ (s : Share). s.cache) w.brings)

    pub cost_is : cost ≡ cache_of (with_task (figures_to figures i) (take i placement) (figures_at figures i) q)
    cost_is = larger_is ∙ sym (cache_more ms (figures_at figures i))

    -- past the horizon with the task in it, it does not take it
    pub full : {interrupts : List ℕ} → Bounded h interrupts H → H < own.work + share.work + cost * (own.jobs + share.jobs) →
        candidates (board_of h interrupts) figures placement i q ≡ false
    full {interrupts} bounded more =
        no_room (board_of h interrupts) H (figures_to figures i) (take i placement) (figures_at figures i) q (bounded_sound bounded w.file.slot) w.file.some
        all_members (rw (sym (each_next (figures_at figures) i)) w.file.of_periods)
        (omega (arith, ap (λ (s : Share). s.work) w.keeps, ap (λ (s : Share). s.work) w.brings))
        (omega (arith, ap (λ (s : Share). s.jobs) w.keeps, ap (λ (s : Share). s.jobs) w.brings))
        larger_is more

  -- B alone keeps the task out
  pub apart : {interrupts : List ℕ} {masked : ℕ} → Bounded h interrupts H → masked ≡ masked_ticks h → masked_out masked share.due own.due ≡ true →
      candidates (board_of h interrupts) figures placement i q ≡ false
  apart {interrupts} bounded masked-is out =
      kept_out (board_of h interrupts) (figures_to figures i) (take i placement) (figures_at figures i) q (bounded_sound bounded w.file.slot) all_members
      (rw (sym masked-is, sym (ap (λ (s : Share). s.due) w.brings), sym (ap (λ (s : Share). s.due) w.keeps)) out)

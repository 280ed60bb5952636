-- The claims of specs/Claims.antt, proved.
use Prim.Native.Nat.{ℕ, ◌≤◌}
use native.Mathlib.Nat.{le_refl, le_of_eq}
use native.Mathlib.Omega.{arith}
use mathlib.Core.Path.{refl, sym, ap, subst}
use mathlib.Core.Logic.{inl, inr}
use mathlib.Core.List.{List, [], ◌∷◌, ◌++◌}
use lib.ListN.{length-map}
use Rattle.charging.specs.Charging.{effective_deadline}
use Rattle.demand.specs.Supply.{Allowed}
use Rattle.demand.specs.Passes.{Passes}
use Rattle.verdict.specs.Reserve.{Smallest}
use Rattle.verdict.proofs.Claims.{reserve_means}
use Rattle.tasks.specs.declared.set.Header.{Header}
use Rattle.tasks.specs.declared.set.Task.{Task}
use Rattle.tasks.specs.declared.set.TaskSet.{TaskSet}
use Rattle.tasks.specs.Set.{masked_ticks, cache_cost}
use Rattle.loads.specs.Figures.{figures_of}
use Rattle.loads.proofs.ChargeLaws.{loads_many}
use Rattle.members.specs.Server.{server_horizon, reserve_for}
use Rattle.members.proofs.ServerLaws.{server_lawful}
use Rattle.setfigures.specs.Board.{set_board}
use Rattle.rows.proofs.Clears.{set_board_lem}
use Rattle.easing.specs.Eased.{Left, figures_in, loads_in, demand_in, loss_in, smallest_in, Reserved, TaskEased, Eased, with_cost, with_deadline, with_period, with_delay}
use Rattle.easing.specs.Claims.{NeverCosts, SameBoard, TaskGoes, CostFalls, PeriodRises, DelayFalls, EasingNeverCosts, DeadlineRises, EasedPasses, ReserveFalls, StretchShrinks, LargestFalls, LessAsked}
use Rattle.easing.proofs.LeftLaws.{left_same, left_without, left_with}
use Rattle.easing.proofs.LighterLaws.{soonest_rises, latest_falls}
use Rattle.easing.proofs.ReserveLaws.{loss_allows, less_passes, smallest_falls}
use Rattle.easing.proofs.ServerLaws.{server_members_lem, one_has, server_cache, server_loss_lem, server_lighter, server_falls}

pub reserve_falls : ReserveFalls
reserve_falls = smallest_falls

-- ---- what stands under it

pub less_asked : LessAsked
less_asked set set' server server' e s t = server_falls e s t

pub stretch_shrinks : StretchShrinks
stretch_shrinks set set' server server' e masked some =
    record {
      from = soonest_rises (loads_in set server) (loads_in set' server') (server_lighter e) (omega (
        arith,
        loads_many set'.header (figures_in set' server'),
        length-map server' (figures_of set'.header),
        some,
      ));
      until = latest_falls (server_lighter e) masked;
    }

pub largest_falls : LargestFalls
largest_falls set set' server [] e some = absurd (omega arith)
largest_falls set set' server (t ∷ ts) e some =
    record { one = one_has set'.header t ts; falls = server_cache e; loss = server_loss_lem e }

pub eased_passes : EasedPasses
eased_passes set set' server server' R e s a passes =
    record {
      allowed = subst (λ (S : ℕ). Allowed S (loss_in set' server') R) (sym e.slot) (loss_allows (server_loss_lem e) a);
      passes =
          subst (λ (S : ℕ). Passes (demand_in set' server') S (loss_in set' server') R) (sym e.slot)
          (less_passes (server_loss_lem e) a (demand_in set server) (demand_in set' server') (λ t some. server_falls e s t) passes);
    }

-- ---- the smallest reserve

-- it is the smallest over all lengths
smallest : {set : TaskSet} {server : List Task} → Reserved set server →
    Smallest (demand_in set server) set.header.slot (loss_in set server) (smallest_in set server)
unfolding reserve_for
smallest {set} {server} r =
    let board = set_board_lem set r.of.charged in
    reserve_means (demand_in set server) (server_horizon (set_board set) (figures_in set server)) set.header.slot (loss_in set server)
    (server_lawful (set_board set) (figures_in set server) (server_members_lem r.of) board) board.slot r.whole

pub easing_never_costs : EasingNeverCosts
easing_never_costs set set' server server' e r r' =
    smallest_falls (demand_in set server) (demand_in set' server') set.header.slot (loss_in set server) (loss_in set' server')
    (smallest_in set server) (smallest_in set' server') (λ t some. server_falls e r.of t) (server_loss_lem e) (smallest r)
    (subst (λ (S : ℕ). Smallest (demand_in set' server') S (loss_in set' server') (smallest_in set' server')) e.slot (smallest r'))

-- ---- in the words of the request

module _ {set set' : TaskSet} (same : SameBoard set set') where
  -- a task as it is
  same_task : (t : Task) → TaskEased set.header set'.header t t
  same_task t = rw same.header (record { cost = le_refl t.cost; cache = le_refl (cache_cost set.header t); period = le_refl t.period; due = inl refl })

  -- the board as it is
  on_board : {server server' : List Task} → Left (TaskEased set.header set'.header) server server' → Eased set set' server server'
  on_board left =
      let none_more : (f : Header → ℕ) → f set'.header ≤ f set.header = λ f. le_of_eq (ap f same.header) in
      record {
        tasks = left;
        release = none_more (λ (h : Header). h.relo);
        switch = none_more (λ (h : Header). h.ctswo);
        delay = none_more (λ (h : Header). h.resd);
        masked = none_more masked_ticks;
        slot = ap (λ (h : Header). h.slot) same.header;
        processors = ap (λ (h : Header). h.processors) same.header;
        interrupts = same.interrupts;
      }

  -- one task eased
  one_eased : (before : List Task) (t u : Task) (after : List Task) → TaskEased set.header set.header t u →
      NeverCosts set set' (before ++ (t ∷ after)) (before ++ (u ∷ after))
  one_eased before t u after l =
      easing_never_costs set set' (before ++ (t ∷ after)) (before ++ (u ∷ after))
      (on_board (left_with (TaskEased set.header set'.header) same_task before after (subst (λ (k : Header). TaskEased set.header k t u) (sym same.header) l)))

pub task_goes : TaskGoes
task_goes set set' before t after same =
    easing_never_costs set set' (before ++ (t ∷ after)) (before ++ after)
    (on_board same (left_without (TaskEased set.header set'.header) (same_task same) before t after))

pub cost_falls : CostFalls
cost_falls set set' before t after C same less =
    one_eased same before t (with_cost t C) after
    (record { cost = less; cache = le_refl (cache_cost set.header t); period = le_refl t.period; due = inl refl })

pub period_rises : PeriodRises
period_rises set set' before t after T same more =
    one_eased same before t (with_period t T) after
    (record { cost = le_refl t.cost; cache = le_refl (cache_cost set.header t); period = more; due = inl refl })

pub deadline_rises : DeadlineRises
unfolding effective_deadline
deadline_rises set set' before t after D same unmasked later =
    one_eased same before t (with_deadline t D) after
    (record { cost = le_refl t.cost; cache = le_refl (cache_cost set.header t); period = le_refl t.period; due = inr (unmasked, omega (arith, later)) })

pub delay_falls : DelayFalls
delay_falls set set' server ResD less header interrupts =
    easing_never_costs set set' server server
    (rw header
    (record {
      tasks = left_same (TaskEased set.header (with_delay set.header ResD)) (λ t. record { cost = le_refl t.cost; cache = le_refl (cache_cost set.header t); period = le_refl t.period; due = inl refl }) server;
      release = le_refl set.header.relo;
      switch = le_refl set.header.ctswo;
      delay = less;
      masked = le_refl (masked_ticks set.header);
      slot = refl;
      processors = refl;
      interrupts = interrupts;
    }))

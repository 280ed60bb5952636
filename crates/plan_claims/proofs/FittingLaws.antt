-- A plan that has the servers, the placement and the reserves of a fitting placement is what the claims say of it, in its own
-- figures. The plan of a set with any fitting placement is one.
-- Assumes nothing.
use Prim.Native.Nat.{ℕ, zero, suc, pred, ◌+◌, ◌-◌, ◌≤◌, ◌<◌}
use mathlib.Core.Path.{◌≡◌, refl, sym, ap, subst, ◌∙◌}
use mathlib.Core.List.{List}
use native.Mathlib.Numerals.{add-one, sub-one}
use native.Mathlib.Omega.{arith}
use lib.ListN.{length, get_or, take, get_or-map}
use lib.Seq.{get_or-take}
use Rattle.tasks.specs.Set.{most_tasks}
use Rattle.tasks.specs.declared.set.TaskSet.{TaskSet}
use Rattle.verdict.specs.Reserve.{Smallest}
use Rattle.places.specs.Places.{places_in, chosen}
use Rattle.places.proofs.PaddedLaws.{padded_take}
use Rattle.loads.specs.Charge.{cache_of, server_loss}
use Rattle.members.specs.Server.{server_demand}
use Rattle.servers.specs.Placement.{servers_in}
use Rattle.servers.specs.Fitting.{Fitting}
use Rattle.sizing.proofs.Claims.{smallest_reserves, reserves_count}
use Rattle.reserves.specs.Reserves.{ring_processors, wholes}
use Rattle.setfigures.specs.Figures.{set_figures}
use Rattle.setfigures.specs.Board.{set_board}
use Rattle.setfigures.proofs.FigureLaws.{figures_length}
use Rattle.plan.specs.declared.plan.Plan.{Plan}
use Rattle.plan.specs.declared.server.Server.{Server}
use Rattle.plan.specs.Plan.{no_server, server_at, reserves_in}
use Rattle.layout.specs.Layout.{ring_start, server_of, laid_out}
use Rattle.layout.specs.Made.{reserves_with, caches_with, plan_with}
use Rattle.layout.proofs.LaidLaws.{cost_with, laid_reserves, laid_server}
use Rattle.planner.specs.Planner.{Clear}
use Rattle.planner.proofs.Made.{fits, members, sound}
use Rattle.planagree.specs.Agrees.{used, SamePlan}
use Rattle.plancheck.proofs.Checked.{reserves_same}
use Rattle.plan_claims.specs.Claims.{members_in, PlacedOnce, Reserved, Recorded, Needs, FittingPlan, PlanFitting}

-- a plan holds a placement: its servers, the tasks' servers, the reserves and the processors
pub record Holds (set : TaskSet) (named : List ℕ) (plan : Plan) : Type 0 where
  pub servers : plan.servers ≡ servers_in named
  pub placement : take set.count plan.placement ≡ named
  pub reserves : reserves_in plan ≡ reserves_with set named
  pub ring : plan.ring ≡ ring_processors set.header.slot (reserves_with set named)
  pub whole : plan.whole ≡ wholes set.header.slot (reserves_with set named)
  pub server : (q : ℕ) → 1 ≤ q → q ≤ plan.servers → used (server_at plan q) ≡ used (server_of set.header.slot (caches_with set named) named (reserves_with set named) q)

-- plans that are the same in what is used have the same servers there
pub used_same : {n : ℕ} (a b : Plan) → SamePlan n a b → (i : ℕ) → i < a.servers → used (get_or a.server i no_server) ≡ used (get_or b.server i no_server)
used_same a b s i h =
    ap used (sym (get_or-take a.servers a.server i no_server h))
    ∙ sym (get_or-map used (take a.servers a.server) i no_server)
    ∙ ap (λ (l : List Server). get_or l i (used no_server)) s.server
    ∙ get_or-map used (take b.servers b.server) i no_server
    ∙ ap used (get_or-take b.servers b.server i no_server (omega (arith, s.servers)))

-- and hold the same placement
pub holds_same : {set : TaskSet} {named : List ℕ} (a b : Plan) → SamePlan set.count a b → Holds set named b → Holds set named a
holds_same a b s own = record {
  servers = s.servers ∙ own.servers;
  placement = s.placement ∙ own.placement;
  reserves = reserves_same s ∙ own.reserves;
  ring = s.ring ∙ own.ring;
  whole = s.whole ∙ own.whole;
  server = λ q h l. used_same a b s (pred q) (omega (arith, sub-one q)) ∙ own.server q h (omega (arith, s.servers));
}

module _ (set : TaskSet) (full : length set.tasks ≡ most_tasks) (clear : Clear set) (named : List ℕ) (w : Fitting (set_board set) (set_figures set) named) where
  counted : length named ≡ set.count
  counted = w.parted.one_each ∙ figures_length set (fits set full clear)

  -- the reserves are the smallest
  smallest_each : (q : ℕ) → 1 ≤ q → q ≤ servers_in named →
      Smallest (server_demand (set_board set) (chosen (set_figures set) named q)) set.header.slot (server_loss set.header (chosen (set_figures set) named q)) (get_or (reserves_with set named) (q - 1) 0)
  unfolding reserves_with
  smallest_each = (smallest_reserves (set_board set) (set_figures set) named (sound set full clear) (members set full clear) w).1

  module _ (plan : Plan) (own : Holds set named plan) where
    server_at_lem : (i : ℕ) → i < set.count → get_or named i 0 ≡ get_or plan.placement i 0
    server_at_lem i h = sym (ap (λ (l : List ℕ). get_or l i 0) own.placement) ∙ get_or-take set.count plan.placement i 0 h

    placed : PlacedOnce set plan
    placed = record {
      there = λ k h l.
          let i : k - 1 < length named = omega (arith, counted) in
          let j : k - 1 < set.count = omega arith in
          let p = w.parted.there (k - 1) i in
          (omega (arith, server_at_lem (k - 1) j, p.0), omega (arith, server_at_lem (k - 1) j, p.1, own.servers));
      none_empty = λ q h l.
          let p = w.parted.none_empty q h (omega (arith, own.servers)) in
          let i : p.0 < set.count = omega (arith, counted, p.1) in
          let s : p.0 + 1 - 1 ≡ p.0 = omega arith in
          (p.0 + 1, omega arith, omega arith, ap (λ (n : ℕ). get_or plan.placement n 0) s ∙ sym (server_at_lem p.0 i) ∙ p.2);
    }

    reserve_at : (q : ℕ) → 1 ≤ q → q ≤ plan.servers → get_or (reserves_with set named) (q - 1) 0 ≡ (server_at plan q).reserve
    reserve_at q h l =
        sym (ap (λ (r : List ℕ). get_or r (q - 1) 0) own.reserves)
        ∙ get_or-map (λ (s : Server). s.reserve) (take plan.servers plan.server) (q - 1) no_server
        ∙ ap (λ (s : Server). s.reserve) (get_or-take plan.servers plan.server (q - 1) no_server (omega arith))
        ∙ ap (λ (i : ℕ). (get_or plan.server i no_server).reserve) (sub-one q)

    reserved : Reserved set plan
    reserved = record {
      whole = λ q h l. rw own.placement (w.passes q h (omega (arith, own.servers)));
      smallest = λ q h l.
          subst (Smallest (server_demand (set_board set) (members_in set plan q)) set.header.slot (server_loss set.header (members_in set plan q)))
          (reserve_at q h l) (rw own.placement (smallest_each q h (omega (arith, own.servers))));
    }

    recorded : Recorded set plan
    recorded = record {
      places = λ q h l.
          ap (λ (s : Server). s.places) (own.server q h l)
          ∙ padded_take (places_in named q) (length (places_in named q)) refl
          ∙ ap (λ (p : List ℕ). places_in p q) (sym own.placement);
      start = λ q h l.
          ap (λ (s : Server). s.start.0) (own.server q h l) ∙ ap (λ (rs : List ℕ). ring_start set.header.slot rs q) (sym own.reserves);
      cache = λ q h l.
          ap (λ (s : Server). s.cache) (own.server q h l) ∙ cost_with set named q h (omega (arith, own.servers))
          ∙ ap (λ (p : List ℕ). cache_of (chosen (set_figures set) p q)) (sym own.placement);
    }

    needs : Needs set plan
    needs = record {
      ring = own.ring ∙ ap (ring_processors set.header.slot) (sym own.reserves);
      whole = own.whole ∙ ap (wholes set.header.slot) (sym own.reserves);
    }

    -- all of it
    pub fitting_plan : FittingPlan set plan
    fitting_plan = record { placed = placed; reserved = reserved; recorded = recorded; needs = needs }

  with_server : (q : ℕ) → 1 ≤ q → q ≤ (plan_with set named).servers →
      used (server_at (plan_with set named) q) ≡ used (server_of set.header.slot (caches_with set named) named (reserves_with set named) q)
  unfolding plan_with laid_out
  with_server zero h l = absurd (omega arith)
  with_server (suc i) h l =
      ap used
      (laid_server set.header.slot (caches_with set named) named (reserves_with set named) no_server i l
      ∙ ap (server_of set.header.slot (caches_with set named) named (reserves_with set named)) (add-one i))

  -- the plan of the placement holds it
  pub with_holds : Holds set named (plan_with set named)
  unfolding plan_with laid_out reserves_with
  with_holds = record {
    servers = reserves_count (set_board set) (set_figures set) named;
    placement = padded_take named set.count counted;
    reserves = laid_reserves set.header.slot (caches_with set named) named (reserves_with set named);
    ring = refl;
    whole = refl;
    server = with_server;
  }

-- so it is all of this
pub with_fitting : PlanFitting
with_fitting set named full clear w = fitting_plan set full clear named w (plan_with set named) (with_holds set full clear named w)

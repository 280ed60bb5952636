-- The figures of a plan that the planner makes fit their fields, so that its text tells it.
-- Assumes nothing.
use Prim.Native.Nat.{ℕ, pred, ◌+◌, ◌*◌, ◌-◌, ◌^◌, ◌≤◌, ◌<◌}
use mathlib.Core.Path.{◌≡◌, refl, sym, ◌∙◌, ap, subst}
use mathlib.Core.List.{List}
use mathlib.Core.Bool.{Bool, true, false, cond}
use native.Mathlib.Nat.{add-sub_cancel, mul-le-mul}
use native.Mathlib.Numerals.{add-one}
use native.Mathlib.Decide.{dec_lt}
use native.Mathlib.Omega.{arith}
use lib.Dec.{ltb}
use lib.ListN.{length, take, get_or}
use lib.Seq.{get_or-take}
use borrow.Author.Tests.{le-ltb}
use Rattle.frames.specs.Table.{widths_of}
use Rattle.tasks.specs.declared.set.TaskSet.{TaskSet}
use Rattle.tasks.specs.Set.{most_tasks}
use Rattle.taskask.proofs.Carried.{ask_header, header_fits}
use Rattle.places.specs.Places.{places_in, chosen}
use Rattle.places.proofs.PaddedLaws.{padded_take}
use Rattle.places.proofs.PlacesLaws.{places_few}
use Rattle.loads.specs.Charge.{cache_of, server_loss}
use Rattle.sizing.proofs.Claims.{allowed_range}
use Rattle.reserves.specs.Reserves.{reserve_of, wholes, start_of, ring_processors, ring_length, processors_of}
use Rattle.reserves.proofs.Starts.{ring_part, ring_holds}
use Rattle.ring.specs.Who.{first_reserve}
use Rattle.ring.specs.declared.cover.Stand.{Stand}
use Rattle.ring.proofs.WhoLaws.{first_whole}
use Rattle.ring_claims.proofs.Claims.{first_reserve_lem}
use Rattle.ring_claims.proofs.OwnLaws.{whole_at}
use Rattle.setfigures.specs.Figures.{set_figures}
use Rattle.plan.specs.declared.plan.Plan.{Plan}
use Rattle.plan.specs.declared.server.Server.{Server}
use Rattle.plan.specs.Plan.{zero_stand, server_at}
use Rattle.layout.specs.Layout.{ring_start, server_of, laid_out}
use Rattle.layout.specs.Made.{caches_with, plan_with, set_placement, set_reserves, set_caches, plan_made}
use Rattle.layout.proofs.LaidLaws.{cost_with, laid_first}
use Rattle.planner.proofs.Made.{set_count, slot_some, count_most}
use Rattle.planagree.specs.Agrees.{used, SamePlan}
use Rattle.plancheck.specs.Makes.{makes}
use Rattle.planagree.proofs.AgreeLaws.{agree_same}
use Rattle.plancheck.proofs.Checked.{OfSet, of_set, makes_agrees, placement_count}
use Rattle.plan_claims.specs.Claims.{members_in}
use Rattle.plan_claims.proofs.CheckedLaws.{checked_holds}
use Rattle.plan_claims.proofs.Claims.{plan_checked}
use Rattle.plantext.specs.Counts.{CountsFit}
use Rattle.planfile.proofs.AcceptLaws.{makes_counted}
use Rattle.planfile_claims.specs.Claims.{server_in, first_in, places_of, FitFields}

pick_most : (t : Bool) (x b : ℕ) → x ≤ b → cond t x 0 ≤ b
pick_most true x b h = h
pick_most false x b h = omega arith

-- a slot below six digits, 64 times, is below eight
many_slots : (r S : ℕ) → r ≤ 64 → S < 16 ^ 6 → r * S < 16 ^ 8
many_slots r S p q =
    let below : S ≤ 16777215 = omega arith in
    let most : r * S ≤ 64 * 16777215 = mul-le-mul p below in
    omega (arith, most)

module _ (set : TaskSet) (plan : Plan) (full : length set.tasks ≡ most_tasks) (m : makes set plan ≡ true) where
  S : ℕ
  S = set.header.slot

  rs : List ℕ
  rs = set_reserves set

  of : OfSet set plan
  of = of_set set full plan m

  counted : CountsFit set plan
  counted = makes_counted set plan m

  same : SamePlan set.count plan (plan_made set)
  same = agree_same plan (plan_made set) set.count (makes_agrees set plan m)

  slot_six : S < 16 ^ 6
  unfolding S widths_of
  slot_six = header_fits set.header (ask_header set of.clear.carried) 1 (omega arith)

  some_slot : 1 ≤ S
  unfolding S
  some_slot = slot_some set full of.clear

  reserves_many : length rs ≡ plan.servers
  unfolding rs
  reserves_many = set_count set full of.clear ∙ sym of.servers

  made_ring : (plan_made set).ring ≡ ring_processors S rs
  unfolding plan_made plan_with laid_out set_reserves S rs
  made_ring = refl

  made_whole : (plan_made set).whole ≡ wholes S rs
  unfolding plan_made plan_with laid_out set_reserves S rs
  made_whole = refl

  ring_few : ring_processors S rs ≤ 64
  ring_few = omega (arith, made_ring, same.ring, counted.processors)

  ring_long : ring_length S rs < 16 ^ 8
  ring_long = many_slots (ring_processors S rs) S ring_few slot_six

  idle_fits : plan.idle < 16 ^ 8
  unfolding plan_made plan_with laid_out set_reserves S rs
  idle_fits = omega (arith, same.idle, ring_long)

  placement : List ℕ
  placement = set_placement set

  -- there is a server for each task
  pub front_long : length (take set.count plan.placement) ≡ set.count
  front_long = ap length of.placement ∙ placement_count set full plan of.clear

  module _ (i : ℕ) (h : i < plan.servers) where
    -- the server there is the one of the planner's placement, in what is used
    server_is : used (server_in plan i) ≡ used (server_of S (set_caches set) placement rs (i + 1))
    unfolding set_reserves set_caches S rs placement
    server_is =
        ap (λ (k : ℕ). used (server_in plan k)) (sym (ap pred (add-one i)))
        ∙ (checked_holds set plan full m).server (i + 1) (omega arith) (omega arith)

    reserve_at : (server_in plan i).reserve ≡ reserve_of rs (i + 1)
    reserve_at = ap (λ (s : Server). s.reserve) server_is

    reserve_most : (server_in plan i).reserve ≤ S
    unfolding S
    reserve_most =
        subst (λ (k : ℕ). (server_in plan k).reserve ≤ set.header.slot) (ap pred (add-one i))
        (allowed_range set.header.slot (server_loss set.header (members_in set plan (i + 1))) (server_at plan (i + 1)).reserve (slot_some set full of.clear)
        ((plan_checked set plan full m).reserved.smallest (i + 1) (omega arith) (omega arith)).allowed).1

    start_at : (server_in plan i).start.0 ≡ ring_start S rs (i + 1)
    start_at = ap (λ (s : Server). s.start.0) server_is

    start_most : (server_in plan i).start.0 ≤ ring_length S rs
    start_most =
        subst (λ (n : ℕ). n ≤ ring_length S rs) (sym start_at)
        (pick_most (ltb (reserve_of rs (i + 1)) S) (start_of S rs (i + 1)) (ring_length S rs) (omega (arith, ring_part S rs (pred (i + 1)), ring_holds S rs some_slot)))

    no_start : plan.slot ≤ (server_in plan i).reserve → (server_in plan i).start.0 ≡ 0
    unfolding S
    no_start w =
        start_at
        ∙ ap (λ (t : Bool). cond t (start_of S rs (i + 1)) 0) (le-ltb (reserve_of rs (i + 1)) S (let whole : S ≤ reserve_of rs (i + 1) = omega (arith, reserve_at, of.slot, w) in whole))

    count_at : (server_in plan i).count ≡ length (places_in placement (i + 1))
    count_at = ap (λ (s : Server). s.count) server_is

    tasks_most : (server_in plan i).count ≤ 64
    unfolding placement
    tasks_most = omega (arith, count_at, places_few placement (i + 1), placement_count set full plan of.clear, count_most set full of.clear)

    -- its places are those of its tasks
    pub places_at : places_of plan i ≡ places_in (take set.count plan.placement) (i + 1)
    unfolding placement
    places_at =
        ap (λ (s : Server). s.places) server_is
        ∙ padded_take (places_in placement (i + 1)) (length (places_in placement (i + 1))) refl
        ∙ ap (λ (p : List ℕ). places_in p (i + 1)) (sym of.placement)

    -- and its cache cost is that of its tasks
    pub cache_at_lem : (server_in plan i).cache ≡ cache_of (chosen (set_figures set) (take set.count plan.placement) (i + 1))
    unfolding set_caches placement
    cache_at_lem =
        ap (λ (s : Server). s.cache) server_is
        ∙ cost_with set (set_placement set) (i + 1) (omega arith) (omega (arith, of.servers))
        ∙ ap (λ (p : List ℕ). cache_of (chosen (set_figures set) p (i + 1))) (sym of.placement)

  server_most : (i : ℕ) → i < set.count → get_or plan.placement i 0 ≤ 64
  server_most i h =
      subst (λ (k : ℕ). get_or plan.placement k 0 ≤ 64) (add-sub_cancel i 1)
      (omega (arith, ((plan_checked set plan full m).placed.there (i + 1) (omega arith) (omega arith)).1, counted.servers))

  -- a first reserve names a server that is there, for at most a slot
  first_most : (p : ℕ) → 1 ≤ p → p ≤ processors_of S rs → ((first_reserve S rs p).server ≤ length rs) × ((first_reserve S rs p).left ≤ S)
  first_most p some there =
      elim (dec_lt (ring_processors S rs) p) [
        | yes past ↦
            let own = whole_at S rs 1 (p - ring_processors S rs - 1) (omega (arith, past, there)) in
            let is = first_whole S rs p past in (
              omega (arith, ap (λ (s : Stand). s.server) is, own.2, own.1),
              omega (arith, ap (λ (s : Stand). s.left) is),
            )
        | no ring ↦
            let first = first_reserve_lem S rs p some_slot some (omega (arith, ring)) in
            (first.server.there, omega (arith, first.within, first.server.ring))
      ]

  module _ (i : ℕ) (h : i < plan.ring + plan.whole) where
    g : i < (plan_made set).ring + (plan_made set).whole
    g = omega (arith, same.ring, same.whole)

    k : i < processors_of S rs
    k = omega (arith, g, made_ring, made_whole)

    bounds : ((first_reserve S rs (i + 1)).server ≤ length rs) × ((first_reserve S rs (i + 1)).left ≤ S)
    bounds = first_most (i + 1) (omega arith) (omega (arith, k))

    first_at_lem : first_in plan i ≡ first_reserve S rs (i + 1)
    unfolding plan_made plan_with set_reserves S rs
    first_at_lem =
        sym (get_or-take (plan.ring + plan.whole) plan.first i zero_stand h)
        ∙ ap (λ (l : List Stand). get_or l i zero_stand) same.first
        ∙ get_or-take ((plan_made set).ring + (plan_made set).whole) (plan_made set).first i zero_stand g
        ∙ laid_first S (caches_with set (set_placement set)) (set_placement set) rs zero_stand i k

    first_server : (first_in plan i).server ≡ (first_reserve S rs (i + 1)).server
    first_server = ap (λ (s : Stand). s.server) first_at_lem

    first_left : (first_in plan i).left ≡ (first_reserve S rs (i + 1)).left
    first_left = ap (λ (s : Stand). s.left) first_at_lem

  pub fit_fields : FitFields set plan
  unfolding S widths_of
  fit_fields =
      record {
        whole = omega (arith, counted.processors);
        ring = omega (arith, counted.processors);
        servers = omega (arith, counted.servers);
        slot = omega (arith, of.slot, slot_six);
        idle = idle_fits;
        reserve = λ (i : ℕ) (h : i < plan.servers). omega (arith, reserve_most i h, slot_six);
        start = λ (i : ℕ) (h : i < plan.servers). omega (arith, start_most i h, ring_long);
        no_start = no_start;
        tasks = λ (i : ℕ) (h : i < plan.servers). omega (arith, tasks_most i h);
        server = λ (i : ℕ) (h : i < set.count). omega (arith, server_most i h);
        first = λ (i : ℕ) (h : i < plan.ring + plan.whole). omega (arith, first_server i h, bounds i h, reserves_many, counted.servers);
        duration = λ (i : ℕ) (h : i < plan.ring + plan.whole). omega (arith, first_left i h, bounds i h, slot_six);
      }

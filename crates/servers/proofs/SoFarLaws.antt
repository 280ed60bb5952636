-- A placement as the code holds it while tasks come: the servers of the first i tasks, padded, how many servers there are, and what is
-- kept of them. What is known of it, and the same with one task more.
use Prim.Native.Nat.{ℕ, ◌+◌, ◌-◌, ◌≤◌, ◌<◌, max}
use native.Mathlib.Omega.{arith}
use native.Mathlib.Numerals.{add-one}
use mathlib.Core.Path.{◌≡◌, refl, sym, ap, ap₂, subst, ◌∙◌}
use mathlib.Core.List.{List, [], ◌∷◌, ◌++◌}
use lib.ListN.{length, get_or, set, take, replicate, length-append}
use Rattle.demand.specs.Load.{Every}
use Rattle.tasks.specs.declared.set.Header.{Header}
use Rattle.tasks.specs.Set.{most_tasks}
use Rattle.places.specs.Padded.{padded, up_to}
use Rattle.places.specs.Places.{chosen}
use Rattle.places.proofs.PaddedLaws.{padded_length, padded_take, padded_more, up_length}
use Rattle.loads.specs.Figures.{Figures}
use Rattle.packing.specs.declared.Fit.{Fit}
use Rattle.packing.specs.declared.Order.{Order}
use Rattle.packing.specs.Turns.{turns_of, in_turn, in_file_order}
use Rattle.packing.proofs.PermutedLaws.{permuted_back}
use Rattle.packing.proofs.TurnedLaws.{chosen_turned}
use Rattle.loads.specs.Charge.{cache_of, Member}
use Rattle.loads.proofs.ChargeLaws.{cache_more}
use Rattle.members.specs.Server.{Board}
use Rattle.members.proofs.FiledLaws.{every_chosen}
use Rattle.shares.specs.declared.Share.{Share}
use Rattle.shares.specs.Share.{share_of, share_in}
use Rattle.shares.specs.Soonest.{soonest_in}
use Rattle.shares.proofs.TotalLaws.{work_more, jobs_more}
use Rattle.taking.specs.Takes.{takes}
use Rattle.joining.specs.Join.{join}
use Rattle.joining.specs.Fits.{fit_by}
use Rattle.joining.specs.Kept.{Kept, no_share}
use Rattle.joining.specs.Soonest.{soonest_with}
use Rattle.joining.proofs.SoonestLaws.{soonest_more}
use Rattle.servers.specs.Placement.{servers_in, place_by, room_in, join_by, placed_by, placement_of, cache_in, caches_of, placed}
use Rattle.servers.specs.Claims.{TakesOrNew}
use Rattle.servers.specs.declared.placement.Placed.{Placed}
use Rattle.servers.proofs.PlacementLaws.{servers_more, by_fit_length, by_fit_more, placement_length}
use Rattle.servers.proofs.FittingLaws.{in_none, in_range}
use Rattle.permuting.proofs.ServerLaws.{cache_permuted}
use Rattle.servers.proofs.TurnedLaws.{servers_turned}
use Rattle.servers.proofs.KeptLaws.{kept_none, kept_at, kept_next, up_padded}
use Rattle.servers.proofs.Claims.{fit_takes_or_opens, by_fit_few, servers_few}

pub record SoFar (fit : Fit) (b : Board) (H : ℕ) (figures : List Figures) (i : ℕ) (placement : List ℕ) (kept : List Share) (count : ℕ) : Type 0 where
  pub tasks : length figures ≡ i
  pub few : i ≤ most_tasks
  pub placement_is : placement ≡ padded (placed_by fit b H figures)
  pub count_is : count ≡ servers_in (placed_by fit b H figures)
  pub servers : Kept b.header H figures (placed_by fit b H figures) kept

-- no task yet
pub so_far_none : (fit : Fit) (b : Board) (H : ℕ) → SoFar fit b H [] 0 (replicate most_tasks 0) (replicate most_tasks no_share) 0
unfolding placed_by place_by servers_in
so_far_none fit b H =
    record {
      tasks = refl;
      few = omega arith;
      placement_is = refl;
      count_is = refl;
      servers = kept_none b.header H;
    }

share_same : {a b c d e f g h : ℕ} → a ≡ e → b ≡ f → c ≡ g → d ≡ h →
    ◌≡◌ {A = Share} (record { work = a; jobs = b; cache = c; due = d }) (record { work = e; jobs = f; cache = g; due = h })
share_same p q r s = λ i. record { work = p i; jobs = q i; cache = r i; due = s i }

-- what is kept with a task more in server q
module _ {h : Header} {H : ℕ} {done : List Figures} {placement : List ℕ} {kept : List Share} (w : Kept h H done placement kept)
    {q at : ℕ} (first : 1 ≤ q) (few : q ≤ most_tasks) (here : at ≡ q - 1) (f : Figures) (even : length placement ≡ length done) (members : Every (Member h) done)
    {share : Share} (brings : share ≡ share_of h H f) where
  abbrev own : List Figures
  own = chosen done placement q

  before : get_or kept at no_share ≡ share_in h H own
  before = kept_at w first few here

  pub kept_joined : {v j c s : ℕ} → v ≡ (get_or kept at no_share).work + share.work → j ≡ (get_or kept at no_share).jobs + share.jobs →
      c ≡ max (get_or kept at no_share).cache share.cache → s ≡ soonest_with (get_or kept at no_share).due share.due →
      Kept h H (done ++ (f ∷ [])) (placement ++ (q ∷ [])) (set kept at (record { work = v; jobs = j; cache = c; due = s }))
  kept_joined is-work is-jobs is-cost is-due =
      kept_next w first few here f even
      (share_same (omega (arith, is-work, ap (λ (x : Share). x.work) before, ap (λ (x : Share). x.work) brings, work_more h H own f))
      (omega (arith, is-jobs, ap (λ (x : Share). x.jobs) before, ap (λ (x : Share). x.jobs) brings, jobs_more H own f))
      (omega (arith, is-cost, ap (λ (x : Share). x.cache) before, ap (λ (x : Share). x.cache) brings, cache_more own f))
      (is-due ∙ ap (λ (x : Share). soonest_with x.due share.due) before ∙
      ap (λ (x : Share). soonest_with (soonest_in h own) x.due) brings ∙
      sym (soonest_more h own f (every_chosen (Member h) done placement q members))))

module _ {fit : Fit} {b : Board} {H : ℕ} {figures : List Figures} {i : ℕ} {placement : List ℕ} {kept : List Share} {count : ℕ}
    (w : SoFar fit b H figures i placement kept count) where
  -- one server for each task
  as_long : length (placed_by fit b H figures) ≡ i
  as_long = by_fit_length fit b H figures ∙ w.tasks

  -- every place is there
  pub so_far_room : length placement ≡ most_tasks
  so_far_room = ap length w.placement_is ∙ padded_length (placed_by fit b H figures) (omega (arith, as_long, w.few))

  -- the placed tasks stand at its front
  pub so_far_front : take i placement ≡ placed_by fit b H figures
  so_far_front = ap (take i) w.placement_is ∙ padded_take (placed_by fit b H figures) i as_long

  -- the servers are counted, and few
  pub so_far_count : count ≡ servers_in (take i placement)
  so_far_count = w.count_is ∙ ap servers_in (sym so_far_front)

  pub so_far_few : count ≤ i
  so_far_few = omega (arith, w.count_is, w.tasks, by_fit_few fit b H figures)

  -- what is kept is of the tasks at the front
  pub so_far_kept : Kept b.header H figures (take i placement) kept
  so_far_kept = subst (λ (p : List ℕ). Kept b.header H figures p kept) (sym so_far_front) w.servers

  -- the server that the fit names for the next task is that of the step
  pub so_far_fit : (f : Figures) (q : ℕ) → q ≡ join (fit_by fit (room_in b H figures (take i placement))) (takes b figures (take i placement) f) 0 count → q ≡ join_by fit b H figures (take i placement) f
  unfolding join_by
  so_far_fit f q e = e ∙ ap (join (fit_by fit (room_in b H figures (take i placement))) (takes b figures (take i placement) f) 0) so_far_count

  -- it is one that takes the task, or new
  pub so_far_takes : (f : Figures) (q : ℕ) → q ≡ join_by fit b H figures (take i placement) f → TakesOrNew b figures (take i placement) f q
  so_far_takes f q e = subst (TakesOrNew b figures (take i placement) f) (sym e) (fit_takes_or_opens fit b H figures (take i placement) f)

  -- and at most one more than there are
  pub so_far_range : (f : Figures) (q : ℕ) → q ≡ join_by fit b H figures (take i placement) f → (1 ≤ q) × (q ≤ i + 1)
  so_far_range f q e =
      let r = in_range b figures (take i placement) f q (so_far_takes f q e) in
      (r.0, omega (arith, r.1, so_far_count, so_far_few))

  -- one task more, in the server that the step answers
  pub so_far_next : (f : Figures) (q at more : ℕ) {share : Share} {v j c s : ℕ} → i < most_tasks → Every (Member b.header) figures → q ≡ join_by fit b H figures (take i placement) f →
      at ≡ q - 1 → more ≡ max count q → share ≡ share_of b.header H f → v ≡ (get_or kept at no_share).work + share.work →
      j ≡ (get_or kept at no_share).jobs + share.jobs → c ≡ max (get_or kept at no_share).cache share.cache →
      s ≡ soonest_with (get_or kept at no_share).due share.due →
      SoFar fit b H (figures ++ (f ∷ [])) (i + 1) (set placement i q) (set kept at (record { work = v; jobs = j; cache = c; due = s })) more
  so_far_next f q at more {v = v} {j = j} {c = c} {s = s} room members picked here m brings is-work is-jobs is-cost is-due =
      record {
        tasks = length-append figures (f ∷ []) ∙ ap (λ (k : ℕ). k + 1) w.tasks;
        few = omega arith;
        placement_is =
            ap (λ (ns : List ℕ). set ns i q) w.placement_is ∙
            ap (λ (k : ℕ). set (padded (placed_by fit b H figures)) k q) (sym as_long) ∙
            padded_more (placed_by fit b H figures) q (omega (arith, as_long)) ∙
            ap padded (sym next);
        count_is = omega (arith, m, w.count_is, servers_more (placed_by fit b H figures) q, ap servers_in next);
        servers =
            subst (λ (p : List ℕ). Kept b.header H (figures ++ (f ∷ [])) p (set kept at (record { work = v; jobs = j; cache = c; due = s }))) (sym next)
            (kept_joined w.servers (so_far_range f q picked).0 (omega (arith, (so_far_range f q picked).1)) here f (by_fit_length fit b H figures) members brings
            is-work is-jobs is-cost is-due);
      }
    where
      q_is : q ≡ join_by fit b H figures (placed_by fit b H figures) f
      q_is = picked ∙ ap (λ (p : List ℕ). join_by fit b H figures p f) so_far_front

      next : placed_by fit b H (figures ++ (f ∷ [])) ≡ placed_by fit b H figures ++ (q ∷ [])
      next = by_fit_more fit b H figures f ∙ ap (λ (x : ℕ). placed_by fit b H figures ++ (x ∷ [])) (sym q_is)

  -- the cache cost that is kept of server k + 1
  pub so_far_cost : (k : ℕ) → k < most_tasks → (get_or kept k no_share).cache ≡ cache_in figures (placed_by fit b H figures) (k + 1)
  so_far_cost k g = ap (λ (s : Share). s.cache) (w.servers.each k g) ∙ ap (cache_in figures (placed_by fit b H figures)) (sym (add-one k))

  -- the struct of such a placement
  pub so_far_placed : {cache : List ℕ} → cache ≡ up_to (cache_in figures (placed_by fit b H figures)) most_tasks →
      record { count = count; placement = placement; cache = cache } ≡ placed figures (placed_by fit b H figures)
  unfolding placed caches_of cache_of
  so_far_placed {cache} all = rw (w.count_is, w.placement_is, costs)
    where
      costs : cache ≡ padded (up_to (cache_in figures (placed_by fit b H figures)) (servers_in (placed_by fit b H figures)))
      costs =
          all ∙
          up_padded (cache_in figures (placed_by fit b H figures)) (servers_in (placed_by fit b H figures))
          (omega (arith, w.tasks, w.few, by_fit_few fit b H figures))
          (λ q past. ap cache_of (in_none figures (placed_by fit b H figures) q past))

-- and back: what the struct of a placement holds
pub record Holds (figures : List Figures) (own : List ℕ) (n : ℕ) (placement cache : List ℕ) (count : ℕ) : Type 0 where
  pub placement_is : placement ≡ padded own
  pub cache_is : cache ≡ padded (caches_of figures own)
  pub count_is : count ≡ servers_in own
  pub room : length placement ≡ most_tasks
  pub cache_room : length cache ≡ most_tasks
  pub front : take n placement ≡ own
  pub few : count ≤ most_tasks

pub holds : (figures : List Figures) (own : List ℕ) (n : ℕ) (p : Placed) → length own ≡ n → servers_in own ≤ n → n ≤ most_tasks → p ≡ placed figures own →
    Holds figures own n p.placement p.cache p.count
unfolding placed caches_of
holds figures own n p long few small e =
    let is : p.placement ≡ padded own = ap (λ (k : Placed). k.placement) e in
    let count : p.count ≡ servers_in own = ap (λ (k : Placed). k.count) e in
    record {
      placement_is = is;
      cache_is = ap (λ (k : Placed). k.cache) e;
      count_is = count;
      room = ap length is ∙ padded_length own (omega (arith, long));
      cache_room = ap length (ap (λ (k : Placed). k.cache) e) ∙ padded_length (caches_of figures own) (omega (arith, up_length (cache_in figures own) (servers_in own)));
      front = ap (take n) is ∙ padded_take own n long;
      few = omega (arith, count);
    }

-- that of the planner's placement
pub record Held (b : Board) (figures : List Figures) (n : ℕ) (placement cache : List ℕ) (count : ℕ) : Type 0 where
  pub placement_is : placement ≡ padded (placement_of b figures)
  pub cache_is : cache ≡ padded (caches_of figures (placement_of b figures))
  pub count_is : count ≡ servers_in (placement_of b figures)
  pub room : length placement ≡ most_tasks
  pub cache_room : length cache ≡ most_tasks
  pub front : take n placement ≡ placement_of b figures
  pub few : count ≤ most_tasks

pub held : (b : Board) (figures : List Figures) (n : ℕ) (p : Placed) → length figures ≡ n → n ≤ most_tasks → p ≡ placed figures (placement_of b figures) →
    Held b figures n p.placement p.cache p.count
held b figures n p long small e =
    let w = holds figures (placement_of b figures) n p (placement_length b figures ∙ long) (omega (arith, servers_few b figures)) small e in
    record {
      placement_is = w.placement_is;
      cache_is = w.cache_is;
      count_is = w.count_is;
      room = w.room;
      cache_room = w.cache_room;
      front = w.front;
      few = w.few;
    }

-- ---- a placement of the tasks in turn, put into file order

module _ (order : Order) (figures : List Figures) (p : List ℕ) (even : length p ≡ length figures) where
  -- the servers' cache costs are the same
  pub caches_turned : caches_of figures (in_file_order (turns_of order figures) p) ≡ caches_of (in_turn (turns_of order figures) figures) p
  unfolding caches_of
  caches_turned =
      ap₂ (up_to {A = ℕ}) (λ i q. cache_permuted (permuted_back (chosen_turned order figures p even q)) i) (servers_turned order figures p even)

  -- and so the struct
  pub placed_turned :
      record {
        count = servers_in p;
        placement = padded (in_file_order (turns_of order figures) p);
        cache = padded (caches_of (in_turn (turns_of order figures) figures) p);
      } ≡
      placed figures (in_file_order (turns_of order figures) p)
  unfolding placed
  placed_turned = rw (caches_turned, servers_turned order figures p even)

-- Unused room of a set or of a plan does not change an answer.
-- Assumes nothing.
use Prim.Native.Nat.{ℕ}
use mathlib.Core.Path.{◌≡◌, ap, ap₂, ◌∙◌}
use mathlib.Core.Bool.{Bool, not, ◌&&◌}
use mathlib.Core.List.{List, [], ◌∷◌}
use Rattle.interrupting.specs.Interrupts.{Bound}
use Rattle.tasks.specs.declared.set.Header.{Header}
use Rattle.tasks.specs.declared.set.Task.{Task}
use Rattle.tasks.specs.declared.set.TaskSet.{TaskSet}
use Rattle.tasks.specs.Set.{members}
use Rattle.tasks.specs.Search.{first_task}
use Rattle.loads.specs.Figures.{Figures, figures_of}
use Rattle.members.specs.Server.{Board, fits}
use Rattle.servers.specs.Placement.{placement_of, caches_of}
use Rattle.sizing.specs.Reserve.{reserves_of}
use Rattle.taskask.specs.Ask.{count_row, ask_row}
use Rattle.taskrows.specs.Rows.{figures_outcome}
use Rattle.plan.specs.declared.plan.Plan.{Plan}
use Rattle.setfigures.specs.Figures.{set_figures}
use Rattle.setfigures.specs.Board.{set_interrupts, set_board}
use Rattle.rows.specs.Rows.{horizon_of, horizon_row, charged_outcome}
use Rattle.alonerow.specs.Alone.{alone_row}
use Rattle.layout.specs.Layout.{laid_out}
use Rattle.layout.specs.Made.{reserves_with, caches_with, plan_with, set_placement, set_reserves, set_caches, plan_made}
use Rattle.planner.specs.Planner.{needed, full_row, plan_outcome, plan_of}
use Rattle.plancheck.specs.Makes.{is_done, makes}
use Rattle.planagree.specs.Agrees.{SamePlan}
use Rattle.planprocessor.specs.Standing.{is_processor}
use Rattle.whoruns.specs.WhoRuns.{who_runs}
use Rattle.named.specs.Named.{is_server}
use Rattle.doespass.specs.DoesPass.{does_pass}
use Rattle.plan_claims.specs.Claims.{SameSet, SetRoomIgnored, PlanRoomIgnored}
use Rattle.planagree.proofs.AgreeLaws.{agree_alike}

-- ---- two sets that differ in unused room alone

module _ (a b : TaskSet) (s : SameSet a b) where
  same_ask : ask_row a ≡ ask_row b
  unfolding ask_row count_row
  same_ask = rw (s.tasks, s.interrupts, s.header, s.count, s.interrupt_count_lem)

  same_interrupts : set_interrupts a ≡ set_interrupts b
  unfolding set_interrupts
  same_interrupts = rw (s.interrupts, s.header)

  same_board : set_board a ≡ set_board b
  same_board = ap₂ (λ (h : Header) (bs : List Bound). record { header = h; interrupts = bs }) s.header same_interrupts

  same_charged : charged_outcome a ≡ charged_outcome b
  unfolding charged_outcome figures_outcome horizon_row horizon_of
  same_charged = rw (s.tasks, s.interrupts, same_interrupts, s.header)

  same_figures_lem : set_figures a ≡ set_figures b
  unfolding set_figures
  same_figures_lem = rw (s.tasks, s.header)

  same_placement : set_placement a ≡ set_placement b
  unfolding set_placement
  same_placement = ap₂ (λ (d : Board) (fs : List Figures). placement_of d fs) same_board same_figures_lem

  same_reserves : set_reserves a ≡ set_reserves b
  unfolding set_reserves reserves_with
  same_reserves =
      ap (reserves_of (set_board a) (set_figures a)) same_placement
      ∙ ap₂ (λ (d : Board) (fs : List Figures). reserves_of d fs (set_placement b)) same_board same_figures_lem

  same_caches : set_caches a ≡ set_caches b
  unfolding set_caches caches_with
  same_caches = ap₂ (λ (fs : List Figures) (p : List ℕ). caches_of fs p) same_figures_lem same_placement

  same_made : plan_made a ≡ plan_made b
  unfolding plan_made plan_with set_reserves set_caches
  same_made =
      ap₂ (λ (p rs : List ℕ). laid_out a.header.slot (set_caches a) p rs) same_placement same_reserves
      ∙ ap₂ (λ (h : Header) (cs : List ℕ). laid_out h.slot cs (set_placement b) (reserves_with b (set_placement b))) s.header same_caches

  same_needed : needed a ≡ needed b
  unfolding needed
  same_needed = rw (same_reserves, s.header)

  same_full : full_row a ≡ full_row b
  unfolding full_row
  same_full = rw (same_needed, s.header)

  alike_alone : (t : Task) → alone_row a t ≡ alone_row b t
  unfolding alone_row
  alike_alone t = ap₂ (λ (d : Board) (h : Header). not (fits d (figures_of h t ∷ []))) same_board s.header

  same_alone : first_task (alone_row a) (members a) ≡ first_task (alone_row b) (members b)
  same_alone = ap₂ (λ (p : Task → Bool) (ts : List Task). first_task p ts) (λ i t. alike_alone t i) s.tasks

  same_outcome : plan_outcome a ≡ plan_outcome b
  unfolding plan_outcome
  same_outcome = rw (same_ask, same_charged, same_alone, same_full, same_needed)

  same_check : (plan : Plan) → makes a plan ≡ makes b plan
  unfolding makes
  same_check plan = rw (same_outcome, same_made, s.count)

  -- the same answers
  pub set_room : SetRoomIgnored a b
  unfolding plan_of who_runs does_pass
  set_room = record {
    planner = rw (same_outcome, same_made);
    check = same_check;
    who = λ plan p x. rw (same_check plan, same_reserves, s.header);
    pass = λ plan q R. rw (same_check plan, same_figures_lem, same_placement, same_interrupts, s.header);
  }

-- ---- two plans that differ in unused room alone

module _ (set : TaskSet) (a b : Plan) (s : SamePlan set.count a b) where
  check_plans : makes set a ≡ makes set b
  unfolding makes
  check_plans = ap (λ (x : Bool). (is_done (plan_outcome set) && x)) (agree_alike set.count a b (plan_made set) s)

  -- the same answers
  pub plan_room : PlanRoomIgnored set a b
  unfolding who_runs does_pass is_processor is_server
  plan_room = record {
    check = check_plans;
    who = λ p x. rw (check_plans, s.ring, s.whole);
    pass = λ q R. rw (check_plans, s.servers);
  }

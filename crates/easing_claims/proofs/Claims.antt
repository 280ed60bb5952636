-- The claims of specs/Claims.antt, proved.
-- Assumes nothing.
use Prim.Native.Nat.{ℕ, suc, ◌≤◌, ◌<◌}
use native.Mathlib.Nat.{le_refl, le_trans}
use native.Mathlib.Omega.{arith}
use mathlib.Core.Path.{◌≡◌, sym, ap, subst, ◌∙◌}
use mathlib.Core.List.{List}
use mathlib.Core.Logic.{⊎_elim}
use lib.ListN.{length, get_or, take, get_or-map}
use lib.Seq.{get_or-take}
use Rattle.verdict.specs.Reserve.{Smallest}
use Rattle.tasks.specs.declared.set.Task.{Task}
use Rattle.taskask.proofs.Carried.{ask_count, count_within}
use Rattle.loads.specs.Charge.{server_loss}
use Rattle.loads.specs.Figures.{Figures}
use Rattle.members.specs.Server.{server_demand}
use Rattle.setfigures.specs.Board.{set_board}
use Rattle.reserves.specs.Reserves.{ring_processors, wholes}
use Rattle.planner.proofs.Made.{may_charge, slot_some, set_count}
use Rattle.plan.specs.declared.server.Server.{Server}
use Rattle.plan.specs.Plan.{no_server, server_at, reserves_in}
use Rattle.plancheck.proofs.Checked.{OfSet, of_set}
use Rattle.filed_claims.specs.Claims.{FileAccepted, set_in, plan_in}
use Rattle.filed_claims.proofs.FiledLaws.{filed_full, filed_made}
use Rattle.filed_claims.proofs.Claims.{file_smallest, file_checked}
use Rattle.easing.specs.Eased.{demand_in, loss_in, ServerOf}
use Rattle.easing.proofs.Claims.{reserve_falls, less_asked}
use Rattle.easing.proofs.ServerLaws.{server_loss_lem}
use Rattle.easing_claims.specs.Claims.{tasks_in, HasServer, ServerEased, FileEased, FileKeepsServers}
use Rattle.easing_claims.proofs.TasksLaws.{tasks_figures, tasks_among_lem}
use Rattle.easing_claims.proofs.ProcessorLaws.{NoneAbove, processors_fall}

module _ (text : List ℕ) (ok : FileAccepted text) where
  abbrev tasks : ℕ → List Task
  tasks q = tasks_in (set_in text) (plan_in text) q

  known : OfSet (set_in text) (plan_in text)
  known = of_set (set_in text) (filed_full text) (plan_in text) (filed_made text ok)

  slot : 1 ≤ (set_in text).header.slot
  slot = slot_some (set_in text) (filed_full text) known.clear

  server : (q : ℕ) → ServerOf (set_in text) (tasks q)
  server q = record { charged = may_charge (set_in text) (filed_full text) known.clear; own = tasks_among_lem (set_in text) (plan_in text) q }

  -- its reserve is the smallest of its tasks
  smallest : (q : ℕ) → HasServer text q →
      Smallest (demand_in (set_in text) (tasks q)) (set_in text).header.slot (loss_in (set_in text) (tasks q)) (server_at (plan_in text) q).reserve
  smallest q has =
      subst (λ (ms : List Figures). Smallest (server_demand (set_board (set_in text)) ms) (set_in text).header.slot (server_loss (set_in text).header ms) (server_at (plan_in text) q).reserve)
      (sym (tasks_figures (set_in text) (plan_in text) q)) (file_smallest text ok q has.0 has.1)

pub file_eased : FileEased
file_eased text text' q q' ok ok' has has' e =
    reserve_falls (demand_in (set_in text) (tasks text ok q)) (demand_in (set_in text') (tasks text' ok' q')) (set_in text).header.slot
    (loss_in (set_in text) (tasks text ok q)) (loss_in (set_in text') (tasks text' ok' q')) (server_at (plan_in text) q).reserve (server_at (plan_in text') q').reserve
    (λ t some. less_asked (set_in text) (set_in text') (tasks text ok q) (tasks text' ok' q') e (server text ok q) t) (server_loss_lem e) (smallest text ok q has)
    (subst (λ (S : ℕ). Smallest (demand_in (set_in text') (tasks text' ok' q')) S (loss_in (set_in text') (tasks text' ok' q')) (server_at (plan_in text') q').reserve) e.slot (smallest text' ok' q' has'))

-- ---- where all servers are eased

module _ (text : List ℕ) (ok : FileAccepted text) where
  -- there is a server, since there is a task
  servers_some : 1 ≤ (plan_in text).servers
  servers_some =
      let some : 1 ≤ (set_in text).count = (count_within (set_in text) (ask_count (set_in text) (known text ok).clear.carried)).0 in
      let there = (file_checked text ok).placed.there 1 (le_refl 1) some in
      le_trans there.0 there.1

  reserves_many : length (reserves_in (plan_in text)) ≡ (plan_in text).servers
  reserves_many = ap length (known text ok).reserves ∙ set_count (set_in text) (filed_full text) (known text ok).clear ∙ sym (known text ok).servers

  reserve_at : (i : ℕ) → i < (plan_in text).servers → get_or (reserves_in (plan_in text)) i 0 ≡ (server_at (plan_in text) (suc i)).reserve
  reserve_at i h =
      get_or-map (λ (s : Server). s.reserve) (take (plan_in text).servers (plan_in text).server) i no_server
      ∙ ap (λ (s : Server). s.reserve) (get_or-take (plan_in text).servers (plan_in text).server i no_server h)

  reserve_within : (q : ℕ) → HasServer text q → (server_at (plan_in text) q).reserve ≤ (set_in text).header.slot
  reserve_within q has =
      ⊎_elim (λ ring. omega (arith, ring.parts)) (λ whole. omega (arith, whole)) (smallest text ok q has).allowed

none_above : (text text' : List ℕ) (ok : FileAccepted text) (ok' : FileAccepted text') → (plan_in text').servers ≡ (plan_in text).servers →
    ((q : ℕ) → HasServer text q → ServerEased text text' q q) → NoneAbove (set_in text).header.slot (reserves_in (plan_in text)) (reserves_in (plan_in text'))
none_above text text' ok ok' many each =
    record {
      many = reserves_many text' ok' ∙ many ∙ sym (reserves_many text ok);
      within = λ i h. let there : i < (plan_in text).servers = omega (arith, reserves_many text ok) in
          omega (arith, reserve_at text ok i there, reserve_within text ok (suc i) (omega arith, omega arith));
      below = λ i h. let there : i < (plan_in text).servers = omega (arith, reserves_many text ok) in
          let has : HasServer text (suc i) = (omega arith, omega arith) in
          omega (
            arith,
            reserve_at text ok i there,
            reserve_at text' ok' i (omega (arith, many)),
            file_eased text text' (suc i) (suc i) ok ok' has (omega arith, omega (arith, many)) (each (suc i) has),
          );
    }

pub file_keeps_servers : FileKeepsServers
file_keeps_servers text text' ok ok' many each =
    let S = (set_in text).header.slot in
    let same : (set_in text').header.slot ≡ S = (each 1 (le_refl 1, servers_some text ok)).slot in
    let needs = (file_checked text ok).on_board.needs in
    let needs' = (file_checked text' ok').on_board.needs in
    omega (
      arith,
      needs.ring,
      needs.whole,
      needs'.ring ∙ ap (λ (s : ℕ). ring_processors s (reserves_in (plan_in text'))) same,
      needs'.whole ∙ ap (λ (s : ℕ). wholes s (reserves_in (plan_in text'))) same,
      processors_fall S (reserves_in (plan_in text)) (reserves_in (plan_in text')) (slot text ok) (none_above text text' ok ok' many each),
    )

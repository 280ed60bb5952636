-- The ring of a plan that is checked, by the plan's own figures, what its list names, and where it starts.
-- Assumes nothing.
use Prim.Native.Nat.{ℕ, suc, ◌+◌, ◌*◌, ◌%◌, ◌≤◌, ◌<◌}
use mathlib.Core.Path.{◌≡◌, refl, ap, subst, ◌∙◌}
use mathlib.Core.Bool.{true}
use mathlib.Core.List.{List}
use native.Mathlib.Nat.{min-le_left, mul-pos}
use native.Mathlib.Omega.{arith}
use borrow.Author.Tests.{le-leb}
use lib.ListN.{length, length-map, length-take, take}
use Rattle.laws.proofs.Tests.{and_both}
use Rattle.tasks.specs.declared.set.TaskSet.{TaskSet}
use Rattle.tasks.specs.Set.{most_tasks}
use Rattle.ring.specs.declared.clock.Tick.{Tick}
use Rattle.ring.specs.Who.{who_of}
use Rattle.ring_claims.specs.Slotted.{Slotted}
use Rattle.reserves.specs.Reserves.{ring_processors}
use Rattle.turn.specs.Switches.{Switch, runs, turn_switches, switch_lines, switch_text}
use Rattle.turn.proofs.TextLaws.{lines_length}
use Rattle.turn_claims.specs.List.{StandsIn, named}
use Rattle.turn_claims.proofs.Claims.{switches_exactly, switches_replay}
use Rattle.plan.specs.declared.plan.Plan.{Plan}
use Rattle.plan.specs.declared.server.Server.{Server}
use Rattle.plan.specs.Plan.{reserves_in}
use Rattle.layout.specs.Made.{set_placement}
use Rattle.plancheck.specs.Makes.{makes}
use Rattle.planfile.proofs.AcceptLaws.{makes_counted}
use Rattle.whoruns.specs.declared.WhoAnswer.{WhoAnswer}
use Rattle.planprocessor.specs.Standing.{is_processor}
use Rattle.whoruns.specs.WhoRuns.{who_runs}
use Rattle.whoruns.proofs.WhoLaws.{who_there}
use Rattle.whoruns.proofs.StandingLaws.{who_same}
use Rattle.rotas.proofs.Claims.{standing_slotted}
use Rattle.fitting_rotas.specs.Rota.{rota_of}
use Rattle.promises.proofs.Claims.{accepted_stands, plan_is_rota}
use Rattle.switchlist.specs.Write.{plan_switches}
use Rattle.switchlist.proofs.LaidLaws.{plan_ring}

-- a switch of every ring processor stands in the list at tick 0
start_stands : (S : ℕ) (reserves : List ℕ) (p : ℕ) → 1 ≤ S → 1 ≤ p → p ≤ ring_processors S reserves →
    StandsIn (record { tick = 0; processor = p; server = runs S reserves p 0 }) (turn_switches S reserves)
start_stands S reserves p slot some l =
    let ring : 0 < ring_processors S reserves = omega (arith, some, l) in
    let ticks : 0 < S = omega (arith, slot) in
    (switches_exactly S reserves _).1
    (record { turn = mul-pos ring ticks; from_one = some; on_ring = l; names = refl; begun = λ (x : ℕ) (e : suc x ≡ 0) f. absurd (omega (arith, e)) })

-- a list in which something stands has lines
some_lines : {s : Switch} (list : List Switch) → StandsIn s list → 1 ≤ length (switch_lines list)
some_lines list at =
    let some : 1 ≤ length list = omega (arith, at.1) in
    omega (arith, lines_length list, some)

module _ (set : TaskSet) (full : length set.tasks ≡ most_tasks) (plan : Plan) (m : makes set plan ≡ true) where
  -- its reserves are slotted
  pub plan_slotted : Slotted plan.slot (reserves_in plan)
  plan_slotted =
      let made = plan_is_rota set plan full m in
      rw (made.1.slot, made.1.reserves) (standing_slotted (rota_of set (set_placement set)) (accepted_stands set made.0))

  -- and as many as there are servers at most
  pub plan_few : length (reserves_in plan) ≤ most_tasks
  plan_few =
      let counted = makes_counted set plan m in
      omega (
        arith,
        length-map (take plan.servers plan.server) (λ (s : Server). s.reserve),
        length-take plan.servers plan.server,
        min-le_left plan.servers (length plan.server),
        counted.servers,
      )

  -- a ring processor is there to be asked
  ring_there : (p : ℕ) → 1 ≤ p → p ≤ plan.ring → is_processor plan p ≡ true
  unfolding is_processor
  ring_there p some l = and_both (le-leb 1 p some) (le-leb p (plan.ring + plan.whole) (omega arith))

  -- the question names who runs by the plan's own reserves
  asked : (p x : ℕ) → 1 ≤ p → p ≤ plan.ring → runs plan.slot (reserves_in plan) p x ≡ (who_runs set plan p (record { 0 = x })).server
  asked p x some l =
      let at : Tick = record { 0 = x } in
      ap (λ (a : WhoAnswer). a.server) (who_there set plan m p at (who_of plan.slot (reserves_in plan) p at) (ring_there p some l) (who_same set full plan m p at))

  -- and so does the list
  pub list_names : (p x : ℕ) → 1 ≤ p → p ≤ plan.ring →
      named (turn_switches plan.slot (reserves_in plan)) p (x % (plan.ring * plan.slot)) ≡ (who_runs set plan p (record { 0 = x })).server
  list_names p x some l =
      let ring = plan_ring set full plan m in
      ap (λ (r : ℕ). named (turn_switches plan.slot (reserves_in plan)) p (x % (r * plan.slot))) ring ∙
      switches_replay plan.slot (reserves_in plan) p x plan_slotted.slot_some some (omega (arith, ring, l)) ∙
      asked p x some l

  -- tick 0 lists every ring processor
  pub list_starts : (p : ℕ) → 1 ≤ p → p ≤ plan.ring →
      StandsIn (record { tick = 0; processor = p; server = (who_runs set plan p (record { 0 = 0 })).server }) (turn_switches plan.slot (reserves_in plan))
  list_starts p some l =
      subst (λ (q : ℕ). StandsIn (record { tick = 0; processor = p; server = q }) (turn_switches plan.slot (reserves_in plan))) (asked p 0 some l)
      (start_stands plan.slot (reserves_in plan) p plan_slotted.slot_some some (omega (arith, plan_ring set full plan m, l)))

  pub list_some : 1 ≤ plan.ring → 1 ≤ length (plan_switches plan)
  unfolding switch_text
  list_some some = some_lines (turn_switches plan.slot (reserves_in plan)) (list_starts 1 (omega arith) some)

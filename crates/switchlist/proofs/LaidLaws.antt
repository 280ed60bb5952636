-- A plan that is checked is laid: the row of its reserves with its slot, ring processors and idle positions is what a turn is walked by.
-- Assumes nothing.
use Prim.Native.Nat.{ℕ, ◌+◌, ◌*◌, ◌≤◌}
use mathlib.Core.Path.{◌≡◌, refl, sym, ap, ◌∙◌}
use mathlib.Core.Bool.{true}
use mathlib.Core.List.{List, map}
use native.Mathlib.Nat.{min-le_left}
use native.Mathlib.Omega.{arith}
use lib.ListN.{length, length-take, take}
use Rattle.frames.specs.declared.table.Frame.{Frame}
use Rattle.frames.specs.Table.{length_of}
use Rattle.tasks.specs.Set.{most_tasks}
use Rattle.tasks.specs.declared.set.TaskSet.{TaskSet}
use Rattle.reserves.specs.Reserves.{ring_processors, idle_positions}
use Rattle.turn.specs.declared.Turn.{Turn}
use Rattle.turn.specs.Stretch.{Laid}
use Rattle.turn.specs.Switches.{switch_lines, turn_switches, switch_text}
use Rattle.turn.specs.Count.{switch_count, most_switches}
use Rattle.switchline.proofs.LaidLaws.{slotted_taken}
use Rattle.turn.proofs.TextLaws.{lines_length}
use Rattle.turn.proofs.CountLaws.{turn_count, count_most}
use Rattle.ring_claims.specs.Slotted.{Slotted}
use Rattle.plan.specs.declared.plan.Plan.{Plan}
use Rattle.plan.specs.declared.server.Server.{Server}
use Rattle.plan.specs.Plan.{reserves_in}
use Rattle.layout.specs.Made.{set_reserves, plan_with, plan_made}
use Rattle.layout.specs.Layout.{laid_out}
use Rattle.plan.proofs.RecordLaws.{take_map}
use Rattle.plancheck.specs.Makes.{makes}
use Rattle.planagree.specs.Agrees.{SamePlan}
use Rattle.planagree.proofs.AgreeLaws.{agree_same}
use Rattle.plancheck.proofs.Checked.{OfSet, of_set, laid_in, makes_agrees}
use Rattle.planfile.proofs.AcceptLaws.{makes_counted}
use Rattle.switchlist.specs.Write.{plan_switches}

-- the figures of a plan that a turn is walked by
abbrev pub turn_of : Plan → Turn
turn_of plan = record { servers = plan.servers; slot = plan.slot; ring = plan.ring; idle = plan.idle }

made_ring : (set : TaskSet) → (plan_made set).ring ≡ ring_processors set.header.slot (set_reserves set)
unfolding plan_made plan_with laid_out set_reserves
made_ring set = refl

made_idle : (set : TaskSet) → (plan_made set).idle ≡ idle_positions set.header.slot (set_reserves set)
unfolding plan_made plan_with laid_out set_reserves
made_idle set = refl

module _ (set : TaskSet) (full : length set.tasks ≡ most_tasks) (plan : Plan) (m : makes set plan ≡ true) where
  own : OfSet set plan
  own = of_set set full plan m

  same : SamePlan set.count plan (plan_made set)
  same = agree_same plan (plan_made set) set.count (makes_agrees set plan m)

  -- the ring and its idle positions by the plan's own reserves
  pub plan_ring : plan.ring ≡ ring_processors plan.slot (reserves_in plan)
  plan_ring = same.ring ∙ made_ring set ∙ rw (own.slot, own.reserves)

  pub plan_idle : plan.idle ≡ idle_positions plan.slot (reserves_in plan)
  plan_idle = same.idle ∙ made_idle set ∙ rw (own.slot, own.reserves)

  module _ (room : length plan.server ≡ most_tasks) {row : List ℕ} (e : row ≡ map (λ (s : Server). s.reserve) plan.server) where
    -- the row's first reserves are the plan's
    pub row_front : take plan.servers row ≡ reserves_in plan
    row_front = ap (take plan.servers) e ∙ take_map (λ (s : Server). s.reserve) plan.servers plan.server

    pub plan_laid : Laid (turn_of plan) row
    plan_laid =
        let counted = makes_counted set plan m in
        record {
          slotted = rw (own.slot, e) (laid_in set full plan m room);
          ring = plan_ring ∙ ap (ring_processors plan.slot) (sym row_front);
          idle = plan_idle ∙ ap (idle_positions plan.slot) (sym row_front);
          few = omega (arith, counted.processors);
        }

-- the list of a row that is laid: how many lines, how many bytes
module _ (plan : Plan) {row : List ℕ} (laid : Laid (turn_of plan) row) (front : take plan.servers row ≡ reserves_in plan) (few : plan.servers ≤ most_tasks) where
  slotted : Slotted plan.slot (take plan.servers row)
  slotted = slotted_taken laid.slotted

  pub count_few : {n : ℕ} → n ≡ switch_count plan.slot (take plan.servers row) → n ≤ most_switches
  count_few e =
      omega (arith, e, count_most plan.slot (take plan.servers row) slotted (omega (arith, length-take plan.servers row, min-le_left plan.servers (length row), few)))

  pub list_bytes : {n k : ℕ} → n ≡ switch_count plan.slot (take plan.servers row) → k ≡ n * (length_of Frame.Switch + 1) → k ≡ length (plan_switches plan)
  unfolding switch_text
  list_bytes {n} {k} e f =
      f ∙ ap (λ (m : ℕ). m * (length_of Frame.Switch + 1)) (e ∙ sym (turn_count plan.slot (take plan.servers row) slotted)) ∙
      sym (lines_length (turn_switches plan.slot (take plan.servers row))) ∙
      ap (λ (rs : List ℕ). length (switch_lines (turn_switches plan.slot rs))) front

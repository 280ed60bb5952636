-- Each claim of specs/Claims.antt, proved.
-- Assumes nothing.
use Prim.Native.Nat.{ℕ, ◌+◌, ◌-◌, ◌≤◌, ◌<◌, ◌∣◌}
use mathlib.Core.Path.{◌≡◌, refl, ap, ap₂, subst, sym, ◌∙◌}
use mathlib.Core.Bool.{true}
use mathlib.Core.List.{List, ◌++◌, map}
use native.Mathlib.Omega.{arith}
use lib.ListN.{length, take}
use Rattle.refusals.specs.Refused.{Outcome}
use Rattle.wholes.specs.Multiple.{LeastMultipleOf}
use Rattle.wholes.proofs.Claims.{multiple_of_means}
use Rattle.demand.specs.Load.{Load, Sound, Every}
use Rattle.demand.specs.Passes.{Passes}
use Rattle.interrupting.specs.Interrupts.{Bound, EveryBound, greatest}
use Rattle.masking.proofs.MaskedLaws.{masked_in, masked_outside, masked_equal}
use Rattle.verdict.specs.Reserve.{Smallest}
use Rattle.verdict.specs.declared.answer.Verdict.{Verdict}
use Rattle.verdict.proofs.Tells.{passes_told, told_within}
use Rattle.tasks.specs.declared.set.Interrupt.{Interrupt}
use Rattle.tasks.specs.declared.set.Task.{Task}
use Rattle.tasks.specs.declared.set.TaskSet.{TaskSet}
use Rattle.tasks.specs.Set.{most_tasks, masked_ticks, rule_number, members as set-members, interrupts_in, zero_task}
use Rattle.loads.specs.Charge.{Member}
use Rattle.loads.specs.Figures.{Figures, figures_of}
use Rattle.loads.proofs.ChargeLaws.{loads_many, loads_sound, loads_period}
use Rattle.packing.specs.Rules.{order_of}
use Rattle.packing.proofs.Claims.{sorted}
use Rattle.servers.specs.Placement.{placement_by, placement_of}
use Rattle.servers.proofs.Claims.{any_multiple}
use Rattle.servers.proofs.RuleLaws as own_horizon_lem
use Rattle.packing.proofs.EachLaws.{every_there}
use Rattle.packing.specs.Turns.{task_at}
use Rattle.members.specs.Server.{server_horizon}
use Rattle.members.proofs.FiledLaws.{every_chosen}
use Rattle.byprocessor.specs.Interrupts.{by_processor}
use Rattle.setfigures.specs.Figures.{set_figures}
use Rattle.setfigures.specs.Board.{set_interrupts, set_board}
use Rattle.rows.specs.Rows.{horizon_of, Chargeable}
use Rattle.setfigures.proofs.FigureLaws.{figures_length}
use Rattle.taskrows.proofs.BoardLaws.{board_some}
use Rattle.rows.proofs.InterruptLaws.{each_on, set_sound, figures_divide}
use Rattle.rows.proofs.Clears.{horizon_least, horizon_short, interrupts_of_horizon, set_costs, set_filed}
use Rattle.plan.specs.declared.plan.Plan.{Plan}
use Rattle.plan.specs.Plan.{server_at}
use Rattle.layout.specs.Made.{set_placement}
use Rattle.planner.proofs.Made.{rows_clear, fits, may_charge, members, sound as board, slot_some}
use Rattle.plancheck.specs.Makes.{makes}
use Rattle.plancheck.proofs.Checked.{OfSet, of_set}
use Rattle.named.specs.Named.{is_server}
use Rattle.doespass.specs.DoesPass.{does_pass}
use Rattle.plan_claims.specs.Claims.{members_in, allowed_in}
use Rattle.plan_claims.proofs.Claims.{plan_checked, who_answers, pass_answers}
use Rattle.planfile_claims.proofs.Claims.{text_tells_plan, nothing_cut_off}
use Rattle.promises.proofs.Claims.{accepted_stands, plan_is_rota, printed_rota}
use Rattle.filed_claims.specs.Claims.{set_in, plan_in, demand_in, loss_in, loads_in, PlacedFirst, ReportSmallest, GreatestOf, HorizonEnough, ClosestAt, yes_at, ByRule, FileFull, FileByRule, FileFirstFit, FileSmallest, FileReport, FileMasked, FileInterrupts, FileNeverAlone, FileHorizon, FileChecked, FileStands, FileIsRota, FilePrintedRota, FileQuestions, FileClosest, FileCutsNothing, FileTellsPlan, RoomNeverShows}
use Rattle.filed_claims.proofs.FiledLaws.{filed_full, filed_made, filed_interrupts, filed_never, filed_printed, filed_who, filed_pass}
use Rattle.filed_claims.proofs.RuleLaws.{turn_goes, first_goes}
use Rattle.filed_claims.proofs.ReportLaws.{by_report}
use Rattle.filed_claims.proofs.InterruptLaws.{greatest_is, by_on, least_in_order}
use Rattle.filed_claims.proofs.StepLaws.{asks_lawful, steps_pass, asks_step, none_closer, earlier_wider}
use Rattle.filed_claims.proofs.MaskedLaws.{masked_alone, asks_rises}
use Rattle.filed_claims.proofs.ShownLaws.{text_same, set_written_same, plan_text_same, plan_written_same}

-- a plan that the planner makes of a set that has all its places
module _ (set : TaskSet) (plan : Plan) (full : length set.tasks ≡ most_tasks) (made : makes set plan ≡ true) where
  known : OfSet set plan
  known = of_set set full plan made

  slot : 1 ≤ set.header.slot
  slot = slot_some set full known.clear

  placed_same : take set.count plan.placement ≡ placement_of (set_board set) (set_figures set)
  unfolding set_placement
  placed_same = known.placement

  -- what holds of every figure holds of those of a server
  sound : (q : ℕ) → Every Sound (loads_in set plan q)
  sound q =
      loads_sound set.header (members_in set plan q)
      (every_chosen (Member set.header) (set_figures set) (take set.count plan.placement) q (members set full known.clear))

  -- the interrupts are sound, and stand on the board's processors
  chargeable : Chargeable set
  chargeable = may_charge set full known.clear

  bound : EveryBound (λ (b : Bound). Sound b.load) (set_interrupts set)
  bound = set_sound set chargeable.interrupts

  on : EveryBound (λ (b : Bound). (1 ≤ b.processor) × (b.processor ≤ set.header.processors)) (set_interrupts set)
  unfolding set_interrupts
  on = by_on set.header.processors (interrupts_in set)

  -- its reserves are the smallest
  smallest : (q : ℕ) → 1 ≤ q → q ≤ plan.servers → Smallest (demand_in set plan q) set.header.slot (loss_in set plan q) (server_at plan q).reserve
  smallest q some there = (plan_checked set plan full made).reserved.smallest q some there

  -- where B is 0 they are by the report's test
  report : masked_ticks set.header ≡ 0 → (q : ℕ) → 1 ≤ q → q ≤ plan.servers →
      ReportSmallest (demand_in set plan q) set.header.slot (loss_in set plan q) (server_at plan q).reserve
  report unmasked q some there =
      by_report (demand_in set plan q) set.header.slot (loss_in set plan q) (server_at plan q).reserve
      (asks_rises (masked_ticks set.header) (loads_in set plan q) set.header.processors (set_interrupts set) unmasked (sound q) bound) (smallest q some there)

  -- the set's horizon is a multiple of the periods of a server
  horizon_some : 1 ≤ horizon_of set
  horizon_some = (set_filed set (fits set full known.clear) chargeable (set_costs set known.clear.carried) (rows_clear set full known.clear).horizon refl refl).some

  periods : Every (λ (f : Figures). f.period ∣ horizon_of set) (set_figures set)
  periods = figures_divide (set_figures set) (set_interrupts set) (horizon_of set) (horizon_least set).of_others

  -- its tasks are placed by the rule of its header, with rooms in its horizon
  placed_by_lem : take set.count plan.placement ≡ placement_by (rule_number set.header) (set_board set) (horizon_of set) (set_figures set)
  unfolding placement_of
  placed_by_lem =
      placed_same ∙
      any_multiple (rule_number set.header) (set_board set) (server_horizon (set_board set) (set_figures set)) (horizon_of set) (set_figures set)
      (own_horizon_lem.horizon_some (set_board set) (set_figures set) (board set full known.clear) (members set full known.clear)) horizon_some
      (own_horizon_lem.horizon_periods (set_board set) (set_figures set) (board set full known.clear) (members set full known.clear)) periods

  many : length (set_figures set) ≡ set.count
  many = figures_length set (fits set full known.clear)

  -- every task has a period
  some_periods : (i : ℕ) → i < length (set_figures set) → 1 ≤ (task_at (set_figures set) i).period
  some_periods i there =
      let member = every_there (Member set.header) (record { cost = 0; deadline = 0; period = 0; cache = 0 }) (set_figures set) i there (members set full known.clear) in
      omega (arith, member.some, member.meets, member.constrained)

  by_rule : ByRule set plan
  by_rule =
      record {
        turns = sorted (order_of (rule_number set.header)) (set_figures set) some_periods;
        placed = λ j there.
            turn_goes (rule_number set.header) (set_board set) (horizon_of set) (set_figures set) (board set full known.clear) (members set full known.clear)
            plan.placement set.count many placed_by_lem j (omega (arith, many));
      }

  placed_first : rule_number set.header ≡ 0 → (k : ℕ) → 1 ≤ k → k ≤ set.count → PlacedFirst set plan k
  placed_first zeroth k some there =
      first_goes (set_board set) (horizon_of set) (set_figures set) (board set full known.clear) (members set full known.clear) plan.placement set.count
      (placed_by_lem ∙ ap (λ (rule : ℕ). placement_by rule (set_board set) (horizon_of set) (set_figures set)) zeroth)
      (k - 1) (figures_of set.header zero_task) (omega (arith, many)) (omega arith)

  divides : (q : ℕ) → Every (λ (l : Load). l.period ∣ horizon_of set) (loads_in set plan q)
  divides q =
      loads_period set.header (members_in set plan q) (λ (p : ℕ). p ∣ horizon_of set)
      (every_chosen (λ (f : Figures). f.period ∣ horizon_of set) (set_figures set) (take set.count plan.placement) q periods)

  in_file_order_lem : LeastMultipleOf set.header.slot (map (λ (t : Task). t.period) (set-members set) ++ map (λ (i : Interrupt). i.period) (interrupts_in set)) (horizon_of set)
  unfolding horizon_of set_interrupts
  in_file_order_lem =
      least_in_order set.header.slot (map (λ (t : Task). t.period) (set-members set)) set.header.processors (interrupts_in set) (horizon_of set)
      (each_on set chargeable.interrupts) (multiple_of_means.is set.header.slot _)

  -- so it decides
  enough : HorizonEnough set plan
  enough = record {
    multiple = in_file_order_lem;
    short = horizon_short set (rows_clear set full known.clear).horizon;
    decides = λ q R some there.
        let d = steps_pass (masked_ticks set.header) (loads_in set plan q) set.header.processors (set_interrupts set) (sound q) bound set.header.slot (loss_in set plan q) R (horizon_of set) slot horizon_some (divides q) (interrupts_of_horizon set) in
        (λ passes t p h step. d.0 passes t p (omega (arith, h)) step, λ at-steps. d.1 (λ t p h step. at-steps t p (omega (arith, h)) step));
  }

  -- where a server passes, the question names the closest length
  close : (q R : ℕ) → is_server plan q ≡ true → allowed_in set plan q R ≡ true → Passes (demand_in set plan q) set.header.slot (loss_in set plan q) R →
      (t : ℕ) × ClosestAt set plan q R t × (does_pass set plan q R ≡ yes_at set plan q R t)
  close q R server allowed passes =
      let ls = loads_in set plan q in
      let B = masked_ticks set.header in
      let m = set.header.processors in
      let bs = set_interrupts set in
      let S = set.header.slot in
      let L = loss_in set plan q in
      let answers = pass_answers set plan q R full made server allowed in
      let told = passes_told (demand_in set plan q) S L R (does_pass set plan q R).verdict answers.tells passes in
      let t = told.0 in
      let c = told.1 in (
        t,
        record {
          step = asks_step B ls m bs (sound q) bound t c.steps;
          within = told_within (demand_in set plan q) (horizon_of set) S L R t (asks_lawful B ls m bs (sound q) bound (horizon_of set) horizon_some (divides q) (interrupts_of_horizon set)) slot passes c;
          least = none_closer B ls m bs (sound q) bound on S L R t slot c;
          first = earlier_wider B ls m bs (sound q) bound on S L R t slot c;
        },
        ap₂ (λ (o : Outcome) (v : Verdict). record { outcome = o; verdict = v }) answers.done told.2,
      )

pub file_full : FileFull
file_full = filed_full

pub file_by_rule : FileByRule
file_by_rule text ok = by_rule (set_in text) (plan_in text) (filed_full text) (filed_made text ok)

pub file_first_fit : FileFirstFit
file_first_fit text ok = placed_first (set_in text) (plan_in text) (filed_full text) (filed_made text ok)

pub file_smallest : FileSmallest
file_smallest text ok = smallest (set_in text) (plan_in text) (filed_full text) (filed_made text ok)

pub file_report : FileReport
file_report text ok = report (set_in text) (plan_in text) (filed_full text) (filed_made text ok)

pub file_masked : FileMasked
file_masked text ok q some there =
    let h = (set_in text).header in
    let ms = members_in (set_in text) (plan_in text) q in
    let ls = loads_in (set_in text) (plan_in text) q in
    let g = greatest h.processors (set_interrupts (set_in text)) in
    record {
      inside = λ t from until. omega (arith, masked_in (masked_ticks h) ls t from until);
      outside = λ t out. ap (λ (n : ℕ). n + g t) (masked_outside (masked_ticks h) ls t out);
      one = λ e t. ap (λ (n : ℕ). n + g t) (masked_alone (masked_ticks h) ls t (loads_many h ms ∙ e));
      equal = λ d e t. ap (λ (n : ℕ). n + g t) (masked_equal (masked_ticks h) ls t d e);
    }

pub file_interrupts_lem : FileInterrupts
unfolding set_interrupts
file_interrupts_lem text ok q t =
    let set = set_in text in
    let known = of_set set (filed_full text) (plan_in text) (filed_made text ok) in
    let m = set.header.processors in (
      greatest m (by_processor m (interrupts_in set)) t,
      subst (λ (is : List Interrupt). GreatestOf m is t (greatest m (by_processor m (interrupts_in set)) t)) (filed_interrupts text ok)
          (greatest_is m (interrupts_in set) t (board_some set.header (rows_clear set (filed_full text) known.clear).board)),
      refl,
    )

pub file_never_alone : FileNeverAlone
file_never_alone text k none e = filed_never text k none e

pub file_horizon : FileHorizon
file_horizon text ok = enough (set_in text) (plan_in text) (filed_full text) (filed_made text ok)

pub file_checked : FileChecked
file_checked text ok = plan_checked (set_in text) (plan_in text) (filed_full text) (filed_made text ok)

pub file_stands : FileStands
file_stands text ok = accepted_stands (set_in text) (plan_is_rota (set_in text) (plan_in text) (filed_full text) (filed_made text ok)).0

pub file_is_rota : FileIsRota
file_is_rota text ok = (plan_is_rota (set_in text) (plan_in text) (filed_full text) (filed_made text ok)).1

pub file_printed_rota : FilePrintedRota
file_printed_rota text mark p x ok = printed_rota (set_in text) (plan_in text) mark p x (filed_full text) (filed_made text ok)

pub file_questions : FileQuestions
file_questions text ok = record {
  who_asked = filed_who text ok;
  who = λ p x. who_answers (set_in text) (plan_in text) p x (filed_full text) (filed_made text ok);
  pass_asked = filed_pass text ok;
  pass = λ q R. pass_answers (set_in text) (plan_in text) q R (filed_full text) (filed_made text ok);
}

pub file_closest : FileClosest
file_closest text q R ok server allowed passes =
    let c = close (set_in text) (plan_in text) (filed_full text) (filed_made text ok) q R server allowed passes in
    (c.0, c.1, filed_pass text ok q R ∙ c.2)

pub file_cuts_nothing : FileCutsNothing
file_cuts_nothing text ok = nothing_cut_off (set_in text) (plan_in text) (filed_full text) (filed_made text ok)

pub file_tells_plan : FileTellsPlan
file_tells_plan text₁ text₂ ok₁ ok₂ same =
    text_tells_plan (set_in text₁) (set_in text₂) (plan_in text₁) (plan_in text₂) (filed_full text₁) (filed_full text₂) (filed_made text₁ ok₁) (filed_made text₂ ok₂)
    (sym (filed_printed text₁ ok₁) ∙ same ∙ filed_printed text₂ ok₂)

pub room_never_shows : RoomNeverShows
room_never_shows = record {
  set_text = text_same;
  set_written_lem = λ a b buffer s. set_written_same a b s buffer;
  plan_text_lem = λ a b p q s r. plan_text_same a b s p q r;
  plan_written_lem = λ a b p q buffer s r. plan_written_same a b s p q r buffer;
}

-- Every line of an accepted plan's text has a figure for each field, and each fits its field.
-- Assumes nothing.
use Rattle.std.specs.Prelude.{None, Option, Some}
use Prim.Native.Nat.{ℕ, zero, suc, ◌+◌, ◌-◌, ◌^◌, ◌≤◌, ◌<◌}
use mathlib.Core.Path.{◌≡◌, refl, ap, subst}
use mathlib.Core.List.{List, [], ◌∷◌}
use mathlib.Core.Bool.{true, false}
use native.Mathlib.Omega.{arith}
use lib.Dec.{ltb, lit<}
use lib.ListN.{length, get_or}
use Rattle.frames.specs.Table.{widths_of, width_of}
use Rattle.frames.specs.declared.table.Frame.{Frame}
use Rattle.tasks.specs.declared.set.Task.{Task}
use Rattle.tasks.specs.declared.set.TaskSet.{TaskSet}
use Rattle.tasks.specs.Set.{most_tasks, members, zero_task}
use Rattle.tasks.proofs.Some.{some_at}
use Rattle.tasks.proofs.SetLaws.{members_length, member_at}
use Rattle.taskask.specs.Ask.{task_overflows}
use Rattle.taskask.proofs.Carried.{ask_tasks, task_fits}
use Rattle.plan.specs.declared.plan.Plan.{Plan}
use Rattle.planner.proofs.Made.{fits}
use Rattle.plancheck.specs.Makes.{makes}
use Rattle.plancheck.proofs.Checked.{OfSet, of_set}
use Rattle.planfigures.specs.Figures.{server_figures, placed_figures, processor_figures}
use Rattle.planlines.specs.Line.{plan_figures}
use Rattle.plantext.specs.Counts.{CountsFit}
use Rattle.planfile.proofs.AcceptLaws.{makes_counted}
use Rattle.planfile_claims.specs.Claims.{server_in, FitFields, InFields}
use Rattle.planfile_claims.proofs.TellLaws.{pick_fits}
use Rattle.planfile_claims.proofs.FieldLaws.{fit_fields}

-- figures that fit their widths, one by one
data Fit : List ℕ → List ℕ → Type 0 where
  none : Fit [] []
  more : {v w : ℕ} {vs ws : List ℕ} → v < 16 ^ w → Fit vs ws → Fit (v ∷ vs) (w ∷ ws)

many_fit : {vs ws : List ℕ} → Fit vs ws → length vs ≡ length ws
many_fit none = refl
many_fit (more h rest) = ap suc (many_fit rest)

each_fit : {vs ws : List ℕ} → Fit vs ws → (k : ℕ) → get_or vs k 0 < 16 ^ get_or ws k 0
each_fit none k = lit< tt
each_fit (more h rest) zero = h
each_fit (more h rest) (suc k) = each_fit rest k

in_fields : (frame : Frame) (figures : List ℕ) → Fit figures (widths_of frame) → InFields frame figures
in_fields frame figures f = record { many = many_fit f; each = each_fit f }

-- a task's id has two digits, whichever line it stands in
task_id_fits : (id cost deadline period : ℕ) (cache : Option ℕ) →
    task_overflows (record { id = id; cost = cost; deadline = deadline; period = period; cache = cache }) ≡ false → id < 16 ^ 2
unfolding widths_of
task_id_fits id cost deadline period None e = task_fits (record { id = id; cost = cost; deadline = deadline; period = period; cache = None }) e 0 (omega arith)
task_id_fits id cost deadline period (Some own) e = task_fits (record { id = id; cost = cost; deadline = deadline; period = period; cache = Some own }) e 0 (omega arith)

module _ (set : TaskSet) (plan : Plan) (full : length set.tasks ≡ most_tasks) (m : makes set plan ≡ true) where
  of : OfSet set plan
  of = of_set set full plan m

  counted : CountsFit set plan
  counted = makes_counted set plan m

  fit : FitFields set plan
  fit = fit_fields set plan full m

  -- a task's name has two digits
  id_fits : (i : ℕ) → i < set.count → (get_or set.tasks i zero_task).id < 16 ^ width_of Frame.Placed 0
  unfolding widths_of
  id_fits i h =
      let t = get_or (members set) i zero_task in
      subst (λ (s : Task). s.id < 16 ^ 2) (member_at set i zero_task h)
      (task_id_fits t.id t.cost t.deadline t.period t.cache
      (some_at task_overflows (members set) i zero_task (ask_tasks set of.clear.carried) (omega (arith, members_length set (fits set full of.clear)))))

  pub plan_whole : InFields Frame.Plan (plan_figures plan)
  unfolding widths_of
  plan_whole = in_fields Frame.Plan (plan_figures plan) (more fit.whole (more fit.ring (more fit.servers (more fit.slot (more fit.idle none)))))

  pub server_whole : (q : ℕ) → 1 ≤ q → q ≤ plan.servers → InFields Frame.Server (server_figures plan.server plan.slot q)
  unfolding widths_of server_figures
  server_whole q some h =
      let there : q - 1 < plan.servers = omega (arith, some, h) in
      let name : q < 16 ^ 2 = omega (arith, h, counted.servers) in
      let start = pick_fits (ltb (server_in plan (q - 1)).reserve plan.slot) _ (fit.start (q - 1) there) in
      in_fields Frame.Server (server_figures plan.server plan.slot q) (more name (more (fit.reserve (q - 1) there) (more start (more (fit.tasks (q - 1) there) none))))

  pub placed_whole : (k : ℕ) → 1 ≤ k → k ≤ set.count → InFields Frame.Placed (placed_figures set.tasks plan.placement k)
  unfolding widths_of placed_figures
  placed_whole k some h =
      let there : k - 1 < set.count = omega (arith, some, h) in
      in_fields Frame.Placed (placed_figures set.tasks plan.placement k) (more (id_fits (k - 1) there) (more (fit.server (k - 1) there) none))

  pub processor_whole : (p : ℕ) → 1 ≤ p → p ≤ plan.ring + plan.whole → InFields Frame.Processor (processor_figures plan.first p)
  unfolding widths_of processor_figures
  processor_whole p some h =
      let there : p - 1 < plan.ring + plan.whole = omega (arith, some, h) in
      let name : p < 16 ^ 2 = omega (arith, h, counted.processors) in
      in_fields Frame.Processor (processor_figures plan.first p) (more name (more (fit.first (p - 1) there) (more (fit.duration (p - 1) there) none)))

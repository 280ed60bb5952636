-- The proofs of what specs/Claims.antt claims.
-- Assumes nothing.
use Rattle.std.specs.Prelude.{Err, None, Ok}
use Prim.Native.Nat.{ℕ}
use mathlib.Core.List.{List}
use mathlib.Core.Path.{◌≡◌, refl, ◌∙◌, ap}
use Rattle.refusals.specs.Refused.{Outcome}
use Rattle.refusals.specs.Refused.{Written}
use Rattle.tasks.specs.declared.set.TaskSet.{TaskSet}
use Rattle.tasks.specs.Set.{zero_set, interrupts_with, set_of}
use Rattle.taskfile.specs.File.{header_at}
use Rattle.taskread.specs.declared.read.ReadAnswer.{ReadAnswer}
use Rattle.taskread.specs.Read.{answer, read_of}
use Rattle.planner.specs.declared.PlanAnswer.{PlanAnswer}
use Rattle.frames.specs.Table.{widths_of}
use Rattle.framesizes.specs.Overflow.{line_overflows, some_too_large}
use Rattle.taskrows.specs.Rows.{board_row, figures_outcome}
use Rattle.taskask.specs.Ask.{count_row, header_overflows, optional_overflows, ask_row}
use Rattle.loads.specs.Charge.{cache_of, charged_in, server_loads, server_loss}
use Rattle.members.specs.Server.{passes_with, fits, reserve_for}
use Rattle.taking.specs.Takes.{takes}
use Rattle.servers.specs.Placement.{join_by, placed_by, placement_by, placement_of}
use Rattle.sizing.specs.Reserve.{reserves_of}
use Rattle.setfigures.specs.Figures.{set_figures}
use Rattle.setfigures.specs.Board.{set_interrupts}
use Rattle.tightrows.specs.Rows.{slot_row, tight_row}
use Rattle.rows.specs.Rows.{horizon_of, horizon_row, charged_outcome}
use Rattle.alonerow.specs.Alone.{alone_row}
use Rattle.layout.specs.Made.{reserves_with, caches_with, plan_with, set_placement, set_reserves, plan_made}
use Rattle.planner.specs.Planner.{needed, full_row, plan_outcome, plan_of}
use Rattle.taskplan.specs.declared.FileAnswer.{FileAnswer}
use Rattle.taskplan.specs.File.{unless, refused_file, planned_set, filed_of}
use Rattle.planfile.specs.Tool.{printed, answered}
use Rattle.whoruns.specs.WhoRuns.{refused_who}
use Rattle.doespass.specs.DoesPass.{refused_pass}
use Rattle.planfit.specs.Fit.{fitted}
use Rattle.askfile.specs.OfFile.{who_of_file, pass_of_file, who_in, pass_in}
use Rattle.planlines.specs.Line.{refusal_text}
use Rattle.switchlist.specs.Write.{plan_switches}
use Rattle.switchfile.specs.OfFile.{switched, listed}
use Rattle.before.specs.Earlier.{Earlier, before04, before05, before07, before08}
use Rattle.before.specs.Reading.{had_set, had_read_outcome, had_read}
use Rattle.before.specs.Planning.{had_plan}
use Rattle.before.specs.Answers.{had_planned, had_filed, had_answered, had_switched, had_listed, had_who_in, had_pass_in}
use Rattle.before.specs.Claims as claims
use Rattle.before.proofs.ReadingLaws.{read_unruled, read_uncached, had_uncached, read_now, read_same}
use Rattle.before.proofs.PlanningLaws.{set_as_before}
use Rattle.before.proofs.CacheLaws.{Costs}
use Rattle.before.proofs.StateLaws.{AnyCost, as_now05, as_now07, as_now08, as_now04}

-- ---- sets

pub sets_as_before : claims.SetsAsBefore
sets_as_before =
    record {
      packed = λ set unruled. set_as_before AnyCost before05 set (as_now05 set unruled);
      cached = λ set unruled uncached. set_as_before (Costs set.header) before07 set (as_now07 set unruled uncached);
      interrupts = λ set unruled uncached none. set_as_before (Costs set.header) before08 set (as_now08 set unruled uncached none);
      masked = λ set unruled uncached none unmasked.
          set_as_before (Costs set.header) before04 set (as_now04 set unruled uncached none unmasked);
    }

-- ---- files

-- the set of a file, read or planned: what its lines hold, or the all-zero set
module _ (P : TaskSet → Type 0) (zeros : P zero_set) (e : Earlier) (text : List ℕ) (lines : P (had_set e text)) where
  read_has : P (had_read e text).set
  unfolding had_read
  read_has = go (had_read_outcome e text)
    where
      go : (o : Outcome) → P (answer o (had_set e text)).set
      go (Ok _) = lines
      go (Err r) = zeros

  unless_has : (o : Outcome) (file : FileAnswer) → P file.set → P (unless refused_file o file).set
  unless_has (Ok _) file has = has
  unless_has (Err r) file has = zeros

  filed_has : P (had_filed e text).set
  unfolding had_filed had_planned
  filed_has = unless_has (had_read e text).outcome _ (unless_has (had_plan e (had_read e text).set).outcome _ read_has)

-- a file that is read as before is answered as before, where its set is
module _ (e : Earlier) (text : List ℕ) (read : read_of text ≡ had_read e text)
    (planned : claims.SetAsBefore e (had_read e text).set) (asked : claims.SetAsBefore e (had_filed e text).set) where
  planned_same : planned_set (had_read e text).set ≡ had_planned e (had_read e text).set
  unfolding planned_set had_planned
  planned_same =
      ap (λ (a : PlanAnswer). unless refused_file a.outcome (record { outcome = Ok tt; set = (had_read e text).set; plan = a.plan }))
      planned.plan

  filed_same : filed_of text ≡ had_filed e text
  unfolding filed_of had_filed
  filed_same =
      ap (λ (a : ReadAnswer). unless refused_file a.outcome (planned_set a.set)) read
      ∙ ap (λ (file : FileAnswer). unless refused_file (had_read e text).outcome file) planned_same

  file_as_before : claims.FileAsBefore e text
  unfolding answered had_answered switched had_switched listed had_listed who_in had_who_in pass_in had_pass_in
  file_as_before =
      record {
        read = read;
        filed = filed_same;
        printed = ap printed filed_same;
        switches = ap (λ (file : FileAnswer). unless refusal_text file.outcome (plan_switches file.plan)) filed_same;
        list = λ buffer. ap (λ (file : FileAnswer). unless Err file.outcome (fitted buffer (plan_switches file.plan))) filed_same;
        who = λ p x. ap (who_of_file p x) filed_same ∙ ap (unless refused_who (had_filed e text).outcome) (asked.who (had_filed e text).plan p x);
        pass = λ q R. ap (pass_of_file q R) filed_same ∙ ap (unless refused_pass (had_filed e text).outcome) (asked.pass (had_filed e text).plan q R);
      }

-- so is a file of whose set, or of the all-zero set, something holds for which sets are planned as before
module _ (P : TaskSet → Type 0) (e : Earlier) (by : (set : TaskSet) → P set → claims.SetAsBefore e set) (zeros : P zero_set) where
  file_by : (text : List ℕ) → P (had_set e text) → read_of text ≡ had_read e text → claims.FileAsBefore e text
  file_by text lines read =
      file_as_before e text read
      (by (had_read e text).set (read_has P zeros e text lines))
      (by (had_filed e text).set (filed_has P zeros e text lines))

-- what a set had: before Req 05 no rule, before Req 07 no cache costs of tasks either, before Req 08 no interrupts, and before Req 04 no
-- 05 line
abbrev Costless : TaskSet → Type 0
Costless set = claims.Unruled set × claims.Uncached set

abbrev Uninterrupted : TaskSet → Type 0
Uninterrupted set = claims.Unruled set × claims.Uncached set × (set.interrupts.count ≡ 0)

abbrev Plain : TaskSet → Type 0
Plain set = claims.Unruled set × claims.Uncached set × (set.interrupts.count ≡ 0) × (set.header.masked ≡ None)

had_unruled : (text : List ℕ) → claims.Unruled (had_set before05 text)
unfolding had_set set_of
had_unruled text = refl

module _ (text : List ℕ) (uncached : claims.NoCachedLine text) where
  had_costless : Costless (had_set before07 text)
  unfolding had_set set_of
  had_costless = (refl, had_uncached text uncached before07)

  had_uninterrupted : Uninterrupted (had_set before08 text)
  unfolding had_set set_of interrupts_with
  had_uninterrupted = (refl, had_uncached text uncached before08, refl)

  had_plain : Plain (had_set before04 text)
  unfolding had_set set_of interrupts_with header_at
  had_plain = (refl, had_uncached text uncached before04, refl, refl)

pub files_as_before : claims.FilesAsBefore
files_as_before =
    record {
      packed = λ text unruled. file_by claims.Unruled before05 sets_as_before.packed refl text (had_unruled text) (read_unruled text unruled);
      cached = λ text unruled uncached.
          file_by Costless before07 (λ set had. sets_as_before.cached set had.0 had.1) (refl, tt) text
          (had_costless text uncached)
          (read_uncached text unruled uncached);
      interrupts = λ text unruled uncached without.
          file_by Uninterrupted before08 (λ set had. sets_as_before.interrupts set had.0 had.1 had.2) (refl, tt, refl) text
          (had_uninterrupted text uncached)
          (read_now text unruled uncached without);
      masked = λ text unruled uncached without uninterrupted.
          file_by Plain before04 (λ set had. sets_as_before.masked set had.0 had.1 had.2 had.3) (refl, tt, refl, refl) text
          (had_plain text uncached)
          (read_same text unruled uncached without uninterrupted);
    }

-- ---- a 05 line of 0 ticks, or a 06 line of rule 00: nothing that plans looks at more of it than its figure

pub zero_as_none : claims.ZeroAsNone
unfolding plan_of plan_outcome ask_row count_row header_overflows optional_overflows line_overflows some_too_large widths_of charged_outcome figures_outcome board_row slot_row tight_row horizon_row horizon_of set_interrupts charged_in server_loads server_loss cache_of set_figures alone_row fits passes_with reserve_for full_row needed set_reserves set_placement placement_of placement_by placed_by join_by reserves_with reserves_of caches_with plan_made plan_with takes
zero_as_none set = refl

pub zero_rule_as_none : claims.ZeroRuleAsNone
unfolding plan_of plan_outcome ask_row count_row header_overflows optional_overflows line_overflows some_too_large widths_of charged_outcome figures_outcome board_row slot_row tight_row horizon_row horizon_of set_interrupts charged_in server_loads server_loss cache_of set_figures alone_row fits passes_with reserve_for full_row needed set_reserves set_placement placement_of placement_by placed_by join_by reserves_with reserves_of caches_with plan_made plan_with takes
zero_rule_as_none set = refl

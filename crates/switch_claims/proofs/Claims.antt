-- Each claim of specs/Claims.antt, proved.
-- Assumes nothing.
use Rattle.std.specs.Prelude.{Err, Ok}
use Prim.Native.Nat.{ℕ, ◌≤◌, ◌<◌, ◌^◌}
use mathlib.Core.Path.{◌≡◌, refl, sym, ap, ◌∙◌}
use mathlib.Core.List.{List, []}
use native.Mathlib.Omega.{arith}
use lib.ListN.{length}
use Rattle.laws.proofs.Tests.{clash}
use Rattle.refusals.specs.declared.Refusal.{Refusal}
use Rattle.refusals.specs.declared.Refusal.TheVariants.{Room}
use Rattle.refusals.specs.Refused.{Outcome}
use Rattle.frames.specs.Table.{widths_of, sum}
use Rattle.turn.specs.Switches.{switch_text}
use Rattle.turn.specs.Count.{longest_switches}
use Rattle.turn_claims.proofs.Claims.{switches_exactly, no_switches, switches_fit, switches_whole}
use Rattle.plan.specs.Plan.{reserves_in}
use Rattle.plancheck.specs.Makes.{makes}
use Rattle.plancheck.proofs.Checked.{reserves_same}
use Rattle.whoruns.specs.declared.WhoAnswer.{WhoAnswer}
use Rattle.planlines.specs.Line.{refusal_text}
use Rattle.planlines.proofs.LineLaws.{refusal_bytes}
use Rattle.planfit.specs.Fit.{fitted, write_of}
use Rattle.planfit.proofs.FitLaws.{fitted_bytes}
use Rattle.taskplan.specs.declared.FileAnswer.{FileAnswer}
use Rattle.taskplan.specs.File.{unless, filed_of}
use Rattle.refusals.specs.Refused.{number_of}
use Rattle.tasks_claims.proofs.Claims.{read_refuses}
use Rattle.plan_claims.specs.Claims.{PlannerRow, ASK, BOARD, RANGE, SLOT, TIGHT, HORIZON, ALONE, FULL, refusal_of}
use Rattle.plan_claims.proofs.Claims.{plan_only}
use Rattle.planfile_claims.proofs.AnswerLaws.{rows_exactly}
use Rattle.planfile_claims.proofs.Claims.{same_filed, nothing_cut_off}
use Rattle.planfile_claims.proofs.RefusedLaws.{refused_by}
use Rattle.filed_claims.specs.Claims.{set_in, plan_in}
use Rattle.filed_claims.proofs.FiledLaws.{filed_full, filed_made, filed_who}
use Rattle.switchlist.specs.Write.{plan_switches}
use Rattle.switchlist.proofs.LaidLaws.{plan_ring}
use Rattle.switchfile.specs.OfFile.{switched, listed}
use Rattle.switch_claims.specs.Claims.{SwitchesWritten, NoRingNoLines, StartListed, RingHasLines, BootList, ListShort, ListWhole, ListRoomIgnored, FileBootList, FileListFits, SwitchedShort, ListPrefix}
use Rattle.switch_claims.proofs.PlanLaws.{plan_slotted, plan_few, list_names, list_starts, list_some}

pub switches_written_lem : SwitchesWritten
switches_written_lem set plan buffer = rows_exactly (makes set plan) buffer (plan_switches plan)

pub no_ring_no_lines : NoRingNoLines
unfolding write_of
no_ring_no_lines set plan buffer full m none =
    let empty : plan_switches plan ≡ [] = no_switches plan.slot (reserves_in plan) (sym (plan_ring set full plan m) ∙ none) in
    (empty, rw (m, empty) (fitted_bytes buffer [] (omega arith)))

pub start_listed : StartListed
start_listed set plan p full m some l = list_starts set full plan m p some l

pub ring_has_lines : RingHasLines
ring_has_lines set plan full m some = list_some set full plan m some

pub boot_list : BootList
boot_list set plan p x full m some l = list_names set full plan m p x some l

pub list_short : ListShort
list_short set plan full m = switches_fit plan.slot (reserves_in plan) (plan_slotted set full plan m) (plan_few set full plan m)

pub list_whole : ListWhole
unfolding widths_of
list_whole set plan s full m at =
    let S = plan.slot in
    let slot : S < 16 ^ 6 = omega (arith, (nothing_cut_off set plan full m).figures.each 3) in
    switches_whole S (reserves_in plan) s (plan_slotted set full plan m) slot (plan_few set full plan m) ((switches_exactly S (reserves_in plan) s).0 at)

pub list_room_ignored : ListRoomIgnored
list_room_ignored n a b same =
    ap (λ (S : ℕ). switch_text S (reserves_in a)) same.slot ∙ ap (switch_text b.slot) (reserves_same same)

pub file_boot_list : FileBootList
file_boot_list text p x ok some l =
    boot_list (set_in text) (plan_in text) p x (filed_full text) (filed_made text ok) some l ∙
    sym (ap (λ (a : WhoAnswer). a.server) (filed_who text ok p (record { 0 = x })))

-- a list that fits meets no ROOM, and no refusal of a file is one
fits_told : (buffer text : List ℕ) (o : Outcome) → (o ≡ Ok tt → length text ≤ length buffer) → (o ≡ Err Room → ⊥) →
    unless Err o (fitted buffer text) ≡ Err Room → ⊥
fits_told buffer text (Ok _) fits never e = clash (cc (fitted_bytes buffer text (fits refl), e))
fits_told buffer text (Err r) fits never e = never (cc)

-- neither reading nor planning gives ROOM: the refusal's number is another than 12
row_other : (row : PlannerRow) (k : ℕ) (r : Refusal) → r ≡ refusal_of row k → number_of r ≡ 12 → ⊥
row_other ASK k r e t = omega (arith, ap number_of e)
row_other BOARD k r e t = omega (arith, ap number_of e)
row_other RANGE k r e t = omega (arith, ap number_of e)
row_other SLOT k r e t = omega (arith, ap number_of e)
row_other TIGHT k r e t = omega (arith, ap number_of e)
row_other HORIZON k r e t = omega (arith, ap number_of e)
row_other ALONE k r e t = omega (arith, ap number_of e)
row_other FULL k r e t = omega (arith, ap number_of e)

pub filed_other : (text : List ℕ) (r : Refusal) → (filed_of text).outcome ≡ Err r → number_of r ≡ 12 → ⊥
filed_other text =
    refused_by (λ (q : Refusal). number_of q ≡ 12 → ⊥) text (λ q e t. omega (arith, (read_refuses text q e).0))
    (λ set q e. let o = plan_only set q e in row_other o.0 o.1 q o.2)

pub file_list_fits : FileListFits
unfolding listed
file_list_fits text buffer long =
    fits_told buffer (plan_switches (plan_in text)) (filed_of text).outcome
    (λ ok. omega (arith, long, list_short (set_in text) (plan_in text) (filed_full text) (filed_made text ok)))
    (λ e. filed_other text Room e refl)

-- a list that is short, or the line of a refusal
switched_few : (o : Outcome) (list : List ℕ) → (o ≡ Ok tt → length list ≤ longest_switches) → length (unless refusal_text o list) ≤ longest_switches
unfolding sum widths_of
switched_few (Ok _) list few = few refl
switched_few (Err r) list few = omega (arith, refusal_bytes r)

pub switched_short : SwitchedShort
unfolding switched
switched_short text =
    switched_few (filed_of text).outcome (plan_switches (plan_in text)) (λ ok. list_short (set_in text) (plan_in text) (filed_full text) (filed_made text ok))

pub list_prefix : ListPrefix
unfolding switched listed
list_prefix =
    record {
      answer = λ n text long. ap (λ (f : FileAnswer). unless refusal_text f.outcome (plan_switches f.plan)) (same_filed n text long);
      list = λ n text buffer long. ap (λ (f : FileAnswer). unless Err f.outcome (fitted buffer (plan_switches f.plan))) (same_filed n text long);
    }

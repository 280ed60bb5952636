-- The claims of specs/Claims.
-- Assumes nothing.
use Rattle.refusals.specs.Refused.{Outcome}
use Rattle.std.specs.Prelude.{Option}
use Prim.Native.Nat.{ℕ, ◌+◌, ◌≤◌}
use mathlib.Core.Logic.{inl, inr}
use mathlib.Core.Path.{◌≡◌, refl, sym, ap, subst, ◌∙◌}
use mathlib.Core.List.{List}
use native.Mathlib.Omega.{arith}
use lib.ListN.{length, get_or, take, length-take}
use lib.Seq.{take_all}
use Rattle.digits.specs.Number.{hex}
use Rattle.digits.specs.Digit.{digit_of}
use Rattle.frames.specs.Table.{kind_of, widths_of}
use Rattle.framewrite.specs.Line.{fields, line_of}
use Rattle.framelines.specs.Each.{each_line}
use Rattle.names.specs.Names.{names}
use Rattle.tally.specs.declared.Tally.{Tally}
use Rattle.tally.specs.Tally.{numbers, most_names, zero_tally, counted_all, Adds}
use Rattle.tally.proofs.TallyLaws.{zero_adds, all_adds, all_names, accepted_most, refused_most}
use Rattle.tallytext.specs.Text.{tally_text}
use Rattle.sweepfile.specs.Answered.{opens, EachAnswered}
use Rattle.sweeping.proofs.SweepLaws.{each_length}
use Rattle.sweep_claims.specs.Claims.{names_read, CountOf, EachCountedOnce, AddsUp, AllRead, FileNumbers, NotOpened, ReportWhole, ReportSo}
use Rattle.sweep_claims.proofs.NumberLaws as met
use Rattle.sweep_claims.proofs.CountLaws.{all_accepted, all_refused, zeros_at, sum_told}
use Rattle.sweep_claims.proofs.OpensLaws.{too_long, with_nul, any_other}

pub each_counted_once : EachCountedOnce
each_counted_once list t c = record {
  answers = c.answers;
  each = c.each;
  accepted = omega (arith, ap (λ (u : Tally). u.accepted) c.tally, all_accepted zero_tally c.answers);
  refused = λ n. omega (arith, ap (λ (u : Tally). get_or u.refused n 0) c.tally, all_refused zero_tally c.answers zero_adds n, zeros_at numbers n);
}

-- as many names are counted as have an answer
counted_many : (read : List (List ℕ)) (answers : List (Option Outcome)) (t : Tally) → EachAnswered read answers → t ≡ counted_all zero_tally answers → t.names ≡ length read
counted_many read answers t each is =
    omega (arith, ap (λ (u : Tally). u.names) is, all_names zero_tally answers, each_length read answers each)

-- a front is at most as long as it may be
front_few : (n : ℕ) (l : List (List ℕ)) → length (take n l) ≤ n
front_few n l = omega (arith, length-take n l)

module _ (list : List ℕ) (t : Tally) (c : CountOf list t) where
  right : Adds t
  right = rw c.tally (all_adds zero_tally c.answers zero_adds)

  many : t.names ≡ length (names_read list)
  many = counted_many (names_read list) c.answers t c.each c.tally

  few : length (names_read list) ≤ most_names
  few = front_few most_names (names list)

pub adds_up : AddsUp
adds_up list t c =
    let once = each_counted_once list t c in
    let eleven : get_or t.refused 11 0 ≡ 0 = once.refused 11 ∙ met.never_met 11 (inl refl) (names_read list) once.answers once.each in
    let twelve : get_or t.refused 12 0 ≡ 0 = once.refused 12 ∙ met.never_met 12 (inr refl) (names_read list) once.answers once.each in
    record {
      adds = ap (λ (s : ℕ). t.accepted + s) (sum_told t.refused (right list t c).room eleven twelve) ∙ sym (right list t c).adds ∙ many list t c;
      few = few list t c;
    }

pub all_read : AllRead
all_read list h = take_all most_names (names list) h

pub file_numbers : FileNumbers
file_numbers = met.file_numbers

pub not_opened : NotOpened
unfolding opens
not_opened = record { empty = refl; long = too_long; nul = with_nul; others = any_other }

pub report_whole : ReportWhole
report_whole list t c =
    let most : t.names ≤ 65535 = subst (λ (n : ℕ). n ≤ 65535) (sym (many list t c)) (few list t c) in
    record { accepted = omega (arith, accepted_most (right list t c)); refused = λ n. omega (arith, refused_most (right list t c) n) }

pub report_so : ReportSo
unfolding tally_text each_line line_of kind_of widths_of fields hex digit_of
report_so = refl

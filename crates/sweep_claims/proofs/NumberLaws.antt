-- Laws of the numbers that a file's refusal can have: no file meets 11 or 12.
-- Assumes nothing.
use Rattle.std.specs.Prelude.{Err, None, Ok, Option, Some}
use Prim.Native.Nat.{ℕ, ◌≤◌}
use mathlib.Core.Logic.{◌⊎◌, inl, inr, ⊎_elim}
use mathlib.Core.Path.{◌≡◌, refl, ◌∙◌, ap}
use mathlib.Core.Bool.{false}
use mathlib.Core.List.{List, [], ◌∷◌}
use native.Mathlib.Omega.{arith}
use borrow.Author.Tests.{ne_eqb}
use Rattle.laws.proofs.Tests.{clash}
use Rattle.laws.proofs.Choices.{cond_false}
use Rattle.refusals.specs.declared.Refusal.{Refusal}
use Rattle.refusals.specs.Refused.{Outcome}
use Rattle.refusals.specs.Refused.{number_of}
use Rattle.refusals.proofs.NumberLaws.{number_row}
use Rattle.taskread.specs.Read.{read_of}
use Rattle.taskask.specs.Ask.{ask_row}
use Rattle.taskwrite.proofs.WriteAsks.{writer_ask}
use Rattle.tasks_claims.proofs.Claims as reading
use Rattle.plan_claims.specs.Claims.{PlannerRow, refusal_of}
use Rattle.plan_claims.proofs.Claims.{plan_only, plan_exactly}
use Rattle.planfile_claims.proofs.RefusedLaws.{refused_of}
use Rattle.taskplan.specs.File.{filed_of}
use Rattle.sweepfile.specs.Answered.{OfFile, EachAnswered}
use Rattle.sweep_claims.specs.Claims.{FileNumbers, how_many, meets}

-- a number of a reading or a plan
abbrev Told : Refusal → Type 0
Told r = (1 ≤ number_of r) × ((number_of r ≤ 10) ⊎ (number_of r ≡ 13))

row_told : (row : PlannerRow) (k : ℕ) (r : Refusal) → r ≡ refusal_of row k → (r ≡ Refusal.Ask → ⊥) → Told r
row_told PlannerRow.ASK k r e never = absurd (never e)
row_told PlannerRow.BOARD k r e never = (omega (arith, ap number_of e), inl (omega (arith, ap number_of e)))
row_told PlannerRow.RANGE k r e never = (omega (arith, ap number_of e), inl (omega (arith, ap number_of e)))
row_told PlannerRow.SLOT k r e never = (omega (arith, ap number_of e), inl (omega (arith, ap number_of e)))
row_told PlannerRow.TIGHT k r e never = (omega (arith, ap number_of e), inl (omega (arith, ap number_of e)))
row_told PlannerRow.HORIZON k r e never = (omega (arith, ap number_of e), inl (omega (arith, ap number_of e)))
row_told PlannerRow.ALONE k r e never = (omega (arith, ap number_of e), inr (ap number_of e))
row_told PlannerRow.FULL k r e never = (omega (arith, ap number_of e), inl (omega (arith, ap number_of e)))

-- a set that was read is never asked about
never_asks : (text : List ℕ) → (read_of text).outcome ≡ Ok tt → ask_row (read_of text).set ≡ false
never_asks text done = writer_ask (read_of text).set (reading.written_read text done).0

pub file_numbers : FileNumbers
file_numbers text =
    refused_of Told text
    (λ q e. ((number_row q).0, inl (omega (arith, (reading.read_refuses text q e).0))))
    (λ done q e.
    let only = plan_only (read_of text).set q e in
    row_told only.0 only.1 q only.2
    (λ ask. clash (cc (never_asks text done, ((plan_exactly PlannerRow.ASK (read_of text).set 0).0 (e ∙ ap Err ask)).holds))))

-- of such an answer neither 11 nor 12 is met
none_met : (n : ℕ) → (n ≡ 11) ⊎ (n ≡ 12) → (o : Outcome) → ((r : Refusal) → o ≡ Err r → Told r) → meets n (Some o) ≡ false
none_met n (inl e) (Ok _) told = ap (λ (k : ℕ). meets k (Some (Ok tt))) e
none_met n (inr e) (Ok _) told = ap (λ (k : ℕ). meets k (Some (Ok tt))) e
none_met n which (Err r) told = ne_eqb n (number_of r) (λ (e : n ≡ number_of r). apart e which (told r refl).1)
  where
    apart : n ≡ number_of r → (n ≡ 11) ⊎ (n ≡ 12) → (number_of r ≤ 10) ⊎ (number_of r ≡ 13) → ⊥
    apart e (inl a) (inl b) = omega arith
    apart e (inl a) (inr b) = omega arith
    apart e (inr a) (inl b) = omega arith
    apart e (inr a) (inr b) = omega arith

one_unmet : (n : ℕ) → (n ≡ 11) ⊎ (n ≡ 12) → (a : Option Outcome) → OfFile a → meets n a ≡ false
one_unmet n which a (inl e) = ap (meets n) e ∙ ⊎_elim (λ (i : n ≡ 11). ap (λ (k : ℕ). meets k None) i) (λ (i : n ≡ 12). ap (λ (k : ℕ). meets k None) i) which
one_unmet n which a (inr of) = ap (meets n) of.1 ∙ none_met n which (filed_of of.0).outcome (file_numbers of.0)

-- so no name is counted there
pub never_met : (n : ℕ) → (n ≡ 11) ⊎ (n ≡ 12) → (names : List (List ℕ)) (answers : List (Option Outcome)) → EachAnswered names answers → how_many (meets n) answers ≡ 0
unfolding how_many
never_met n which [] [] e = refl
never_met n which [] (a ∷ answers) e = absurd e
never_met n which (name ∷ names) [] e = absurd e
never_met n which (name ∷ names) (a ∷ answers) e =
    omega (arith, cond_false {A = ℕ} 1 0 (one_unmet n which a e.0.file), never_met n which names answers e.1)

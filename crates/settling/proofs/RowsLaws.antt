-- What rows 11 and 5 to 9 say of a set: which rows are clear, and what planning it answers.
-- Assumes nothing.
use Rattle.std.specs.Prelude.{Err, Ok, Result}
use Prim.Native.Nat.{ℕ}
use mathlib.Core.Path.{◌≡◌, refl}
use mathlib.Core.Bool.{true, false}
use Rattle.laws.proofs.Tests.{clash}
use Rattle.refusals.specs.declared.Refusal.{Refusal}
use Rattle.refusals.specs.declared.Refusal.TheVariants.{Ask}
use Rattle.refusals.specs.Refused.{Outcome}
use Rattle.refusals.specs.First.{first_of, when}
use Rattle.refusals.proofs.FirstLaws.{first_done, when_done}
use Rattle.tasks.specs.declared.set.TaskSet.{TaskSet}
use Rattle.taskask.specs.Ask.{ask_row}
use Rattle.rows.specs.Rows.{charged_outcome, horizon_of, cleared, rows_of}
use Rattle.planner.specs.Planner.{Clear, plan_outcome}
use Rattle.settling.specs.Settled.{set_rows}

-- the outcome that rows say
by_clear : (o : Outcome) (H : ℕ) {G : ℕ} → cleared o H ≡ Ok G → (o ≡ Ok tt) × (G ≡ H)
by_clear (Ok _) H e = (refl, cc)
by_clear (Err r) H e = clash (cc)

by_refused : (o : Outcome) (H : ℕ) {r : Refusal} → cleared o H ≡ Err r → o ≡ Err r
by_refused (Ok _) H e = clash (cc)
by_refused (Err s) H e = cc

-- what is refused first is refused
first_refused : (a b o : Outcome) {r : Refusal} → first_of a b ≡ Err r → first_of a (first_of b o) ≡ Err r
first_refused (Ok _) (Ok _) o e = clash (cc)
first_refused (Ok _) (Err s) o e = e
first_refused (Err s) b o e = e

module _ (set : TaskSet) where
  -- row 11 holds
  pub rows_asked : ask_row set ≡ true → Err Ask ≡ set_rows set
  unfolding set_rows
  rows_asked a = rw a

  -- row 11 is clear
  pub rows_charged : {rows : Result ℕ Refusal} → ask_row set ≡ false → rows ≡ rows_of set → rows ≡ set_rows set
  unfolding set_rows rows_of
  rows_charged a e = rw a e

  -- they are clear
  pub rows_clear : {H : ℕ} → set_rows set ≡ Ok H → Clear set × (H ≡ horizon_of set)
  unfolding set_rows
  rows_clear e =
      let told = by_clear (first_of (when (ask_row set) Ask) (charged_outcome set)) (horizon_of set) e in
      let both = first_done (when (ask_row set) Ask) (charged_outcome set) told.0 in
      (record { carried = when_done (ask_row set) Ask both.0; charged = both.1 }, told.1)

  -- one of them holds: planning the set is refused by it
  pub rows_refused : {r : Refusal} → set_rows set ≡ Err r → plan_outcome set ≡ Err r
  unfolding set_rows plan_outcome
  rows_refused e =
      first_refused (when (ask_row set) Ask) (charged_outcome set) _ (by_refused (first_of (when (ask_row set) Ask) (charged_outcome set)) (horizon_of set) e)

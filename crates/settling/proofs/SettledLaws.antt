-- The servers of a set or its refusal, by the first row that holds; and what they tell of the set's plan.
-- Assumes nothing.
use Rattle.std.specs.Prelude.{Err, Ok, Result}
use Prim.Native.Nat.{ℕ}
use mathlib.Core.Path.{◌≡◌, refl, sym, ap, ◌∙◌}
use Rattle.laws.proofs.Tests.{clash}
use Rattle.refusals.specs.declared.Refusal.{Refusal}
use Rattle.refusals.specs.declared.Refusal.TheVariants.{Full, Alone}
use Rattle.refusals.specs.Refused.{Outcome}
use Rattle.refusals.specs.First.{when}
use Rattle.tasks.specs.declared.set.TaskSet.{TaskSet}
use Rattle.tasks.specs.Set.{members}
use Rattle.tasks.specs.Search.{first_task}
use Rattle.tasks.proofs.Firsts.{at_some}
use Rattle.sizing.specs.declared.Servers.{Servers}
use Rattle.sizing.specs.Reserve.{servers_of}
use Rattle.setfigures.specs.Figures.{set_figures}
use Rattle.setfigures.specs.Board.{set_board}
use Rattle.alonerow.specs.Alone.{alone_row}
use Rattle.plan.specs.Plan.{zero_plan}
use Rattle.planner.specs.Planner.{Clear, Placeable, needed, full_row, plan_outcome, answer, plan_of}
use Rattle.settling.specs.declared.Settled.{Settled}
use Rattle.settling.specs.Settled.{set_rows, no_servers, settled, settled_of, settled_by}
use Rattle.settling.proofs.RowsLaws.{rows_refused}

by_outcome : (o : Outcome) (sv : Servers) → (settled o sv).outcome ≡ o
by_outcome (Ok _) sv = refl
by_outcome (Err r) sv = refl

by_servers : (o : Outcome) (sv : Servers) → o ≡ Ok tt → (settled o sv).servers ≡ sv
by_servers (Ok _) sv e = refl
by_servers (Err r) sv e = clash (cc)

module _ (set : TaskSet) where
  -- rows 11 and 5 to 9 are clear and row 13 holds
  pub settled_alone : {n : ℕ} → Clear set → n ≡ first_task (alone_row set) (members set) → (n ≡ 0 → ⊥) →
      record { servers = no_servers; outcome = Err (Alone n) } ≡ settled_of set
  unfolding settled_of plan_outcome
  settled_alone {n} clear e some = rw (clear.carried, clear.charged, ← e, at_some Alone n some)

  -- row 10 alone holds
  pub settled_full : {r : Refusal} → Placeable set → when (full_row set) (Full (needed set)) ≡ Err r → record { servers = no_servers; outcome = Err r } ≡ settled_of set
  unfolding settled_of plan_outcome
  settled_full clear e = rw (clear.clear.carried, clear.clear.charged, clear.alone, e)

  -- no row holds
  pub settled_done : {sv : Servers} → Placeable set → when (full_row set) (Full (needed set)) ≡ Ok tt → sv ≡ servers_of (set_board set) (set_figures set) →
      record { servers = sv; outcome = Ok tt } ≡ settled_of set
  unfolding settled_of plan_outcome
  settled_done clear e own = rw (clear.clear.carried, clear.clear.charged, clear.alone, e, own)

  -- the outcome is that of planning the set
  pub settled_outcome : {s : Settled} → s ≡ settled_of set → s.outcome ≡ plan_outcome set
  unfolding settled_of
  settled_outcome e = ap (λ (t : Settled). t.outcome) e ∙ by_outcome (plan_outcome set) (servers_of (set_board set) (set_figures set))

  -- done: the servers are those of the set's figures
  pub settled_servers : {s : Settled} → s ≡ settled_of set → s.outcome ≡ Ok tt → s.servers ≡ servers_of (set_board set) (set_figures set)
  unfolding settled_of
  settled_servers e d =
      ap (λ (t : Settled). t.servers) e ∙ by_servers (plan_outcome set) (servers_of (set_board set) (set_figures set)) (sym (settled_outcome e) ∙ d)

  -- refused: planning the set answers the all-zero plan
  pub plan_refused : {r : Refusal} → plan_outcome set ≡ Err r → answer (Err r) zero_plan ≡ plan_of set
  unfolding plan_of
  plan_refused e = rw e

  -- by rows that are the set's own
  by_rows : (rows : Result ℕ Refusal) → set_rows set ≡ rows → settled_by rows set ≡ settled_of set
  unfolding settled_of
  by_rows (Ok H) e = refl
  by_rows (Err r) e = rw (rows_refused set e)

  pub settled_rows : {rows : Result ℕ Refusal} {s : Settled} → rows ≡ set_rows set → s ≡ settled_by rows set → s ≡ settled_of set
  settled_rows {rows} e f = f ∙ by_rows rows (sym e)

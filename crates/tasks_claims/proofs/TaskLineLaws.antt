-- The tasks' lines of an accepted file: its set remembers them in their order, and of which kind each is.
-- Assumes nothing.
use Rattle.std.specs.Prelude.{None, Some}
use Prim.Native.Nat.{ℕ}
use mathlib.Core.Bool.{Bool, true, false}
use mathlib.Core.List.{List}
use mathlib.Core.Logic.{⊎_elim}
use mathlib.Core.Path.{◌≡◌, refl, sym, ◌∙◌, ap}
use lib.ListN.{get_or}
use Rattle.laws.proofs.Tests.{clash, or_either}
use Rattle.frameread.specs.Line.{formed, field_of}
use Rattle.frameread.proofs.KindLaws.{not_formed}
use Rattle.frames.specs.declared.table.Frame.{Frame}
use Rattle.tasks.specs.declared.set.Task.{Task}
use Rattle.tasks.specs.Set.{zero_task}
use Rattle.taskfile.specs.File.{opening_lines, task_formed, cache_at, task_at}
use Rattle.taskfile.proofs.AmongLaws.{among_all}
use Rattle.taskfile.proofs.OpeningLaws.{among_opening}
use Rattle.taskfile.proofs.TaskLaws.{cache_given, cache_absent}
use Rattle.tasks_claims.specs.Claims.{lines_to, tasks_in, interrupt_count, TaskKept, TasksRemembered}
use Rattle.tasks_claims.proofs.RunLaws.{run_at}
use Rattle.tasks_claims.proofs.ShapedLaws.{tasks_last}
use Rattle.tasks_claims.proofs.Accepted.{read_accepted}

module _ (rest : List ℕ) (task : task_formed rest ≡ true) where
  -- what a task's line gives tells of which kind it is, and an 03 line's figure
  given_only : (cost : ℕ) → cache_at rest ≡ Some cost → (formed Frame.Cached rest ≡ true) × (field_of Frame.Cached 4 rest ≡ cost)
  given_only cost g = by_kind (formed Frame.Cached rest) refl
    where
      by_kind : (b : Bool) → formed Frame.Cached rest ≡ b → (formed Frame.Cached rest ≡ true) × (field_of Frame.Cached 4 rest ≡ cost)
      by_kind true e = let there = cache_given rest e in (e, (cc))
      by_kind false e = let none = cache_absent rest e in clash (cc)

  absent_only : cache_at rest ≡ None → formed Frame.Task rest ≡ true
  unfolding task_formed
  absent_only a =
      ⊎_elim
      (λ (plain : formed Frame.Task rest ≡ true). plain)
      (λ (cached : formed Frame.Cached rest ≡ true). let there = cache_given rest cached in clash (cc))
      (or_either (formed Frame.Task rest) (formed Frame.Cached rest) task)

  kept : {t : Task} → t ≡ task_at rest → TaskKept rest t
  unfolding task_at
  kept {t = t} e =
      let told : t.cache ≡ cache_at rest = ap (λ (t : Task). t.cache) e in
      record {
        line = task;
        figures = e;
        given = λ cost. (
          λ (g : t.cache ≡ Some cost). given_only cost (sym told ∙ g),
          λ (h : (formed Frame.Cached rest ≡ true) × (field_of Frame.Cached 4 rest ≡ cost)). told ∙ cache_given rest h.0 ∙ ap Some h.1,
        );
        absent = (
          λ (a : t.cache ≡ None). absent_only (sym told ∙ a),
          λ (f : formed Frame.Task rest ≡ true). told ∙ cache_absent rest (not_formed Frame.Task Frame.Cached refl rest f),
        );
      }

pub tasks_remembered : TasksRemembered
tasks_remembered text k done lt =
    let taken = read_accepted text done in
    let s = taken.shaped in
    let n = tasks_in text in
    let m = interrupt_count text in
    let all = sym (among_all text (lines_to text n m) taken.ended) ∙ tasks_last text n m s in
    kept _ (s.tasks k lt)
    (ap (λ (ts : List Task). get_or ts k zero_task) (taken.tasks ∙ all) ∙ run_at task_formed text (opening_lines text) task_at zero_task (among_opening text s.opened) n k s.tasks lt)

-- `task_at` meets its contract: each field of a formed line fits its type.
use mathlib.Core.Bool.{true}
use mathlib.Core.List.{List}
use mathlib.Core.Path.{◌≡◌, ap, ◌∙◌}
use Prim.Native.Nat.{ℕ, ◌<◌, ◌^◌}
use native.Mathlib.Omega.{arith}
use lib.ListN.{drop}
use Rattle.frameread.specs.Line.{formed, field_of}
use Rattle.frames.specs.Table.{widths_of, width_of}
use Rattle.frames.specs.declared.table.Frame.{Frame}
use Rattle.taskfile.specs.File.{task_kind, task_at}
use Rattle.taskfile.proofs.TaskLaws.{of_kind_lem}
use Rattle.taskfile.proofs.Standing.{task_within}
use Rattle.listedline_code.proofs.task_at.Statement.{statement}
use Rattle.listedline_code.proofs.task_at.Tie as tie

-- the text from the cursor on
abbrev rest : tie.Start → List ℕ
rest s = drop s.args.at s.args.text.now

-- it starts with a line of this kind, whose fields are below their widths' powers of 16
is-formed : (s : tie.Start) → formed s.args.frame (rest s) ≡ true
is-formed s = of_kind_lem (rest s) s.requires.1.0 s.requires.1.1

within : (s : tie.Start) (k x : ℕ) → k < 4 → x ≡ field_of s.args.frame k (rest s) → x < 16 ^ width_of Frame.Task k
within s k x lt e = task_within s.args.frame k x (rest s) s.requires.1.0 s.requires.1.1 lt e

cache_at-cache-requires : tie.Need-cache_at-cache-requires
cache_at-cache-requires c κs = let s = c.before in (s.requires.0, is-formed s)

field-requires : tie.Need-field-requires
field-requires c κs = let s = c.before.before in (s.requires.0, (is-formed s, omega arith))

overflow_cast-result : tie.Need-overflow_cast-result
unfolding widths_of
overflow_cast-result c = omega (arith, within c.before.before.before _ c.field.result (omega arith) c.field.ensures)

field-requires-2 : tie.Need-field-requires-2
field-requires-2 c κs = let s = c.before.before.before in (s.requires.0, (is-formed s, omega arith))

overflow_cast-result-2 : tie.Need-overflow_cast-result-2
unfolding widths_of
overflow_cast-result-2 c = omega (arith, within c.before.before.before.before _ c.field-2.result (omega arith) c.field-2.ensures)

field-requires-3 : tie.Need-field-requires-3
field-requires-3 c κs = let s = c.before.before.before.before in (s.requires.0, (is-formed s, omega arith))

overflow_cast-result-3 : tie.Need-overflow_cast-result-3
unfolding widths_of
overflow_cast-result-3 c = omega (arith, within c.before.before.before.before.before _ c.field-3.result (omega arith) c.field-3.ensures)

field-requires-4 : tie.Need-field-requires-4
field-requires-4 c κs = let s = c.before.before.before.before.before in (s.requires.0, (is-formed s, omega arith))

overflow_cast-result-4 : tie.Need-overflow_cast-result-4
unfolding widths_of
overflow_cast-result-4 c = omega (arith, within c.before.before.before.before.before.before _ c.field-4.result (omega arith) c.field-4.ensures)

-- a field's value, read as the kind that the line is of
read : (s : tie.Start) (k : ℕ) {x : ℕ} → x ≡ field_of s.args.frame k (rest s) → x ≡ field_of (task_kind (rest s)) k (rest s)
read s k e = e ∙ ap (λ (f : Frame). field_of f k (rest s)) s.requires.1.1

returns : tie.Need-returns
unfolding task_at
returns c =
    let one = c.before.before.before in
    let s = one.before.before.before in
    λ i. record {
      id = read s _ one.field.ensures i;
      cost = read s _ c.field-2.ensures i;
      deadline = read s _ c.field-3.ensures i;
      period = read s _ c.field-4.ensures i;
      cache = one.cache_at-cache.ensures i;
    }

pub task_at_spec : {M : Type 1} → statement M
task_at_spec =
    tie.close
    (tie.spec
    cache_at-cache-requires
    field-requires
    overflow_cast-result
    field-requires-2
    overflow_cast-result-2
    field-requires-3
    overflow_cast-result-3
    field-requires-4
    overflow_cast-result-4
    returns)

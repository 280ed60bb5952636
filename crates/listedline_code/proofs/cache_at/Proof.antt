-- `cache_at` meets its contract: an 03 line has the cost in a field that fits its type, and no other kind has one.
use Rattle.std.specs.Prelude.{Some}
use mathlib.Core.Bool.{true}
use mathlib.Core.List.{List, ◌++◌, map}
use mathlib.Core.Path.{◌≡◌, sym, ap, ◌∙◌}
use Prim.Native.Nat.{ℕ}
use native.Mathlib.Omega.{arith}
use lib.ListN.{drop, take}
use types.Run.{miss}
use Rattle.frameread.specs.Line.{formed}
use Rattle.frames.specs.Table.{widths_of, index_of, all_frames}
use Rattle.frames.specs.declared.table.Frame.{Frame}
use Rattle.taskfile.proofs.TaskLaws.{cache_given, cache_absent}
use Rattle.taskfile.proofs.Standing.{field_within, other_kind}
use borrow.Author.Rules.{rules}
use Rattle.listedline_code.proofs.cache_at.Statement.{statement}
use Rattle.listedline_code.proofs.cache_at.Tie as tie

-- the text from the cursor on
abbrev rest : tie.Start → List ℕ
rest s = drop s.args.at s.args.text.now

-- it is an 03 line
cached : (c : tie.In-Cached) → formed Frame.Cached (rest c.before.before) ≡ true
cached c =
    let s = c.before.before in
    ap (λ (f : Frame). formed f (rest s)) (sym c.in-Cached.is) ∙ s.requires.1

field-cost-requires : tie.Need-field-cost-requires
field-cost-requires c κs = (c.requires.0, (cached c, omega arith))

overflow_cast-cost : tie.Need-overflow_cast-cost
unfolding widths_of
overflow_cast-cost c = omega (arith, field_within Frame.Cached _ c.field-cost.result _ (cached c.before) c.field-cost.ensures)

returns-in-Cached : tie.Need-returns-in-Cached
returns-in-Cached c = ap Some c.field-cost.ensures ∙ sym (cache_given (rest c.before.before.before) (cached c.before))

-- the tags of the other kinds
abbrev others : List ℕ
others = take 2 (map index_of all_frames) ++ drop 3 (map index_of all_frames)

returns-in_default : tie.Need-returns-in_default
returns-in_default c =
    let s = c.before.before in
    sym (cache_absent (rest s) (other_kind others s.args.frame Frame.Cached (rest s) c.in_default.in_default-own.keys2 (miss others 2 tt) s.requires.1))

pub cache_at_spec : {M : Type 1} → statement M
cache_at_spec =
    tie.close
    (tie.spec
    (λ c. search rules)
    field-cost-requires
    overflow_cast-cost
    returns-in-Cached
    returns-in_default)

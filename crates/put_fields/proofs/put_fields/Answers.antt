-- `put_fields::put_fields` meets its contract: the fields written so far are stored, one behind the other.
-- Assumes nothing.
use Prim.Native.Nat.{ℕ, ◌+◌}
use mathlib.Core.Path.{◌≡◌, refl, sym, ◌∙◌, ap, ap₂}
use mathlib.Core.List.{List, [], ◌∷◌}
use native.Mathlib.Omega.{arith}
use lib.ListN.{length, take, length-append}
use Rattle.std.specs.Iterator.Adapters.{zip_first, zip_second}
use Rattle.std.specs.Slice.Iter.{iter_rest}
use Rattle.std.proofs.lemmas.Slice.Zip.{zip_turn}
use Rattle.digits.specs.Number.{hex}
use Rattle.digits.specs.Stored.{stored}
use Rattle.digits.proofs.Stored.{stored_nil}
use Rattle.frames.specs.Table.{sum}
use Rattle.framewrite.specs.Line.{fields, row_widths}
use Rattle.framewrite.proofs.Fields.{start_next, start_within, fields_next}
use Rattle.put_fields.proofs.put_fields.Goals as goal

pub loop-width-init : goal.loop-width-init
unfolding sum fields
loop-width-init c = (omega arith, refl, sym (stored_nil _ _))

pub put_value-requires : goal.put_value-requires
put_value-requires c =
    let a = c.args in
    let now = c.loop-width in
    let first : iter_rest (zip_first c.into_iter-width-iterator.result) ≡ row_widths a.row = cc in
    let second : iter_rest (zip_second c.into_iter-width-iterator.result) ≡ a.values.now = cc in
    let turn = zip_turn (row_widths a.row) a.values.now now.yielded c.into_iter-width-iterator.result now.width-iterator c.next.new.self c.next.result first second now.yielded_by (c.in-Some.width, c.in-Some.value) c.in-Some.is c.next.ensures.steps in
    omega (arith, start_within a.out.now a.at (row_widths a.row) a.values.now (length now.yielded) now.start _ now.invariant.0 (turn.2 0), c.requires.row_bound, now.invariant.1)

pub overflow_add-start : goal.overflow_add-start
overflow_add-start c =
    let a = c.args in
    let now = c.loop-width in
    let first : iter_rest (zip_first c.into_iter-width-iterator.result) ≡ row_widths a.row = cc in
    let second : iter_rest (zip_second c.into_iter-width-iterator.result) ≡ a.values.now = cc in
    let turn = zip_turn (row_widths a.row) a.values.now now.yielded c.into_iter-width-iterator.result now.width-iterator c.next.new.self c.next.result first second now.yielded_by (c.in-Some.width, c.in-Some.value) c.in-Some.is c.next.ensures.steps in
    omega (arith, start_within a.out.now a.at (row_widths a.row) a.values.now (length now.yielded) now.start _ now.invariant.0 (turn.2 0), c.requires.row_bound, c.well_formed)

pub loop-width-preserved : goal.loop-width-preserved
loop-width-preserved c =
    let a = c.args in
    let now = c.loop-width in
    let ws = row_widths a.row in
    let first : iter_rest (zip_first c.into_iter-width-iterator.result) ≡ ws = cc in
    let second : iter_rest (zip_second c.into_iter-width-iterator.result) ≡ a.values.now = cc in
    let turn = zip_turn ws a.values.now now.yielded c.into_iter-width-iterator.result now.width-iterator c.next.new.self c.next.result first second now.yielded_by (c.in-Some.width, c.in-Some.value) c.in-Some.is c.next.ensures.steps in
    let more = length-append now.yielded ((c.in-Some.width, c.in-Some.value) ∷ []) in (
      start_next a.out.now a.at ws a.values.now (length now.yielded) now.start _ now.invariant.0 (turn.2 0)
          ∙ ap (λ (n : ℕ). a.at + sum (take n ws)) (sym more),
      c.put_value.auto.out ∙ now.invariant.1,
      c.put_value.ensures
          ∙ ap₂ (λ (o : List ℕ) (v : ℕ). stored o now.start (hex c.in-Some.width.now v)) now.invariant.2 (turn.3 0)
          ∙ fields_next a.out.now a.at ws a.values.now (length now.yielded) now.start _ now.invariant.0 (turn.2 0) c.requires.row_bound
          ∙ ap (λ (n : ℕ). stored a.out.now a.at (fields (take n ws) a.values.now)) (sym more),
    )

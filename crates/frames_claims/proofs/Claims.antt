-- What is promised of frames holds.
-- Assumes nothing.
use Prim.Native.Nat.{ℕ, ◌<◌}
use mathlib.Core.Path.{refl, sym, ◌∙◌}
use mathlib.Core.List.{◌++◌}
use native.Mathlib.Omega.{arith}
use lib.ListN.{length}
use lib.Seq.{ext_get_or}
use Rattle.frames.specs.Table.{sum, widths_of, fields_in}
use Rattle.framewrite.specs.Line.{line_of}
use Rattle.frames.proofs.Tables as table
use Rattle.frameread.proofs.KindLaws as kinds
use Rattle.framesizes.proofs.TooLarge.{values_fit}
use Rattle.frames_claims.specs.Values.{fields_of}
use Rattle.frames_claims.specs.Claims.{LineLengths, KindsDiffer, OneFrame, WrittenFormed, WrittenRead, ReadWritten}
use Rattle.frames_claims.proofs.LineLaws.{line_formed, field_line, fields_at, fields_many, line_fields}

pub line_lengths : LineLengths
unfolding sum widths_of
line_lengths = refl

pub kinds_differ : KindsDiffer
kinds_differ = table.kinds_differ

pub one_frame : OneFrame
one_frame = kinds.one_frame

pub written_formed : WrittenFormed
written_formed = line_formed

pub written_read : WrittenRead
written_read frame values rest e fits =
    ext_get_or 0 (fields_of frame (line_of frame values ++ rest)) values (fields_many frame (line_of frame values ++ rest) ∙ sym e)
    (λ (k : ℕ) (h : k < length (fields_of frame (line_of frame values ++ rest))).
    let inside : k < fields_in frame = omega (arith, fields_many frame (line_of frame values ++ rest)) in
    fields_at frame (line_of frame values ++ rest) k inside ∙ field_line frame values rest k (values_fit frame values fits k inside))

pub read_written : ReadWritten
read_written frame text f = sym (line_fields frame text f)

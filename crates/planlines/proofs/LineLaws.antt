-- Laws of a plan's lines: their lengths in bytes.
-- Assumes nothing.
use Prim.Native.Nat.{ℕ, ◌+◌}
use mathlib.Core.Path.{◌≡◌, refl, ◌∙◌}
use mathlib.Core.List.{[], ◌∷◌}
use lib.ListN.{length}
use Rattle.frames.specs.Table.{widths_of, sum, length_of}
use Rattle.framewrite.specs.Line.{line_of}
use Rattle.frames.specs.declared.table.Frame.{Frame}
use Rattle.framewrite.proofs.LineLaws.{line_length}
use Rattle.refusals.specs.Refused.{number_of, place_of}
use Rattle.refusals.specs.declared.Refusal.{Refusal}
use Rattle.tasks.specs.declared.set.TaskSet.{TaskSet}
use Rattle.plan.specs.declared.plan.Plan.{Plan}
use Rattle.planlines.specs.Line.{plan_line, server_line, placed_line, processor_line, refusal_text}

-- the bytes of each kind of line
pub plan_size : length_of Frame.Plan + 1 ≡ 23
unfolding sum widths_of
plan_size = refl

pub server_size : length_of Frame.Server + 1 ≡ 21
unfolding sum widths_of
server_size = refl

pub placed_size : length_of Frame.Placed + 1 ≡ 7
unfolding sum widths_of
placed_size = refl

pub processor_size : length_of Frame.Processor + 1 ≡ 13
unfolding sum widths_of
processor_size = refl

pub refused_size : length_of Frame.Refused + 1 ≡ 7
unfolding sum widths_of
refused_size = refl

pub plan_bytes_lem : (plan : Plan) → length (plan_line plan) ≡ 23
unfolding plan_line
plan_bytes_lem plan = line_length Frame.Plan _ ∙ plan_size

pub server_bytes : (plan : Plan) (q : ℕ) → length (server_line plan q) ≡ length_of Frame.Server + 1
unfolding server_line
server_bytes plan q = line_length Frame.Server _

pub placed_bytes : (set : TaskSet) (plan : Plan) (k : ℕ) → length (placed_line set plan k) ≡ length_of Frame.Placed + 1
unfolding placed_line
placed_bytes set plan k = line_length Frame.Placed _

pub processor_bytes : (plan : Plan) (p : ℕ) → length (processor_line plan p) ≡ length_of Frame.Processor + 1
unfolding processor_line
processor_bytes plan p = line_length Frame.Processor _

pub refusal_bytes : (r : Refusal) → length (refusal_text r) ≡ 7
unfolding refusal_text
refusal_bytes r = line_length Frame.Refused _ ∙ refused_size

-- the line of a refusal's number and place
pub refusal_told : (r : Refusal) (n k : ℕ) → n ≡ number_of r → k ≡ place_of r → line_of Frame.Refused (n ∷ k ∷ []) ≡ refusal_text r
unfolding refusal_text
refusal_told r n k p q = rw (p, q)

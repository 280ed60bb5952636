-- What is promised of a sweep's report holds.
-- Assumes nothing.
use mathlib.Core.Path.{◌∙◌}
use Rattle.tallytext.specs.Claims.{TextBytes}
use Rattle.tallytext.proofs.ReportLaws.{text_length, bytes_told}

pub text_bytes : TextBytes
text_bytes t = text_length t ∙ bytes_told

-- What is promised of a sweep's report.
-- Document 02, Req 03, "Sweep report".
use Rattle.std.specs.Prelude.{◌≡◌, length}
use Rattle.tally.specs.declared.Tally.{Tally}
use Rattle.tallytext.specs.Text.{tally_text}

-- every report has 167 bytes, whatever was counted
abbrev pub TextBytes : Type 0
TextBytes = (t : Tally) → length (tally_text t) ≡ 167

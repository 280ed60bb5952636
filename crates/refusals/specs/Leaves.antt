-- What a write leaves in a lent buffer.
-- Document 01, "a refused write stores nothing. An accepted write changes only the text's bytes at the buffer's start."
use Rattle.std.specs.Prelude.{ℕ, List, Err, Ok}
use Rattle.digits.specs.Stored.{stored}
use Rattle.refusals.specs.Refused.{Written}

abbrev pub leaves : Written → (buffer text : List ℕ) → List ℕ
leaves (Ok n) buffer text = stored buffer 0 text
leaves (Err r) buffer text = buffer

-- What a writer's answer is told as: a status, and the length of the text.
use Rattle.std.specs.Prelude.{ℕ, Err, Ok}
use Rattle.refusals.specs.Refused.{Written}
use Rattle.told.specs.Told.{status_of}

-- 0, or the refusal
abbrev pub written_status : Written → ℕ
written_status (Ok n) = 0
written_status (Err r) = status_of (Err r)

-- the text's length, or the lent number as before
abbrev pub written_length : Written → (before : ℕ) → ℕ
written_length (Ok n) before = n
written_length (Err r) before = before

-- Proofs of what is promised of numbers as text.
-- Assumes nothing.
use native.Mathlib.Omega.{arith}
use Rattle.decimaltext.specs.Claims as claims
use Rattle.decimaltext.proofs.TextLaws.{text_length, text_few, written_read, no_zero_in_front}

pub WrittenRead : claims.WrittenRead
WrittenRead n h = written_read n h

pub AtMostTwenty : claims.AtMostTwenty
AtMostTwenty n h = (omega (arith, text_length n), text_few n h)

pub NoZeroInFront : claims.NoZeroInFront
NoZeroInFront n h = no_zero_in_front n h

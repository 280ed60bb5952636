-- What is promised of digits holds.
-- Assumes nothing.
use Prim.Native.Nat.{◌^◌}
use borrow.Author.Tests.{leb-false}
use Rattle.digits.specs.Claims.{WrittenRead, ReadWritten}
use Rattle.digits.proofs.Numbers.{number_hex, hex_number}

pub written_read : WrittenRead
written_read width value fits = number_hex width value (leb-false (16 ^ width) value fits)

pub read_written : ReadWritten
read_written = hex_number

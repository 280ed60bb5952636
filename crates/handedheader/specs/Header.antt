-- The header of a set that is handed in as numbers: its seven figures and the two of the 05 line and of the 06 line.
use Rattle.std.specs.Prelude.{ℕ, List}
use Rattle.tasks.specs.declared.set.Header.{Header}
use Rattle.handed.specs.Handed.{byte_at, half_at, word_at, optional_from}

abbrev pub header_from : (numbers : List ℕ) → Header
header_from ns =
    record {
      processors = byte_at ns 1;
      slot = word_at ns 2;
      relj = half_at ns 3;
      relo = half_at ns 4;
      ctswo = half_at ns 5;
      resd = half_at ns 6;
      cpmdo = half_at ns 7;
      masked = optional_from ns 8;
      rule = optional_from ns 10;
    }

-- Where the byte was looked for it does not stand: it stands first in the text where it stands first in the rest.
use Rattle.std.proofs.Common.{◌≡◌, ◌+◌, take, drop}
use Rattle.names.specs.Parts.{index_of}
use Rattle.names_code.proofs.find.Given as goal

abbrev pub invariant-loop-at : goal.invariant-loop-at
invariant-loop-at l =
    l.from + index_of l.byte (drop l.from (take l.end l.bytes)) ≡ l.at + index_of l.byte (drop l.at (take l.end l.bytes))

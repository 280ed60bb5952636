-- Part by part the names that end are counted; the list ends, or no more names are read, or it can't be read.
-- Assumes nothing.
use Rattle.std.proofs.Common.{take, subst, sym, arith, refl, rules}
use Rattle.std.specs.Io.KnownBytes.{Consumes}
use Rattle.sweeplist.proofs.SweptLaws.{none_yet, one_more, list_ends, known_list_ends, list_full, known_list_full, told, untold}
use Rattle.sweeplist.proofs.sweep_list.Goals as goal

pub parts-init : goal.parts-init
parts-init g c = none_yet _ _ refl c.zero.ensures

pub returns-then-n-eq0-clause-counted : goal.returns-then-n-eq0-clause-counted
returns-then-n-eq0-clause-counted g c whole = list_ends c.parts.invariant c.sweep_last-tally.ensures

pub returns-then-n-eq0-clause-known : goal.returns-then-n-eq0-clause-known
returns-then-n-eq0-clause-known g c =
    told _ _ _
    (known_list_ends
    c.parts.invariant
    (g.R.Read.remaining c.read_some.new.input)
    (subst (λ n. Consumes (g.R.Read.remaining c.parts.input) (g.R.Read.remaining c.read_some.new.input) (take n c.read_some.new.buf)) c.if-n-eq0.true c.in-Ok.ensures.bytes.0)
    (c.in-Ok.ensures.bytes.1 c.if-n-eq0.true (search rules))
    c.sweep_last-tally.ensures)

pub returns-then-all_read-clause-counted : goal.returns-then-all_read-clause-counted
returns-then-all_read-clause-counted g c whole =
    list_full (one_more c.parts.invariant (subst (Consumes (g.R.Read.remaining c.parts.input) (g.R.Read.remaining c.read_some.new.input)) (sym c.front.ensures) c.in-Ok.ensures.bytes.0) c.sweep_part-sweep.ensures) (omega (arith, c.if-all_read.true))

pub returns-then-all_read-clause-known : goal.returns-then-all_read-clause-known
returns-then-all_read-clause-known g c =
    told _ _ _
    (known_list_full (one_more c.parts.invariant (subst (Consumes (g.R.Read.remaining c.parts.input) (g.R.Read.remaining c.read_some.new.input)) (sym c.front.ensures) c.in-Ok.ensures.bytes.0) c.sweep_part-sweep.ensures) (omega (arith, c.if-all_read.true)))

pub parts-preserved : goal.parts-preserved
parts-preserved g c =
    one_more c.parts.invariant (subst (Consumes (g.R.Read.remaining c.parts.input) (g.R.Read.remaining c.read_some.new.input)) (sym c.front.ensures) c.in-Ok.ensures.bytes.0) c.sweep_part-sweep.ensures

pub returns-clause-known : goal.returns-clause-known
returns-clause-known g c = untold _ _

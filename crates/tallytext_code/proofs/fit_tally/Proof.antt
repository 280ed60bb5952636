-- ROOM where the report does not fit, else the 40 line and the 41 lines behind it.
-- Assumes nothing.
use native.Mathlib.Omega.{arith}
use borrow.Author.Rules.{rules}
use Rattle.frames.specs.Table.{widths_of, sum}
use Rattle.planfit.proofs.FitLaws.{no_room, stored_whole}
use Rattle.tallytext.specs.Text.{tally_text}
use Rattle.tallytext.proofs.ReportLaws.{bytes_told, text_length, told_length, text_put}
use Rattle.tallytext_code.proofs.fit_tally.Statement.{statement}
use Rattle.tallytext_code.proofs.fit_tally.Tie as tie

returns-then-short : tie.Need-returns-then-short
returns-then-short c =
    let a = c.args in
    no_room a.out.now (tally_text a.tally) (omega (arith, c.if-short.true, text_length a.tally, bytes_told))

put_line-requires : tie.Need-put_line-requires
unfolding widths_of sum
put_line-requires c κs = (omega arith, omega (arith, c.if-short.false))

put_lines-requires : tie.Need-put_lines-requires
unfolding widths_of sum
put_lines-requires c κs =
    let m = c.before.before in
    let w = m.before.before.before in
    let e = w.before.before.before in
    (rw m.met_values-values.ensures (omega (arith, told_length e.args.tally)), omega (arith, e.if-short.false, w.put_line.auto.out))

returns : tie.Need-returns
returns c =
    let l = c.before.before in
    let m = l.before.before.before in
    let w = m.before.before.before in
    let a = w.args in
    stored_whole a.out.now (tally_text a.tally) _ (omega (arith, text_length a.tally, bytes_told)) w.if-short.false
    (text_put a.tally a.out.now (omega (arith, w.if-short.false, bytes_told)) w.put_line.ensures m.met_values-values.ensures l.put_lines.ensures)

pub fit_tally_spec : {M : Type 1} → statement M
fit_tally_spec =
    tie.close
    (tie.spec
    returns-then-short
    (λ c. search rules)
    put_line-requires
    (λ c κs. search rules)
    (λ c. search rules)
    put_lines-requires
    (λ c. search rules)
    returns)

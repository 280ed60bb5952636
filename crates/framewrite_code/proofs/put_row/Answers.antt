-- `framewrite::put_row` meets its contract: the kind, the fields and the LF, stored one behind the other, are the line.
-- Assumes nothing.
use native.Mathlib.Omega.{arith}
use Rattle.framewrite.proofs.LineLaws.{row_put}
use Rattle.framewrite_code.proofs.put_row.Goals as goal

pub returns-clause-out_after : goal.returns-clause-out_after
returns-clause-out_after c =
    let a = c.args in
    let put = c.put_fields-end in
    row_put a.out.now a.at a.row a.values.now put.result (omega arith) put.ensures.value c.requires.row_bound c.store.ensures put.ensures.out_after

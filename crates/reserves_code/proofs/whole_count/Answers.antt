-- Those from a slot on are the whole processors.
-- Assumes nothing.
use Rattle.std.proofs.Common.{◌≡◌, ℕ, take, ◌∙◌, rules}
use Rattle.std.specs.List.{count_by}
use lib.Dec.{leb}
use Rattle.reserves_code.proofs.ChainLaws.{wholes_chain}
use Rattle.reserves_code.proofs.whole_count.Goals as goal

pub returns : goal.returns
returns c =
    let counted : c.count.result ≡ count_by (λ (R : ℕ). leb c.args.slot R) (take c.args.n c.args.reserves.now) = search rules in
    counted ∙ wholes_chain c.args.slot (take c.args.n c.args.reserves.now)

-- Examples A to O and R to T, each row proved: by computing, and what K prints by the law of a refused file.
-- Assumes nothing.
use Rattle.std.specs.Prelude.{Err}
use mathlib.Core.Path.{◌≡◌, refl, ap, ◌∙◌}
use Rattle.refusals.specs.declared.Refusal.TheVariants.{Horizon}
use Rattle.planlines.specs.Line.{refusal_text}
use Rattle.planfile.specs.Tool.{answered}
use Rattle.quoted.specs.Quoted.{bytes_of}
use Rattle.examples.specs.Asked.{rows_in, RowsRefuse}
use Rattle.examples.specs.Asked.Answer.{text}
use Rattle.examples.specs.Examples.{AtoL, Masked, Interrupted, Packed, Edges, file_k}
use Rattle.examples.proofs.Computing.{computing}
use Rattle.examples.proofs.RowLaws.{refused_prints}
use Rattle.examples.proofs.RowLaws as rows

pub rows_refuse : RowsRefuse
rows_refuse = rows.rows_refuse

-- K's row 9 is computed, its plan is not: the line of refusal 9 follows
k_refused : rows_in (bytes_of file_k) ≡ Err Horizon
unfolding computing
k_refused = refl

nine : refusal_text Horizon ≡ bytes_of "1F0900\n"
unfolding computing
nine = refl

k_prints : answered (bytes_of file_k) ≡ bytes_of "1F0900\n"
k_prints = refused_prints (bytes_of file_k) k_refused ∙ nine

-- one proof for each row, in the list's order: all by computing, but for what K prints
pub a_to_l : AtoL
unfolding computing
a_to_l = (refl, (refl, (refl, (refl, (refl, (refl, (refl, (refl, (refl, (refl, (refl, (refl, (refl, (refl, (refl, (refl, (refl, (refl, (refl, (refl, (ap text k_prints, (refl, (refl, tt)))))))))))))))))))))))

pub masked : Masked
unfolding computing
masked = (refl, (refl, (refl, (refl, (refl, (refl, (refl, (refl, (refl, (refl, tt))))))))))

pub interrupted : Interrupted
unfolding computing
interrupted = (refl, (refl, (refl, (refl, (refl, (refl, (refl, (refl, (refl, (refl, tt))))))))))

pub packed : Packed
unfolding computing
packed = (refl, (refl, (refl, (refl, (refl, (refl, (refl, (refl, (refl, (refl, (refl, (refl, tt))))))))))))

pub edges : Edges
unfolding computing
edges = (refl, (refl, (refl, (refl, (refl, tt)))))

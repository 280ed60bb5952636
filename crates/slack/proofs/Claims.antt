-- The claim of specs/Claims.antt, proved.
-- Assumes nothing.
use Rattle.slack.specs.Claims.{LeastMeans}
use Rattle.slack.proofs.LeastLaws.{least_none, least_zero, least_found, least_is}

pub least_means : LeastMeans
least_means p v n = ((λ t h. ((λ e. least_found p v n t e h), least_is p v n t)), (least_zero p v n, least_none p v n))

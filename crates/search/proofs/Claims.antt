-- Each claim of specs/Claims.antt, proved.
-- Assumes nothing.
use Rattle.search.specs.Claims.{LastMeans, FirstMeans, FirstAfterMeans}
use Rattle.search.proofs.Bounded.{last_none, last_zero, last_found, last_is, first_none, first_zero, first_found, first_is, after_none, after_zero, after_found, after_is}

pub last_means : LastMeans
last_means p n = ((λ t h. ((λ e. last_found p n t e h), last_is p n t)), (last_zero p n, last_none p n))

pub first_means : FirstMeans
first_means p n = ((λ t h. ((λ e. first_found p n t e h), (λ f. first_is p n t f.0 f.1))), (first_zero p n, first_none p n))

pub first_after_means : FirstAfterMeans
first_after_means p lo n = ((λ t h. ((λ e. after_found p lo n t e h), (λ f. after_is p lo n t f.0 f.1))), (after_zero p lo n, after_none p lo n))

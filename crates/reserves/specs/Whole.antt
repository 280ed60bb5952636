-- The servers that have a whole processor, in server order.
-- Document 01, "From tasks to servers to ring", rule 4 (RULES 3.4).
use Rattle.std.specs.Prelude.{ℕ, zero, suc, List, [], ◌∷◌, cond, ltb}

-- the number of the k-th server, from 0, that has a whole processor, where these reserves begin with server q
unfoldable pub whole_from : (S : ℕ) (reserves : List ℕ) (q k : ℕ) → ℕ
whole_from S [] q k = 0
whole_from S (R ∷ Rs) q zero = cond (ltb R S) (whole_from S Rs (suc q) zero) q
whole_from S (R ∷ Rs) q (suc k) = cond (ltb R S) (whole_from S Rs (suc q) (suc k)) (whole_from S Rs (suc q) k)

-- whole-processor servers take processors r + 1 and on, in server order: the server of processor r + 1 + k
abbrev pub whole_server : (S : ℕ) (reserves : List ℕ) (k : ℕ) → ℕ
whole_server S reserves k = whole_from S reserves 1 k

-- The server and the reserve that a question names: is the server there, is the reserve allowed.
-- Document 01, "From tasks to servers to ring" (RULES 3) and row 11 of the refusals (RULES 6.5).
use Rattle.std.specs.Prelude.{ℕ, ◌+◌, Bool, ◌&&◌, ◌||◌, leb, eqb}
use Rattle.plan.specs.declared.plan.Plan.{Plan}

-- L + 1 ≤ R ≤ S − 1, or R = S
unfoldable pub allowed : (S L R : ℕ) → Bool
allowed S L R = (leb (L + 1) R && leb (R + 1) S) || eqb R S

-- the servers that are there: 1 to their number
unfoldable pub is_server : Plan → ℕ → Bool
is_server plan q = leb 1 q && leb q plan.servers

-- The smallest deadline of a server with one task more. With B it tells servers that cannot take a task without looking at their
-- members. Document 02, Req 04 (RULES 2.6).
use Rattle.std.specs.Prelude.{ℕ, min, max, Bool, cond, ◌&&◌, eqb, leb, ltb}

-- the smallest deadline of a server that has s, once a task of deadline d is in it
unfoldable pub soonest_with : (s d : ℕ) → ℕ
soonest_with s d = cond (eqb s 0) d (min s d)

-- B alone rules the task out: the server has members, with the task it gains from the smaller of the two deadlines on, and that is at
-- most B
unfoldable pub masked_out : (B d s : ℕ) → Bool
masked_out B d s = ltb 0 s && ltb (min d s) (max d s) && leb (min d s) B

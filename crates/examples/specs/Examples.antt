-- Examples A to L of document 01, M of document 02, Req 04, N and O of Req 08, R of Req 05, and S and T of Req 12: lists of what is
-- asked and what is given, and one statement for each, that every row holds.
-- It is proved in proofs/Claims.antt.
use Rattle.std.specs.Prelude.{ℕ, List, [], ◌∷◌, ◌≡◌, Err, Ok}
use Prim.Native.String.{String}
use Rattle.refusals.specs.declared.Refusal.TheVariants.{Horizon}
use Rattle.verdict.specs.declared.answer.Verdict.TheVariants.{Yes, No}
use Rattle.ring.specs.declared.clock.Tick.{Tick}
use Rattle.quoted.specs.Quoted.{bytes_of}
use Rattle.examples.specs.Asked.{Question, Answer, answer_of}
use Rattle.examples.specs.Asked.Question.{prints, runs, passes, sums, lasts, refuses}
use Rattle.examples.specs.Asked.Answer.{text, running, passed, ticks, outcome}

pub record Example : Type 0 where
  pub asked : Question
  pub given : Answer

-- a row: what is asked, and what is given
abbrev pub row : Question → Answer → Example
row question answer = record { asked = question; given = answer }

-- the answers in the documents' words: the lines printed; the server on the processor and the ticks left; the first failing
-- length, or the closest, the demand and the supply there
abbrev pub lines : String → Answer
lines quoted = text (bytes_of quoted)

abbrev pub server : (number left : ℕ) → Answer
server number left = running (record { outcome = Ok tt; server = number; left = left })

abbrev pub fails_at : (length demand supply : ℕ) → Answer
fails_at length demand supply = passed (record { outcome = Ok tt; verdict = No (record { length = length; demand = demand; supply = supply }) })

abbrev pub passes_at : (length demand supply : ℕ) → Answer
passes_at length demand supply = passed (record { outcome = Ok tt; verdict = Yes (record { length = length; demand = demand; supply = supply }) })

abbrev pub at : ℕ → Tick
at tick = record { 0 = tick }

-- m 2, S 10, three tasks 6/10/10 (C/D/T)
abbrev pub file_a : String
file_a = "010200000A00000000000000000000\n020100000600000A00000A\n020200000600000A00000A\n020300000600000A00000A\n"

-- the same with m 1
abbrev pub file_b : String
file_b = "010100000A00000000000000000000\n020100000600000A00000A\n020200000600000A00000A\n020300000600000A00000A\n"

-- from here on m 64 and, unless said, S 10; two tasks 5/10/10
abbrev pub file_c : String
file_c = "014000000A00000000000000000000\n020100000500000A00000A\n020200000500000A00000A\n"

-- a third, 1/10/10
abbrev pub file_d : String
file_d = "014000000A00000000000000000000\n020100000500000A00000A\n020200000500000A00000A\n020300000100000A00000A\n"

-- S 4, task 2/7/8
abbrev pub file_e : String
file_e = "014000000400000000000000000000\n0201000002000007000008\n"

-- S 4, task 2/5/8
abbrev pub file_f : String
file_f = "014000000400000000000000000000\n0201000002000005000008\n"

-- task 3/10/10, ResD 1
abbrev pub file_g : String
file_g = "014000000A00000000000000010000\n020100000300000A00000A\n"

-- RelO 1, task 10/10/10
abbrev pub file_h10 : String
file_h10 = "014000000A00000001000000000000\n020100000A00000A00000A\n"

-- RelO 1, task 9/10/10
abbrev pub file_h9 : String
file_h9 = "014000000A00000001000000000000\n020100000900000A00000A\n"

-- RelJ 10, task 5/10/10
abbrev pub file_i : String
file_i = "014000000A000A0000000000000000\n020100000500000A00000A\n"

-- S 128, T 1,000,000 and 78,125
abbrev pub file_j : String
file_j = "014000008000000000000000000000\n02010000010F42400F4240\n020200000101312D01312D\n"

-- S 11, T 1,000,000
abbrev pub file_k : String
file_k = "014000000B00000000000000000000\n02010000010F42400F4240\n"

abbrev pub examples : List Example
examples =
    -- A
    row (prints file_a) (lines "1100020300000A00000002\n12010000060000000001\n12020000060000000601\n12030000060000000C01\n130101\n130202\n130303\n140101000006\n140202000002\n")
    -- B
    ∷ row (prints file_b) (lines "1F0A02\n")
    -- C: one server, R = 10, r = 0
    ∷ row (prints file_c) (lines "1101000100000A00000000\n120100000AFFFFFFFF02\n130101\n130201\n14010100000A\n")
    -- D: a second server, R = 1
    ∷ row (prints file_d) (lines "1101010200000A00000009\n120100000AFFFFFFFF02\n12020000010000000001\n130101\n130201\n130302\n140102000001\n14020100000A\n")
    -- E: R = 1 fails first at length 7, demand 2, supply 1; the smallest R is 2, with a tick to spare there
    ∷ row (passes file_e 1 1) (fails_at 7 2 1)
    ∷ row (passes file_e 1 2) (passes_at 7 2 3)
    ∷ row (prints file_e) (lines "1100010100000400000002\n12010000020000000001\n130101\n140101000002\n")
    -- F: R = 1 fails first at 5, demand 2, supply 1; the fake-task sum is 5 there and passes; it fails at 7 with 8
    ∷ row (passes file_f 1 1) (fails_at 5 2 1)
    ∷ row (sums file_f 1 1 5) (ticks 5)
    ∷ row (sums file_f 1 1 7) (ticks 8)
    ∷ row (prints file_f) (lines "1100010100000400000002\n12010000020000000001\n130101\n140101000002\n")
    -- G: R = 4, with nothing to spare at length 10
    ∷ row (passes file_g 1 4) (passes_at 10 3 3)
    ∷ row (prints file_g) (lines "1100010100000A00000006\n12010000040000000001\n130101\n140101000004\n")
    -- H: refusal 8; accepted
    ∷ row (prints file_h10) (lines "1F0801\n")
    ∷ row (prints file_h9) (lines "1101000100000A00000000\n120100000AFFFFFFFF01\n130101\n14010100000A\n")
    -- I: refusal 8
    ∷ row (prints file_i) (lines "1F0801\n")
    -- J: H is 10,000,000, no refusal 9, nor one of those before it
    ∷ row (lasts file_j) (ticks 10000000)
    ∷ row (refuses file_j) (outcome (Ok tt))
    -- K: H is 11,000,000, refusal 9
    ∷ row (lasts file_k) (ticks 11000000)
    ∷ row (refuses file_k) (outcome (Err Horizon))
    ∷ row (prints file_k) (lines "1F0900\n")
    -- L: in A at tick 0, server 2 is on processor 2 with 2 ticks left; at tick 6 on processor 1 with 6
    ∷ row (runs file_a 2 (at 0)) (server 2 2)
    ∷ row (runs file_a 1 (at 6)) (server 2 6)
    ∷ []

-- every row of a list holds: what is asked has the answer given
abbrev pub Every : List Example → Type 0
Every [] = Unit {0}
Every (r ∷ rs) = (answer_of r.asked ≡ r.given) × Every rs

abbrev pub AtoL : Type 0
AtoL = Every examples

-- m 2, S 10, B 5, tasks 1/13/20 and 1/14/20
abbrev pub file_m : String
file_m = "010200000A00000000000000000000\n050005\n020100000100000D000014\n020200000100000E000014\n"

-- the same with B 0 in the line, and without the line
abbrev pub file_m0 : String
file_m0 = "010200000A00000000000000000000\n050000\n020100000100000D000014\n020200000100000E000014\n"

abbrev pub file_unmasked : String
file_unmasked = "010200000A00000000000000000000\n020100000100000D000014\n020200000100000E000014\n"

-- the plan of either: R = 2
abbrev pub plan_unmasked : String
plan_unmasked = "1100010100000A00000008\n12010000020000000002\n130101\n130201\n140101000002\n"

abbrev pub masked_examples : List Example
masked_examples =
    -- R = 6: at length 13 the demand is 6, with nothing to spare
    row (prints file_m) (lines "1100010100000A00000004\n12010000060000000002\n130101\n130201\n140101000006\n")
    ∷ row (passes file_m 1 6) (passes_at 13 6 6)
    -- R = 4 fails there; the fake-task sum is 12 there and passes
    ∷ row (passes file_m 1 4) (fails_at 13 6 4)
    ∷ row (sums file_m 1 4 13) (ticks 12)
    -- a line of 0 ticks, and no line
    ∷ row (prints file_m0) (lines plan_unmasked)
    ∷ row (prints file_unmasked) (lines plan_unmasked)
    -- a 05 line at line 1, a second one, one a digit short, and no task behind it
    ∷ row (prints "050005\n010200000A00000000000000000000\n020100000100000D000014\n") (lines "1F0201\n")
    ∷ row (prints "010200000A00000000000000000000\n050005\n050005\n020100000100000D000014\n") (lines "1F0203\n")
    ∷ row (prints "010200000A00000000000000000000\n05005\n020100000100000D000014\n") (lines "1F0102\n")
    ∷ row (prints "010200000A00000000000000000000\n050005\n") (lines "1F0303\n")
    ∷ []

abbrev pub Masked : Type 0
Masked = Every masked_examples

-- m 2, S 10, task 1/20/20; interrupts 2/5/10 with no jitter and 3/6/10 with jitter 1, so that both are due after 5: on processors 1 and 2,
-- and both on processor 1
abbrev pub file_n1 : String
file_n1 = "010200000A00000000000000000000\n0201000001000014000014\n070100000200000500000A0000\n070200000300000600000A0001\n"

abbrev pub file_n2 : String
file_n2 = "010200000A00000000000000000000\n0201000001000014000014\n070100000200000500000A0000\n070100000300000600000A0001\n"

-- m 1, S 10, tasks 8/10/10 and 9/10/10; an interrupt 2/10/10 with jitter 1
abbrev pub file_o : String
file_o = "010100000A00000000000000000000\n020100000800000A00000A\n020200000900000A00000A\n070100000200000A00000A0001\n"

abbrev pub interrupted_examples : List Example
interrupted_examples =
    -- on two processors they don't add: at length 5 the demand is 3, and R = 8 has nothing to spare there
    row (prints file_n1) (lines "1100010100000A00000002\n12010000080000000001\n130101\n140101000008\n")
    ∷ row (passes file_n1 1 8) (passes_at 5 3 3)
    ∷ row (passes file_n1 1 7) (fails_at 5 3 2)
    -- on one they do: the demand there is 5, and the server has a whole processor
    ∷ row (prints file_n2) (lines "1101000100000A00000000\n120100000AFFFFFFFF01\n130101\n14010100000A\n")
    ∷ row (passes file_n2 1 10) (passes_at 5 5 5)
    -- task 2 fails alone: 13 at its place, though the board would be full as well
    ∷ row (prints file_o) (lines "1F0D02\n")
    -- a task behind an interrupt, no task, an interrupt a digit short, and one of a board's third processor, of two
    ∷ row (prints "010200000A00000000000000000000\n070100000200000500000A0000\n0201000001000014000014\n") (lines "1F0203\n")
    ∷ row (prints "010200000A00000000000000000000\n070100000200000500000A0000\n") (lines "1F0303\n")
    ∷ row (prints "010200000A00000000000000000000\n0201000001000014000014\n070100000200000500000A000\n") (lines "1F0103\n")
    ∷ row (prints "010200000A00000000000000000000\n0201000001000014000014\n070300000200000500000A0000\n") (lines "1F0641\n")
    ∷ []

abbrev pub Interrupted : Type 0
Interrupted = Every interrupted_examples

-- m 3, S 10, ResD 1, tasks 5, 6, 1, 5 and 1 of 10: without a 06 line; by first fit in file order, by first fit by falling load, by best fit
-- and by worst fit in file order
abbrev pub file_unruled : String
file_unruled = "010300000A00000000000000010000\n020100000500000A00000A\n020200000600000A00000A\n020300000100000A00000A\n020400000500000A00000A\n020500000100000A00000A\n"

abbrev pub file_r0 : String
file_r0 = "010300000A00000000000000010000\n0600\n020100000500000A00000A\n020200000600000A00000A\n020300000100000A00000A\n020400000500000A00000A\n020500000100000A00000A\n"

abbrev pub file_r1 : String
file_r1 = "010300000A00000000000000010000\n0601\n020100000500000A00000A\n020200000600000A00000A\n020300000100000A00000A\n020400000500000A00000A\n020500000100000A00000A\n"

abbrev pub file_r3 : String
file_r3 = "010300000A00000000000000010000\n0603\n020100000500000A00000A\n020200000600000A00000A\n020300000100000A00000A\n020400000500000A00000A\n020500000100000A00000A\n"

abbrev pub file_r6 : String
file_r6 = "010300000A00000000000000010000\n0606\n020100000500000A00000A\n020200000600000A00000A\n020300000100000A00000A\n020400000500000A00000A\n020500000100000A00000A\n"

-- three processors for three servers: what first fit gives, with rule 00 and without a line
abbrev pub plan_r0 : String
plan_r0 = "1100030300000A00000009\n12010000080000000003\n12020000070000000801\n12030000060000000F01\n130101\n130202\n130301\n130403\n130501\n140101000008\n140202000005\n140303000001\n"

abbrev pub packed_examples : List Example
packed_examples =
    row (prints file_unruled) (lines plan_r0)
    ∷ row (prints file_r0) (lines plan_r0)
    -- two servers on two processors, the largest tasks first
    ∷ row (prints file_r1) (lines "1101010200000A00000001\n12010000090000000003\n120200000AFFFFFFFF02\n130102\n130201\n130301\n130402\n130501\n140101000009\n14020200000A\n")
    -- task 3 goes to the fuller server, so that task 4 still fits beside task 1
    ∷ row (prints file_r3) (lines "1101010200000A00000001\n120100000AFFFFFFFF02\n12020000090000000003\n130101\n130202\n130302\n130401\n130502\n140102000009\n14020100000A\n")
    -- and to the emptier one, so that it does not
    ∷ row (prints file_r6) (lines "1100030300000A00000009\n12010000070000000002\n12020000070000000701\n12030000070000000E02\n130101\n130202\n130301\n130403\n130503\n140101000007\n140202000004\n140303000001\n")
    -- rule 09; a 06 line at line 1, a second one, one behind a task, one a digit short
    ∷ row (prints "010300000A00000000000000010000\n0609\n020100000500000A00000A\n") (lines "1F0500\n")
    ∷ row (prints "0600\n010300000A00000000000000010000\n020100000500000A00000A\n") (lines "1F0201\n")
    ∷ row (prints "010300000A00000000000000010000\n0600\n0600\n020100000500000A00000A\n") (lines "1F0203\n")
    ∷ row (prints "010300000A00000000000000010000\n020100000500000A00000A\n0600\n") (lines "1F0203\n")
    ∷ row (prints "010300000A00000000000000010000\n060\n020100000500000A00000A\n") (lines "1F0102\n")
    -- behind a 05 line it may stand, and a 05 line behind it may not
    ∷ row (prints "010300000A00000000000000010000\n050000\n0608\n020100000500000A00000A\n") (lines "1100010100000A00000004\n12010000060000000001\n130101\n140101000006\n")
    ∷ row (prints "010300000A00000000000000010000\n0608\n050000\n020100000500000A00000A\n") (lines "1F0203\n")
    ∷ []

abbrev pub Packed : Type 0
Packed = Every packed_examples

-- m 2, S 10, B 5, tasks 1/13/20 and 1/13/20: M with the second D one tick less
abbrev pub file_s : String
file_s = "010200000A00000000000000000000\n050005\n020100000100000D000014\n020200000100000D000014\n"

-- m 2, S 2, tasks 1/2/2, 2/2/4, 1/4/4, 2/4/4 and 1/2/4; and the same without the third
abbrev pub file_t1 : String
file_t1 = "010200000200000000000000000000\n0201000001000002000002\n0202000002000002000004\n0203000001000004000004\n0204000002000004000004\n0205000001000002000004\n"

abbrev pub file_t2 : String
file_t2 = "010200000200000000000000000000\n0201000001000002000002\n0202000002000002000004\n0204000002000004000004\n0205000001000002000004\n"

-- what easing does not promise
abbrev pub edge_examples : List Example
edge_examples =
    -- the D of the second task rises from 13 to 14: both have one d, so that no length gains B and R = 2; then length 13 gains it, and R = 6
    row (prints file_s) (lines plan_unmasked)
    ∷ row (passes file_s 1 2) (passes_at 13 2 2)
    ∷ row (passes file_m 1 2) (fails_at 13 6 2)
    -- two servers on two processors; without its third task server 1 takes the fourth, which leaves no room for the fifth: three processors
    ∷ row (prints file_t1) (lines "1102000200000200000000\n1201000002FFFFFFFF03\n1202000002FFFFFFFF02\n130101\n130202\n130301\n130402\n130501\n140101000002\n140202000002\n")
    ∷ row (prints file_t2) (lines "1F0A03\n")
    ∷ []

abbrev pub Edges : Type 0
Edges = Every edge_examples

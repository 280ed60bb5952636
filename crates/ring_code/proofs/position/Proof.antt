-- `phase::position` meets its contract: the tick is below the ring's length before the processor's offset is added.
-- Assumes nothing.
use Prim.Native.Nat.{ℕ, ◌+◌, ◌*◌, ◌-◌, ◌%◌, ◌≤◌, ◌<◌, ◌^◌}
use borrow.Author.Rules.{rules}
use native.Mathlib.Nat.{one-le-mul, mul-le-mul_right, lt_of_le_of_lt, lt_trans, mod-lt, mod-add-mod}
use native.Mathlib.Omega.{arith}
use lib.Dec.{lit<}
use Rattle.ring.specs.Phase.{phase}
use Rattle.ring_code.proofs.position.Statement.{statement}
use Rattle.ring_code.proofs.position.Tie as tie

some : (c : tie.Start) → 1 ≤ c.args.ring * c.args.slot
some c = one-le-mul (omega arith) c.requires.0

-- the slots of at most r processors have room
slots : (c : tie.Start) (k : ℕ) → k ≤ c.args.ring → k * c.args.slot < 2 ^ 48
slots c k h = lt_of_le_of_lt (mul-le-mul_right c.args.slot h) c.requires.3

sum : (c : tie.Start) (k : ℕ) → k ≤ c.args.ring → c.args.tick.0 % (c.args.ring * c.args.slot) + k * c.args.slot < 2 ^ 49
sum c k h = omega (arith, slots c k h, mod-lt c.args.tick.0 (some c), c.requires.3)

nonzero_rem-reduced : tie.Need-nonzero_rem-reduced
nonzero_rem-reduced c = omega (arith, some c)

overflow_mul-offset : tie.Need-overflow_mul-offset
overflow_mul-offset c = record { fits = lt_trans (slots c _ (omega arith)) (lit< tt) }

overflow_add-result : tie.Need-overflow_add-result
overflow_add-result c = record { fits = lt_trans (sum c _ (omega arith)) (lit< tt) }

nonzero_rem-result : tie.Need-nonzero_rem-result
nonzero_rem-result c = omega (arith, some c)

returns : tie.Need-returns
unfolding phase
returns c =
    rw (mod-add-mod c.args.tick.0 (c.args.ring * c.args.slot) ((c.args.processor - 1) * c.args.slot))

pub position_spec : {M : Type 1} → statement M
position_spec =
    tie.close
    (tie.spec
    (λ c. search rules)
    nonzero_rem-reduced
    (λ c. search rules)
    overflow_mul-offset
    overflow_add-result
    nonzero_rem-result
    returns)

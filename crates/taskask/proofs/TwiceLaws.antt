-- Laws of an id that repeats, read task by task from a place on.
-- Assumes nothing.
use Prim.Native.Nat.{ℕ, zero, suc, ◌+◌, ◌≤◌, ◌<◌}
use mathlib.Core.Path.{◌≡◌, refl, sym, ◌∙◌, ap}
use mathlib.Core.Bool.{Bool, false, ◌||◌}
use mathlib.Core.List.{List, [], ◌∷◌, ◌++◌}
use native.Mathlib.Omega.{arith}
use lib.Dec.{eqb}
use lib.ListN.{length, take, drop, get_or}
use borrow.Author.Tests.{ne_eqb, eqb-false}
use Rattle.laws.proofs.Tests.{or_left, or_neither, or_right}
use Rattle.tasks.specs.declared.set.Task.{Task}
use Rattle.tasks.specs.Set.{has_id}
use Rattle.tasks.specs.Search.{some}
use Rattle.tasks.proofs.Some.{some_nil, some_cons, left_cons, left_none, some_at, some_more}
use Rattle.taskask.specs.Ask.{twice_row}

pub twice_nil : twice_row [] ≡ false
unfolding twice_row
twice_nil = refl

pub twice_cons : (t : Task) (ts : List Task) → twice_row (t ∷ ts) ≡ (some (has_id t.id) ts || twice_row ts)
unfolding twice_row
twice_cons t ts = refl

-- an id that repeats among those left, by the answer at the task there
pub twice_left : (ts : List Task) (n i : ℕ) (none : Task) (b : Bool) → n ≤ length ts → i < n → some (has_id (get_or ts i none).id) (drop (i + 1) (take n ts)) ≡ b → twice_row (drop i (take n ts)) ≡ (b || twice_row (drop (i + 1) (take n ts)))
twice_left ts n i none b fits inside e =
    ap twice_row (left_cons ts n i none fits inside)
    ∙ twice_cons (get_or ts i none) (drop (i + 1) (take n ts))
    ∙ ap (λ (a : Bool). (a || twice_row (drop (i + 1) (take n ts)))) e

pub twice_end : (ts : List Task) (n i : ℕ) → n ≤ length ts → n ≤ i → twice_row (drop i (take n ts)) ≡ false
twice_end ts n i fits past = ap twice_row (left_none ts n i fits past) ∙ twice_nil

-- ids that differ, the other way round
pub other_way : (a b : ℕ) → eqb a b ≡ false → eqb b a ≡ false
other_way a b e = ne_eqb b a (λ (p : b ≡ a). eqb-false a b e (sym p))

-- where no id repeats, no task before a place has the id of the one there
pub twice_before : (ts : List Task) (i : ℕ) (none : Task) → twice_row ts ≡ false → i < length ts → some (has_id (get_or ts i none).id) (take i ts) ≡ false
twice_before [] i none e h = absurd (omega arith)
twice_before (t ∷ ts) zero none e h = some_nil (has_id t.id)
twice_before (t ∷ ts) (suc i) none e h =
    let f : (some (has_id t.id) ts || twice_row ts) ≡ false = sym (twice_cons t ts) ∙ e in
    some_cons (has_id (get_or ts i none).id) t (take i ts)
    ∙ or_neither (other_way (get_or ts i none).id t.id (some_at (has_id t.id) ts i none (or_left (some (has_id t.id) ts) (twice_row ts) f) (omega arith)))
    (twice_before ts i none (or_right (some (has_id t.id) ts) (twice_row ts) f) (omega arith))

-- one task more behind them, whose id none of them has
pub twice_more : (ts : List Task) (t : Task) → twice_row ts ≡ false → some (has_id t.id) ts ≡ false → twice_row (ts ++ (t ∷ [])) ≡ false
twice_more [] t e f = twice_cons t [] ∙ or_neither (some_nil (has_id t.id)) twice_nil
twice_more (u ∷ ts) t e f =
    let g : (some (has_id u.id) ts || twice_row ts) ≡ false = sym (twice_cons u ts) ∙ e in
    let h : (has_id t.id u || some (has_id t.id) ts) ≡ false = sym (some_cons (has_id t.id) u ts) ∙ f in
    twice_cons u (ts ++ (t ∷ []))
    ∙ or_neither
    (some_more (has_id u.id) ts t (or_left (some (has_id u.id) ts) (twice_row ts) g) (other_way u.id t.id (or_left (has_id t.id u) (some (has_id t.id) ts) h)))
    (twice_more ts t (or_right (some (has_id u.id) ts) (twice_row ts) g) (or_right (has_id t.id u) (some (has_id t.id) ts) h))

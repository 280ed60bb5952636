-- The numbers of interrupts behind each other: how many, one interrupt more, and read back as interrupts.
-- Assumes nothing.
use Prim.Native.Nat.{ℕ, zero, suc, ◌+◌, ◌*◌, ◌/◌, ◌≤◌, ◌<◌}
use mathlib.Core.Path.{◌≡◌, refl, sym, ap, ap₂, ◌∙◌}
use mathlib.Core.List.{List, [], ◌∷◌, ◌++◌, append_assoc}
use native.Mathlib.Omega.{arith}
use lib.ListN.{length, get_or, set, take, drop, replicate, length-append, length-replicate}
use lib.Seq.{take_at}
use Rattle.digits.specs.Stored.{stored}
use Rattle.digits.proofs.Stored.{stored_byte, stored_length}
use Rattle.demand.specs.Load.{Load}
use Rattle.interrupting.specs.Interrupts.{Bound, bound_numbers, bound_at, bounds_of}
use Rattle.tasks.specs.Set.{most_interrupts}
use Rattle.byprocessor.specs.Interrupts.{interrupt_numbers}

-- four for each
pub numbers_length : (bs : List Bound) → length (bound_numbers bs) ≡ 4 * length bs
unfolding bound_numbers
numbers_length [] = refl
numbers_length (b ∷ bs) = omega (arith, numbers_length bs)

abbrev four : Bound → List ℕ
four b = b.processor ∷ b.load.cost ∷ b.load.deadline ∷ b.load.period ∷ []

numbers_more : (bs : List Bound) (b : Bound) → bound_numbers (bs ++ (b ∷ [])) ≡ bound_numbers bs ++ four b
unfolding bound_numbers
numbers_more [] b = refl
numbers_more (c ∷ bs) b = ap (λ (ns : List ℕ). c.processor ∷ c.load.cost ∷ c.load.deadline ∷ c.load.period ∷ ns) (numbers_more bs b)

-- one number behind those that are stored
next : (z x : List ℕ) (v : ℕ) {at : ℕ} → at ≡ length x → at < length z → set (stored z 0 x) at v ≡ stored z 0 (x ++ (v ∷ []))
next z x v {at} e h =
    let here : at ≡ 0 + length x = omega arith in
    ap (λ (k : ℕ). set (stored z 0 x) k v) here ∙ stored_byte z 0 x v (omega arith)

-- the four numbers of an interrupt put at a place
abbrev pub put_bound : List ℕ → (at : ℕ) → Bound → List ℕ
put_bound ns at b = set (set (set (set ns at b.processor) (at + 1) b.load.cost) (at + 2) b.load.deadline) (at + 3) b.load.period

-- those of one more stand behind the others
pub put_next : (z : List ℕ) (bs : List Bound) (b : Bound) {at : ℕ} → at ≡ 4 * length bs → at + 4 ≤ length z →
    put_bound (stored z 0 (bound_numbers bs)) at b ≡ stored z 0 (bound_numbers (bs ++ (b ∷ [])))
put_next z bs b {at} e h =
    ap (λ (ns : List ℕ). set (set (set ns (at + 1) l.cost) (at + 2) l.deadline) (at + 3) l.period) (next z x b.processor (omega (arith, long)) (omega arith)) ∙
    ap (λ (ns : List ℕ). set (set ns (at + 2) l.deadline) (at + 3) l.period) (next z x1 l.cost (omega (arith, long, one)) (omega arith)) ∙
    ap (λ (ns : List ℕ). set ns (at + 3) l.period) (next z x2 l.deadline (omega (arith, long, one, two)) (omega arith)) ∙
    next z x3 l.period (omega (arith, long, one, two, three)) (omega arith) ∙
    ap (stored z 0) (joins ∙ sym (numbers_more bs b))
  where
    l : Load
    l = b.load

    x : List ℕ
    x = bound_numbers bs

    x1 : List ℕ
    x1 = x ++ (b.processor ∷ [])

    x2 : List ℕ
    x2 = x1 ++ (b.load.cost ∷ [])

    x3 : List ℕ
    x3 = x2 ++ (b.load.deadline ∷ [])

    long : length x ≡ 4 * length bs
    long = numbers_length bs

    one : length x1 ≡ length x + 1
    one = length-append x (b.processor ∷ [])

    two : length x2 ≡ length x1 + 1
    two = length-append x1 (b.load.cost ∷ [])

    three : length x3 ≡ length x2 + 1
    three = length-append x2 (b.load.deadline ∷ [])

    joins : x3 ++ (b.load.period ∷ []) ≡ x ++ four b
    joins = simp append_assoc

-- ---- read back

-- behind four numbers in front
past_four : (a b c d : ℕ) (ns : List ℕ) {k : ℕ} (j : ℕ) → k ≡ j + 4 → get_or (a ∷ b ∷ c ∷ d ∷ ns) k 0 ≡ get_or ns j 0
past_four a b c d ns {k} j e =
    let past : k ≡ suc (suc (suc (suc j))) = omega arith in
    ap (λ (i : ℕ). get_or (a ∷ b ∷ c ∷ d ∷ ns) i 0) past

-- four numbers in front are an interrupt in front
bounds_first : (b : Bound) (ns : List ℕ) (n : ℕ) →
    bounds_of (b.processor ∷ b.load.cost ∷ b.load.deadline ∷ b.load.period ∷ ns) 0 (suc n) ≡ b ∷ bounds_of ns 0 n
unfolding bounds_of
bounds_first b ns zero = refl
bounds_first b ns (suc n) = ap₂ (λ (bs : List Bound) (c : Bound). bs ++ (c ∷ [])) (bounds_first b ns n) at
  where
    past : {k : ℕ} (j : ℕ) → k ≡ j + 4 → get_or (b.processor ∷ b.load.cost ∷ b.load.deadline ∷ b.load.period ∷ ns) k 0 ≡ get_or ns j 0
    past = past_four b.processor b.load.cost b.load.deadline b.load.period ns

    at : bound_at (b.processor ∷ b.load.cost ∷ b.load.deadline ∷ b.load.period ∷ ns) 0 (suc n) ≡ bound_at ns 0 n
    at =
        rw (
          past {k = 0 + 4 * suc n} (0 + 4 * n) (omega arith),
          past {k = 0 + 4 * suc n + 1} (0 + 4 * n + 1) (omega arith),
          past {k = 0 + 4 * suc n + 2} (0 + 4 * n + 2) (omega arith),
          past {k = 0 + 4 * suc n + 3} (0 + 4 * n + 3) (omega arith),
        )

-- the numbers of interrupts are the interrupts again
pub bounds_back : (bs : List Bound) → bounds_of (bound_numbers bs) 0 (length bs) ≡ bs
unfolding bound_numbers bounds_of
bounds_back [] = refl
bounds_back (b ∷ bs) = bounds_first b (bound_numbers bs) (length bs) ∙ ap (λ (cs : List Bound). b ∷ cs) (bounds_back bs)

-- up to their end
pub bounds_all : (bs : List Bound) → bounds_of (bound_numbers bs) 0 (length (bound_numbers bs) / 4) ≡ bs
bounds_all bs =
    let count : length (bound_numbers bs) / 4 ≡ length bs = omega (arith, numbers_length bs) in
    ap (bounds_of (bound_numbers bs) 0) count ∙ bounds_back bs

-- ---- at the front of their room

-- the numbers of few interrupts, whole
pub numbers_front : (bs : List Bound) {k : ℕ} → k ≡ 4 * length bs → take k (interrupt_numbers bs) ≡ bound_numbers bs
unfolding interrupt_numbers stored
numbers_front bs {k} e = take_at (bound_numbers bs) (drop (0 + length (bound_numbers bs)) (replicate (4 * most_interrupts) 0)) k (omega (arith, numbers_length bs))

-- their room
pub numbers_room : (bs : List Bound) → length bs ≤ most_interrupts → length (interrupt_numbers bs) ≡ 4 * most_interrupts
unfolding interrupt_numbers
numbers_room bs few =
    let room = length-replicate {A = ℕ} (4 * most_interrupts) 0 in
    stored_length (replicate (4 * most_interrupts) 0) 0 (bound_numbers bs) (omega (arith, numbers_length bs, room)) ∙ room

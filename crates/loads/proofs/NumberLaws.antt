-- The numbers of loads behind each other: how many, one load more, and read back as loads.
-- Assumes nothing.
use Prim.Native.Nat.{ℕ, zero, suc, ◌+◌, ◌*◌, ◌≤◌, ◌<◌}
use native.Mathlib.Numerals.{add-one}
use native.Mathlib.Omega.{arith}
use mathlib.Core.Path.{◌≡◌, refl, sym, ap, ap₂, ◌∙◌}
use mathlib.Core.List.{List, [], ◌∷◌, ◌++◌, map, map-append, append_assoc}
use lib.ListN.{length, set, take, drop, get_or, length-append, length-map}
use lib.Seq.{take-suc, length-take-le}
use Rattle.digits.specs.Stored.{stored}
use Rattle.digits.proofs.Stored.{stored_byte}
use Rattle.demand.specs.Load.{Load, each, load_at, loads_of}
use Rattle.demand.proofs.Slices.{put_load}
use Rattle.loads.specs.Charge.{numbers_in, numbers_of}

-- three for each load
pub numbers_length : (ls : List Load) → length (numbers_of ls) ≡ 3 * length ls
unfolding numbers_of
numbers_length [] = refl
numbers_length (l ∷ ls) = omega (arith, numbers_length ls)

-- those of a load more stand behind the others
pub numbers_more : (ls : List Load) (l : Load) → numbers_of (ls ++ (l ∷ [])) ≡ numbers_of ls ++ numbers_in l
unfolding numbers_of
numbers_more [] l = refl
numbers_more (k ∷ ls) l = ap (λ (ns : List ℕ). k.cost ∷ k.deadline ∷ k.period ∷ ns) (numbers_more ls l)

-- one number behind those that are stored
pub next : (b x : List ℕ) (v : ℕ) {at : ℕ} → at ≡ length x → at < length b → set (stored b 0 x) at v ≡ stored b 0 (x ++ (v ∷ []))
next b x v {at} e h =
    let here : at ≡ 0 + length x = omega arith in
    ap (λ (k : ℕ). set (stored b 0 x) k v) here ∙ stored_byte b 0 x v (omega arith)

-- a load stored behind those that are
pub put_numbers : (b : List ℕ) (ls : List Load) (l : Load) {i : ℕ} → length ls ≡ i → 3 * i + 3 ≤ length b →
    put_load (stored b 0 (numbers_of ls)) i l ≡ stored b 0 (numbers_of (ls ++ (l ∷ [])))
put_numbers b ls l {i} e h =
    ap (λ (ns : List ℕ). set (set ns (3 * i + 1) l.deadline) (3 * i + 2) l.period) (next b x l.cost (omega (arith, long)) (omega arith)) ∙
    ap (λ (ns : List ℕ). set ns (3 * i + 2) l.period) (next b (x ++ (l.cost ∷ [])) l.deadline (omega (arith, long, one)) (omega arith)) ∙
    next b ((x ++ (l.cost ∷ [])) ++ (l.deadline ∷ [])) l.period (omega (arith, long, one, two)) (omega arith) ∙
    ap (stored b 0) (joins ∙ sym (numbers_more ls l))
  where
    x : List ℕ
    x = numbers_of ls

    long : length x ≡ 3 * length ls
    long = numbers_length ls

    one : length (x ++ (l.cost ∷ [])) ≡ length x + 1
    one = length-append x (l.cost ∷ [])

    two : length ((x ++ (l.cost ∷ [])) ++ (l.deadline ∷ [])) ≡ length (x ++ (l.cost ∷ [])) + 1
    two = length-append (x ++ (l.cost ∷ [])) (l.deadline ∷ [])

    joins : ((x ++ (l.cost ∷ [])) ++ (l.deadline ∷ [])) ++ (l.period ∷ []) ≡ x ++ numbers_in l
    joins = simp append_assoc

-- ---- read back

-- behind three numbers in front
behind : (a b c : ℕ) (ns : List ℕ) {k : ℕ} (j : ℕ) → k ≡ j + 3 → get_or (a ∷ b ∷ c ∷ ns) k 0 ≡ get_or ns j 0
behind a b c ns {k} j e =
    let past : k ≡ suc (suc (suc j)) = omega arith in
    ap (λ (i : ℕ). get_or (a ∷ b ∷ c ∷ ns) i 0) past

-- three numbers in front are a load in front
loads_first : (l : Load) (ns : List ℕ) (n : ℕ) → loads_of (l.cost ∷ l.deadline ∷ l.period ∷ ns) (suc n) ≡ l ∷ loads_of ns n
unfolding each
loads_first l ns zero = refl
loads_first l ns (suc n) = ap₂ (λ (ls : List Load) (k : Load). ls ++ (k ∷ [])) (loads_first l ns n) at
  where
    past : {k : ℕ} (j : ℕ) → k ≡ j + 3 → get_or (l.cost ∷ l.deadline ∷ l.period ∷ ns) k 0 ≡ get_or ns j 0
    past = behind l.cost l.deadline l.period ns

    at : load_at (l.cost ∷ l.deadline ∷ l.period ∷ ns) (suc n) ≡ load_at ns n
    at = rw (past {k = 3 * suc n} (3 * n) (omega arith), past {k = 3 * suc n + 1} (3 * n + 1) (omega arith), past {k = 3 * suc n + 2} (3 * n + 2) (omega arith))

-- the numbers of loads, whatever follows them, are the loads again
pub loads_back : (ls : List Load) (ns : List ℕ) → loads_of (numbers_of ls ++ ns) (length ls) ≡ ls
unfolding numbers_of each
loads_back [] ns = refl
loads_back (l ∷ ls) ns = loads_first l (numbers_of ls ++ ns) (length ls) ∙ ap (λ (ks : List Load). l ∷ ks) (loads_back ls ns)

-- so are those stored in a slice
pub loads_stored : (b : List ℕ) (ls : List Load) {n : ℕ} → length ls ≡ n → loads_of (stored b 0 (numbers_of ls)) n ≡ ls
unfolding stored
loads_stored b ls {n} e =
    ap (loads_of (stored b 0 (numbers_of ls))) (sym e) ∙ loads_back ls (drop (0 + length (numbers_of ls)) b)

-- ---- what is made of the first elements, one more

module _ {A B : Type 0} (f : A → B) (xs : List A) (i : ℕ) where
  pub taken_length : i ≤ length xs → length (map f (take i xs)) ≡ i
  taken_length h = length-map (take i xs) f ∙ length-take-le i xs h

  pub taken_more : (d : A) → i < length xs → map f (take i xs) ++ (f (get_or xs i d) ∷ []) ≡ map f (take (i + 1) xs)
  taken_more d h =
      sym (ap (λ (k : ℕ). map f (take k xs)) (add-one i) ∙ ap (map f) (take-suc xs i d h) ∙ map-append f (take i xs) (get_or xs i d ∷ []))

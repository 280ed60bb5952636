-- The numbers of tasks' figures behind each other: how many, those of a task more, and read back as figures.
-- Assumes nothing.
use Prim.Native.Nat.{ℕ, zero, suc, ◌+◌, ◌*◌, ◌≤◌}
use native.Mathlib.Omega.{arith}
use mathlib.Core.Path.{◌≡◌, refl, sym, ap, ap₂, ◌∙◌}
use mathlib.Core.List.{List, [], ◌∷◌, ◌++◌, append_assoc}
use lib.ListN.{length, set, drop, get_or, length-append}
use Rattle.digits.specs.Stored.{stored}
use Rattle.demand.specs.Load.{each}
use Rattle.loads.specs.Figures.{Figures, own_numbers, figures_at, figures_to}
use Rattle.loads.proofs.NumberLaws.{next}

-- four for each task
pub own_length : (fs : List Figures) → length (own_numbers fs) ≡ 4 * length fs
unfolding own_numbers
own_length [] = refl
own_length (f ∷ fs) = omega (arith, own_length fs)

abbrev pub four : Figures → List ℕ
four f = f.cost ∷ f.deadline ∷ f.period ∷ f.cache ∷ []

-- the numbers of a task more stand behind the others
pub own_more : (fs : List Figures) (f : Figures) → own_numbers (fs ++ (f ∷ [])) ≡ own_numbers fs ++ four f
unfolding own_numbers
own_more [] f = refl
own_more (g ∷ fs) f = ap (λ (ns : List ℕ). g.cost ∷ g.deadline ∷ g.period ∷ g.cache ∷ ns) (own_more fs f)

-- the four numbers of task i put at their place
abbrev pub put_figures : List ℕ → (i : ℕ) → Figures → List ℕ
put_figures ns i f = set (set (set (set ns (4 * i) f.cost) (4 * i + 1) f.deadline) (4 * i + 2) f.period) (4 * i + 3) f.cache

-- those of a task more stand behind the others
pub put_figures_lem : (b : List ℕ) (fs : List Figures) (f : Figures) {i : ℕ} → length fs ≡ i → 4 * i + 4 ≤ length b →
    put_figures (stored b 0 (own_numbers fs)) i f ≡ stored b 0 (own_numbers (fs ++ (f ∷ [])))
put_figures_lem b fs f {i} e h =
    ap (λ (ns : List ℕ). set (set (set ns (4 * i + 1) f.deadline) (4 * i + 2) f.period) (4 * i + 3) f.cache) (next b x f.cost (omega (arith, long)) (omega arith)) ∙
    ap (λ (ns : List ℕ). set (set ns (4 * i + 2) f.period) (4 * i + 3) f.cache) (next b x1 f.deadline (omega (arith, long, one)) (omega arith)) ∙
    ap (λ (ns : List ℕ). set ns (4 * i + 3) f.cache) (next b x2 f.period (omega (arith, long, one, two)) (omega arith)) ∙
    next b x3 f.cache (omega (arith, long, one, two, three)) (omega arith) ∙
    ap (stored b 0) (joins ∙ sym (own_more fs f))
  where
    x : List ℕ
    x = own_numbers fs

    x1 : List ℕ
    x1 = x ++ (f.cost ∷ [])

    x2 : List ℕ
    x2 = x1 ++ (f.deadline ∷ [])

    x3 : List ℕ
    x3 = x2 ++ (f.period ∷ [])

    long : length x ≡ 4 * length fs
    long = own_length fs

    one : length x1 ≡ length x + 1
    one = length-append x (f.cost ∷ [])

    two : length x2 ≡ length x1 + 1
    two = length-append x1 (f.deadline ∷ [])

    three : length x3 ≡ length x2 + 1
    three = length-append x2 (f.period ∷ [])

    joins : x3 ++ (f.cache ∷ []) ≡ x ++ four f
    joins = simp append_assoc

-- ---- read back

-- behind four numbers in front
past_four : (a b c d : ℕ) (ns : List ℕ) {k : ℕ} (j : ℕ) → k ≡ j + 4 → get_or (a ∷ b ∷ c ∷ d ∷ ns) k 0 ≡ get_or ns j 0
past_four a b c d ns {k} j e =
    let past : k ≡ suc (suc (suc (suc j))) = omega arith in
    ap (λ (i : ℕ). get_or (a ∷ b ∷ c ∷ d ∷ ns) i 0) past

-- four numbers in front are a task's figures in front
figures_first : (f : Figures) (ns : List ℕ) (n : ℕ) →
    figures_to (f.cost ∷ f.deadline ∷ f.period ∷ f.cache ∷ ns) (suc n) ≡ f ∷ figures_to ns n
unfolding each
figures_first f ns zero = refl
figures_first f ns (suc n) = ap₂ (λ (fs : List Figures) (g : Figures). fs ++ (g ∷ [])) (figures_first f ns n) at
  where
    past : {k : ℕ} (j : ℕ) → k ≡ j + 4 → get_or (f.cost ∷ f.deadline ∷ f.period ∷ f.cache ∷ ns) k 0 ≡ get_or ns j 0
    past = past_four f.cost f.deadline f.period f.cache ns

    at : figures_at (f.cost ∷ f.deadline ∷ f.period ∷ f.cache ∷ ns) (suc n) ≡ figures_at ns n
    at =
        rw (
          past {k = 4 * suc n} (4 * n) (omega arith),
          past {k = 4 * suc n + 1} (4 * n + 1) (omega arith),
          past {k = 4 * suc n + 2} (4 * n + 2) (omega arith),
          past {k = 4 * suc n + 3} (4 * n + 3) (omega arith),
        )

-- the numbers of figures, whatever follows them, are the figures again
figures_back : (fs : List Figures) (ns : List ℕ) → figures_to (own_numbers fs ++ ns) (length fs) ≡ fs
unfolding own_numbers each
figures_back [] ns = refl
figures_back (f ∷ fs) ns = figures_first f (own_numbers fs ++ ns) (length fs) ∙ ap (λ (gs : List Figures). f ∷ gs) (figures_back fs ns)

-- so are those stored in a slice
pub figures_stored : (b : List ℕ) (fs : List Figures) {n : ℕ} → length fs ≡ n → figures_to (stored b 0 (own_numbers fs)) n ≡ fs
unfolding stored
figures_stored b fs {n} e =
    ap (figures_to (stored b 0 (own_numbers fs))) (sym e) ∙ figures_back fs (drop (0 + length (own_numbers fs)) b)

-- The claims of specs/Claims.antt, proved.
-- Assumes nothing.
use Prim.Native.Nat.{ℕ, ◌*◌, ◌≤◌, ◌<◌}
use native.Mathlib.Omega.{arith}
use native.Mathlib.Nat.{le_refl, le_antisymm}
use mathlib.Core.Path.{◌≡◌, sym, ap, ◌∙◌}
use mathlib.Core.Bool.{false}
use mathlib.Core.Logic.{◌⊎◌, inl, inr, ⊎_elim}
use mathlib.Core.List.{List}
use lib.Dec.{ltb}
use lib.ListN.{length, get_or}
use borrow.Author.Tests.{ltb-true, ltb-false}
use Rattle.laws.proofs.Tests.{true_false}
use Rattle.laws.proofs.Orders.{le_or_lt}
use Rattle.demand.proofs.Demand.{each_length}
use Rattle.loads.specs.Figures.{Figures}
use Rattle.packing.specs.declared.Order.{Order}
use Rattle.packing.specs.declared.Order.TheVariants.{File, Falling, Rising}
use Rattle.packing.specs.Turns.{ahead, task_at, turns_of}
use Rattle.packing.specs.Claims.{EachOnce, Lighter, SameLoad, Before, Sorted, FileOrder}
use Rattle.packing.proofs.EachLaws.{all_places, each_at, every_there}
use Rattle.packing.proofs.TurnsLaws.{turns_permuted, turns_length, turns_below, turns_distinct, distinct_once, turns_file}
use Rattle.packing.proofs.FractionLaws.{at_most, below_most, most_below}
use Rattle.packing.proofs.RankedLaws.{Ranked, Ranks, ranked_at, sorted_ranked, among_permuted, at_among, among_at}

-- ---- every task once

each_once : (order : Order) (figures : List Figures) → EachOnce order figures
each_once order figures = record { as_many = many; there = there; every = every; once = once }
  where
    turns : List ℕ
    turns = turns_of order figures

    many : length turns ≡ length figures
    many = turns_length order figures

    there : (j : ℕ) → j < length figures → get_or turns j 0 < length figures
    there j l = every_there (λ (i : ℕ). i < length figures) 0 turns j (omega (arith, many)) (turns_below order figures)

    every : (i : ℕ) → i < length figures → (j : ℕ) × (j < length figures) × (get_or turns j 0 ≡ i)
    every i l =
        let w = among_at i turns (among_permuted i (turns_permuted order figures)
        (at_among i (all_places (length figures)) i (omega (arith, each_length (λ (k : ℕ). k) (length figures))) (each_at (λ (k : ℕ). k) 0 (length figures) i l))) in
        (w.0, omega (arith, many, w.1), w.2)

    once : (j k : ℕ) → j < length figures → k < length figures → get_or turns j 0 ≡ get_or turns k 0 → j ≡ k
    once j k l m e = distinct_once turns j k (turns_distinct order figures) (omega (arith, many)) (omega (arith, many)) e

-- ---- by load

-- where the load of f is not below that of g, it is above or the same
not_lighter : (f g : Figures) → ltb (f.cost * g.period) (g.cost * f.period) ≡ false → Lighter g f ⊎ SameLoad f g
not_lighter f g e =
    ⊎_elim
    (λ (p : f.cost * g.period ≤ g.cost * f.period). inr (le_antisymm p (ltb-false _ _ e)))
    (λ (p : g.cost * f.period < f.cost * g.period). inl p)
    (le_or_lt (f.cost * g.period) (g.cost * f.period))

-- the loads of f, g and k, which have periods, one by one
module _ (f g k : Figures) (some-f : 1 ≤ f.period) (some-g : 1 ≤ g.period) (some-k : 1 ≤ k.period) where
  same_same : SameLoad f g → SameLoad g k → SameLoad f k
  same_same p q =
      le_antisymm
      (at_most f.cost f.period g.cost g.period k.cost k.period some-g (omega arith) (omega arith))
      (at_most k.cost k.period g.cost g.period f.cost f.period some-g (omega arith) (omega arith))

  lighter_lighter : Lighter f g → Lighter g k → Lighter f k
  lighter_lighter p q = below_most f.cost f.period g.cost g.period k.cost k.period some-k p (omega arith)

  lighter_same : Lighter f g → SameLoad g k → Lighter f k
  lighter_same p q = below_most f.cost f.period g.cost g.period k.cost k.period some-k p (omega arith)

  same_lighter : SameLoad f g → Lighter g k → Lighter f k
  same_lighter p q = most_below f.cost f.period g.cost g.period k.cost k.period some-f (omega arith) q

-- so the order of places by load leads on, and its test tells it
module _ (figures : List Figures) (periods : (i : ℕ) → i < length figures → 1 ≤ (task_at figures i).period) where
  falling_onwards : (i p q : ℕ) → i < length figures → p < length figures → q < length figures →
      Before Falling figures i p → Before Falling figures p q → Before Falling figures i q
  falling_onwards i p q l m n (inl a) (inl b) =
      inl (lighter_lighter (task_at figures q) (task_at figures p) (task_at figures i) (periods q n) (periods p m) (periods i l) b a)
  falling_onwards i p q l m n (inl a) (inr b) =
      inl (same_lighter (task_at figures q) (task_at figures p) (task_at figures i) (periods q n) (periods p m) (periods i l) (sym b.0) a)
  falling_onwards i p q l m n (inr a) (inl b) =
      inl (lighter_same (task_at figures q) (task_at figures p) (task_at figures i) (periods q n) (periods p m) (periods i l) b (sym a.0))
  falling_onwards i p q l m n (inr a) (inr b) =
      inr (same_same (task_at figures i) (task_at figures p) (task_at figures q) (periods i l) (periods p m) (periods q n) a.0 b.0, omega (arith, a.1, b.1))

  rising_onwards : (i p q : ℕ) → i < length figures → p < length figures → q < length figures →
      Before Rising figures i p → Before Rising figures p q → Before Rising figures i q
  rising_onwards i p q l m n (inl a) (inl b) =
      inl (lighter_lighter (task_at figures i) (task_at figures p) (task_at figures q) (periods i l) (periods p m) (periods q n) a b)
  rising_onwards i p q l m n (inl a) (inr b) =
      inl (lighter_same (task_at figures i) (task_at figures p) (task_at figures q) (periods i l) (periods p m) (periods q n) a b.0)
  rising_onwards i p q l m n (inr a) (inl b) =
      inl (same_lighter (task_at figures i) (task_at figures p) (task_at figures q) (periods i l) (periods p m) (periods q n) a.0 b)
  rising_onwards i p q l m n (inr a) (inr b) =
      inr (same_same (task_at figures i) (task_at figures p) (task_at figures q) (periods i l) (periods p m) (periods q n) a.0 b.0, omega (arith, a.1, b.1))

  ranks : (order : Order) → Ranks (λ (i p : ℕ). ahead order (task_at figures i) (task_at figures p)) (Before order figures) (length figures)
  ranks File = record {
    passes = λ i p l e. true_false (sym e);
    fails = λ i p l e. l;
    onwards = λ i p q l m n a b. omega arith;
  }
  ranks Falling = record {
    passes = λ i p l e. inl (ltb-true _ _ e);
    fails = λ i p l e. ⊎_elim inl (λ s. inr (s, l)) (not_lighter (task_at figures p) (task_at figures i) e);
    onwards = falling_onwards;
  }
  ranks Rising = record {
    passes = λ i p l e. inl (ltb-true _ _ e);
    fails = λ i p l e. ⊎_elim inl (λ s. inr (sym s, l)) (not_lighter (task_at figures i) (task_at figures p) e);
    onwards = rising_onwards;
  }

  turns_ranked : (order : Order) → Ranked (Before order figures) (turns_of order figures)
  unfolding turns_of
  turns_ranked order =
      sorted_ranked (λ (i p : ℕ). ahead order (task_at figures i) (task_at figures p)) (Before order figures) (length figures) (ranks order)
      (length figures) (le_refl (length figures))

pub sorted : Sorted
sorted order figures periods =
    record {
      each_once = each_once order figures;
      sorted = λ j k l m.
          ranked_at (Before order figures) (turns_of order figures) j k (turns_ranked figures periods order) l (omega (arith, turns_length order figures));
    }

-- ---- in file order

pub file_order : FileOrder
file_order figures j l = ap (λ (ps : List ℕ). get_or ps j 0) (turns_file figures) ∙ each_at (λ (i : ℕ). i) 0 (length figures) j l

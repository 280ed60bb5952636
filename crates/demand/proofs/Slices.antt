-- Loads in a slice that changes: what is stored past them leaves them, and a load stored behind them is one more.
-- Assumes nothing.
use Prim.Native.Nat.{ℕ, zero, suc, ◌+◌, ◌*◌, ◌≤◌, ◌<◌}
use mathlib.Core.Path.{◌≡◌, refl, ap₂, ◌∙◌}
use mathlib.Core.List.{List, [], ◌∷◌, ◌++◌}
use native.Mathlib.Omega.{arith}
use lib.ListN.{length, set, get_or, length-set}
use lib.Seq.{get_or-set_same, get_or-set_other}
use Rattle.demand.specs.Load.{each, Load, load_at, loads_of}
use Rattle.demand.proofs.Demand.{each_next}

-- slices that agree at a load's three places have the same load there
pub load_same : (xs ys : List ℕ) (i : ℕ) → ((j : ℕ) → j < 3 * i + 3 → get_or xs j 0 ≡ get_or ys j 0) → load_at xs i ≡ load_at ys i
load_same xs ys i same =
    rw (same (3 * i) (omega arith), same (3 * i + 1) (omega arith), same (3 * i + 2) (omega arith))

-- slices that agree at the first 3·n places have the same first n loads
pub loads_same : (xs ys : List ℕ) (n : ℕ) → ((j : ℕ) → j < 3 * n → get_or xs j 0 ≡ get_or ys j 0) → loads_of xs n ≡ loads_of ys n
unfolding each
loads_same xs ys zero same = refl
loads_same xs ys (suc n) same =
    ap₂ (λ (ls : List Load) (l : Load). ls ++ (l ∷ []))
    (loads_same xs ys n (λ j h. same j (omega arith)))
    (load_same xs ys n (λ j h. same j (omega arith)))

-- a number stored past the first n loads leaves them
pub loads_kept : (numbers : List ℕ) (n : ℕ) {at : ℕ} (v : ℕ) → 3 * n ≤ at → loads_of (set numbers at v) n ≡ loads_of numbers n
loads_kept numbers n {at} v h =
    loads_same (set numbers at v) numbers n (λ j p. get_or-set_other numbers at j v 0 (λ (e : j ≡ at). omega arith))

-- the numbers with a load stored at its three places
abbrev pub put_load : (numbers : List ℕ) → (i : ℕ) → Load → List ℕ
put_load numbers i l = set (set (set numbers (3 * i) l.cost) (3 * i + 1) l.deadline) (3 * i + 2) l.period

module _ (numbers : List ℕ) (i : ℕ) (l : Load) where
  -- the load stands there
  pub put_there : 3 * i + 3 ≤ length numbers → load_at (put_load numbers i l) i ≡ l
  put_there h =
      let one = set numbers (3 * i) l.cost in
      let two = set one (3 * i + 1) l.deadline in
      rw (
        get_or-set_other two (3 * i + 2) (3 * i) l.period 0 (λ (e : 3 * i ≡ 3 * i + 2). omega arith),
        get_or-set_other one (3 * i + 1) (3 * i) l.deadline 0 (λ (e : 3 * i ≡ 3 * i + 1). omega arith),
        get_or-set_same numbers (3 * i) l.cost 0 (omega arith),
        get_or-set_other two (3 * i + 2) (3 * i + 1) l.period 0 (λ (e : 3 * i + 1 ≡ 3 * i + 2). omega arith),
        get_or-set_same one (3 * i + 1) l.deadline 0 (omega (arith, length-set numbers (3 * i) l.cost)),
        get_or-set_same two (3 * i + 2) l.period 0 (omega (arith, length-set one (3 * i + 1) l.deadline, length-set numbers (3 * i) l.cost)),
      )

  -- the loads before it stay
  pub put_keeps : {n : ℕ} → n ≤ i → loads_of (put_load numbers i l) n ≡ loads_of numbers n
  put_keeps {n} h =
      loads_kept (set (set numbers (3 * i) l.cost) (3 * i + 1) l.deadline) n l.period (omega arith) ∙
      loads_kept (set numbers (3 * i) l.cost) n l.deadline (omega arith) ∙ loads_kept numbers n l.cost (omega arith)

  -- so there is one load more
  pub put_next : 3 * i + 3 ≤ length numbers → loads_of (put_load numbers i l) (i + 1) ≡ loads_of numbers i ++ (l ∷ [])
  put_next h =
      each_next (load_at (put_load numbers i l)) i ∙
      ap₂ (λ (ls : List Load) (k : Load). ls ++ (k ∷ [])) (put_keeps (omega arith)) (put_there h)

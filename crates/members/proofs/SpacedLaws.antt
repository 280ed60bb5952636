-- Numbers of a slice that stand so far apart: one more, each by its place, and the periods of loads and of interrupts as such.
-- Assumes nothing.
use Prim.Native.Nat.{ℕ, zero, suc, ◌+◌, ◌*◌, ◌<◌}
use native.Mathlib.Decide.{dec_lt}
use native.Mathlib.Numerals.{add-one}
use native.Mathlib.Omega.{arith}
use mathlib.Core.Path.{◌≡◌, refl, sym, ap, ap₂, ◌∙◌}
use mathlib.Core.List.{List, [], ◌∷◌, ◌++◌, map, map-append}
use lib.ListN.{length, get_or, length-append, get_or-append}
use lib.Seq.{get_or-append_seam}
use Rattle.demand.specs.Load.{Load, each, load_at, loads_of}
use Rattle.interrupting.specs.Interrupts.{Bound, bound_at, bounds_of}
use Rattle.members.specs.Server.{spaced}

module _ (numbers : List ℕ) (from stride : ℕ) where
  pub spaced_length : (n : ℕ) → length (spaced numbers from stride n) ≡ n
  unfolding spaced
  spaced_length zero = refl
  spaced_length (suc n) = length-append (spaced numbers from stride n) _ ∙ omega (arith, spaced_length n)

  pub spaced_next : (i : ℕ) → spaced numbers from stride (i + 1) ≡ spaced numbers from stride i ++ (get_or numbers (from + stride * i) 0 ∷ [])
  unfolding spaced
  spaced_next i = ap (spaced numbers from stride) (add-one i)

  pub spaced_at : (n i : ℕ) → i < n → get_or (spaced numbers from stride n) i 0 ≡ get_or numbers (from + stride * i) 0
  unfolding spaced
  spaced_at zero i h = absurd (omega arith)
  spaced_at (suc n) i h =
      elim (dec_lt i n) [
        | yes before ↦ get_or-append (spaced numbers from stride n) (get_or numbers (from + stride * n) 0 ∷ []) 0 i (omega (arith, spaced_length n)) ∙ spaced_at n i before
        | no past ↦
            let here : i ≡ n = omega (arith, past, h) in
            ap (λ (k : ℕ). get_or (spaced numbers from stride n ++ (get_or numbers (from + stride * n) 0 ∷ [])) k 0) (here ∙ sym (spaced_length n))
            ∙ get_or-append_seam (spaced numbers from stride n) (get_or numbers (from + stride * n) 0) [] 0
            ∙ ap (λ (k : ℕ). get_or numbers (from + stride * k) 0) (sym here)
      ]

-- the periods of loads are every third number, from the third on
pub spaced_loads : (numbers : List ℕ) (n : ℕ) → spaced numbers 2 3 n ≡ map (λ (l : Load). l.period) (loads_of numbers n)
unfolding spaced each
spaced_loads numbers zero = refl
spaced_loads numbers (suc n) =
    let at : 2 + 3 * n ≡ 3 * n + 2 = omega arith in
    ap₂ (λ (ps : List ℕ) (k : ℕ). ps ++ (get_or numbers k 0 ∷ [])) (spaced_loads numbers n) at ∙
    sym (map-append (λ (l : Load). l.period) (loads_of numbers n) (load_at numbers n ∷ []))

-- those of interrupts every fourth, from the fourth on
pub spaced_bounds : (numbers : List ℕ) (n : ℕ) → spaced numbers 3 4 n ≡ map (λ (x : Bound). x.load.period) (bounds_of numbers 0 n)
unfolding spaced bounds_of
spaced_bounds numbers zero = refl
spaced_bounds numbers (suc n) =
    let at : 3 + 4 * n ≡ 0 + 4 * n + 3 = omega arith in
    ap₂ (λ (ps : List ℕ) (k : ℕ). ps ++ (get_or numbers k 0 ∷ [])) (spaced_bounds numbers n) at ∙
    sym (map-append (λ (x : Bound). x.load.period) (bounds_of numbers 0 n) (bound_at numbers 0 n ∷ []))

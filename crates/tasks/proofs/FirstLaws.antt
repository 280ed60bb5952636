-- Where the first of a list for which a test holds stands: exactly the one that holds with none before it.
use Prim.Native.Nat.{ℕ, zero, suc, ◌+◌, ◌<◌}
use native.Mathlib.Omega.{arith}
use mathlib.Core.List.{List, [], ◌∷◌}
use mathlib.Core.Bool.{Bool, true, false, cond}
use mathlib.Core.Path.{◌≡◌, refl}
use lib.ListN.{length, get_or}
use Rattle.tasks.specs.Search.{first_from}

-- d are passed, and the test holds at the next
pub record Stops {A : Type 0} (p : A → Bool) (z : A) (ts : List A) (d : ℕ) : Type 0 where
  pub within : d < length ts
  pub holds : p (get_or ts d z) ≡ true
  pub earlier : (j : ℕ) → j < d → p (get_or ts j z) ≡ false

module _ {A : Type 0} (p : A → Bool) (z : A) where
  stops_later : (t : A) (ts : List A) (d : ℕ) → p t ≡ false → Stops p z ts d → Stops p z (t ∷ ts) (suc d)
  stops_later t ts d e s =
      record { within = omega (arith, s.within); holds = s.holds; earlier = before }
    where
      before : (j : ℕ) → j < suc d → p (get_or (t ∷ ts) j z) ≡ false
      before zero lt = e
      before (suc j) lt = s.earlier j (omega arith)

  stops_next : (t : A) (ts : List A) (d : ℕ) → Stops p z (t ∷ ts) (suc d) → Stops p z ts d
  stops_next t ts d s =
      record { within = omega (arith, s.within); holds = s.holds; earlier = λ j lt. s.earlier (suc j) (omega arith) }

  pub first_stops : (k m : ℕ) (ts : List A) → first_from p (suc k) ts ≡ suc m → (d : ℕ) × (m ≡ k + d) × Stops p z ts d
  unfolding first_from
  first_stops k m [] e = absurd (omega arith)
  first_stops k m (t ∷ ts) e = at (p t) refl e (first_stops (suc k) m ts)
    where
      at : (b : Bool) → p t ≡ b → cond b (suc k) (first_from p (suc (suc k)) ts) ≡ suc m → (first_from p (suc (suc k)) ts ≡ suc m → (d : ℕ) × (m ≡ suc k + d) × Stops p z ts d) → (d : ℕ) × (m ≡ k + d) × Stops p z (t ∷ ts) d
      at true holds e later = (0, omega arith, record { within = omega arith; holds = holds; earlier = λ j lt. absurd (omega arith) })
      at false fails e later =
          let found : (d : ℕ) × (m ≡ suc k + d) × Stops p z ts d = later e in
          (suc found.0, omega (arith, found.1), stops_later t ts found.0 fails found.2)

  pub stops_first : (k d : ℕ) (ts : List A) → Stops p z ts d → first_from p k ts ≡ k + d
  unfolding first_from
  stops_first k d [] s = absurd (omega (arith, s.within))
  stops_first k zero (t ∷ ts) s = rw s.holds (omega arith)
  stops_first k (suc d) (t ∷ ts) s =
      rw (s.earlier 0 (omega arith), stops_first (suc k) d ts (stops_next t ts d s)) (omega arith)

  -- none: the test fails at each
  pub first_none : (k : ℕ) (ts : List A) → first_from p (suc k) ts ≡ 0 → (j : ℕ) → j < length ts → p (get_or ts j z) ≡ false
  unfolding first_from
  first_none k [] e j lt = absurd (omega arith)
  first_none k (t ∷ ts) e zero lt = at (p t) e
    where
      at : (b : Bool) → cond b (suc k) (first_from p (suc (suc k)) ts) ≡ 0 → b ≡ false
      at true e = absurd (omega arith)
      at false e = refl
  first_none k (t ∷ ts) e (suc j) lt = first_none (suc k) ts (at (p t) e) j (omega arith)
    where
      at : (b : Bool) → cond b (suc k) (first_from p (suc (suc k)) ts) ≡ 0 → first_from p (suc (suc k)) ts ≡ 0
      at true e = absurd (omega arith)
      at false e = e

  pub none_first : (k : ℕ) (ts : List A) → ((j : ℕ) → j < length ts → p (get_or ts j z) ≡ false) → first_from p k ts ≡ 0
  unfolding first_from
  none_first k [] f = refl
  none_first k (t ∷ ts) f =
      rw (f 0 (omega arith), none_first (suc k) ts (λ j lt. f (suc j) (omega arith)))

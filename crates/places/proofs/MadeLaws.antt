-- Laws of an array that is made place by place.
-- Assumes nothing.
use Prim.Native.Nat.{ℕ, zero, suc, ◌+◌, ◌≤◌, ◌<◌}
use native.Mathlib.Omega.{arith}
use native.Mathlib.Decide.{dec_lt}
use mathlib.Core.Path.{◌≡◌, sym, ap, ◌∙◌, subst}
use mathlib.Core.List.{List}
use denote.Param.Members.{Mut, Called}
use lib.ListN.{get_or}
use Rattle.std.specs.Array.{IsFromFnResult, IsFromFnResultFrom}
use Rattle.std.proofs.lemmas.List.{ext_get_or}
use Rattle.places.specs.Padded.{up_to}
use Rattle.places.proofs.PaddedLaws.{up_length, up_there}

-- an array that is made by a closure, where a call at a place gives what stands there, f 1, f 2 and so on, and leaves the closure as it was
module _ {F A : Type 0} (g : Mut F (ℕ × Unit {0}) A) {c : F} (f : ℕ → A) (n : ℕ) (call : (i : ℕ) (y : A) (q : F) → i < n → Called g c (i, tt) y q → (y ≡ f (i + 1)) × (q ≡ c)) where
  made_each : (ys : List A) (d : A) (m i k : ℕ) → i ≤ k → k < i + m → i + m ≤ n → IsFromFnResultFrom g c ys i m → get_or ys k d ≡ f (k + 1)
  made_each ys d zero i k low high few r = absurd (omega arith)
  made_each ys d (suc m) i k low high few r =
      let one = call i r.1 r.0 (omega arith) r.3 in
      elim (dec_lt i k) [
        | yes later ↦ made_each ys d m (i + 1) k (omega arith) (omega arith) (omega arith) (subst (λ (p : F). IsFromFnResultFrom g p ys (i + 1) m) one.1 r.4)
        | no here ↦
            let same : k ≡ i = omega (arith, here, low) in
            ap (λ (j : ℕ). get_or ys j d) same ∙ r.2.1 d ∙ one.0 ∙ ap (λ (j : ℕ). f (j + 1)) (sym same)
      ]

  pub made_to : {ys : List A} → IsFromFnResult g c ys n → ys ≡ up_to f n
  made_to {ys} r = ext_get_or (f 1) ys (up_to f n) (r.long ∙ sym (up_length f n)) (λ k h. made_at k (omega (arith, r.long, h)))
    where
      made_at : (k : ℕ) → k < n → get_or ys k (f 1) ≡ get_or (up_to f n) k (f 1)
      made_at k h = made_each ys (f 1) n 0 k (omega arith) (omega arith) (omega arith) r.each ∙ sym (up_there f (f 1) n k h)

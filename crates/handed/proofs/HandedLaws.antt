-- Laws of an array that is made place by place.
-- Assumes nothing.
use Prim.Native.Nat.{ℕ, ◌-◌, ◌<◌}
use native.Mathlib.Omega.{arith}
use mathlib.Core.Path.{◌≡◌, ap, ◌∙◌}
use mathlib.Core.List.{List}
use denote.Param.Members.{Mut, Called}
use Rattle.std.specs.Array.{IsFromFnResult}
use Rattle.places.specs.Padded.{up_to}
use Rattle.places.proofs.MadeLaws.{made_to}

-- an array that is made by a closure, where a call at a place from 0 gives what stands there, and leaves the closure as it was
pub made_up : {F A : Type 0} (g : Mut F (ℕ × Unit {0}) A) {c : F} (f : ℕ → A) (n : ℕ) (call : (i : ℕ) (y : A) (q : F) → i < n → Called g c (i, tt) y q → (y ≡ f i) × (q ≡ c))
    → {ys : List A} → IsFromFnResult g c ys n → ys ≡ up_to (λ (k : ℕ). f (k - 1)) n
made_up g f n call r = made_to g (λ k. f (k - 1)) n (λ i y q h k. let one = call i y q h k in (one.0 ∙ ap f (omega arith), one.1)) r

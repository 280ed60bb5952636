-- Laws of names that may be opened: by their length, and by a NUL among their bytes.
-- Assumes nothing.
use Prim.Native.Nat.{ℕ, zero, suc, ◌≤◌, ◌<◌}
use mathlib.Core.Path.{◌≡◌, refl, ap, ◌∙◌}
use mathlib.Core.Bool.{Bool, true, false}
use mathlib.Core.List.{List, [], ◌∷◌}
use native.Mathlib.Omega.{arith}
use lib.Dec.{eqb, leb, ltb}
use lib.ListN.{length, get_or}
use borrow.Author.Tests.{le-leb, lt-ltb, eq-eqb, leb-true, eqb-true, eqb-false}
use Rattle.laws.proofs.Tests.{and_both, and_parts, never_true}
use Rattle.names.specs.Names.{longest_name}
use Rattle.names.specs.Parts.{index_of}
use Rattle.names.proofs.PartLaws.{index_here, index_behind}
use Rattle.sweepfile.specs.Answered.{opens}

-- a name that may be opened has from 1 to 255 bytes
opens_says : (name : List ℕ) → opens name ≡ true → (length name ≤ longest_name) × (index_of 0 name ≡ length name)
unfolding opens
opens_says name e =
    let rest = (and_parts (ltb 0 (length name)) _ e).1 in
    let two = and_parts (leb (length name) longest_name) _ rest in
    (leb-true _ _ two.0, eqb-true _ _ two.1)

-- where none is found none stands
no_byte : (b : ℕ) (xs : List ℕ) (other : ℕ) → index_of b xs ≡ length xs → (i : ℕ) → i < length xs → get_or xs i other ≡ b → ⊥
no_byte b [] other e i h f = omega arith
no_byte b (x ∷ xs) other e i h f = by_test (eqb x b) refl e i h f (no_byte b xs other)
  where
    by_test : (t : Bool) → eqb x b ≡ t → index_of b (x ∷ xs) ≡ suc (length xs) → (i : ℕ) → i < suc (length xs) → get_or (x ∷ xs) i other ≡ b
        → (index_of b xs ≡ length xs → (j : ℕ) → j < length xs → get_or xs j other ≡ b → ⊥) → ⊥
    by_test true t e i h f later = omega (arith, e, index_here b x xs t)
    by_test false t e zero h f later = eqb-false x b t f
    by_test false t e (suc i) h f later = later (omega (arith, e, index_behind b x xs t)) i (omega arith) f

-- and where none stands none is found
not_found : (b : ℕ) (xs : List ℕ) (other : ℕ) → ((i : ℕ) → i < length xs → get_or xs i other ≡ b → ⊥) → index_of b xs ≡ length xs
unfolding index_of
not_found b [] other none = refl
not_found b (x ∷ xs) other none = by_test (eqb x b) refl (not_found b xs other (λ i h. none (suc i) (omega arith)))
  where
    by_test : (t : Bool) → eqb x b ≡ t → index_of b xs ≡ length xs → index_of b (x ∷ xs) ≡ suc (length xs)
    by_test true t e = absurd (none 0 (omega arith) (eqb-true x b t))
    by_test false t e = index_behind b x xs t ∙ ap suc e

pub too_long : (name : List ℕ) → longest_name < length name → opens name ≡ false
too_long name h = never_true (opens name) (λ e. omega (arith, (opens_says name e).0))

pub with_nul : (name : List ℕ) (i : ℕ) → i < length name → get_or name i 1 ≡ 0 → opens name ≡ false
with_nul name i h f = never_true (opens name) (λ e. no_byte 0 name 1 (opens_says name e).1 i h f)

pub any_other : (name : List ℕ) → 1 ≤ length name → length name ≤ longest_name → ((i : ℕ) → i < length name → get_or name i 1 ≡ 0 → ⊥) → opens name ≡ true
unfolding opens
any_other name some few none =
    and_both (lt-ltb 0 (length name) (omega arith))
    (and_both (le-leb (length name) longest_name few) (eq-eqb (index_of 0 name) (length name) (not_found 0 name 1 none)))

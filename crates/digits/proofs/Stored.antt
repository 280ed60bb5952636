-- Laws of a text stored in a buffer: its length, nothing stored, one byte more, and one text after another.
-- Assumes nothing.
use Prim.Native.Nat.{ℕ, suc, ◌+◌, ◌≤◌, ◌<◌}
use mathlib.Core.Path.{◌≡◌, sym, ◌∙◌, ap, ap₂}
use mathlib.Core.List.{List, [], ◌∷◌, ◌++◌, append_assoc}
use native.Mathlib.Nat.{add-zero, add_assoc}
use native.Mathlib.Numerals.{add-one}
use native.Mathlib.Omega.{arith}
use lib.ListN.{length, take, drop, set, length-append, length-drop, take-append-drop}
use lib.Seq.{take-set-le, drop-set-lt, drop-cons, get_or-set_same, lt-length-set, length-take-le, take_at, drop-append-add, drop-drop, set_split}
use Rattle.digits.specs.Stored.{stored}

module _ {A : Type 0} where
  -- nothing stored changes nothing
  pub stored_nil : (b : List A) (at : ℕ) → stored b at [] ≡ b
  unfolding stored
  stored_nil b at = rw (add-zero, take-append-drop)

  -- a text that fits leaves the buffer's length
  pub stored_length : (b : List A) (at : ℕ) (x : List A) → at + length x ≤ length b → length (stored b at x) ≡ length b
  unfolding stored
  stored_length b at x h = simp (length-append, length-drop, length-take-le at b (omega arith)) (omega arith)

  -- one text stored behind another is both stored as one
  pub stored_stored : (b : List A) (at : ℕ) (x y : List A) → at + length x + length y ≤ length b
      → stored (stored b at x) (at + length x) y ≡ stored b at (x ++ y)
  unfolding stored
  stored_stored b at x y h =
      ap₂ (λ (p q : List A). p ++ (y ++ q)) front back
      ∙ append_assoc (take at b) x (y ++ drop (at + (length x + length y)) b)
      ∙ ap (λ (l : List A). take at b ++ l) (sym (append_assoc x y (drop (at + (length x + length y)) b)))
      ∙ ap (λ (n : ℕ). take at b ++ ((x ++ y) ++ drop (at + n) b)) (sym (length-append x y))
    where
      rest : List A
      rest = drop (at + length x) b

      head : length (take at b ++ x) ≡ at + length x
      head = length-append (take at b) x ∙ ap (λ (n : ℕ). n + length x) (length-take-le at b (omega arith))

      whole : take at b ++ (x ++ drop (at + length x) b) ≡ (take at b ++ x) ++ drop (at + length x) b
      whole = sym (append_assoc (take at b) x (drop (at + length x) b))

      front : take (at + length x) (take at b ++ (x ++ drop (at + length x) b)) ≡ take at b ++ x
      front = ap (take (at + length x)) whole ∙ take_at (take at b ++ x) (drop (at + length x) b) (at + length x) head

      back : drop (at + length x + length y) (take at b ++ (x ++ drop (at + length x) b)) ≡ drop (at + (length x + length y)) b
      back =
          ap (drop (at + length x + length y)) whole
          ∙ ap (λ (n : ℕ). drop (n + length y) ((take at b ++ x) ++ drop (at + length x) b)) (sym head)
          ∙ drop-append-add (take at b ++ x) (drop (at + length x) b) (length y)
          ∙ drop-drop (length y) (at + length x) b
          ∙ ap (λ (n : ℕ). drop n b) (add_assoc at (length x) (length y))

  -- a byte set behind a text that is yet to be stored belongs to it
  pub stored_set : (b : List A) (at : ℕ) (x : List A) (v : A) → at + length x < length b
      → stored (set b (at + length x) v) at x ≡ stored b at (x ++ (v ∷ []))
  unfolding stored
  stored_set b at x v h =
      ap₂ (λ (p q : List A). p ++ (x ++ q)) (take-set-le at b (at + length x) v (omega arith)) back
      ∙ ap (λ (l : List A). take at b ++ l) (sym (append_assoc x (v ∷ []) (drop (suc (at + length x)) b)))
      ∙ ap (λ (n : ℕ). take at b ++ ((x ++ (v ∷ [])) ++ drop n b)) next
    where
      next : suc (at + length x) ≡ at + length (x ++ (v ∷ []))
      next = omega (arith, length-append x (v ∷ []))

      back : drop (at + length x) (set b (at + length x) v) ≡ v ∷ drop (suc (at + length x)) b
      back =
          drop-cons (set b (at + length x) v) (at + length x) v (lt-length-set b (at + length x) v h)
          ∙ ap₂ ◌∷◌ (get_or-set_same b (at + length x) v v h) (drop-set-lt (suc (at + length x)) b (at + length x) v (omega arith))

  -- one byte set is that byte stored
  pub set_stored : (b : List A) (at : ℕ) (v : A) → at < length b → set b at v ≡ stored b at (v ∷ [])
  unfolding stored
  set_stored b at v h = set_split b at v h ∙ ap (λ (n : ℕ). take at b ++ (v ∷ drop n b)) (sym (add-one at))

  -- a byte set right behind a stored text makes it longer by that byte
  pub stored_byte : (b : List A) (at : ℕ) (x : List A) (v : A) → at + length x < length b
      → set (stored b at x) (at + length x) v ≡ stored b at (x ++ (v ∷ []))
  stored_byte b at x v h =
      set_stored (stored b at x) (at + length x) v (omega (arith, stored_length b at x (omega arith)))
      ∙ stored_stored b at x (v ∷ []) (omega arith)

  -- three texts stored one behind the other
  pub stored_three : (b : List A) (at : ℕ) (x y z : List A) (m n : ℕ) → m ≡ at + length x → n ≡ at + length x + length y
      → at + length x + length y + length z ≤ length b
      → stored (stored (stored b at x) m y) n z ≡ stored b at (x ++ (y ++ z))
  stored_three b at x y z m n p q h =
      ap₂ (λ (j k : ℕ). stored (stored (stored b at x) j y) k z) p q
      ∙ stored_stored (stored b at x) (at + length x) y z (omega (arith, stored_length b at x (omega arith)))
      ∙ stored_stored b at x (y ++ z) (omega (arith, length-append y z))

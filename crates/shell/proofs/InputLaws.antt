-- Laws of bytes that were read into the rest of a buffer.
-- Assumes nothing.
use Rattle.std.proofs.Common.{◌≡◌, ℕ, ◌+◌, ◌≤◌, List, ◌++◌, length, take, drop, sym, ap, subst, ◌∙◌, append_assoc, length-append, take-append-drop, arith}
use borrow.Rule.Slice.PartMut.{put_mid, post_of}
use lib.Seq.{length-take-le, take_at}
use Rattle.std.specs.declared.option.Option.{Option}
use Rattle.std.specs.Io.KnownBytes.{Consumes}
use Rattle.std.proofs.KnownBytes.{Consumes-trans}

-- the buffer's front is what stood there, and then the front of what was put behind it
put_front : (a k n : ℕ) (xs ys : List ℕ) → a ≤ length xs → n ≤ length ys → take (a + n) (put_mid a k xs ys) ≡ take a xs ++ take n ys
put_front a k n xs ys p q =
    ap
    (take (a + n))
    (ap (λ (l : List ℕ). take a xs ++ (l ++ post_of a k xs)) (sym (take-append-drop n ys))
    ∙ ap (λ (l : List ℕ). take a xs ++ l) (append_assoc (take n ys) (drop n ys) (post_of a k xs))
    ∙ sym (append_assoc (take a xs) (take n ys) (drop n ys ++ post_of a k xs)))
    ∙ take_at (take a xs ++ take n ys) _ (a + n) (omega (arith, length-append (take a xs) (take n ys), length-take-le a xs p, length-take-le n ys q))

-- one read more
pub read_more : (a b c : Option (List ℕ)) (done k more : ℕ) (xs ys : List ℕ) → done ≤ length xs → more ≤ length ys
    → Consumes a b (take done xs) → Consumes b c (take more ys) → Consumes a c (take (done + more) (put_mid done k xs ys))
read_more a b c done k more xs ys p q before one =
    subst (Consumes a c) (sym (put_front done k more xs ys p q)) (Consumes-trans a b c (take done xs) (take more ys) before one)

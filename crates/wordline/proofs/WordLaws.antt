-- Laws of words with numbers in them: a byte more, how long they get, and that they are put to a buffer piece by piece.
-- Assumes nothing.
use Prim.Native.Nat.{ℕ, ◌+◌, ◌*◌, ◌^◌, ◌≤◌, ◌<◌}
use mathlib.Core.Path.{◌≡◌, refl, sym, ◌∙◌, ap, ap₂, subst}
use mathlib.Core.List.{List, [], ◌∷◌, ◌++◌}
use mathlib.Core.Logic.{⊎_elim}
use native.Mathlib.Nat.{add-zero}
use native.Mathlib.Numerals.{add-one}
use native.Mathlib.Omega.{arith}
use lib.ListN.{length, get_or, set, drop, length-append, drop_of_length-le}
use lib.Seq.{drop-cons, drop-drop, get_or-drop}
use borrow.Author.Tests.{eq-eqb, ne_eqb}
use Rattle.laws.proofs.Orders.{eq_or_ne}
use Rattle.digits.specs.Stored.{stored}
use Rattle.digits.proofs.Stored.{stored_nil, stored_length, stored_stored, set_stored}
use Rattle.decimaltext.specs.Text.{decimal_text}
use Rattle.decimaltext.proofs.TextLaws.{text_few}
use Rattle.wordline.specs.Words.{signs, piece, left, said}

-- a byte of the words in front of the others
module _ (b : ℕ) (bs ns : List ℕ) where
  said_sign : b ≡ 35 → said (b ∷ bs) ns ≡ decimal_text (get_or ns 0 0) ++ said bs (drop 1 ns)
  unfolding said piece left
  said_sign e = rw (eq-eqb b 35 e)

  said_byte : (b ≡ 35 → ⊥) → said (b ∷ bs) ns ≡ (b ∷ []) ++ said bs ns
  unfolding said piece left
  said_byte e = rw (ne_eqb b 35 e)

  count_sign : b ≡ 35 → signs (b ∷ bs) ≡ 1 + signs bs
  unfolding signs
  count_sign e = rw (eq-eqb b 35 e)

  count_byte : (b ≡ 35 → ⊥) → signs (b ∷ bs) ≡ 0 + signs bs
  unfolding signs
  count_byte e = rw (ne_eqb b 35 e)

-- the words and the numbers that are left, by the next byte
module _ (words numbers : List ℕ) (i next : ℕ) (h : i < length words) where
  behind : drop i words ≡ get_or words i 0 ∷ drop (i + 1) words
  behind = drop-cons words i 0 h ∙ ap (λ (n : ℕ). get_or words i 0 ∷ drop n words) (sym (add-one i))

  sign_next : get_or words i 0 ≡ 35 →
      said (drop i words) (drop next numbers) ≡ decimal_text (get_or numbers next 0) ++ said (drop (i + 1) words) (drop (next + 1) numbers)
  sign_next e =
      ap (λ (l : List ℕ). said l (drop next numbers)) behind
      ∙ said_sign (get_or words i 0) (drop (i + 1) words) (drop next numbers) e
      ∙ ap₂ (λ (n : ℕ) (l : List ℕ). decimal_text n ++ said (drop (i + 1) words) l) (get_or-drop next numbers 0 0 ∙ ap (λ (n : ℕ). get_or numbers n 0) (add-zero next)) (drop-drop 1 next numbers)

  byte_next : (get_or words i 0 ≡ 35 → ⊥) →
      said (drop i words) (drop next numbers) ≡ (get_or words i 0 ∷ []) ++ said (drop (i + 1) words) (drop next numbers)
  byte_next e =
      ap (λ (l : List ℕ). said l (drop next numbers)) behind ∙ said_byte (get_or words i 0) (drop (i + 1) words) (drop next numbers) e

  sign_counted : get_or words i 0 ≡ 35 → signs (drop i words) ≡ 1 + signs (drop (i + 1) words)
  sign_counted e = ap signs behind ∙ count_sign (get_or words i 0) (drop (i + 1) words) numbers e

  byte_counted : (get_or words i 0 ≡ 35 → ⊥) → signs (drop i words) ≡ 0 + signs (drop (i + 1) words)
  byte_counted e = ap signs behind ∙ count_byte (get_or words i 0) (drop (i + 1) words) numbers e

-- the words before byte i are said, up to place `at` of a buffer, with the numbers before `next`
pub record Saying (b words numbers out : List ℕ) (at next i : ℕ) : Type 0 where
  pub within : i ≤ length words
  pub enough : next + signs (drop i words) ≤ length numbers
  pub ends : at + length (said (drop i words) (drop next numbers)) ≡ length (said words numbers)
  pub same : length out ≡ length b
  pub holds : stored out at (said (drop i words) (drop next numbers)) ≡ stored b 0 (said words numbers)

pub none_said : (b words numbers : List ℕ) → signs words ≤ length numbers → Saying b words numbers b 0 0 0
none_said b words numbers h = record { within = omega arith; enough = omega (arith, h); ends = omega arith; same = refl; holds = refl }

module _ {b words numbers out : List ℕ} {at next i : ℕ} (so : Saying b words numbers out at next i) (room : length (said words numbers) ≤ length b) where
  pub all_said : length words ≤ i → (at ≡ length (said words numbers)) × (out ≡ stored b 0 (said words numbers))
  unfolding said
  all_said h =
      let none : said (drop i words) (drop next numbers) ≡ [] = ap (λ (l : List ℕ). said l (drop next numbers)) (drop_of_length-le words h) in
      (omega (arith, ap length none, so.ends), sym (stored_nil out at) ∙ ap (stored out at) (sym none) ∙ so.holds)

  -- a piece more, whatever it is
  module _ (x : List ℕ) (next' : ℕ) (split : said (drop i words) (drop next numbers) ≡ x ++ said (drop (i + 1) words) (drop next' numbers)) where
    sizes : length (said (drop i words) (drop next numbers)) ≡ length x + length (said (drop (i + 1) words) (drop next' numbers))
    sizes = ap length split ∙ length-append x (said (drop (i + 1) words) (drop next' numbers))

    piece_room : at + length x ≤ length out
    piece_room = omega (arith, so.ends, so.same, room, sizes)

    piece_said : {out' : List ℕ} {at' : ℕ} → i < length words → next' + signs (drop (i + 1) words) ≤ length numbers
        → at' ≡ at + length x → out' ≡ stored out at x → Saying b words numbers out' at' next' (i + 1)
    piece_said {at' = at'} h few ea eo = record {
      within = omega arith;
      enough = few;
      ends = omega (arith, so.ends, sizes, ea);
      same = ap length eo ∙ stored_length out at x piece_room ∙ so.same;
      holds = ap₂ (λ (o : List ℕ) (n : ℕ). stored o n (said (drop (i + 1) words) (drop next' numbers))) eo ea
          ∙ stored_stored out at x (said (drop (i + 1) words) (drop next' numbers)) (omega (arith, so.ends, so.same, room, sizes))
          ∙ ap (stored out at) (sym split)
          ∙ so.holds;
    }

  -- the next byte is a sign: its number is there, has room, and is said
  module _ (h : i < length words) (e : get_or words i 0 ≡ 35) where
    pub sign_inside : next < length numbers
    sign_inside = omega (arith, so.enough, sign_counted words numbers i next h e)

    pub sign_room : at + length (decimal_text (get_or numbers next 0)) ≤ length out
    sign_room = piece_room (decimal_text (get_or numbers next 0)) (next + 1) (sign_next words numbers i next h e)

    pub sign_said : {out' : List ℕ} {at' next' : ℕ} → at' ≡ at + length (decimal_text (get_or numbers next 0)) → out' ≡ stored out at (decimal_text (get_or numbers next 0))
        → next' ≡ next + 1 → Saying b words numbers out' at' next' (i + 1)
    sign_said {out'} {at'} ea eo en =
        subst (λ (n : ℕ). Saying b words numbers out' at' n (i + 1)) (sym en)
        (piece_said (decimal_text (get_or numbers next 0)) (next + 1) (sign_next words numbers i next h e) h (omega (arith, so.enough, sign_counted words numbers i next h e)) ea eo)

  -- the next byte is none: it has room, and is said
  module _ (h : i < length words) (e : get_or words i 0 ≡ 35 → ⊥) where
    pub byte_room : at + 1 ≤ length out
    byte_room = piece_room (get_or words i 0 ∷ []) next (byte_next words numbers i next h e)

    pub byte_said : {out' : List ℕ} {at' next' : ℕ} → at' ≡ at + 1 → out' ≡ set out at (get_or words i 0) → next' ≡ next
        → Saying b words numbers out' at' next' (i + 1)
    byte_said {out'} {at'} ea eo en =
        subst (λ (n : ℕ). Saying b words numbers out' at' n (i + 1)) (sym en)
        (piece_said (get_or words i 0 ∷ []) next (byte_next words numbers i next h e) h (omega (arith, so.enough, byte_counted words numbers i next h e)) ea
        (eo ∙ set_stored out at (get_or words i 0) (omega (arith, byte_room))))

-- words with numbers of 64 bits get at most 19 bytes longer by each of them
pub said_short : (words numbers : List ℕ) → ((k : ℕ) → get_or numbers k 0 < 2 ^ 64) → length (said words numbers) ≤ length words + 19 * signs words
unfolding said signs
said_short [] ns small = omega arith
said_short (b ∷ bs) ns small = ⊎_elim
    (λ (e : b ≡ 35). omega (
      arith,
      ap length (said_sign b bs ns e),
      length-append (decimal_text (get_or ns 0 0)) (said bs (drop 1 ns)),
      text_few (get_or ns 0 0) (small 0),
      count_sign b bs ns e,
      said_short bs (drop 1 ns) (λ k. subst (λ (n : ℕ). n < 2 ^ 64) (sym (get_or-drop 1 ns k 0)) (small (1 + k))),
    ))
    (λ (e : b ≡ 35 → ⊥). omega (arith, ap length (said_byte b bs ns e), count_byte b bs ns e, said_short bs ns small))
    (eq_or_ne b 35)

-- Laws of what is held of a name: with more bytes it is held too, or it is too long.
-- Assumes nothing.
use Prim.Native.Nat.{ℕ, ◌+◌, ◌≤◌, ◌<◌, min}
use mathlib.Core.Path.{◌≡◌, refl, sym, ◌∙◌, ap, ap₂}
use mathlib.Core.Bool.{Bool, true, false}
use mathlib.Core.List.{List, [], ◌++◌, append_assoc}
use native.Mathlib.Omega.{arith}
use lib.Dec.{leb}
use lib.ListN.{length, take, drop, length-append}
use lib.Seq.{take_at, length-take-le}
use Rattle.laws.proofs.Choices.{cond_true, cond_false}
use borrow.Author.Tests.{le-leb, lt-leb, leb-true, leb-false}
use Rattle.digits.specs.Stored.{stored}
use Rattle.digits.proofs.Stored.{stored_length}
use Rattle.names.specs.Names.{longest_name}
use Rattle.names.specs.Parts.{most_held, Holds, held_with, name_with}

-- nothing is begun: nothing is held
pub holds_none : (name : List ℕ) → length name ≡ longest_name → Holds [] name 0
holds_none name room = record { room = room; count = refl; bytes = λ h. refl }

-- no more is held than that
pub held_most : {begun name : List ℕ} {held : ℕ} → Holds begun name held → held ≤ most_held
held_most so = omega (arith, so.count)

-- what is held is all of it, or it is longer than a name may be
pub held_all : {begun name : List ℕ} {held : ℕ} → Holds begun name held → held ≤ longest_name → take held name ≡ begun
held_all {begun} {name} {held} so h = rw e (so.bytes (omega arith))
  where
    e : held ≡ length begun
    e = omega (arith, so.count)

pub held_longer : {begun name : List ℕ} {held : ℕ} → Holds begun name held → longest_name < held → longest_name < length begun
held_longer so h = omega (arith, so.count)

-- with the bytes that fit behind it
pub with_fits : (name : List ℕ) (held : ℕ) (more : List ℕ) → held + length more ≤ longest_name → name_with name held more ≡ stored name held more
unfolding name_with
with_fits name held more h = cond_true _ _ (le-leb _ _ h)

-- or none, where they are too many
pub with_none : (name : List ℕ) (held : ℕ) (more : List ℕ) → longest_name < held + length more → name_with name held more ≡ name
unfolding name_with
with_none name held more h = cond_false _ _ (lt-leb _ _ h)

-- the room for a name stays
pub with_room : (name : List ℕ) (held : ℕ) (more : List ℕ) → length name ≡ longest_name → length (name_with name held more) ≡ longest_name
with_room name held more room = by_test (leb (held + length more) longest_name) refl
  where
    by_test : (t : Bool) → leb (held + length more) longest_name ≡ t → length (name_with name held more) ≡ longest_name
    by_test true e =
        let h : held + length more ≤ longest_name = leb-true _ _ e in
        ap length (with_fits name held more h) ∙ stored_length name held more (omega arith) ∙ room
    by_test false e = ap length (with_none name held more (leb-false _ _ e)) ∙ room

-- stored bytes stand behind those before them
stored_front : (b : List ℕ) (at : ℕ) (x : List ℕ) → at + length x ≤ length b → take (at + length x) (stored b at x) ≡ take at b ++ x
unfolding stored
stored_front b at x h =
    ap (take (at + length x)) (sym (append_assoc (take at b) x (drop (at + length x) b)))
    ∙ take_at (take at b ++ x) (drop (at + length x) b) (at + length x) (length-append (take at b) x ∙ ap (λ (n : ℕ). n + length x) (length-take-le at b (omega arith)))

module _ {begun name : List ℕ} {held : ℕ} (so : Holds begun name held) (more : List ℕ) where
  count_with : held_with held more ≡ min (length (begun ++ more)) most_held
  unfolding held_with
  count_with = omega (arith, so.count, length-append begun more)

  bytes_with_lem : length (begun ++ more) ≤ longest_name → take (length (begun ++ more)) (name_with name held more) ≡ begun ++ more
  bytes_with_lem h =
      let l : length (begun ++ more) ≡ length begun + length more = length-append begun more in
      let e : held ≡ length begun = omega (arith, so.count) in
      ap₂ take (l ∙ ap (λ (n : ℕ). n + length more) (sym e)) (with_fits name held more (omega arith))
      ∙ stored_front name held more (omega (arith, so.room))
      ∙ ap (λ (l : List ℕ). l ++ more) (held_all so (omega arith))

  -- what was begun is held with these bytes behind it
  pub holds_with : Holds (begun ++ more) (name_with name held more) (held_with held more)
  holds_with = record { room = with_room name held more so.room; count = count_with; bytes = bytes_with_lem }

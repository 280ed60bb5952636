-- Laws of a name's answer, by what is held of it.
-- Assumes nothing.
use Rattle.refusals.specs.Refused.{Outcome}
use Rattle.std.specs.Prelude.{None, Option}
use Prim.Native.Nat.{ℕ, ◌+◌, ◌≤◌}
use mathlib.Core.Path.{◌≡◌, refl, ap}
use mathlib.Core.Logic.{inl}
use mathlib.Core.Bool.{true}
use mathlib.Core.List.{List}
use native.Mathlib.Omega.{arith}
use lib.ListN.{length, take}
use borrow.Author.Tests.{le-leb, lt-ltb, eq-eqb}
use Rattle.laws.proofs.Tests.{clash, and_both}
use Rattle.names.specs.Names.{longest_name}
use Rattle.names.specs.Parts.{Holds, index_of}
use Rattle.names.proofs.PartLaws.{index_within}
use Rattle.names.proofs.HeldLaws.{held_all}
use Rattle.sweepfile.specs.Answered.{opens, OfFile, AnsweredHeld}

-- one that is not opened
pub not_opened : (room : List ℕ) (held : ℕ) → AnsweredHeld room held None
not_opened room held name so = record { unopened = λ e. refl; file = inl refl }

-- all of it is held, it is not empty, and no NUL was found in it: it may be opened
module _ (room : List ℕ) (held : ℕ) {found : ℕ} (is : found ≡ 0 + index_of 0 (take held room)) (some : 1 ≤ held) (short : held ≤ longest_name) (none : held ≤ found) where
  may_open : {name : List ℕ} → Holds name room held → opens name ≡ true
  unfolding opens
  may_open {name} so =
      let long : held ≡ length name = omega (arith, so.count) in
      let all : index_of 0 (take held room) ≡ index_of 0 name = ap (index_of 0) (held_all so short) in
      and_both (lt-ltb 0 (length name) (omega arith))
      (and_both (le-leb (length name) longest_name (omega arith)) (eq-eqb (index_of 0 name) (length name) (omega (arith, is, index_within 0 name))))

  pub opened : {a : Option Outcome} → OfFile a → AnsweredHeld room held a
  opened of name so = record { unopened = λ e. clash (cc (may_open so)); file = of }

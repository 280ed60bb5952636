-- Laws of the cut at the next LF, by where it was found.
-- Assumes nothing.
use Prim.Native.Nat.{ℕ, ◌+◌, ◌-◌, ◌≤◌, ◌<◌}
use mathlib.Core.Path.{◌≡◌, sym, ◌∙◌, ap, ap₂}
use mathlib.Core.List.{List}
use native.Mathlib.Omega.{arith}
use lib.ListN.{length, take, drop, length-drop}
use lib.Seq.{take_all}
use Rattle.digits.specs.Stored.{stored}
use Rattle.frames.specs.Table.{LF}
use Rattle.names.specs.declared.Cut.{Cut}
use Rattle.names.specs.Names.{longest_name}
use Rattle.names.specs.Parts.{most_held, index_of, up_to_lF, held_with, name_with, cut_of}
use Rattle.names.proofs.PartLaws.{index_within, up_to_length}
use Rattle.names.proofs.HeldLaws.{with_fits, with_none}

module _ (part : List ℕ) (from : ℕ) {end : ℕ} (found : end ≡ from + index_of LF (drop from (take (length part) part))) where
  -- the next LF of a part from a place on, or the part's end, stands behind the bytes up to it
  end_is : end ≡ from + length (up_to_lF (drop from part))
  end_is =
      found ∙ ap (λ (l : List ℕ). from + index_of LF (drop from l)) (take_all (length part) part (omega arith))
      ∙ ap (λ (n : ℕ). from + n) (sym (up_to_length (drop from part)))

  more_is : end - from ≡ length (up_to_lF (drop from part))
  more_is = omega (arith, end_is)

  up_to_is : take (end - from) (drop from part) ≡ up_to_lF (drop from part)
  unfolding up_to_lF
  up_to_is = ap (λ (n : ℕ). take n (drop from part)) (more_is ∙ up_to_length (drop from part))

  cut_is : (held after : ℕ) → after ≡ held_with held (up_to_lF (drop from part)) → record { end = end; held = after } ≡ cut_of part from held
  unfolding cut_of
  cut_is held after e = ap₂ (λ (a b : ℕ). record { end = a; held = b }) end_is e

  -- more bytes than a name may have: one more than that is held, and none is stored
  pub cut_long : (name : List ℕ) (held : ℕ) → longest_name < held + (end - from)
      → (record { end = end; held = most_held } ≡ cut_of part from held) × (name ≡ name_with name held (up_to_lF (drop from part)))
  unfolding held_with
  cut_long name held h =
      (cut_is held most_held (omega (arith, more_is)), sym (with_none name held (up_to_lF (drop from part)) (omega (arith, more_is))))

  -- else they are stored
  pub cut_fits : (name : List ℕ) (held : ℕ) → held + (end - from) ≤ longest_name
      → (record { end = end; held = held + (end - from) } ≡ cut_of part from held)
      × (stored name held (take (end - from) (drop from part)) ≡ name_with name held (up_to_lF (drop from part)))
  unfolding held_with
  cut_fits name held h = (
    cut_is held (held + (end - from)) (omega (arith, more_is)),
    ap (stored name held) up_to_is ∙ sym (with_fits name held (up_to_lF (drop from part)) (omega (arith, more_is))),
  )

-- a cut lies between where it was looked for and the part's end
pub cut_from : (part : List ℕ) (from held : ℕ) {cut : Cut} → cut ≡ cut_of part from held → from ≤ cut.end
unfolding cut_of
cut_from part from held e = omega (arith, ap (λ (c : Cut). c.end) e)

pub cut_within : (part : List ℕ) (from held : ℕ) {cut : Cut} → from ≤ length part → cut ≡ cut_of part from held → cut.end ≤ length part
unfolding cut_of
cut_within part from held h e =
    omega (arith, ap (λ (c : Cut). c.end) e, up_to_length (drop from part), index_within LF (drop from part), length-drop from part)

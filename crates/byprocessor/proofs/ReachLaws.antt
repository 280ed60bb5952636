-- The interrupts that the loops have put down: all of the processors passed, and those of the next among the first k.
-- Assumes nothing.
use Prim.Native.Nat.{ℕ, suc, ◌+◌, ◌*◌, ◌≤◌, ◌<◌}
use mathlib.Core.Path.{◌≡◌, sym, ap, subst, ◌∙◌}
use mathlib.Core.List.{List, [], ◌∷◌, ◌++◌, map, append_assoc, append-nil, map-append}
use native.Mathlib.Omega.{arith}
use native.Mathlib.Numerals.{add-one}
use lib.ListN.{length, take, get_or, replicate, length-append, length-map, length-replicate}
use lib.Seq.{take-suc, take-length}
use Rattle.digits.specs.Stored.{stored}
use Rattle.interrupting.specs.Interrupts.{Bound, bound_numbers}
use Rattle.tasks.specs.declared.set.Interrupt.{Interrupt}
use Rattle.tasks.specs.Set.{most_interrupts, zero_interrupt}
use Rattle.byprocessor.specs.Interrupts.{bound_of, on_processor, by_processor, interrupt_numbers}
use Rattle.byprocessor.proofs.NumberLaws.{put_bound, put_next}
use Rattle.byprocessor.proofs.GroupLaws.{on_here, on_other, on_append, on_taken, by_few}

-- ---- what is reached

abbrev pub reached : (q : ℕ) → List Interrupt → (k : ℕ) → List Bound
reached q is k = by_processor q is ++ map bound_of (on_processor (suc q) (take k is))

module _ (q : ℕ) (is : List Interrupt) where
  -- none of the next processor yet
  pub reached_none : reached q is 0 ≡ by_processor q is
  unfolding on_processor
  reached_none = append-nil (by_processor q is)

  -- all of them
  pub reached_all : reached q is (length is) ≡ by_processor (suc q) is
  unfolding by_processor
  reached_all = ap (λ (js : List Interrupt). by_processor q is ++ map bound_of (on_processor (suc q) js)) (take-length is)

  -- no more than there are
  pub reached_few : (k : ℕ) → length (reached q is k) ≤ length is
  unfolding by_processor
  reached_few k =
      omega (
        arith,
        length-append (by_processor q is) (map bound_of (on_processor (suc q) (take k is))),
        length-append (by_processor q is) (map bound_of (on_processor (suc q) is)),
        length-map (on_processor (suc q) (take k is)) bound_of,
        length-map (on_processor (suc q) is) bound_of,
        on_taken (suc q) k is,
        by_few (suc q) is,
      )

  module _ (k : ℕ) (l : k < length is) {v : Interrupt} (here : get_or is k zero_interrupt ≡ v) where
    one_more : on_processor (suc q) (take (k + 1) is) ≡ on_processor (suc q) (take k is) ++ on_processor (suc q) (v ∷ [])
    one_more =
        ap (λ (n : ℕ). on_processor (suc q) (take n is)) (add-one k) ∙
        ap (on_processor (suc q)) (take-suc is k zero_interrupt l ∙ ap (λ (i : Interrupt). take k is ++ (i ∷ [])) here) ∙ on_append (suc q) (take k is) (v ∷ [])

    -- one of another processor changes nothing
    pub reached_other : (v.processor ≡ suc q → ⊥) → reached q is (k + 1) ≡ reached q is k
    unfolding on_processor
    reached_other ne =
        ap (λ (js : List Interrupt). by_processor q is ++ map bound_of js)
        (one_more ∙ ap (λ (js : List Interrupt). on_processor (suc q) (take k is) ++ js) (on_other (suc q) v [] ne) ∙ append-nil (on_processor (suc q) (take k is)))

    -- one of the processor stands behind the others
    pub reached_next : v.processor ≡ suc q → reached q is (k + 1) ≡ reached q is k ++ (bound_of v ∷ [])
    unfolding on_processor
    reached_next e =
        ap (λ (js : List Interrupt). by_processor q is ++ map bound_of js)
        (one_more ∙ ap (λ (js : List Interrupt). on_processor (suc q) (take k is) ++ js) (on_here (suc q) v [] e)) ∙
        ap (λ (bs : List Bound). by_processor q is ++ bs) (map-append bound_of (on_processor (suc q) (take k is)) (v ∷ [])) ∙
        sym (append_assoc (by_processor q is) (map bound_of (on_processor (suc q) (take k is))) (bound_of v ∷ []))

-- ---- what the loops have put down

-- of all processors up to p
pub record Grouped (p : ℕ) (is : List Interrupt) (at : ℕ) (numbers : List ℕ) : Type 0 where
  pub place : at ≡ 4 * length (by_processor p is)
  pub filled : numbers ≡ interrupt_numbers (by_processor p is)

-- of those before p, and of p among the first k
pub record Down (p : ℕ) (is : List Interrupt) (k at : ℕ) (numbers : List ℕ) : Type 0 where
  pub before : ℕ
  pub next : p ≡ suc before
  pub place : at ≡ 4 * length (reached before is k)
  pub filled : numbers ≡ interrupt_numbers (reached before is k)

module _ {p : ℕ} {is : List Interrupt} {at : ℕ} {numbers : List ℕ} where
  -- none of p yet
  pub down_none : Grouped p is at numbers → Down (p + 1) is 0 at numbers
  down_none g = record {
    before = p;
    next = add-one p;
    place = g.place ∙ ap (λ (bs : List Bound). 4 * length bs) (sym (reached_none p is));
    filled = g.filled ∙ ap interrupt_numbers (sym (reached_none p is));
  }

  -- all of p
  pub down_all : {k : ℕ} → k ≡ length is → Down p is k at numbers → Grouped p is at numbers
  down_all {k} e d =
      let all : reached d.before is k ≡ by_processor p is = ap (reached d.before is) e ∙ reached_all d.before is ∙ ap (λ (n : ℕ). by_processor n is) (sym d.next) in
      record { place = d.place ∙ ap (λ (bs : List Bound). 4 * length bs) all; filled = d.filled ∙ ap interrupt_numbers all }

  module _ {k : ℕ} (l : k < length is) (d : Down p is k at numbers) {v : Interrupt} (here : get_or is k zero_interrupt ≡ v) where
    pub down_other : (v.processor ≡ p → ⊥) → Down p is (k + 1) at numbers
    down_other ne =
        let same : reached d.before is k ≡ reached d.before is (k + 1) = sym (reached_other d.before is k l here (λ e. ne (e ∙ sym d.next))) in
        record { before = d.before; next = d.next; place = d.place ∙ ap (λ (bs : List Bound). 4 * length bs) same; filled = d.filled ∙ ap interrupt_numbers same }

    module _ (e : v.processor ≡ p) where
      more : reached d.before is (k + 1) ≡ reached d.before is k ++ (bound_of v ∷ [])
      more = reached_next d.before is k l here (e ∙ d.next)

      longer : length (reached d.before is (k + 1)) ≡ length (reached d.before is k) + 1
      longer = ap length more ∙ length-append (reached d.before is k) (bound_of v ∷ [])

      -- there is room for one more
      pub down_room : length is ≤ most_interrupts → at + 4 ≤ 4 * most_interrupts
      down_room few = omega (arith, d.place, longer, reached_few d.before is (k + 1))

      down_own : length is ≤ most_interrupts → Down p is (k + 1) (at + 4) (put_bound numbers at (bound_of v))
      unfolding interrupt_numbers
      down_own few = record {
        before = d.before;
        next = d.next;
        place = omega (arith, d.place, longer);
        filled =
            ap (λ (ns : List ℕ). put_bound ns at (bound_of v)) d.filled
            ∙ put_next (replicate (4 * most_interrupts) 0) (reached d.before is k) (bound_of v) d.place (omega (arith, down_room few, length-replicate {A = ℕ} (4 * most_interrupts) 0))
            ∙ ap (λ (bs : List Bound). stored (replicate (4 * most_interrupts) 0) 0 (bound_numbers bs)) (sym more);
      }

      -- the processor is the one that is looked for
      pub down_next : length is ≤ most_interrupts → Down p is (k + 1) (at + 4) (put_bound numbers at (record { processor = p; load = (bound_of v).load }))
      down_next few = subst (λ (q : ℕ). Down p is (k + 1) (at + 4) (put_bound numbers at (record { processor = q; load = (bound_of v).load }))) e (down_own few)

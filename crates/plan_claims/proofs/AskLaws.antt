-- A question that one test decides is refused by row 11 exactly where the test fails, and is done where it passes.
-- Assumes nothing.
use Rattle.std.specs.Prelude.{Err, Ok}
use mathlib.Core.Path.{◌≡◌, refl, sym, ap, ◌∙◌}
use mathlib.Core.Logic.{◌↔◌, ◌⊎◌, inl, inr, ⊎_elim}
use mathlib.Core.Bool.{Bool, true, false, cond, ◌&&◌, and-false}
use Rattle.laws.proofs.Tests.{and_parts, and_both}
use Rattle.refusals.specs.declared.Refusal.{Refusal}
use Rattle.refusals.specs.declared.Refusal.TheVariants.{Ask}
use Rattle.refusals.specs.Refused.{Outcome}
use Rattle.refusals.specs.Refused.{number_of, place_of}
use Rattle.refusals.proofs.FirstLaws.{done_refused, refused_same}
use Rattle.plan_claims.specs.Claims.{AskExactly}

-- two tests fail together where one of them does
and_fails : (a b : Bool) → (a && b) ≡ false → (a ≡ false) ⊎ (b ≡ false)
and_fails true b e = inr e
and_fails false b e = inl refl

fails_and : (a b : Bool) → (a ≡ false) ⊎ (b ≡ false) → (a && b) ≡ false
fails_and a b h = ⊎_elim (λ (e : a ≡ false). rw e) (λ (e : b ≡ false). rw e (and-false a)) h

-- what one test decides
abbrev pub decided : Bool → Outcome
decided b = cond b (Ok tt) (Err Ask)

decided_done : (b : Bool) → decided b ≡ Ok tt → b ≡ true
decided_done true e = refl
decided_done false e = done_refused (sym e)

decided_refused : (b : Bool) (r : Refusal) → decided b ≡ Err r → (b ≡ false) × (r ≡ Ask)
decided_refused true r e = done_refused e
decided_refused false r e = (refl, sym (refused_same e))

-- the outcome that a test decides, where the test passes exactly where all holds and fails exactly where something fails
pub decides : {fails holds : Type 0} (b : Bool) {o : Outcome} → o ≡ decided b → (b ≡ false) ↔ fails → (b ≡ true) ↔ holds → AskExactly o fails holds
decides {fails} {holds} b {o} is f h = record {
  refused = (λ e. f.0 (decided_refused b Ask (sym is ∙ e)).0, barred);
  numbered = (λ n. f.0 (decided_refused b n.0 (sym is ∙ n.1)).0, λ w. (Ask, barred w, refl, refl));
  done = (λ e. h.0 (decided_done b (sym is ∙ e)), λ w. is ∙ ap decided (h.1 w));
  only = λ r e.
      let same = (decided_refused b r (sym is ∙ e)).1 in
      (same, ap number_of same, ap place_of same);
}
  where
    barred : fails → o ≡ Err Ask
    barred w = is ∙ ap decided (f.1 w)

-- two tests and three
pub two_fail : (a b : Bool) → ((a && b) ≡ false) ↔ ((a ≡ false) ⊎ (b ≡ false))
two_fail a b = (and_fails a b, fails_and a b)

pub two_hold : (a b : Bool) → ((a && b) ≡ true) ↔ ((a ≡ true) × (b ≡ true))
two_hold a b = (and_parts a b, λ w. and_both w.0 w.1)

pub three_fail : (a b c : Bool) → ((a && (b && c)) ≡ false) ↔ ((a ≡ false) ⊎ ((b ≡ false) ⊎ (c ≡ false)))
three_fail a b c = (
  λ e. ⊎_elim (λ (x : a ≡ false). inl x) (λ (y : (b && c) ≡ false). inr (and_fails b c y)) (and_fails a (b && c) e),
  λ w. fails_and a (b && c) (⊎_elim (λ (x : a ≡ false). inl x) (λ y. inr (fails_and b c y)) w),
)

pub three_hold : (a b c : Bool) → ((a && (b && c)) ≡ true) ↔ ((a ≡ true) × ((b ≡ true) × (c ≡ true)))
three_hold a b c = (
  λ e. ((and_parts a (b && c) e).0, and_parts b c (and_parts a (b && c) e).1),
  λ w. and_both w.0 (and_both w.1.0 w.1.1),
)

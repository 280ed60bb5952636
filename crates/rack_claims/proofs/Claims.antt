-- The claims of specs/Claims.antt, proved.
-- Assumes nothing.
use Rattle.std.specs.Prelude.{Err, Ok}
use Prim.Native.Nat.{ℕ, ◌+◌, ◌*◌, ◌≤◌, ◌<◌}
use mathlib.Core.List.{List, []}
use mathlib.Core.Logic.{◌⊎◌, inl, inr}
use mathlib.Core.Path.{◌≡◌, refl, sym, ◌∙◌, ap}
use native.Mathlib.Omega.{arith}
use lib.ListN.{length, get_or}
use Rattle.laws.proofs.Orders.{le_or_lt}
use Rattle.refusals.specs.Refused.{number_of, place_of}
use Rattle.refusals.specs.Refused.{Written}
use Rattle.refusals.specs.Leaves.{leaves}
use Rattle.planfile.specs.Tool.{answered}
use Rattle.planfile_claims.proofs.Claims.{text_exact, answered_short}
use Rattle.filed_claims.specs.Claims.{FileAccepted, set_in, plan_in}
use Rattle.filed_claims.proofs.FiledLaws.{filed_full, filed_made}
use Rattle.switch_claims.proofs.Claims.{no_ring_no_lines, ring_has_lines, list_short as switches-short}
use Rattle.rack.specs.Rack.{bytes_of, plan_bytes, plan_leaves, list_text}
use Rattle.refusals.proofs.NumberLaws.{number_row}
use Rattle.rack_claims.specs.Claims.{PlanSuffices, PlanTooShort, Determined, ZeroIsDone, list_status, list_answer, HasRoom, TooShort, ListSuffices, ListTooShort, ListRefused, ListToldApart}
use Rattle.rack_claims.proofs.ListLaws.{own_status, list_given, list_short, list_own, by_status}

pub plan_suffices : PlanSuffices
unfolding plan_bytes plan_leaves
plan_suffices =
    record {
      bytes = λ tasks out h. ap bytes_of (text_exact.bytes out (answered tasks) (omega (arith, answered_short tasks, h))).0;
      leaves = λ tasks out h. (text_exact.bytes out (answered tasks) (omega (arith, answered_short tasks, h))).1;
    }

pub plan_too_short : PlanTooShort
unfolding plan_bytes plan_leaves
plan_too_short =
    record {
      bytes = λ tasks out h. ap bytes_of (text_exact.room out (answered tasks) h);
      leaves = λ tasks out h. ap (λ (w : Written). leaves w out (answered tasks)) (text_exact.room out (answered tasks) h);
    }

-- two pairs that equal one pair
both_same : {r s m : ℕ} {l k n : List ℕ} → (r ≡ m) × (l ≡ n) → (s ≡ m) × (k ≡ n) → (r ≡ s) × (l ≡ k)
both_same a b = (a.0 ∙ sym b.0, a.1 ∙ sym b.1)

pub determined : Determined
determined =
    record {
      plan = λ tasks out a b. both_same a b;
      who = λ tasks p x answer a b. both_same a b;
      pass = λ tasks q R answer a b. both_same a b;
      list = λ tasks out answer a b. (a.0 ∙ sym b.0, a.1 ∙ sym b.1, a.2 ∙ sym b.2);
    }

pub zero_is_done : ZeroIsDone
zero_is_done (Ok _) e = refl
zero_is_done (Err r) e =
    let some : number_of r * 256 + place_of r ≡ 0 = e in
    absurd (omega (arith, (number_row r).0, some))

pub list_suffices : ListSuffices
list_suffices =
    record {
      fits = λ tasks out answer ok room. list_given tasks out answer ok room;
      longest = λ tasks out answer ok long some. list_given tasks out answer ok (some, omega (arith, long, switches-short (set_in tasks) (plan_in tasks) (filed_full tasks) (filed_made tasks ok)));
    }

pub list_too_short : ListTooShort
list_too_short tasks out answer ok few = list_short tasks out answer ok few

pub list_refused : ListRefused
list_refused tasks out answer r e = list_own tasks out answer r e

-- a list that has no bytes is that of a plan without ring processors
module _ (tasks : List ℕ) (ok : FileAccepted tasks) where
  no_ring : (plan_in tasks).ring ≡ 0 → length (list_text tasks) ≡ 0
  no_ring none = ap length (no_ring_no_lines (set_in tasks) (plan_in tasks) [] (filed_full tasks) (filed_made tasks ok) none).0

  no_bytes : length (list_text tasks) ≡ 0 → (1 ≤ (plan_in tasks).ring) ⊎ ((plan_in tasks).ring < 1) → (plan_in tasks).ring ≡ 0
  no_bytes e (inl some) = absurd (omega (arith, e, ring_has_lines (set_in tasks) (plan_in tasks) (filed_full tasks) (filed_made tasks ok) some))
  no_bytes e (inr none) = omega (arith, none)

module _ (tasks out answer : List ℕ) where
  abbrev Given : Type 0
  Given = FileAccepted tasks × HasRoom tasks out answer

  is_given : list_status tasks out answer ≡ 0 → Given
  is_given e =
      by_status tasks out answer (λ ok room f. (ok, room)) (λ ok few f. absurd (omega (arith, e, f))) (λ some below. absurd (omega (arith, e, some)))

  is_short : list_status tasks out answer ≡ 12 * 256 → FileAccepted tasks × TooShort tasks out answer
  is_short e =
      by_status tasks out answer (λ ok room f. absurd (omega (arith, e, f))) (λ ok few f. (ok, few)) (λ some other. absurd (other e))

  -- the number that stands there is that of the list's bytes
  first_number : (g : Given) → get_or (list_answer tasks out answer) 0 0 ≡ length (list_text tasks)
  first_number g = ap (λ (l : List ℕ). get_or l 0 0) (list_given tasks out answer g.0 g.1).number

  is_empty : list_status tasks out answer ≡ 0 → get_or (list_answer tasks out answer) 0 0 ≡ 0 → FileAccepted tasks × ((plan_in tasks).ring ≡ 0)
  is_empty e none =
      let g = is_given e in
      (g.0, no_bytes tasks g.0 (omega (arith, none, first_number g)) (le_or_lt 1 (plan_in tasks).ring))

  empty_given : 1 ≤ length answer → FileAccepted tasks → (plan_in tasks).ring ≡ 0 → (list_status tasks out answer ≡ 0) × (get_or (list_answer tasks out answer) 0 0 ≡ 0)
  empty_given some ok none =
      let bytes = no_ring tasks ok none in
      let room : HasRoom tasks out answer = (some, omega (arith, bytes)) in
      ((list_given tasks out answer ok room).status, first_number (ok, room) ∙ bytes)

pub list_told_apart : ListToldApart
list_told_apart =
    record {
      given = λ tasks out answer. (is_given tasks out answer, λ g. (list_given tasks out answer g.0 g.1).status);
      empty = λ tasks out answer some. (λ e. is_empty tasks out answer e.0 e.1, λ g. empty_given tasks out answer some g.0 g.1);
      short = λ tasks out answer. (is_short tasks out answer, λ g. (list_short tasks out answer g.0 g.1).status);
      refused = λ tasks out answer r e.
          let told = (list_own tasks out answer r e).status in
          let own = own_status tasks r e in
          (λ f. omega (arith, f, told, own.0), λ f. own.1 (sym told ∙ f));
    }

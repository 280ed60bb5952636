-- From the searches, which go by a gap, to the verdict, which goes by a reserve.
use Prim.Native.Nat.{ℕ, ◌^◌, ◌≤◌, ◌<◌}
use native.Mathlib.Omega.{arith}
use native.Mathlib.Nat.{add-zero}
use mathlib.Core.Path.{◌≡◌, refl, sym, ap, ◌∙◌, fun_ext}
use mathlib.Core.Logic.{⊎_elim}
use mathlib.Core.Bool.{Bool}
use lib.Dec.{eqb}
use Rattle.demand.specs.Supply.{Ring, Allowed, gap}
use Rattle.demand.proofs.Supply.{supply_gap, gap_below}
use Rattle.search.specs.Search.{short, first_up_to, NoneIn, Searched}
use Rattle.steps.specs.Stepping.{steps}
use Rattle.slack.specs.Least.{least_up_to}
use Rattle.slack.specs.Slack.{slack, slack_past}
use Rattle.verdict.specs.Verdict.{failing, first_failing, closest, reading_at, reading_past, passing, verdict_of, Testable}
use Rattle.verdict.specs.declared.answer.Reading.{Reading}
use Rattle.verdict.specs.declared.answer.Verdict.TheVariants.{Yes, No}
use Rattle.search.proofs.Bounded.{first_zero}
use Rattle.verdict.proofs.Verdict.{verdict_yes, verdict_no}
use Rattle.verdict.proofs.Claims.{passing_by_failing}

-- with no extra, a length is short past the reserve's gap exactly when it fails
short_failing : (g : ℕ → ℕ) (S L R f : ℕ) → 1 ≤ S → f ≡ gap S L R → short g S f 0 ≡ failing g S L R
unfolding short failing
short_failing g S L R f some e = fun_ext (λ (t : ℕ). rw (supply_gap S L R t some, e, add-zero))

-- an allowed reserve is at most the slot
allowed_within : {S L R : ℕ} → Allowed S L R → R ≤ S
allowed_within {S} {L} {R} a = ⊎_elim (λ (r : Ring S L R). omega (arith, r.parts)) (λ (e : R ≡ S). omega arith) a

-- what a test knows of its numbers: R allowed, f its gap
module _ {H S L R : ℕ} (testable : Testable H S L) (allowed : Allowed S L R) where
  -- enough to ask for the gap
  pub gap_asked : Allowed S L R × (S < 2 ^ 36) × (L < 2 ^ 36) × (R < 2 ^ 36)
  gap_asked = (allowed, testable.slot_small, testable.loss_small, omega (arith, allowed_within allowed, testable.slot_small))

  -- something is usable in each slot
  pub gap_usable : {f : ℕ} → f ≡ gap S L R → f < S
  gap_usable e = omega (arith, e, gap_below S L R allowed testable.slot_some)

  -- enough to search up to a length
  pub searched : {f extra hi : ℕ} → f ≡ gap S L R → extra < 2 ^ 36 → hi < 2 ^ 36 → Searched S f extra hi
  searched e x h = record { usable = gap_usable e; small_extra = x; small = h }

-- where the smallest short length is 0 nothing is short
pub none_short : (g : ℕ → ℕ) (S f H : ℕ) {t : ℕ} → t ≡ first_up_to (short g S f 0) H → t ≡ 0 → NoneIn (short g S f 0) 0 H
none_short g S f H e z = first_zero (short g S f 0) H (sym e ∙ z)

-- f is the gap of the reserve, as the code has it
module _ (g : ℕ → ℕ) (H L R : ℕ) {S f : ℕ} (slot : 1 ≤ S) (gapped : f ≡ gap S L R) where
  -- the smallest short length is the smallest failing length
  first_failing_lem : {t : ℕ} → t ≡ first_up_to (short g S f 0) H → first_failing g H S L R ≡ t
  unfolding first_failing
  first_failing_lem e = sym (e ∙ ap (λ (p : ℕ → Bool). first_up_to p H) (short_failing g S L R f slot gapped))

  -- no short length is what passing means
  pub none_passing : {r : Bool} → r ≡ eqb (first_up_to (short g S f 0) H) 0 → r ≡ passing g H S L R
  none_passing e = e ∙ ap (λ (t : ℕ). eqb t 0) (sym (first_failing_lem refl)) ∙ sym (passing_by_failing g H S L R)

  -- past the gap the slack and the reading are those of the reserve
  closest_past : least_up_to (steps g) (slack_past g S f) H ≡ closest g H S L R
  unfolding closest slack slack_past
  closest_past =
      let same : slack_past g S f ≡ slack g S L R = fun_ext (λ (t : ℕ). rw (supply_gap S L R t slot, gapped)) in
      ap (λ (v : ℕ → ℕ). least_up_to (steps g) v H) same

  reading_past_lem : (t : ℕ) → reading_past g S f t ≡ reading_at g S L R t
  unfolding reading_past reading_at
  reading_past_lem t = rw (supply_gap S L R t slot, gapped)

  -- the answer where nothing is short, and at the smallest short length
  pub judged_yes : {t b : ℕ} {r : Reading} → t ≡ first_up_to (short g S f 0) H → t ≡ 0 → b ≡ least_up_to (steps g) (slack_past g S f) H
      → r ≡ reading_past g S f b → Yes r ≡ verdict_of g H S L R
  judged_yes {b = b} e z close read =
      ap Yes (read ∙ reading_past_lem b ∙ ap (reading_at g S L R) (close ∙ closest_past)) ∙ sym (verdict_yes g H S L R (first_failing_lem e ∙ z))

  pub judged_no : {t : ℕ} {r : Reading} → t ≡ first_up_to (short g S f 0) H → (t ≡ 0 → ⊥) → r ≡ reading_past g S f t → No r ≡ verdict_of g H S L R
  judged_no {t} e some read = ap No (read ∙ reading_past_lem t) ∙ sym (verdict_no g H S L R t (first_failing_lem e) (omega arith))

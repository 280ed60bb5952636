-- Laws of a sweep: from name to name within a part, where the part ends, and where no more names are read.
-- Assumes nothing.
use Rattle.refusals.specs.Refused.{Outcome}
use Rattle.std.specs.Prelude.{Option}
use Prim.Native.Nat.{ℕ, zero, suc, ◌+◌, ◌-◌, ◌≤◌, ◌<◌}
use mathlib.Core.Path.{◌≡◌, refl, sym, ◌∙◌, ap, ap₂}
use mathlib.Core.List.{List, [], ◌∷◌, ◌++◌, append_assoc, append-nil}
use native.Mathlib.Omega.{arith}
use native.Mathlib.Numerals.{unary_clauses}
use lib.ListN.{length, take, drop, length-drop}
use lib.Seq.{take_all, take-append_seam, drop-drop}
use Rattle.frames.specs.Table.{LF}
use Rattle.names.specs.Parts.{Holds, ended, begun_by, index_of, up_to_lF, held_with, name_with}
use Rattle.names.proofs.PartLaws.{up_to_length, cut_at, no_cut}
use Rattle.names.proofs.HeldLaws.{holds_none, holds_with}
use Rattle.tally.specs.declared.Tally.{Tally}
use Rattle.tally.specs.Tally.{most_names, counted_of, counted_all}
use Rattle.tally.proofs.TallyLaws.{all_names, all_append}
use Rattle.sweepfile.specs.Answered.{AnsweredHeld, EachAnswered}
use Rattle.sweeping.specs.declared.Sweep.{Sweep}
use Rattle.sweeping.specs.Sweeping.{Counts, Holding}

-- as many names as answers
pub each_length : (names : List (List ℕ)) (answers : List (Option Outcome)) → EachAnswered names answers → length names ≡ length answers
each_length [] [] e = refl
each_length [] (a ∷ answers) e = absurd e
each_length (n ∷ names) [] e = absurd e
each_length (n ∷ names) (a ∷ answers) e = ap suc (each_length names answers e.1)

-- names behind names, and their answers
pub each_append : (names : List (List ℕ)) (answers : List (Option Outcome)) (later : List (List ℕ)) (others : List (Option Outcome))
    → EachAnswered names answers → EachAnswered later others → EachAnswered (names ++ later) (answers ++ others)
each_append [] [] later others e f = f
each_append [] (a ∷ answers) later others e f = absurd e
each_append (n ∷ names) [] later others e f = absurd e
each_append (n ∷ names) (a ∷ answers) later others e f = (e.0, each_append names answers later others e.1 f)

-- so far: names of the part are counted, and the rest of it is still to come, with what is begun now
pub record Gone (part : List ℕ) (from : Tally) (begun name : List ℕ) (at held : ℕ) (tally : Tally) : Type 0 where
  pub done : List (List ℕ)
  pub answers : List (Option Outcome)
  pub by : List ℕ
  pub names : ended begun part ≡ done ++ ended by (drop at part)
  pub rest : begun_by begun part ≡ begun_by by (drop at part)
  pub each : EachAnswered done answers
  pub counted : tally ≡ counted_all from answers
  pub holds : tally.names < most_names → Holds by name held

pub gone_none : {part begun name : List ℕ} {sweep : Sweep} → Holding begun name sweep → Gone part sweep.tally begun name 0 sweep.held sweep.tally
unfolding counted_all
gone_none h = record { done = []; answers = []; by = _; names = refl; rest = refl; each = tt; counted = refl; holds = h }

module _ {part : List ℕ} {from : Tally} {begun name : List ℕ} {at held : ℕ} {tally : Tally} (g : Gone part from begun name at held tally) where
  gone_names : tally.names ≡ from.names + length g.done
  gone_names =
      ap (λ (t : Tally). t.names) g.counted ∙ all_names from g.answers
      ∙ ap (λ (n : ℕ). from.names + n) (sym (each_length g.done g.answers g.each))

  -- those that are counted are all that may be read, or all that there are
  counts_when : take (most_names - from.names) (ended begun part) ≡ g.done → Counts (ended begun part) from tally
  counts_when e = record { answers = g.answers; each = rw e g.each; tally = g.counted }

  -- no more names are read
  pub gone_full : most_names ≤ tally.names → tally.names ≤ most_names → Counts (ended begun part) from tally
  gone_full full few =
      let n : most_names - from.names ≡ length g.done = omega (arith, gone_names) in
      counts_when (ap₂ take n g.names ∙ take-append_seam g.done (ended g.by (drop at part)))

  module _ (more : tally.names < most_names) where
    with_more : Holds (g.by ++ up_to_lF (drop at part)) (name_with name held (up_to_lF (drop at part))) (held_with held (up_to_lF (drop at part)))
    with_more = holds_with (g.holds more) (up_to_lF (drop at part))

    -- no name ends in what is left of the part
    module _ (all : at + length (up_to_lF (drop at part)) ≡ length part) where
      index_all : index_of LF (drop at part) ≡ length (drop at part)
      index_all = omega (arith, all, up_to_length (drop at part), length-drop at part)

      pub gone_counts : Counts (ended begun part) from tally
      gone_counts =
          let one : ended begun part ≡ g.done = g.names ∙ ap (λ (l : List (List ℕ)). g.done ++ l) (no_cut g.by (drop at part) index_all).names ∙ append-nil g.done in
          counts_when (ap (take (most_names - from.names)) one ∙ take_all (most_names - from.names) g.done (omega (arith, gone_names)))

      pub gone_holds : Holds (begun_by begun part) (name_with name held (up_to_lF (drop at part))) (held_with held (up_to_lF (drop at part)))
      gone_holds = rw (g.rest ∙ (no_cut g.by (drop at part) index_all).rest) with_more

    -- the next one ends, and is counted under its answer
    module _ (some : at + length (up_to_lF (drop at part)) < length part) {a : Option Outcome}
        (answered : AnsweredHeld (name_with name held (up_to_lF (drop at part))) (held_with held (up_to_lF (drop at part))) a) where
      index_some : index_of LF (drop at part) < length (drop at part)
      index_some = omega (arith, some, up_to_length (drop at part), length-drop at part)

      behind : drop (suc (index_of LF (drop at part))) (drop at part) ≡ drop (at + length (up_to_lF (drop at part)) + 1) part
      behind =
          let next : at + suc (index_of LF (drop at part)) ≡ at + length (up_to_lF (drop at part)) + 1 = omega (arith, up_to_length (drop at part)) in
          drop-drop (suc (index_of LF (drop at part))) at part ∙ ap (λ (n : ℕ). drop n part) next

      pub gone_next : Gone part from begun (name_with name held (up_to_lF (drop at part))) (at + length (up_to_lF (drop at part)) + 1) 0 (counted_of tally a)
      unfolding counted_all
      gone_next =
          let cut = cut_at g.by (drop at part) index_some in
          let next = g.by ++ up_to_lF (drop at part) in
          record {
            done = g.done ++ (next ∷ []);
            answers = g.answers ++ (a ∷ []);
            by = [];
            names =
                g.names
                ∙ ap (λ (l : List (List ℕ)). g.done ++ l) (cut.names ∙ ap (λ (l : List ℕ). next ∷ ended [] l) behind)
                ∙ sym (append_assoc g.done (next ∷ []) _);
            rest = g.rest ∙ cut.rest ∙ ap (begun_by []) behind;
            each = each_append g.done g.answers (next ∷ []) (a ∷ []) g.each (answered next with_more, tt);
            counted = ap (λ (t : Tally). counted_of t a) g.counted ∙ sym (all_append from g.answers (a ∷ []));
            holds = λ few. holds_none _ with_more.room;
          }

-- so many of two lists, one behind the other
take_both : {A : Type 0} (n : ℕ) (xs ys : List A) → take n (xs ++ ys) ≡ take n xs ++ take (n - length (take n xs)) ys
take_both zero xs ys = refl
take_both (suc n) [] ys = let all : suc n ≡ suc n - 0 = omega arith in ap (λ (k : ℕ). take k ys) all
take_both {A = A} (suc n) (x ∷ xs) ys = simp unary_clauses (ap (λ (l : List A). x ∷ l) (take_both n xs ys))

-- names counted behind names
pub counts_append : {names later : List (List ℕ)} {a b c : Tally} → Counts names a b → Counts later b c → Counts (names ++ later) a c
counts_append {names} {later} {a} {b} p q =
    let many : length (take (most_names - a.names) names) ≡ length p.answers = each_length (take (most_names - a.names) names) p.answers p.each in
    let so : b.names ≡ a.names + length p.answers = ap (λ (t : Tally). t.names) p.tally ∙ all_names a p.answers in
    let left : most_names - a.names - length (take (most_names - a.names) names) ≡ most_names - b.names = omega arith in
    record {
      answers = p.answers ++ q.answers;
      each =
          rw (take_both (most_names - a.names) names later, left)
          (each_append (take (most_names - a.names) names) p.answers (take (most_names - b.names) later) q.answers p.each q.each);
      tally = q.tally ∙ ap (λ (t : Tally). counted_all t q.answers) p.tally ∙ sym (all_append a p.answers q.answers);
    }

-- Laws of a list that is swept part by part: what is counted so far, and where the list ends.
-- Assumes nothing.
use Rattle.std.proofs.Common.{ℕ, ◌≤◌, ◌≡◌, sym, ◌∙◌, ap, subst, List, [], ◌++◌, length, append_assoc, append-nil, Option, None, Some, IfSome, Bool, true, false, arith}
use Rattle.std.specs.Io.KnownBytes.{Consumes, IsAtEnd}
use Rattle.std.proofs.KnownBytes.{Consumes-nil, Consumes-trans}
use Rattle.names.specs.Names.{longest_name}
use Rattle.names.specs.Names.{names}
use Rattle.names.specs.Parts.{ended, begun_by, last_name}
use Rattle.names.proofs.PartLaws.{ended_append, begun_append, names_ended}
use Rattle.names.proofs.HeldLaws.{holds_none}
use Rattle.tally.specs.declared.Tally.{Tally}
use Rattle.tally.specs.Tally.{most_names, zero_tally}
use Rattle.tally.proofs.TallyLaws.{zero_adds}
use Rattle.sweeping.specs.declared.Sweep.{Sweep}
use Rattle.sweeping.specs.Sweeping.{Counts, Sweeping, Holding, Sweeps, Ends}
use Rattle.sweeping.proofs.SweepLaws.{counts_append}
use Rattle.sweeping.proofs.LastLaws.{last_full, counts_full, counts_nothing}
use Rattle.laws.proofs.Tests.{true_false}
use Rattle.sweeplist.specs.Swept.{CountsList}

-- of what was read so far, the names that end are counted, and what is begun is held
pub record SoFar (before now : Option (List ℕ)) (name : List ℕ) (sweep : Sweep) : Type 0 where
  pub goes : Sweeping name sweep
  pub list : List ℕ
  pub taken : Consumes before now list
  pub counts : Counts (ended [] list) zero_tally sweep.tally
  pub holds : Holding (begun_by [] list) name sweep

pub none_yet : (before : Option (List ℕ)) (name : List ℕ) {tally : Tally} → length name ≡ longest_name → tally ≡ zero_tally → SoFar before before name (record { held = 0; tally = tally })
unfolding ended begun_by
none_yet before name room e = record {
  goes = record { long = room; held = omega arith; adds = rw e zero_adds; few = rw e (omega arith) };
  list = [];
  taken = Consumes-nil before;
  counts = rw e (counts_nothing zero_tally);
  holds = λ more. holds_none name room;
}

-- what is known of a list's bytes when they have all been read
known_ends : (before now after : Option (List ℕ)) (list : List ℕ) (t : Tally) → Consumes before now list → Consumes now after [] → IsAtEnd after
    → Counts (names list) zero_tally t → IfSome before (λ (l : List ℕ). Counts (names l) zero_tally t)
known_ends None now after list t p q e c = tt
known_ends (Some x) None after list t p q e c = absurd p
known_ends (Some x) (Some y) None list t p q e c = absurd q
known_ends (Some x) (Some y) (Some z) list t p q e c =
    subst (λ (l : List ℕ). Counts (names l) zero_tally t) (sym (p ∙ ap (λ (l : List ℕ). list ++ l) (q ∙ e) ∙ append-nil list)) c

-- or some of them
known_goes : (before now : Option (List ℕ)) (list : List ℕ) (t : Tally) → Consumes before now list
    → ((rest : List ℕ) → Counts (names (list ++ rest)) zero_tally t) → IfSome before (λ (l : List ℕ). Counts (names l) zero_tally t)
known_goes None now list t p c = tt
known_goes (Some x) None list t p c = absurd p
known_goes (Some x) (Some y) list t p c = subst (λ (l : List ℕ). Counts (names l) zero_tally t) (sym p) (c y)

module _ {before now : Option (List ℕ)} {name : List ℕ} {sweep : Sweep} (so : SoFar before now name sweep) where
  -- one part more
  pub one_more : {part after : List ℕ} {then : Option (List ℕ)} {r : Sweep} → Consumes now then part → Sweeps part name sweep after r → SoFar before then after r
  one_more {part} {after} {then} taken s = record {
    goes = s.goes;
    list = so.list ++ part;
    taken = Consumes-trans before now then so.list part so.taken taken;
    counts = rw (ended_append [] so.list part) (counts_append so.counts (s.counts (begun_by [] so.list) so.holds));
    holds = rw (begun_append [] so.list part) (s.holds (begun_by [] so.list) so.holds);
  }

  -- the list ends
  ends_counts : {tally : Tally} → Ends name sweep tally → Counts (names so.list) zero_tally tally
  ends_counts e = rw (names_ended so.list) (counts_append so.counts (e (begun_by [] so.list) so.holds))

  pub list_ends : {tally : Tally} → Ends name sweep tally → CountsList tally
  list_ends e = record { list = so.list; counts = ends_counts e }

  pub known_list_ends : (after : Option (List ℕ)) {tally : Tally} → Consumes now after [] → IsAtEnd after → Ends name sweep tally
      → IfSome before (λ (l : List ℕ). Counts (names l) zero_tally tally)
  known_list_ends after {tally} none end e = known_ends before now after so.list tally so.taken none end (ends_counts e)

  -- or no more names are read of it
  module _ (full : most_names ≤ sweep.tally.names) where
    full_counts : (rest : List ℕ) → Counts (names (so.list ++ rest)) zero_tally sweep.tally
    full_counts rest =
        let later = ended (begun_by [] so.list) rest ++ last_name (begun_by [] (so.list ++ rest)) in
        let all : names (so.list ++ rest) ≡ ended [] so.list ++ later =
        names_ended (so.list ++ rest)
        ∙ ap (λ (l : List (List ℕ)). l ++ last_name (begun_by [] (so.list ++ rest))) (ended_append [] so.list rest)
        ∙ append_assoc (ended [] so.list) (ended (begun_by [] so.list) rest) (last_name (begun_by [] (so.list ++ rest))) in
        rw all (counts_append so.counts (counts_full later sweep.tally full))

    pub list_full : CountsList sweep.tally
    list_full = list_ends (last_full full)

    pub known_list_full : IfSome before (λ (l : List ℕ). Counts (names l) zero_tally sweep.tally)
    known_list_full = known_goes before now so.list sweep.tally so.taken full_counts

-- the answer for a list that was read, and for one that could not be
pub told : (known : Option (List ℕ)) (whole : Bool) (tally : Tally) → IfSome known (λ (l : List ℕ). Counts (names l) zero_tally tally)
    → IfSome known (λ (l : List ℕ). whole ≡ true → Counts (names l) zero_tally tally)
told None whole tally c = tt
told (Some l) whole tally c = λ read. c

pub untold : (known : Option (List ℕ)) (tally : Tally) → IfSome known (λ (l : List ℕ). false ≡ true → Counts (names l) zero_tally tally)
untold None tally = tt
untold (Some l) tally = λ read. true_false (sym read)

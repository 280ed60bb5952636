-- Laws of the loop over the names of a part: what holds before each name, and what is said where it ends.
-- Assumes nothing.
use Rattle.refusals.specs.Refused.{Outcome}
use Rattle.std.specs.Prelude.{Option}
use Prim.Native.Nat.{ℕ, ◌+◌, ◌≤◌, ◌<◌}
use mathlib.Core.Path.{◌≡◌, sym, ◌∙◌, ap}
use mathlib.Core.List.{List}
use native.Mathlib.Omega.{arith}
use lib.ListN.{length, drop}
use Rattle.names.specs.declared.Cut.{Cut}
use Rattle.names.specs.Names.{longest_name}
use Rattle.names.specs.Parts.{most_held, up_to_lF, held_with, name_with, cut_of}
use Rattle.names.proofs.HeldLaws.{with_room}
use Rattle.tally.specs.declared.Tally.{Tally}
use Rattle.tally.specs.Tally.{most_names, counted_of}
use Rattle.tally.proofs.TallyLaws.{counted_adds, counted_names}
use Rattle.sweepfile.specs.Answered.{AnsweredHeld}
use Rattle.sweeping.specs.Sweeping.{Sweeping, Holding, Sweeps}
use Rattle.sweeping.proofs.SweepLaws.{Gone, gone_none, gone_full, gone_counts, gone_holds, gone_next}

-- before a name of the part: from what the sweep had, names up to here are counted
pub record InPart (part before : List ℕ) (had : ℕ) (from : Tally) (name : List ℕ) (at held : ℕ) (tally : Tally) : Type 0 where
  pub within : at ≤ length part
  pub goes : Sweeping name (record { held = held; tally = tally })
  pub gone : (begun : List ℕ) → Holding begun before (record { held = had; tally = from }) → Gone part from begun name at held tally

pub part_none : (part : List ℕ) {name : List ℕ} {held : ℕ} {tally : Tally} → Sweeping name (record { held = held; tally = tally }) → InPart part name held tally name 0 held tally
part_none part so = record { within = omega arith; goes = so; gone = λ begun h. gone_none h }

module _ {part before : List ℕ} {had : ℕ} {from : Tally} {name : List ℕ} {at held : ℕ} {tally : Tally} (so : InPart part before had from name at held tally) where
  -- no more names are read
  pub part_full : most_names ≤ tally.names → Sweeps part before (record { held = had; tally = from }) name (record { held = held; tally = tally })
  part_full full = record {
    goes = so.goes;
    counts = λ begun h. gone_full (so.gone begun h) full so.goes.few;
    holds = λ begun h more. absurd (omega arith);
  }

  module _ (more : tally.names < most_names) {cut : Cut} (is : cut ≡ cut_of part at held) {after : List ℕ} (left : after ≡ name_with name held (up_to_lF (drop at part))) where
    cut_end : cut.end ≡ at + length (up_to_lF (drop at part))
    unfolding cut_of
    cut_end = ap (λ (c : Cut). c.end) is

    cut_held : cut.held ≡ held_with held (up_to_lF (drop at part))
    unfolding cut_of
    cut_held = ap (λ (c : Cut). c.held) is

    room : length after ≡ longest_name
    room = ap length left ∙ with_room name held (up_to_lF (drop at part)) so.goes.long

    held_few : cut.held ≤ most_held
    unfolding held_with
    held_few = omega (arith, cut_held)

    -- the part ends before the name does
    pub part_end : cut.end ≡ length part → Sweeps part before (record { held = had; tally = from }) after (record { held = cut.held; tally = tally })
    part_end all =
        let whole : at + length (up_to_lF (drop at part)) ≡ length part = sym cut_end ∙ all in
        record {
          goes = record { long = room; held = held_few; adds = so.goes.adds; few = so.goes.few };
          counts = λ begun h. gone_counts (so.gone begun h) more whole;
          holds = λ begun h few. rw (left, cut_held) (gone_holds (so.gone begun h) more whole);
        }

    -- the name ends, and is counted under its answer
    module _ (some : cut.end < length part) {a : Option Outcome} (answered : AnsweredHeld after cut.held a) {counted : Tally} (one : counted ≡ counted_of tally a) where
      pub part_next : InPart part before had from after (cut.end + 1) 0 counted
      part_next = record {
        within = omega arith;
        goes = record {
          long = room;
          held = omega arith;
          adds = rw one (counted_adds tally a so.goes.adds);
          few = omega (arith, ap (λ (t : Tally). t.names) one, counted_names tally a);
        };
        gone = λ begun h.
            let here = rw (left, cut_held) at answered in
            rw (left, cut_end, one) (gone_next (so.gone begun h) more (omega (arith, cut_end)) here);
      }

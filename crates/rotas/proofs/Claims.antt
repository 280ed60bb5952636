-- Each claim of specs/Claims.antt, proved.
-- Assumes nothing.
use Prim.Native.Nat.{ℕ, ◌-◌, ◌≤◌, ◌<◌}
use mathlib.Core.Path.{sym, subst}
use mathlib.Core.List.{List}
use mathlib.Core.Logic.{inr, ⊎_elim, ◌↔◌}
use native.Mathlib.Omega.{arith}
use Rattle.demand.specs.Supply.{Ring, Allowed}
use Rattle.demand.specs.Passes.{Passes}
use Rattle.verdict.proofs.Claims.{one_less}
use Rattle.reserves.specs.Reserves.{reserve_of, start_of}
use Rattle.ring_claims.specs.Serves.{RingServer, WholeProcessor, OnBoard, UsableOnRing, Usable, Serves}
use Rattle.ring_claims.proofs.Claims.{one_server, one_processor, on_board_when, usable_when, held_in_slot}
use Rattle.windows.proofs.Claims.{in_any_slot}
use Rattle.rotas.specs.Rota.{Rota, IsServer, Standing}
use Rattle.rotas.specs.Counted.{Counted, UsableWith, UsableOnce}
use Rattle.rotas.specs.Claims.{OneServerAProcessor, OneProcessorAServer, StandingSlotted, ReserveInAnySlot, HeldInAnySlot, UsableIsServed, Covers, EveryWindowCovered, ShortWindow, CutFallsShort, SmallerFallsShort, SaySame, TestIsRota, TestIsRing, OnOwnProcessor, TestIsWhole, CountedOnce}
use Rattle.rotas.proofs.CountLaws.{once, counts_all, counts_usable}
use Rattle.rotas.proofs.StandLaws.{once_tested, board_tested, usable_tested, cut_tested}
use Rattle.rotas.proofs.StandingLaws.{slotted, ring_or_whole, own_processor}
use Rattle.rotas.proofs.WindowLaws.{part_same, part_short, whole_same, all_same}

pub one_server_a_processor : OneServerAProcessor
one_server_a_processor rota stands p q q' x a b = one_server rota.slot rota.reserves p q q' x a b

pub one_processor_a_server : OneProcessorAServer
one_processor_a_server rota stands p p' q x a b = one_processor rota.slot rota.reserves p p' q x stands.slot_some a b

pub standing_slotted : StandingSlotted
standing_slotted rota stands = slotted rota stands

module _ (rota : Rota) (stands : Standing rota) (q : ℕ) where
  abbrev S : ℕ
  S = rota.slot

  abbrev L : ℕ
  L = rota.loss_of q

  abbrev rs : List ℕ
  rs = rota.reserves

  abbrev R : ℕ
  R = reserve_of rs q

  abbrev g : ℕ → ℕ
  g = rota.demand_of q

  -- the server of a ring reserve, and of a whole processor
  of_ring : RingServer S rs q → IsServer rota q
  of_ring r = record { some = r.some; there = r.there }

  of_whole : WholeProcessor S rs q → IsServer rota q
  of_whole w = record { some = w.some; there = w.there }

  -- on the ring by the test without loss, on a whole processor at every tick
  any_slot : IsServer rota q → (a : ℕ) → Counted (OnBoard S rs q) a S R
  any_slot s a = ⊎_elim ring whole (ring_or_whole rota stands q s)
    where
      ring : RingServer S rs q × Ring S L R → Counted (OnBoard S rs q) a S R
      ring r =
          subst (Counted (OnBoard S rs q) a S) (in_any_slot S R (start_of S rs q) a stands.slot_some (omega (arith, r.1.parts)))
          (counts_usable (OnBoard S rs q) a S 0 R (start_of S rs q) (board_tested S rs stands.slot_some q r.0) S)

      whole : WholeProcessor S rs q → Counted (OnBoard S rs q) a S R
      whole w =
          subst (Counted (OnBoard S rs q) a S) (sym w.whole)
          (counts_all (OnBoard S rs q) a (λ x. (on_board_when S rs x stands.slot_some).whole q w) S)

  -- on the ring a passing reserve covers; on a whole processor every tick is usable
  covered : IsServer rota q → Covers rota q (Usable S L rs q)
  covered s = ⊎_elim ring whole (ring_or_whole rota stands q s)
    where
      passes : Passes g S L R
      passes = (stands.servers q s).smallest.passes

      ring : RingServer S rs q × Ring S L R → Covers rota q (Usable S L rs q)
      ring r =
          (part_same rota stands q s (Usable S L rs q) R (start_of S rs q) (usable_tested S rs stands.slot_some q r.0 L) r.0.ring).0 passes

      whole : WholeProcessor S rs q → Covers rota q (Usable S L rs q)
      whole w = (all_same rota stands q s (Usable S L rs q) (λ x. inr w)).0 (subst (Passes g S L) w.whole passes)

  -- one tick less than the smallest reserve does not pass
  cut_short : RingServer S rs q → ShortWindow rota q (UsableWith S L rs q (R - 1))
  cut_short r =
      part_short rota stands q (of_ring r) (UsableWith S L rs q (R - 1)) (R - 1) (start_of S rs q)
      (cut_tested S rs stands.slot_some q r L (R - 1) (omega arith)) (omega (arith, r.ring))
      (one_less g S L R stands.slot_some (stands.servers q (of_ring r)).smallest)

  -- where a whole processor is the smallest reserve nothing less passes
  smaller_short : WholeProcessor S rs q → (R' start : ℕ) → R' < S → ShortWindow rota q (UsableOnce S L R' start)
  smaller_short w R' start less =
      part_short rota stands q (of_whole w) (UsableOnce S L R' start) R' start (once_tested S L R' start stands.slot_some (omega arith)) less
      (λ (a : Allowed S L R') (p : Passes g S L R'). absurd (omega (arith, w.whole, (stands.servers q (of_whole w)).smallest.least R' a p)))

  -- the test and a reserve once a slot from any start, and the test and all ticks
  say_same : IsServer rota q → SaySame rota q
  say_same s = record {
    part = λ R' start less.
        part_same rota stands q s (UsableOnce S L R' start) R' start (once_tested S L R' start stands.slot_some (omega arith)) less;
    whole = whole_same rota stands q s;
  }

  -- the test and a reserve where the server stands
  ring_same : RingServer S rs q → (R' : ℕ) → R' ≤ R → Passes g S L R' ↔ Covers rota q (UsableWith S L rs q R')
  ring_same r R' less =
      part_same rota stands q (of_ring r) (UsableWith S L rs q R') R' (start_of S rs q)
      (cut_tested S rs stands.slot_some q r L R' less) (omega (arith, r.ring))

  -- the test and the server's own processor
  own_same : WholeProcessor S rs q → OnOwnProcessor rota q
  own_same w =
      let own = own_processor rota stands q w in
      record {
        processor = own.0;
        serves = own.1;
        same = all_same rota stands q (of_whole w) (Serves S rs own.0 q) own.1;
      }

pub reserve_in_any_slot : ReserveInAnySlot
reserve_in_any_slot rota stands q s a = any_slot rota stands q s a

pub held_in_any_slot : HeldInAnySlot
held_in_any_slot rota stands q s x = held_in_slot rota.slot rota.reserves q x (slotted rota stands) s.some s.there

pub usable_is_served : UsableIsServed
usable_is_served rota stands q x u =
    let board = on_board_when rota.slot rota.reserves x stands.slot_some in
    ⊎_elim
    (λ (f : (p : ℕ) × UsableOnRing rota.slot (rota.loss_of q) rota.reserves q x p).
    let r = f.1.server in
    (board.ring q r).1 ((usable_when rota.slot (rota.loss_of q) rota.reserves q x stands.slot_some r).0 u).1)
    (λ (w : WholeProcessor rota.slot rota.reserves q). board.whole q w)
    u

pub every_window_covered : EveryWindowCovered
every_window_covered rota stands q s = covered rota stands q s

pub cut_falls_short : CutFallsShort
cut_falls_short rota stands q r = cut_short rota stands q r

pub smaller_falls_short : SmallerFallsShort
smaller_falls_short rota stands q w R' start less = smaller_short rota stands q w R' start less

pub test_is_rota : TestIsRota
test_is_rota rota stands q s = say_same rota stands q s

pub test_is_ring : TestIsRing
test_is_ring rota stands q r R' less = ring_same rota stands q r R' less

pub test_is_whole : TestIsWhole
test_is_whole rota stands q w = own_same rota stands q w

pub counted_once : CountedOnce
counted_once P a t m n c d = once P a c d

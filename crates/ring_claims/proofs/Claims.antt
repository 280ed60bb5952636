-- Each claim of specs/Claims.antt, proved.
-- Assumes nothing.
use Prim.Native.Nat.{ℕ, ◌-◌, ◌≤◌}
use native.Mathlib.Nat.{le_trans}
use native.Mathlib.Numerals.{sub-one}
use native.Mathlib.Omega.{arith}
use mathlib.Core.Path.{subst}
use lib.ListN.{get_or}
use Rattle.ring.proofs.CoverLaws as cover
use Rattle.ring.proofs.PhaseLaws.{phase_below}
use Rattle.ring_claims.specs.Claims.{NoOverlap, Filled, NoRing, FirstReserve, PhaseExact, OneServer, OneProcessor, WhoServes, WhoStays, TicksLeft, RotaUnrolled, OnBoardWhen, UsableWhen, HeldInSlot}
use Rattle.ring_claims.proofs.FirstLaws as first
use Rattle.ring_claims.proofs.PhaseLaws.{phase_agrees, phase_reached, phase_once}
use Rattle.ring_claims.proofs.ServeLaws as serve
use Rattle.ring_claims.proofs.BoardLaws as board
use Rattle.ring_claims.proofs.LeftLaws as left
use Rattle.ring_claims.proofs.RotaLaws.{unrolled_who}
use Rattle.ring_claims.proofs.HeldLaws.{held_slot}

pub no_overlap : NoOverlap
no_overlap S rs q q' at a b c d = cover.no_overlap S rs q q' at.0 a b (cover.covers_told S rs q at c) (cover.covers_told S rs q' at d)

pub filled : Filled
filled S rs h = first.filled_ring S rs h

pub no_ring : NoRing
no_ring S rs h none = (first.no_processors S rs h none, first.no_idle S rs h none)

pub first_reserve_lem : FirstReserve
first_reserve_lem S rs p h a b = first.first_reserve_lem S rs p h a b

pub phase_exact : PhaseExact
phase_exact S r h = record {
  below = λ p x a b. phase_below S r p x h (le_trans a b);
  agrees = λ p x a b. phase_agrees S r h p x (le_trans a b);
  reached = phase_reached S r h;
  once = phase_once S r h;
}

pub one_server : OneServer
one_server S rs p q q' x s t = serve.one_server S rs p q q' x s t

pub one_processor : OneProcessor
one_processor S rs p p' q x h s t = serve.one_processor S rs h p p' q x s t

pub who_serves : WhoServes
who_serves S rs p x a b = serve.answers S rs p x a b

pub who_stays : WhoStays
who_stays S rs p x h a b = serve.stays S rs p x h a

pub ticks_left : TicksLeft
ticks_left S rs p x h a b = left.left S rs p x h a

pub rota_unrolled : RotaUnrolled
rota_unrolled plan S rs p x res prints a b = unrolled_who S rs res plan prints p a b x

pub on_board_when : OnBoardWhen
on_board_when S rs x h = board.board S rs x h

pub usable_when : UsableWhen
usable_when S L rs q x h s = board.usable_when S rs x h L q s

pub held_in_slot : HeldInSlot
held_in_slot S rs q x res a b =
    held_slot S rs q x res.slot_some
    (subst (λ (i : ℕ). get_or rs i 0 ≤ S) (sub-one q) (res.within (q - 1) (omega arith))) a b

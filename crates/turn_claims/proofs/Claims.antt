-- Each claim of specs/Claims.antt, proved.
-- Assumes nothing.
use mathlib.Core.Path.{ap}
use native.Mathlib.Omega.{arith}
use Rattle.turn.specs.Switches.{switch_lines, switch_text}
use Rattle.turn.proofs.NextLaws as next
use Rattle.turn.proofs.CountLaws.{turn_count}
use Rattle.turn_claims.specs.Claims.{SwitchesExactly, SwitchesSorted, NoSwitches, SwitchesReplay, StretchesDiffer, SwitchesCounted, SwitchesFit, SwitchesWhole}
use Rattle.turn_claims.proofs.ListedLaws.{turn_told, turn_stands, turn_sorted, turn_none}
use Rattle.turn_claims.proofs.ReplayLaws.{replayed}
use Rattle.turn_claims.proofs.FitLaws.{begun_fits, text_fits}

pub switches_exactly : SwitchesExactly
switches_exactly S rs s = (turn_told S rs, turn_stands S rs)

pub switches_sorted : SwitchesSorted
switches_sorted S rs k h = turn_sorted S rs k h

pub no_switches : NoSwitches
unfolding switch_text switch_lines
no_switches S rs e = ap switch_lines (turn_none S rs e)

pub switches_replay : SwitchesReplay
switches_replay S rs p x h some l = replayed S rs p x h some l

pub stretches_differ : StretchesDiffer
stretches_differ S rs p x res some l same = next.stretches_differ S rs p x res some l same

pub switches_counted : SwitchesCounted
switches_counted S rs res = turn_count S rs res

pub switches_fit : SwitchesFit
switches_fit S rs res few = text_fits res few

pub switches_whole : SwitchesWhole
switches_whole S rs s res slot few b = begun_fits res (omega (arith, slot)) few b

-- `digitread::all_legal` meets its contract: a part of a text is legal where each of its bytes is.
-- Assumes nothing.
use Prim.Native.Nat.{ℕ, ◌+◌, ◌-◌}
use mathlib.Core.Path.{◌≡◌, sym, ◌∙◌, ap}
use native.Mathlib.Omega.{arith}
use lib.ListN.{take, drop}
use Rattle.std.proofs.Common.{rules, tests}
use Rattle.std.proofs.lemmas.Iterator.{YieldsList-from_slice}
use Rattle.std.proofs.lemmas.Iterator.Search.{all_from_yields_List}
use Rattle.digits.specs.Digit.{legal, all_legal}
use Rattle.digits.proofs.Digits.{legal_each}
use Rattle.digitread.proofs.all_legal.Goals as goal

pub returns : goal.returns
returns c =
    let a = c.args in
    let width : a.at + a.width - a.at ≡ a.width = omega arith in
    all_from_yields_List legal _ _ c.all.result c.all.ensures.ran (YieldsList-from_slice (take (a.at + a.width - a.at) (drop a.at a.text.now)) cc) (λ x b q k. search (rules, tests))
    ∙ sym (legal_each (take (a.at + a.width - a.at) (drop a.at a.text.now)))
    ∙ ap (λ (n : ℕ). all_legal (take n (drop a.at a.text.now))) width

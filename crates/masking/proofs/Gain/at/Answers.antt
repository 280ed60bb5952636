-- `Gain::at` meets its contract: nothing before the gain, the extra in it, nothing after it.
-- Assumes nothing.
use mathlib.Core.Path.{sym}
use native.Mathlib.Omega.{arith}
use Rattle.masking.proofs.GainLaws.{gain_in, gain_before, gain_after}
use Rattle.masking.proofs.Gain.at.Goals as goal

pub returns-then-t-self : goal.returns-then-t-self
returns-then-t-self c = sym (gain_before _ _ (omega (arith, c.if-t-self.true)))

pub returns-then-t-self-2 : goal.returns-then-t-self-2
returns-then-t-self-2 c = sym (gain_in _ _ (omega arith) (omega (arith, c.if-t-self-2.true)))

pub returns : goal.returns
returns c = sym (gain_after _ _ (omega (arith, c.if-t-self-2.false)))

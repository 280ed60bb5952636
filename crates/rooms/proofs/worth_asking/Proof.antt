-- `worth_asking` meets its contract: the rooms decide where something was found. Assumes nothing.
use Prim.Native.Nat.{ℕ}
use mathlib.Core.Path.{◌≡◌, sym, ap, ◌∙◌}
use borrow.Author.Rules.{rules}
use Rattle.packing.specs.declared.Fit.{Fit}
use Rattle.joining.specs.Fits.{better, worth_asking}
use Rattle.joining.proofs.WalkLaws.{worth_none, worth_some}
use Rattle.rooms.proofs.worth_asking.Statement.{statement}
use Rattle.rooms.proofs.worth_asking.Tie as tie

returns-then-found-eq0 : tie.Need-returns-then-found-eq0
returns-then-found-eq0 c = sym (worth_none c.args.fit c.args.found c.args.room c.args.held c.if-found-eq0.true)

-- something was found, by a fit
module _ (c : tie.Else-found-eq0) where
  by : {fit : Fit} → c.args.fit ≡ fit →
      worth_asking c.args.fit c.args.found c.args.room c.args.held
      ≡ better fit (λ (x : ℕ). x) c.args.room c.args.held
  by e =
      worth_some c.args.fit c.args.found c.args.room c.args.held c.if-found-eq0.false ∙
      ap (λ (f : Fit). better f (λ (x : ℕ). x) c.args.room c.args.held) e

returns-in-First : tie.Need-returns-in-First
returns-in-First c = sym (by c.before c.in-First.is)

returns-in-Best : tie.Need-returns-in-Best
returns-in-Best c = sym (by c.before c.in-Best.is)

returns-in-Worst : tie.Need-returns-in-Worst
returns-in-Worst c = sym (by c.before c.in-Worst.is)

pub worth_asking_spec : {M : Type 1} → statement M
worth_asking_spec =
    tie.close
    (tie.spec
    returns-then-found-eq0
    (λ c. search rules)
    (λ c. search rules)
    (λ c. search rules)
    returns-in-First
    returns-in-Best
    returns-in-Worst)

-- A reserve that is allowed is tried; another is refused.
-- Assumes nothing.
use borrow.Author.Rules.{rules}
use borrow.Author.Tests.{not-true, not-false}
use Prim.Native.Nat.{ℕ}
use mathlib.Core.Path.{◌≡◌, sym, ap, ◌∙◌}
use Rattle.loads.specs.Charge.{server_loss}
use Rattle.named.specs.Named.{allowed}
use Rattle.planserver.specs.Recorded.{own_members}
use Rattle.named.proofs.NamedLaws.{allowed_is}
use Rattle.planserver.proofs.Judging.{cache_small, own_loss}
use Rattle.doespass.proofs.PassLaws.{own_barred, own_there}
use Rattle.pass_made.proofs.pass_own.Statement.{statement}
use Rattle.pass_made.proofs.pass_own.Tie as tie

-- once the reserve is tested
module _ (c : tie.After-is_allowed_to) where
  abbrev start : tie.Start
  start = c.before.before

  -- by the entry loss of the members
  told : c.is_allowed_to.result ≡ allowed start.args.set.header.slot (server_loss start.args.set.header (own_members start.args.set start.args.own)) start.args.reserve
  told =
      c.is_allowed_to.ensures
      ∙ ap (λ (L : ℕ). allowed start.args.set.header.slot L start.args.reserve) (own_loss start.requires)

is_allowed_to-requires : tie.Need-is_allowed_to-requires
is_allowed_to-requires c κs = cache_small c.requires

returns-then-not-is_allowed_to : tie.Need-returns-then-not-is_allowed_to
returns-then-not-is_allowed_to c =
    let at = c.before.before in
    let a = (start at).args in
    c.refused_pass.ensures ∙ own_barred a.set a.own a.reserve (sym (told at) ∙ not-true _ c.if-not-is_allowed_to.true-raw)

pass_judged-requires : tie.Need-pass_judged-requires
pass_judged-requires c κs = ((start c.before).requires, allowed_is _ _ _ (sym (told c.before) ∙ not-false _ c.if-not-is_allowed_to.false-raw))

returns : tie.Need-returns
returns c =
    let at = c.before.before in
    let a = (start at).args in
    own_there a.set a.own a.reserve (sym (told at) ∙ not-false _ c.if-not-is_allowed_to.false-raw) c.pass_judged.ensures

pub pass_own_spec : {M : Type 1} → statement M
pass_own_spec =
    tie.close
    (tie.spec
    is_allowed_to-requires
    (λ c κs. search rules)
    returns-then-not-is_allowed_to
    pass_judged-requires
    returns)

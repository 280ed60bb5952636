-- `judged` meets its contract: the server's loads are charged, and its own entry loss and horizon decide.
-- Assumes nothing.
use Prim.Native.Nat.{ℕ, ◌+◌, ◌*◌, ◌≤◌}
use mathlib.Core.Path.{◌≡◌, refl, sym, ap, ap₂, ◌∙◌}
use mathlib.Core.List.{List, ◌++◌}
use borrow.Author.Rules.{rules}
use native.Mathlib.Omega.{arith}
use lib.ListN.{length, take}
use lib.Seq.{length-take-le}
use Rattle.verdict.specs.Verdict.{verdict_of}
use Rattle.loads.specs.Charge.{numbers_of, server_loads, server_loss, Overheads}
use Rattle.loads.specs.Figures.{Figures, members_at}
use Rattle.members.specs.Server.{Board, board_of, server_demand, verdict_for}
use Rattle.served.proofs.ServedLaws.{small_cache, own_loss, own_room, may_test, front_within, front_is, front_interrupted, front_maskable, front_asked}
use Rattle.judging.proofs.judged.Statement.{statement}
use Rattle.judging.proofs.judged.Tie as tie

-- the header's overheads are numbers of two bytes
overheads : (s : tie.Start) → Overheads s.args.header
overheads s = record { release = search rules; switch = search rules; delay = search rules }

-- the members of the server
abbrev members : (s : tie.Start) → List Figures
members s = members_at s.args.figures.now (take s.args.k s.args.places.now)

-- the board
abbrev board : (s : tie.Start) → Board
board s = board_of s.args.header s.args.interrupts.now

-- once they are charged
module _ (c : tie.After-charge_server-own) where
  abbrev start : tie.Start
  start = c.before.before.before.before.before

  abbrev loads : List ℕ
  loads = c.charge_server-own.new.loads

  -- how far their numbers and the interrupts' go
  abbrev end : ℕ
  end = 3 * start.args.k + length start.args.interrupts.now

  inside : end ≤ length loads
  inside = front_within start.requires.0 start.requires.1.0 _ (own_room start.requires.0 start.requires.1.0 refl) c.charge_server-own.ensures.1 refl

  front : take end loads ≡ numbers_of (server_loads start.args.header (members start)) ++ start.args.interrupts.now
  front = front_is start.requires.0 start.requires.1.0 _ (own_room start.requires.0 start.requires.1.0 refl) c.charge_server-own.ensures.1 refl

charge_server-own-requires : tie.Need-charge_server-own-requires
charge_server-own-requires c κs =
    (c.requires.0, (c.requires.1.0, own_room c.requires.0 c.requires.1.0 refl))

loss-lost-requires : tie.Need-loss-lost-requires
loss-lost-requires c κs =
    let s = start c.before.before.before in
    omega (arith, small_cache s.requires.0)

-- the entry loss is the server's
lost : (c : tie.After-loss-lost) → c.loss-lost.result ≡ server_loss (start c.before.before.before.before).args.header (members (start c.before.before.before.before))
lost c = own_loss (start c.before.before.before.before).requires.0 c.loss-lost.ensures

slice_bounds-verdict-end : tie.Need-slice_bounds-verdict-end
slice_bounds-verdict-end c = sym (length-take-le _ _ (omega (arith, inside c.before.before.before.before.before)))

verdict-requires : tie.Need-verdict-requires
verdict-requires c κs =
    let at = c.before.before.before.before.before in
    let s = start at in
    let l = lost c.before in
    let t = may_test s.requires.0 s.requires.1.0 (overheads s) c.loss-lost.result at.charge_server-own.ensures.0 (omega (arith, l)) in (
      front_interrupted s.requires.0 s.requires.1.0 (front at) (overheads s),
      (
        record {
          slot_some = t.slot_some;
          slot_small = t.slot_small;
          loss_small = omega (arith, t.loss_small);
          horizon_small = omega (arith, t.slot_small, t.horizon_small);
        },
        (
          rw l s.requires.1.1,
          front_maskable s.requires.0 s.requires.1.0 (front at) _ at.charge_server-own.ensures.0 (omega (arith, c.masked_ticks-masked.type_inv)),
        ),
      ),
    )

returns : tie.Need-returns
unfolding verdict_for
returns c =
    let at = c.before.before.before.before.before.before in
    let s = start at in
    let h = s.args.header in
    c.verdict.ensures ∙
    ap (λ (g : ℕ → ℕ). verdict_of g at.charge_server-own.result h.slot c.loss-lost.result s.args.reserve)
    (front_asked s.requires.0 s.requires.1.0 (front at) c.masked_ticks-masked.ensures) ∙
    ap₂ (λ (H L : ℕ). verdict_of (server_demand (board s) (members s)) H h.slot L s.args.reserve) at.charge_server-own.ensures.0 (lost c.before.before)

pub judged_spec : {M : Type 1} → statement M
judged_spec =
    tie.close
    (tie.spec
    (λ c. search rules)
    charge_server-own-requires
    (λ c κs. search rules)
    (λ c. search rules)
    (λ c. search rules)
    loss-lost-requires
    (λ c. search rules)
    (λ c. search rules)
    (λ c. search rules)
    slice_bounds-verdict-end
    verdict-requires
    returns)

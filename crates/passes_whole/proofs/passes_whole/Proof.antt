-- `passes_whole` meets its contract: the members are charged as a server, and their own horizon decides. Assumes nothing.
use Prim.Native.Nat.{ℕ, ◌+◌, ◌*◌, ◌≤◌}
use mathlib.Core.Path.{◌≡◌, refl, sym, ap, ◌∙◌}
use mathlib.Core.Logic.{inr}
use mathlib.Core.List.{List, ◌++◌}
use borrow.Author.Rules.{rules}
use native.Mathlib.Omega.{arith}
use lib.ListN.{length, take}
use lib.Seq.{length-take-le}
use Rattle.verdict.specs.Verdict.{passing}
use Rattle.loads.specs.Charge.{numbers_of, server_loads, Overheads}
use Rattle.loads.specs.Figures.{Figures, members_at}
use Rattle.members.specs.Server.{Board, board_of, server_demand}
use Rattle.members.proofs.BoundedLaws.{bounded_sound}
use Rattle.served.proofs.ServedLaws.{own_room, may_test, front_within, front_is, front_interrupted, front_maskable, front_asked}
use Rattle.taking.proofs.ChargedLaws.{fits_whole}
use Rattle.passes_whole.proofs.passes_whole.Statement.{statement}
use Rattle.passes_whole.proofs.passes_whole.Tie as tie

-- the header's overheads are numbers of two bytes
overheads : (s : tie.Start) → Overheads s.args.header
overheads s = record { release = search rules; switch = search rules; delay = search rules }

-- the members
abbrev members : (s : tie.Start) → List Figures
members s = members_at s.args.figures.now (take s.args.n s.args.places.now)

-- the board
abbrev board : (s : tie.Start) → Board
board s = board_of s.args.header s.args.interrupts.now

-- once they are charged
module _ (c : tie.After-charge_server-own) where
  abbrev start : tie.Start
  start = c.before.before.before.before.before

  abbrev loads : List ℕ
  loads = c.charge_server-own.new.loads

  -- how far their numbers and the interrupts' go
  abbrev end : ℕ
  end = 3 * start.args.n + length start.args.interrupts.now

  inside : end ≤ length loads
  inside = front_within start.requires.0 start.requires.1 _ (own_room start.requires.0 start.requires.1 refl) c.charge_server-own.ensures.1 refl

  front : take end loads ≡ numbers_of (server_loads start.args.header (members start)) ++ start.args.interrupts.now
  front = front_is start.requires.0 start.requires.1 _ (own_room start.requires.0 start.requires.1 refl) c.charge_server-own.ensures.1 refl

charge_server-own-requires : tie.Need-charge_server-own-requires
charge_server-own-requires c κs =
    (c.requires.0, (c.requires.1, own_room c.requires.0 c.requires.1 refl))

slice_bounds-passes-end : tie.Need-slice_bounds-passes-end
slice_bounds-passes-end c = sym (length-take-le _ _ (omega (arith, inside c.before.before.before.before)))

passes-requires : tie.Need-passes-requires
passes-requires c κs =
    let at = c.before.before.before.before in
    let s = start at in
    let t = may_test s.requires.0 s.requires.1 (overheads s) 0 at.charge_server-own.ensures.0 (omega arith) in (
      front_interrupted s.requires.0 s.requires.1 (front at) (overheads s),
      (
        record {
          slot_some = t.slot_some;
          slot_small = t.slot_small;
          loss_small = omega arith;
          horizon_small = omega (arith, t.slot_small, t.horizon_small);
        },
        (
          inr refl,
          front_maskable s.requires.0 s.requires.1 (front at) _ at.charge_server-own.ensures.0 (omega (arith, c.masked_ticks-masked.type_inv)),
        ),
      ),
    )

returns : tie.Need-returns
returns c =
    let at = c.before.before.before.before.before in
    let s = start at in
    let h = s.args.header in
    c.passes.ensures ∙
    ap (λ (g : ℕ → ℕ). passing g at.charge_server-own.result h.slot 0 h.slot) (front_asked s.requires.0 s.requires.1 (front at) c.masked_ticks-masked.ensures) ∙
    ap (λ (H : ℕ). passing (server_demand (board s) (members s)) H h.slot 0 h.slot) at.charge_server-own.ensures.0 ∙
    fits_whole (board s) (members s) s.requires.0.members (bounded_sound s.requires.1 s.requires.0.slot)

pub passes_whole_spec : {M : Type 1} → statement M
passes_whole_spec =
    tie.close
    (tie.spec
    (λ c. search rules)
    charge_server-own-requires
    (λ c κs. search rules)
    (λ c. search rules)
    (λ c. search rules)
    (λ c. search rules)
    (λ c. search rules)
    (λ c. search rules)
    slice_bounds-passes-end
    passes-requires
    returns)

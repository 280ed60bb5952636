-- `fit_switches` meets its contract: the plan is laid, so its switches are counted and, where they have room, written.
-- Assumes nothing.
use Prim.Native.Nat.{ℕ}
use mathlib.Core.Path.{◌≡◌, ap, ◌∙◌}
use mathlib.Core.List.{List}
use native.Mathlib.Omega.{arith}
use lib.ListN.{length, take}
use borrow.Author.Rules.{rules}
use Rattle.digits.specs.Stored.{stored}
use Rattle.tasks.specs.Set.{most_tasks}
use Rattle.turn.specs.Stretch.{Laid}
use Rattle.turn.specs.Switches.{switch_text}
use Rattle.plan.specs.Plan.{reserves_in}
use Rattle.planfit.proofs.FitLaws.{no_room, stored_whole}
use Rattle.planfile.proofs.AcceptLaws.{makes_counted}
use Rattle.switchlist.specs.Write.{plan_switches}
use Rattle.switchlist.proofs.LaidLaws.{turn_of, row_front, plan_laid, count_few, list_bytes}
use Rattle.fit_switches.proofs.fit_switches.Statement.{statement}
use Rattle.fit_switches.proofs.fit_switches.Tie as tie

-- a set's tasks and a plan's servers have their places
full : (s : tie.Start) → length s.args.set.tasks ≡ most_tasks
full s = s.well_formed.0.1.1.1.1.0.1.0.1

room : (s : tie.Start) → length s.args.plan.server ≡ most_tasks
room s = s.well_formed.1.0.1.1.1.1.1.1.1.0.1.0.1

-- the row of its reserves is laid
laid : (c : tie.After-reserves-row) → Laid (turn_of c.args.plan) c.reserves-row.result
laid c = let s = c.before.before in plan_laid s.args.set (full s) s.args.plan s.requires (room s) c.reserves-row.ensures

front : (c : tie.After-reserves-row) → let plan = c.args.plan in take plan.servers c.reserves-row.result ≡ reserves_in plan
front c = let s = c.before.before in row_front s.args.set (full s) s.args.plan s.requires (room s) c.reserves-row.ensures

switch_count-requires : tie.Need-switch_count-requires
switch_count-requires c κs = laid c.before

lines_length-needed-requires : tie.Need-lines_length-needed-requires
lines_length-needed-requires c κs =
    let counted = makes_counted c.args.set c.args.plan c.requires in
    omega (arith, count_few c.args.plan (laid c.before.before) (front c.before.before) counted.servers c.switch_count.ensures)

-- the bytes that are needed
bytes : (c : tie.After-lines_length-needed) → c.lines_length-needed.result ≡ length (plan_switches c.args.plan)
bytes c =
    let counted = makes_counted c.args.set c.args.plan c.requires in
    list_bytes c.args.plan (laid c.before.before.before) (front c.before.before.before) counted.servers c.switch_count.ensures c.lines_length-needed.ensures

returns-then-out-needed : tie.Need-returns-then-out-needed
returns-then-out-needed c =
    let a = c.args in
    no_room a.out.now (plan_switches a.plan) (omega (arith, c.if-out-needed.true, bytes c.before))

put_turn-requires : tie.Need-put_turn-requires
put_turn-requires c κs =
    let known = c.before.before.before in
    let plan = known.args.plan in (
      laid known.before.before.before,
      rw (front known.before.before.before) (omega (arith, bytes known, c.if-out-needed.false)),
    )

returns : tie.Need-returns
returns c =
    let known = c.before.before.before.before.before.before in
    let a = known.args in
    stored_whole a.out.now (plan_switches a.plan) _ (bytes known) c.if-out-needed.false
    (c.put_turn.ensures ∙ ap (λ (rs : List ℕ). stored a.out.now 0 (switch_text a.plan.slot rs)) (front known.before.before.before))

pub fit_switches_spec : {M : Type 1} → statement M
fit_switches_spec =
    tie.close
    (tie.spec
    (λ c κs. search rules)
    (λ c. search rules)
    switch_count-requires
    lines_length-needed-requires
    returns-then-out-needed
    (λ c. search rules)
    put_turn-requires
    (λ c. search rules)
    returns)

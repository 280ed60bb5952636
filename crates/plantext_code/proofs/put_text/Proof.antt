-- The four groups of lines, each right before the one behind it, are the text.
-- Assumes nothing.
use Prim.Native.Nat.{ℕ, ◌+◌, ◌*◌, ◌≤◌}
use mathlib.Core.Path.{◌≡◌, ◌∙◌, ap}
use native.Mathlib.Omega.{arith}
use lib.ListN.{length}
use Rattle.frames.specs.Table.{length_of}
use Rattle.frames.specs.declared.table.Frame.{Frame}
use Rattle.planlines.proofs.LineLaws.{plan_size, plan_bytes_lem, server_size, placed_size, processor_size}
use Rattle.plantext.proofs.TextLaws.{text_bytes, text_stored}
use borrow.Author.Rules.{rules}
use Rattle.plantext_code.proofs.put_text.Statement.{statement}
use Rattle.plantext_code.proofs.put_text.Tie as tie

-- the buffer has the room of all lines
room : (s : tie.Start) → let a = s.args in 23 + a.plan.servers * 21 + a.set.count * 7 + (a.plan.ring + a.plan.whole) * 13 ≤ length a.out.now
room s = omega (arith, s.requires.1, text_bytes s.args.set s.args.plan)

-- the bytes of each group of lines
first : {n : ℕ} → n ≡ 1 * (length_of Frame.Plan + 1) → n ≡ 23
first e = e ∙ ap (λ (n : ℕ). 1 * n) plan_size

servers : {n : ℕ} (q : ℕ) → n ≡ q * (length_of Frame.Server + 1) → n ≡ q * 21
servers q e = e ∙ ap (λ (k : ℕ). q * k) server_size

tasks : {n : ℕ} (q : ℕ) → n ≡ q * (length_of Frame.Placed + 1) → n ≡ q * 7
tasks q e = e ∙ ap (λ (k : ℕ). q * k) placed_size

overflow_add-tasks : tie.Need-overflow_add-tasks
overflow_add-tasks c =
    let s = c.before.before.before.before in
    omega (arith, room s, first c.lines_length-servers.ensures, servers s.args.plan.servers c.lines_length.ensures)

-- once the bytes of the groups are known
module _ (c : tie.After-lines_length-2) where
  abbrev start : tie.Start
  start = c.before.before.before.before.before

  to-servers : c.lines_length-servers.result ≡ 23
  to-servers = first c.lines_length-servers.ensures

  of-servers : c.lines_length.result ≡ start.args.plan.servers * 21
  of-servers = servers start.args.plan.servers c.lines_length.ensures

  of_tasks : c.lines_length-2.result ≡ start.args.set.count * 7
  of_tasks = tasks start.args.set.count c.lines_length-2.ensures

overflow_add-processors : tie.Need-overflow_add-processors
overflow_add-processors c = omega (arith, room (start c), to-servers c, of-servers c, of_tasks c)

put_processors-requires : tie.Need-put_processors-requires
put_processors-requires c κs =
    let l = c.before in
    let p = (start l).args.plan in
    ((start l).requires.0.processors, omega (arith, room (start l), to-servers l, of-servers l, of_tasks l, ap (λ (k : ℕ). (p.ring + p.whole) * k) processor_size))

put_tasks-requires : tie.Need-put_tasks-requires
put_tasks-requires c κs =
    let l = c.before.before.before.before.before in
    let kept = c.put_processors.auto.out in
    ((start l).requires.0.tasks, omega (arith, room (start l), to-servers l, of-servers l, ap (λ (k : ℕ). (start l).args.set.count * k) placed_size, kept))

put_servers-requires : tie.Need-put_servers-requires
put_servers-requires c κs =
    let p = c.before.before.before.before.before.before.before in
    let l = p.before.before in
    let kept = c.put_tasks.auto.out ∙ p.put_processors.auto.out in
    ((start l).requires.0.servers, omega (arith, room (start l), to-servers l, ap (λ (k : ℕ). (start l).args.plan.servers * k) server_size, kept))

put_plan-requires : tie.Need-put_plan-requires
put_plan-requires c κs =
    let t = c.before.before.before.before.before.before.before in
    let p = t.before.before.before.before in
    let l = p.before.before in
    omega (arith, room (start l), plan_bytes_lem (start l).args.plan, c.put_servers.auto.out, t.put_tasks.auto.out, p.put_processors.auto.out)

returns : tie.Need-returns
returns c =
    let s = c.before.before.before.before.before.before in
    let t = s.before.before.before.before in
    let p = t.before.before.before.before in
    let l = p.before.before in
    let a = (start l).args in
    text_stored a.set a.plan a.out.now (start l).requires.1 (to-servers l) (omega (arith, to-servers l, of-servers l)) (omega (arith, of_tasks l))
    p.put_processors.ensures t.put_tasks.ensures s.put_servers.ensures c.put_plan.ensures

pub put_text_spec : {M : Type 1} → statement M
put_text_spec =
    tie.close
    (tie.spec
    (λ c. search rules)
    (λ c κs. search rules)
    (λ c κs. search rules)
    overflow_add-tasks
    (λ c κs. search rules)
    overflow_add-processors
    put_processors-requires
    put_tasks-requires
    put_servers-requires
    put_plan-requires
    (λ c. search rules)
    returns)

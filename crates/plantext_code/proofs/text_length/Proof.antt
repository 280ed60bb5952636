-- The bytes of the 11 line, and of the 12, 13 and 14 lines.
-- Assumes nothing.
use Prim.Native.Nat.{ℕ, ◌+◌, ◌*◌, ◌≤◌}
use mathlib.Core.Path.{◌≡◌, ◌∙◌, ap}
use native.Mathlib.Omega.{arith}
use Rattle.tasks.specs.Set.{most_tasks, most_processors}
use Rattle.planlines.proofs.LineLaws.{plan_size, server_size, placed_size, processor_size}
use Rattle.plantext.proofs.TextLaws.{text_bytes}
use borrow.Author.Rules.{rules}
use Rattle.plantext_code.proofs.text_length.Statement.{statement}
use Rattle.plantext_code.proofs.text_length.Tie as tie

-- the four parts, in bytes
parts : (c : tie.After-lines_length-processors) → let a = c.args in
    (c.lines_length-first.result ≡ 23) × (c.lines_length-servers.result ≡ a.plan.servers * 21) × (c.lines_length-tasks.result ≡ a.set.count * 7) × (c.lines_length-processors.result ≡ (a.plan.ring + a.plan.whole) * 13)
parts c =
    let a = c.args in (
      c.lines_length-first.ensures ∙ ap (λ (n : ℕ). 1 * n) plan_size,
      c.lines_length-servers.ensures ∙ ap (λ (n : ℕ). a.plan.servers * n) server_size,
      c.lines_length-tasks.ensures ∙ ap (λ (n : ℕ). a.set.count * n) placed_size,
      c.lines_length-processors.ensures ∙ ap (λ (n : ℕ). (a.plan.ring + a.plan.whole) * n) processor_size,
    )

bounds : (c : tie.After-lines_length-processors) → let a = c.args in (a.plan.servers ≤ most_tasks) × (a.set.count ≤ most_tasks) × (a.plan.ring + a.plan.whole ≤ most_processors)
bounds c = (c.requires.servers, c.requires.tasks, c.requires.processors)

overflow_add-result : tie.Need-overflow_add-result
overflow_add-result c = omega (arith, parts c, bounds c)

overflow_add-result-2 : tie.Need-overflow_add-result-2
overflow_add-result-2 c = omega (arith, parts c, bounds c)

overflow_add-result-3 : tie.Need-overflow_add-result-3
overflow_add-result-3 c = omega (arith, parts c, bounds c)

returns : tie.Need-returns
returns c = let a = c.args in omega (arith, parts c, text_bytes a.set a.plan)

pub text_length_spec : {M : Type 1} → statement M
text_length_spec =
    tie.close
    (tie.spec
    (λ c κs. search rules)
    (λ c κs. search rules)
    (λ c κs. search rules)
    (λ c. search rules)
    (λ c κs. search rules)
    overflow_add-result
    overflow_add-result-2
    overflow_add-result-3
    returns)

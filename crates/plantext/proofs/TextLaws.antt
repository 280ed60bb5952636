-- Laws of a plan's text: its length, and that its groups of lines are stored one behind the other.
-- Assumes nothing.
use Prim.Native.Nat.{ℕ, ◌+◌, ◌*◌, ◌≤◌}
use mathlib.Core.Path.{◌≡◌, sym, ◌∙◌, ap, ap₂}
use mathlib.Core.List.{List, ◌++◌, append_assoc}
use native.Mathlib.Omega.{arith}
use lib.ListN.{length, take, drop, length-append}
use lib.Seq.{length-take-le, take-take, take-append-le, drop-append_seam}
use Rattle.digits.specs.Stored.{stored}
use Rattle.frames.specs.Table.{widths_of, sum}
use Rattle.framelines.specs.Lines.{joined}
use Rattle.framelines.proofs.LinesLaws.{joined_length}
use Rattle.tasks.specs.declared.set.TaskSet.{TaskSet}
use Rattle.plan.specs.declared.plan.Plan.{Plan}
use Rattle.planlines.specs.Line.{plan_line, server_line, placed_line, processor_line}
use Rattle.plantext.specs.Text.{plan_text, longest_text}
use Rattle.plantext.specs.Counts.{CountsFit}
use Rattle.planlines.proofs.LineLaws.{plan_bytes_lem, server_size, placed_size, processor_size, server_bytes, placed_bytes, processor_bytes}

-- a text stored right before another is both stored as one
ahead : (b x y : List ℕ) (at : ℕ) {m : ℕ} → m ≡ at + length x → m + length y ≤ length b → stored (stored b m y) at x ≡ stored b at (x ++ y)
unfolding stored
ahead b x y at {m} e fits =
    ap₂ (λ (p q : List ℕ). p ++ (x ++ q)) front back
    ∙ ap (λ (l : List ℕ). take at b ++ l) (sym (append_assoc x y (drop (m + length y) b)))
    ∙ ap (λ (n : ℕ). take at b ++ ((x ++ y) ++ drop n b)) end
  where
    end : m + length y ≡ at + length (x ++ y)
    end = omega (arith, length-append x y)

    head : length (take m b) ≡ m
    head = length-take-le m b (omega arith)

    rest : List ℕ
    rest = y ++ drop (m + length y) b

    front : take at (take m b ++ rest) ≡ take at b
    front = take-append-le at (take m b) rest (omega (arith, head)) ∙ take-take at m b (omega arith)

    back : drop (at + length x) (take m b ++ rest) ≡ rest
    back =
        let seam : at + length x ≡ length (take m b) = omega (arith, head) in
        ap (λ (n : ℕ). drop n (take m b ++ rest)) seam ∙ drop-append_seam (take m b) rest

-- the bytes of a plan's text
module _ (set : TaskSet) (plan : Plan) where
  servers_bytes : length (joined (server_line plan) plan.servers) ≡ plan.servers * 21
  servers_bytes = joined_length (server_line plan) 21 (λ q. server_bytes plan q ∙ server_size) plan.servers

  tasks_bytes : length (joined (placed_line set plan) set.count) ≡ set.count * 7
  tasks_bytes = joined_length (placed_line set plan) 7 (λ k. placed_bytes set plan k ∙ placed_size) set.count

  processors_bytes : length (joined (processor_line plan) (plan.ring + plan.whole)) ≡ (plan.ring + plan.whole) * 13
  processors_bytes = joined_length (processor_line plan) 13 (λ p. processor_bytes plan p ∙ processor_size) (plan.ring + plan.whole)

  pub text_bytes : length (plan_text set plan) ≡ 23 + plan.servers * 21 + set.count * 7 + (plan.ring + plan.whole) * 13
  unfolding plan_text
  text_bytes = simp length-append (omega (arith, plan_bytes_lem plan, servers_bytes, tasks_bytes, processors_bytes))

  -- the four groups of lines, each stored right before the one behind it, are the text stored
  pub text_stored : (b : List ℕ) {o₁ o₂ o₃ o₄ : List ℕ} {k m n : ℕ} → length (plan_text set plan) ≤ length b → k ≡ 23 → m ≡ 23 + plan.servers * 21 → n ≡ m + set.count * 7
      → o₁ ≡ stored b n (joined (processor_line plan) (plan.ring + plan.whole)) → o₂ ≡ stored o₁ m (joined (placed_line set plan) set.count)
      → o₃ ≡ stored o₂ k (joined (server_line plan) plan.servers) → o₄ ≡ stored o₃ 0 (plan_line plan)
      → o₄ ≡ stored b 0 (plan_text set plan)
  unfolding plan_text
  text_stored b {o₂ = o₂} {o₃ = o₃} {k = k} {m = m} {n = n} fits o p q e₁ e₂ e₃ e₄ =
      e₄ ∙ ap (λ (l : List ℕ). stored l 0 first) from_servers ∙ ahead b first (servers ++ (tasks ++ processors)) 0 (omega (arith, o, plan_bytes_lem plan)) (omega (arith, room, o, behind_servers))
    where
      first : List ℕ
      first = plan_line plan

      servers : List ℕ
      servers = joined (server_line plan) plan.servers

      tasks : List ℕ
      tasks = joined (placed_line set plan) set.count

      processors : List ℕ
      processors = joined (processor_line plan) (plan.ring + plan.whole)

      room : 23 + plan.servers * 21 + set.count * 7 + (plan.ring + plan.whole) * 13 ≤ length b
      room = omega (arith, text_bytes)

      behind_tasks : length (tasks ++ processors) ≡ set.count * 7 + (plan.ring + plan.whole) * 13
      behind_tasks = length-append tasks processors ∙ omega (arith, tasks_bytes, processors_bytes)

      behind_servers : length (servers ++ (tasks ++ processors)) ≡ plan.servers * 21 + set.count * 7 + (plan.ring + plan.whole) * 13
      behind_servers = length-append servers (tasks ++ processors) ∙ omega (arith, servers_bytes, behind_tasks)

      from_tasks : o₂ ≡ stored b m (tasks ++ processors)
      from_tasks = e₂ ∙ ap (λ (l : List ℕ). stored l m tasks) e₁ ∙ ahead b tasks processors m (omega (arith, q, tasks_bytes)) (omega (arith, room, p, q, processors_bytes))

      from_servers : o₃ ≡ stored b k (servers ++ (tasks ++ processors))
      from_servers =
          e₃ ∙ ap (λ (l : List ℕ). stored l k servers) from_tasks
          ∙ ahead b servers (tasks ++ processors) k (omega (arith, o, p, servers_bytes)) (omega (arith, room, p, behind_tasks))

-- a text whose counts fit is at most the longest
pub text_short : (set : TaskSet) (plan : Plan) → CountsFit set plan → length (plan_text set plan) ≤ longest_text
unfolding sum widths_of
text_short set plan few = omega (arith, text_bytes set plan, few.servers, few.tasks, few.processors)

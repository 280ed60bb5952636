-- Whether a task behind `i` has the id of the one there is what `any` answers.
use Rattle.std.proofs.Common.{◌≡◌, ◌≤◌, ◌<◌, ◌+◌, ◌-◌, ◌||◌, ℕ, List, Bool, length, get_or, take, drop, arith, rules, tests, sym, ap, ◌∙◌}
use Rattle.std.proofs.lemmas.List.{drop-take}
use Rattle.std.proofs.lemmas.Iterator.{YieldsList-from_slice}
use Rattle.std.proofs.lemmas.Iterator.Search.{any_from_yields_List}
use Rattle.std.specs.List.{list_any}
use Rattle.tasks.specs.declared.set.Task.{Task}
use Rattle.tasks.specs.Set.{members, has_id, zero_task}
use Rattle.tasks.specs.Search.{some}
use Rattle.taskask.specs.Ask.{twice_row}
use Rattle.taskask.proofs.TwiceLaws.{twice_left, twice_end}
use Rattle.taskask_code.proofs.SomeLaws.{any_some}
use Rattle.taskask_code.proofs.breaks_twice.Goals as goal
use Rattle.taskask_code.proofs.breaks_twice.Goals.{After-any}

behind : (ts : List Task) (n i : ℕ) → i < n → take (n - (i + 1)) (drop (i + 1) ts) ≡ drop (i + 1) (take n ts)
behind ts n i inside =
    let all : (i + 1) + (n - (i + 1)) ≡ n = omega arith in
    sym (drop-take (i + 1) (n - (i + 1)) ts) ∙ ap (λ (k : ℕ). drop (i + 1) (take k ts)) all

by_rest : (c : After-any) → twice_row (drop c.loop-i.i (members c.args.set)) ≡ (c.any.result || twice_row (drop (c.loop-i.i + 1) (members c.args.set)))
by_rest c =
    let set = c.args.set in
    let i = c.loop-i.i in
    let rest = take (set.count - (i + 1)) (drop (i + 1) set.tasks) in
    let test = has_id (get_or set.tasks i zero_task).id in
    let asked : c.any.result ≡ list_any test rest = any_from_yields_List test _ _ c.any.result c.any.ensures.ran (YieldsList-from_slice rest cc) (λ x b q k. search (rules, tests)) in
    let fits : set.count ≤ length set.tasks = omega arith in
    twice_left set.tasks set.count i zero_task c.any.result fits c.loop-i-test.true
    (ap (some test) (sym (behind set.tasks set.count i c.loop-i-test.true)) ∙ sym (asked ∙ any_some test rest))

pub returns-then-any : goal.returns-then-any
returns-then-any c =
    let d = (goal.at.returns-then-any c).After-any in
    sym (c.loop-i.invariant ∙ by_rest d ∙ ap (λ (b : Bool). b || twice_row (drop (c.loop-i.i + 1) (members c.args.set))) c.if-any.true)

pub loop-i-preserved : goal.loop-i-preserved
loop-i-preserved c =
    let d = (goal.at.loop-i-preserved c).After-any in
    c.loop-i.invariant ∙ by_rest d ∙ ap (λ (b : Bool). b || twice_row (drop (c.loop-i.i + 1) (members c.args.set))) c.if-any.false

pub returns : goal.returns
returns c =
    let set = c.args.set in
    let fits : set.count ≤ length set.tasks = omega arith in
    sym (c.loop-i.invariant ∙ twice_end set.tasks set.count c.loop-i.i fits c.loop-i-test.false)

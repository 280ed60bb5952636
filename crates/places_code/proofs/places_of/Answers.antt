-- The place of a task of the server is stored behind those before it.
-- Assumes nothing.
use Rattle.std.proofs.Common.{◌≡◌, ℕ, ◌≤◌, ◌<◌, length, take, ap, ◌∙◌, rules, arith}
use Rattle.digits.specs.Stored.{stored}
use Rattle.tasks.specs.Set.{most_tasks}
use Rattle.places.specs.Places.{places_in}
use Rattle.places_code.proofs.ListedLaws.{listed_none, listed_few, listed_length, listed_next, listed_apart}
use Rattle.places_code.proofs.places_of.Goals as goal
use Rattle.places_code.proofs.places_of.Goals.{else-placement-i, then-placement-i}

pub loop-i-init : goal.loop-i-init
loop-i-init c = listed_none _ _ _

pub overflow_cast-places : goal.overflow_cast-places
overflow_cast-places c =
    let most : c.args.n ≤ most_tasks = c.requires.n_le_most_tasks in
    let few : c.loop-i.count ≤ c.loop-i.i = listed_few c.loop-i.invariant in
    search rules

pub bounds-places-count : goal.bounds-places-count
bounds-places-count c =
    omega (arith, listed_few c.loop-i.invariant, listed_length c.loop-i.invariant, c.requires.n_in_bounds_2, c.loop-i-test.true)

pub overflow_add-count : goal.overflow_add-count
overflow_add-count c =
    let few : c.loop-i.count ≤ c.loop-i.i = listed_few c.loop-i.invariant in
    search rules

pub loop-i-preserved : goal.loop-i-preserved
loop-i-preserved c =
    let here : c.loop-i.i < c.args.n = omega (arith, c.loop-i-test.true) in
    let there : c.loop-i.i < length c.args.placement.now = omega (arith, here, c.requires.n_in_bounds) in
    let room : c.loop-i.i < length c.args.places.now = omega (arith, here, c.requires.n_in_bounds_2) in
    let next = listed_next c.loop-i.invariant there room in
    let apart = listed_apart c.loop-i.invariant there room in
    (elim c.if-placement-i.branch [
      | then-placement-i w ↦ rw (w.places-is, w.count-is) (next w.if-placement-i.true)
      | else-placement-i w ↦ rw (w.places-is, w.count-is) (apart w.if-placement-i.false)
    ])

pub returns : goal.returns
returns c =
    let w = c.loop-i.invariant in
    let all : c.loop-i.i ≡ c.args.n = omega arith in
    record {
      value = w.counts ∙ ap (λ (i : ℕ). length (places_in (take i c.args.placement.now) c.args.q)) all;
      places_after = w.is ∙ ap (λ (i : ℕ). stored c.args.places.now 0 (places_in (take i c.args.placement.now) c.args.q)) all;
    }

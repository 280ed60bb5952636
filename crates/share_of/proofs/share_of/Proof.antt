-- `share_of` meets its contract: the charged cost without cache cost, as often as the task's period goes into the horizon, and the charged
-- deadline. Assumes nothing.
use Prim.Native.Nat.{ℕ, ◌*◌, ◌/◌, ◌^◌, ◌≤◌, ◌<◌}
use mathlib.Core.Path.{◌≡◌, sym, ap, ◌∙◌}
use mathlib.Core.List.{[], ◌∷◌}
use borrow.Author.Rules.{rules}
use native.Mathlib.Nat.{div-le_self}
use native.Mathlib.Omega.{arith}
use Rattle.charging.specs.Charging.{effective_cost, effective_deadline}
use Rattle.masking.specs.Masking.{soonest_of, soonest}
use Rattle.tasks.specs.declared.set.Header.{Header}
use Rattle.loads.specs.Figures.{Figures, figures_at}
use Rattle.loads.specs.Charge.{charged_in, Member}
use Rattle.loads.proofs.ChargeLaws.{loads_alone}
use Rattle.members.specs.Server.{total_of}
use Rattle.members.proofs.FiledLaws.{filed_last}
use Rattle.shares.specs.Totals.{work_in, jobs_in}
use Rattle.shares.specs.Soonest.{soonest_in}
use Rattle.shares.proofs.TotalLaws.{cost_small}
use Rattle.share_of.proofs.share_of.Statement.{statement}
use Rattle.share_of.proofs.share_of.Tie as tie

-- the task may be charged
member : (s : tie.Start) → Member s.args.header (figures_at s.args.figures.now s.args.i)
member s = (filed_last s.args.i s.requires).1

work-alone : (h : Header) (H : ℕ) (f : Figures) → effective_cost f.cost h.relo h.ctswo 0 * (H / f.period) ≡ work_in h H (f ∷ [])
unfolding total_of charged_in
work-alone h H f = omega arith

jobs-alone : (H : ℕ) (f : Figures) → H / f.period ≡ jobs_in H (f ∷ [])
unfolding jobs_in
jobs-alone H f = omega arith

due-alone : (h : Header) (f : Figures) → effective_deadline f.deadline h.relj ≡ soonest_in h (f ∷ [])
unfolding soonest soonest_of charged_in
due-alone h f = sym (ap soonest (loads_alone h f))

overflow_mul-at : tie.Need-overflow_mul-at
overflow_mul-at c = omega (arith, c.requires.few)

offset_bounds-figures-at : tie.Need-offset_bounds-figures-at
offset_bounds-figures-at c = omega (arith, c.requires.few)

charged_cost-cost-requires : tie.Need-charged_cost-cost-requires
charged_cost-cost-requires c κs =
    let m = member c.before.before.before.before in (
      omega (arith, m.meets, m.constrained, m.short),
      search rules,
      search rules,
      omega arith,
    )

charged_deadline-due-requires : tie.Need-charged_deadline-due-requires
charged_deadline-due-requires c κs =
    let m = member c.before.before.before.before.before.before.before in
    omega (arith, m.early)

-- once the deadline is charged
module _ (c : tie.After-shared_slice_known-4-1) where
  abbrev charged : tie.After-charged_cost-cost
  charged = c.before.before.before.before

  abbrev start : tie.Start
  start = charged.before.before.before.before.before

  -- the cost without cache cost is small
  small : charged.charged_cost-cost.result ≤ 2 ^ 21
  unfolding effective_cost
  small =
      let m = member start in
      let relo : start.args.header.relo < 2 ^ 16 = search rules in
      let ctswo : start.args.header.ctswo < 2 ^ 16 = search rules in
      omega (arith, charged.charged_cost-cost.ensures, m.meets, m.constrained, m.short, relo, ctswo)

nonzero_div-jobs : tie.Need-nonzero_div-jobs
nonzero_div-jobs c =
    let m = member (start c) in
    omega (arith, m.some, m.meets, m.constrained)

overflow_mul-result : tie.Need-overflow_mul-result
overflow_mul-result c =
    let s = start c in
    let f = figures_at s.args.figures.now s.args.i in
    omega (
      arith,
      cost_small s.args.horizon s.requires.short (charged c).charged_cost-cost.result (s.args.horizon / f.period) (small c)
          (omega (arith, div-le_self s.args.horizon f.period, s.requires.short)),
    )

returns : tie.Need-returns
returns c =
    let s = start c.before in
    let f = figures_at s.args.figures.now s.args.i in
    cc (
      ap (λ (x : ℕ). x * (s.args.horizon / f.period)) (charged c.before).charged_cost-cost.ensures ∙ work-alone s.args.header s.args.horizon f,
      jobs-alone s.args.horizon f,
      c.charged_deadline-due.ensures ∙ due-alone s.args.header f,
    )

pub share_of_spec : {M : Type 1} → statement M
share_of_spec =
    tie.close
    (tie.spec
    overflow_mul-at
    offset_bounds-figures-at
    (λ c. search rules)
    (λ c. search rules)
    (λ c. search rules)
    charged_cost-cost-requires
    (λ c. search rules)
    (λ c. search rules)
    (λ c. search rules)
    (λ c. search rules)
    charged_deadline-due-requires
    (λ c. search rules)
    (λ c. search rules)
    (λ c. search rules)
    nonzero_div-jobs
    overflow_mul-result
    (λ c. search rules)
    (λ c. search rules)
    (λ c. search rules)
    returns)

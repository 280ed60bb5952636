-- One step of placing over what is kept of the servers and what the task brings: each server's own, and that the numbers are small.
-- Assumes nothing.
use Prim.Native.Nat.{ℕ, ◌+◌, ◌-◌, ◌*◌, ◌^◌, ◌<◌}
use native.Mathlib.Numerals.{add-one}
use native.Mathlib.Omega.{arith}
use mathlib.Core.Path.{◌≡◌, sym, ap, ◌∙◌}
use mathlib.Core.List.{List}
use lib.ListN.{length, get_or, take}
use Rattle.tasks.specs.declared.set.Header.{Header}
use Rattle.tasks.specs.Set.{most_tasks}
use Rattle.places.specs.Places.{chosen}
use Rattle.loads.specs.Figures.{figures_at, figures_to}
use Rattle.loads.specs.Charge.{Overheads}
use Rattle.members.specs.Server.{Filed}
use Rattle.shares.specs.declared.Share.{Share}
use Rattle.shares.specs.Share.{share_of, share_in}
use Rattle.shares.specs.Totals.{total_in}
use Rattle.joining.specs.Kept.{Kept, no_share}
use Rattle.joining.proofs.CandidateLaws.{Candidate, own_work_fits, own_jobs_fit, own_cost_fits, share_cost_fits, own_total}

-- task i comes: what is kept of the servers so far, and what it brings
pub record Coming (h : Header) (figures placement : List ℕ) (i H : ℕ) (kept : List Share) (share : Share) : Type 0 where
  pub file : Filed h figures (i + 1) H
  pub servers : Kept h H (figures_to figures i) (take i placement) kept
  pub brings : share ≡ share_of h H (figures_at figures i)

module _ {h : Header} {figures placement : List ℕ} {i H : ℕ} {kept : List Share} {share : Share} (w : Coming h figures placement i H kept share) (k : ℕ)
    (few : k < most_tasks) where
  abbrev own : Share
  own = get_or kept k no_share

  -- it is kept of server k + 1
  pub own_next : own ≡ share_in h H (chosen (figures_to figures i) (take i placement) (k + 1))
  own_next = w.servers.each k few ∙ ap (λ (q : ℕ). share_in h H (chosen (figures_to figures i) (take i placement) q)) (sym (add-one k))

  pub comes_to : Candidate h figures placement i H (k + 1) own share
  comes_to = record { file = w.file; brings = w.brings; keeps = own_next }

  pub work_fits : Overheads h → own.work + share.work < 2 ^ 62
  work_fits o = own_work_fits comes_to o

  pub jobs_fit : own.jobs + share.jobs < 2 ^ 32
  jobs_fit = own_jobs_fit comes_to

  -- it has its place
  pub there : k < length kept
  there = omega (arith, w.servers.room)

  pub costs_fit : (own.cache < 2 ^ 16) × (share.cache < 2 ^ 16)
  costs_fit = (own_cost_fits comes_to, share_cost_fits comes_to)

  -- the server's room
  pub room_is : H - (own.work + own.cache * own.jobs) ≡ H - total_in h H (chosen (figures_to figures i) (take i placement) (k + 1))
  room_is = ap (λ (t : ℕ). H - t) (own_total comes_to)

-- The usable ticks of a window, counted by supply: what supply gains over the window, its ticks counted from a reserve's end.
-- Assumes nothing.
use Prim.Native.Nat.{ℕ, zero, suc, ◌+◌, ◌-◌, ◌%◌, ◌≤◌}
use mathlib.Core.Path.{◌≡◌, ap, sym, ◌∙◌}
use mathlib.Core.Bool.{Bool, cond}
use native.Mathlib.Nat.{add-zero}
use native.Mathlib.Omega.{arith}
use lib.Dec.{leb}
use Rattle.demand.specs.Supply.{supply_past}
use Rattle.demand.proofs.Supply.{supply_step}
use Rattle.windows.specs.Window.{usable_at, usable_in}
use Rattle.windows.proofs.Since.{to_end_lem, usable_past}

-- one usable tick counts as one tick more of supply does
tick_counts : (S L R start a t : ℕ) → 1 ≤ S → R ≤ S →
    supply_past S (S - R + L) (a + to_end_lem S R start + t + 1) ≡
    supply_past S (S - R + L) (a + to_end_lem S R start + t) + cond (usable_at S L R start (a + t)) 1 0
tick_counts S L R start a t h g =
    let f = S - R + L in
    let e : a + t + to_end_lem S R start ≡ a + to_end_lem S R start + t = omega arith in
    supply_step S f (a + to_end_lem S R start + t) h ∙
    ap (λ (q : Bool). supply_past S f (a + to_end_lem S R start + t) + cond q 1 0)
    (sym (usable_past S L R start (a + t) h g ∙ ap (λ (n : ℕ). leb f (n % S)) e))

-- a window's usable ticks are what supply gains over it
pub window_counts : (S L R start a t : ℕ) → 1 ≤ S → R ≤ S →
    supply_past S (S - R + L) (a + to_end_lem S R start + t) ≡
    supply_past S (S - R + L) (a + to_end_lem S R start) + usable_in S L R start a t
unfolding usable_in
window_counts S L R start a zero h g =
    ap (supply_past S (S - R + L)) (add-zero (a + to_end_lem S R start)) ∙ sym (add-zero (supply_past S (S - R + L) (a + to_end_lem S R start)))
window_counts S L R start a (suc t) h g =
    let e : a + to_end_lem S R start + suc t ≡ a + to_end_lem S R start + t + 1 = omega arith in
    ap (supply_past S (S - R + L)) e ∙ omega (arith, window_counts S L R start a t h g, tick_counts S L R start a t h g)

-- What `since` counts, when a tick is usable, and a usable tick told by the ticks since the reserve's end.
-- Assumes nothing.
use Prim.Native.Nat.{ℕ, ◌+◌, ◌-◌, ◌/◌, ◌%◌, ◌≤◌, ◌<◌}
use mathlib.Core.Path.{◌≡◌, ap, ◌∙◌}
use mathlib.Core.Bool.{Bool, true, cond}
use mathlib.Core.Logic.{⊎_elim}
use native.Mathlib.Nat.{mod-lt, mod-eq_of_lt, mod-add-mod, add-mod_right, add-mul-mod_self_right, div-add-mod'}
use native.Mathlib.Omega.{arith}
use borrow.Author.Tests.{le-leb, lt-ltb, leb-true}
use lib.Dec.{leb, ltb}
use Rattle.laws.proofs.Tests.{and_parts, and_both, same_test, never_true}
use Rattle.laws.proofs.Orders.{le_or_lt}
use Rattle.windows.specs.Window.{since, usable_at}

pub since_below : (S start x : ℕ) → 1 ≤ S → since S start x < S
unfolding since
since_below S start x h = mod-lt _ h

-- start and the ticks since it come to x and whole slots
pub since_reaches : (S start x : ℕ) → 1 ≤ S → (since S start x + start) % S ≡ x % S
unfolding since
since_reaches S start x h =
    mod-add-mod _ S start ∙ ap (λ (n : ℕ). n % S) (omega (arith, mod-lt start h, div-add-mod' start S)) ∙
    add-mul-mod_self_right x (start / S + 1) S

-- a usable tick, by its two bounds
pub usable_told : (S L R start x : ℕ) → usable_at S L R start x ≡ true → (L ≤ since S start x) × (since S start x < R)
unfolding usable_at
usable_told S L R start x e = let b = and_parts (leb L (since S start x)) (ltb (since S start x) R) e in omega (arith, leb-true)

pub usable_made : (S L R start x : ℕ) → L ≤ since S start x → since S start x < R → usable_at S L R start x ≡ true
unfolding usable_at
usable_made S L R start x p q = and_both (le-leb L (since S start x) p) (lt-ltb (since S start x) R q)

-- the ticks to add to a tick, to count from a reserve's end
abbrev pub to_end_lem : (S R start : ℕ) → ℕ
to_end_lem S R start = S - start % S + (S - R)

-- y ticks past its start a reserve of R ended y + (S − R) ticks ago if it still runs, and y − R ago if not
runs_still : (S R y : ℕ) → y < R → R ≤ S → (y + (S - R)) % S ≡ y + (S - R)
runs_still S R y p h = mod-eq_of_lt (omega arith)

has_ended : (S R y : ℕ) → R ≤ y → y < S → (y + (S - R)) % S ≡ y - R
has_ended S R y p h =
    let over : y + (S - R) ≡ y - R + S = omega arith in
    ap (λ (n : ℕ). n % S) over ∙ add-mod_right (y - R) S ∙ mod-eq_of_lt (omega arith)

-- the ticks since the end by those since the start
from_end : (S R start x : ℕ) → (since S start x + (S - R)) % S ≡ (x + to_end_lem S R start) % S
unfolding since
from_end S R start x = mod-add-mod _ S (S - R) ∙ ap (λ (n : ℕ). n % S) (omega arith)

-- a tick is usable exactly when f = S − R + L or more ticks have passed since the reserve's end
pub usable_past : (S L R start x : ℕ) → 1 ≤ S → R ≤ S → usable_at S L R start x ≡ leb (S - R + L) ((x + to_end_lem S R start) % S)
usable_past S L R start x h g =
    let y = since S start x in
    let below : y < S = since_below S start x h in
    same_test (usable_at S L R start x) (leb (S - R + L) ((y + (S - R)) % S))
    (λ (e : usable_at S L R start x ≡ true).
    let w = usable_told S L R start x e in
    le-leb (S - R + L) ((y + (S - R)) % S) (omega (arith, runs_still S R y w.1 g)))
    (λ (e : leb (S - R + L) ((y + (S - R)) % S) ≡ true).
    let w : S - R + L ≤ (y + (S - R)) % S = leb-true (S - R + L) ((y + (S - R)) % S) e in
    ⊎_elim
    (λ (p : R ≤ y). absurd (omega (arith, has_ended S R y p below)))
    (λ (p : y < R). usable_made S L R start x (omega (arith, runs_still S R y p g)) p)
    (le_or_lt R y)) ∙
    ap (leb (S - R + L)) (from_end S R start x)

-- where the loss eats the reserve up, no tick is usable
pub usable_never : (S L R start x : ℕ) → R ≤ L → ◌≡◌ {A = ℕ} (cond (usable_at S L R start x) 1 0) 0
usable_never S L R start x h =
    ap (λ (q : Bool). cond q 1 0)
    (never_true (usable_at S L R start x)
    (λ (e : usable_at S L R start x ≡ true). let w = usable_told S L R start x e in omega arith))

-- Laws of supply: it counts the usable ticks of the worst window, so it grows with the length, slot by slot.
-- Assumes nothing.
use Prim.Native.Nat.{ℕ, ◌+◌, ◌*◌, ◌-◌, ◌/◌, ◌%◌, ◌≤◌, ◌<◌}
use mathlib.Core.Path.{◌≡◌, ap, ap₂, sym, ◌∙◌}
use mathlib.Core.Bool.{cond}
use mathlib.Core.Logic.{⊎_elim}
use native.Mathlib.Nat.{add_assoc, add-le-add, mul-le-mul_left, sub-le, sub-le-sub_left, le_dest, le_trans, le-add_right, le_of_eq, mod-lt, sub-eq-zero_of_le, sub-zero, div-add-mod', div-mul-le_self}
use native.Mathlib.Omega.{arith}
use lib.Arith.{digits_div, digits_mod}
use lib.Dec.{leb}
use Rattle.laws.proofs.Orders.{by_slots, eq_or_ne, le_or_lt}
use Rattle.laws.proofs.Choices.{cond_eqb, cond_eqb_not, cond_leb, cond_leb_not}
use Rattle.demand.specs.Supply.{Ring, Allowed, gap, supply_past, supply}

-- supply by k whole slots and x ticks
pub supply_slots : (S f k : ℕ) {x : ℕ} → x < S → supply_past S f (k * S + x) ≡ k * (S - f) + (x - f)
unfolding supply_past
supply_slots S f k h = rw (digits_div k h, digits_mod k h)

-- with no gap every tick is usable
pub supply_whole : (S t : ℕ) → supply_past S 0 t ≡ t
unfolding supply_past
supply_whole S t = rw (sub-zero S, sub-zero (t % S)) (div-add-mod' t S)

-- a gap of a slot or more leaves nothing usable
pub supply_none : (S f t : ℕ) → 1 ≤ S → S ≤ f → supply_past S f t ≡ 0
unfolding supply_past
supply_none S f t h g = rw (sub-eq-zero_of_le g) (omega (arith, mod-lt t h))

-- an allowed reserve that is no whole processor stands on the ring
pub ring_of : (S L R : ℕ) → (R ≡ S → ⊥) → Allowed S L R → Ring S L R
ring_of S L R n a = ⊎_elim (λ (r : Ring S L R). r) (λ (e : R ≡ S). absurd (n e)) a

-- the gap of a whole processor, and of a ring reserve
pub gap_whole : (S L R : ℕ) → R ≡ S → gap S L R ≡ 0
unfolding gap
gap_whole S L R e = cond_eqb 0 (S - R + L) e

pub gap_part : (S L R : ℕ) → (R ≡ S → ⊥) → gap S L R ≡ S - R + L
unfolding gap
gap_part S L R h = cond_eqb_not 0 (S - R + L) h

pub gap_ring : (S L R : ℕ) → R < S → gap S L R ≡ S - R + L
gap_ring S L R h = gap_part S L R (λ (e : R ≡ S). omega arith)

-- an allowed reserve leaves some tick of each slot usable
pub gap_below : (S L R : ℕ) → Allowed S L R → 1 ≤ S → gap S L R < S
gap_below S L R a h =
    ⊎_elim (λ (r : Ring S L R). omega (arith, gap_ring S L R (omega arith))) (λ e. omega (arith, gap_whole S L R e)) a

-- supply of a whole processor, and of any other reserve
pub supply_all : (S L R t : ℕ) → R ≡ S → supply S L R t ≡ t
unfolding supply
supply_all S L R t e = cond_eqb t (supply_past S (S - R + L) t) e

pub supply_part : (S L R t : ℕ) → (R ≡ S → ⊥) → supply S L R t ≡ supply_past S (S - R + L) t
unfolding supply
supply_part S L R t h = cond_eqb_not t (supply_past S (S - R + L) t) h

-- the form computed is the literal form: a whole processor has the gap 0
pub supply_gap : (S L R t : ℕ) → 1 ≤ S → supply S L R t ≡ supply_past S (gap S L R) t
supply_gap S L R t h =
    ⊎_elim
    (λ (e : R ≡ S). supply_all S L R t e ∙ sym (ap (λ (f : ℕ). supply_past S f t) (gap_whole S L R e) ∙ supply_whole S t))
    (λ (n : R ≡ S → ⊥). supply_part S L R t n ∙ sym (ap (λ (f : ℕ). supply_past S f t) (gap_part S L R n)))
    (eq_or_ne R S)

step_inside : (a f x : ℕ) → a + (x + 1 - f) ≡ a + (x - f) + cond (leb f x) 1 0
step_inside a f x =
    ⊎_elim (λ (p : f ≤ x). omega (arith, cond_leb 1 0 p)) (λ (p : x < f). omega (arith, cond_leb_not 1 0 p)) (le_or_lt f x)

step_over : (a S f x : ℕ) → x + 1 ≡ S → a + (S - f) ≡ a + (x - f) + cond (leb f x) 1 0
step_over a S f x e =
    ⊎_elim (λ (p : f ≤ x). omega (arith, cond_leb 1 0 p)) (λ (p : x < f). omega (arith, cond_leb_not 1 0 p)) (le_or_lt f x)

one_more : (k u f : ℕ) → (k + 1) * u + (0 - f) ≡ k * u + u
one_more k u f = omega arith

step_slots : (S f k x : ℕ) → x < S → supply_past S f (k * S + x + 1) ≡ k * (S - f) + (x - f) + cond (leb f x) 1 0
step_slots S f k x h =
    ⊎_elim
    (λ (p : S ≤ x + 1).
    let e : x + 1 ≡ S = omega arith in
    let o : k * S + x + 1 ≡ (k + 1) * S + 0 = omega arith in
    ap (supply_past S f) o ∙ supply_slots S f (k + 1) (omega arith) ∙ one_more k (S - f) f ∙ step_over (k * (S - f)) S f x e)
    (λ (p : x + 1 < S). ap (supply_past S f) (add_assoc (k * S) x 1) ∙ supply_slots S f k p ∙ step_inside (k * (S - f)) f x)
    (le_or_lt S (x + 1))

-- one tick more is usable or not, by its place in the slot: supply counts the i < t with f ≤ i % S
pub supply_step : (S f t : ℕ) → 1 ≤ S → supply_past S f (t + 1) ≡ supply_past S f t + cond (leb f (t % S)) 1 0
supply_step S f t h =
    by_slots (λ (t : ℕ). supply_past S f (t + 1) ≡ supply_past S f t + cond (leb f (t % S)) 1 0) S h
    (λ k x p. step_slots S f k x p ∙ sym (ap₂ (λ (a m : ℕ). a + cond (leb f m) 1 0) (supply_slots S f k p) (digits_mod k p)))
    t

turn_sums : (q k u y : ℕ) → (q + k) * u + y ≡ q * u + y + k * u
turn_sums q k u y = omega arith

-- each whole slot more gives what is usable of it
pub supply_turn : (S f t k : ℕ) → 1 ≤ S → supply_past S f (t + k * S) ≡ supply_past S f t + k * (S - f)
supply_turn S f t k h =
    by_slots (λ (t : ℕ). supply_past S f (t + k * S) ≡ supply_past S f t + k * (S - f)) S h
    (λ q x p.
    ap (supply_past S f) (sym (turn_sums q k S x)) ∙ supply_slots S f (q + k) p ∙ turn_sums q k (S - f) (x - f) ∙
    ap (λ (a : ℕ). a + k * (S - f)) (sym (supply_slots S f q p)))
    t

-- what the whole slots supply is at most the length
pub slots_within : (S f t : ℕ) → t / S * (S - f) ≤ t
slots_within S f t = le_trans (mul-le-mul_left (t / S) (sub-le S f)) (div-mul-le_self t S)

-- supply is at most the length
pub supply_within : (S f t : ℕ) → supply_past S f t ≤ t
unfolding supply_past
supply_within S f t =
    le_trans (add-le-add (mul-le-mul_left (t / S) (sub-le S f)) (sub-le (t % S) f)) (le_of_eq (div-add-mod' t S))

-- a smaller gap never supplies less
pub supply_gap_mono : (S t : ℕ) {f g : ℕ} → g ≤ f → supply_past S f t ≤ supply_past S g t
unfolding supply_past
supply_gap_mono S t h = add-le-add (mul-le-mul_left (t / S) (sub-le-sub_left h S)) (sub-le-sub_left h (t % S))

more_inside : (q r u f x y : ℕ) → q * u + (x - f) + (r * u + (y - f)) ≤ (q + r) * u + (x + y - f)
more_inside q r u f x y = omega arith

more_over : (q r S f x y : ℕ) → x < S → y < S → S ≤ x + y →
    q * (S - f) + (x - f) + (r * (S - f) + (y - f)) ≤ (q + r + 1) * (S - f) + (x + y - S - f)
more_over q r S f x y hx hy h = more_sums (q * (S - f)) (r * (S - f)) (omega arith) (three_mul q r (S - f))
  where
    three_mul : (a b u : ℕ) → (a + b + 1) * u ≡ a * u + b * u + u
    three_mul a b u = omega arith

    more_sums : (a b : ℕ) {m : ℕ} → (x - f) + (y - f) ≤ (S - f) + (x + y - S - f) → m ≡ a + b + (S - f) → a + (x - f) + (b + (y - f)) ≤ m + (x + y - S - f)
    more_sums a b g e = omega arith

more_slots : (S f q r x y : ℕ) → x < S → y < S →
    q * (S - f) + (x - f) + (r * (S - f) + (y - f)) ≤ supply_past S f (q * S + x + (r * S + y))
more_slots S f q r x y hx hy =
    ⊎_elim
    (λ (p : S ≤ x + y).
    let o : q * S + x + (r * S + y) ≡ (q + r + 1) * S + (x + y - S) = omega arith in
    le_trans (more_over q r S f x y hx hy p) (le_of_eq (sym (ap (supply_past S f) o ∙ supply_slots S f (q + r + 1) (omega arith)))))
    (λ (p : x + y < S).
    let o : q * S + x + (r * S + y) ≡ (q + r) * S + (x + y) = omega arith in
    le_trans (more_inside q r (S - f) f x y) (le_of_eq (sym (ap (supply_past S f) o ∙ supply_slots S f (q + r) p))))
    (le_or_lt S (x + y))

-- a window of a + b supplies what windows of a and of b do, or more
pub supply_more : (S f a b : ℕ) → 1 ≤ S → supply_past S f a + supply_past S f b ≤ supply_past S f (a + b)
supply_more S f a b h =
    by_slots (λ (a : ℕ). supply_past S f a + supply_past S f b ≤ supply_past S f (a + b)) S h
    (λ q x hx.
    by_slots (λ (b : ℕ). supply_past S f (q * S + x) + supply_past S f b ≤ supply_past S f (q * S + x + b)) S h
    (λ r y hy. rw (supply_slots S f q hx, supply_slots S f r hy) (more_slots S f q r x y hx hy)) b)
    a

-- a longer window never supplies less
pub supply_mono : (S f : ℕ) {t u : ℕ} → 1 ≤ S → t ≤ u → supply_past S f t ≤ supply_past S f u
supply_mono S f {t} {u} h g =
    let d = le_dest g in
    le_trans (le-add_right (supply_past S f t) (supply_past S f d.0))
    (le_trans (supply_more S f t d.0 h) (le_of_eq (ap (supply_past S f) d.1)))

-- Charged members: they are sound and small, as many as the members, and of the same periods; one place more is charged.
-- Assumes nothing.
use Prim.Native.Nat.{ℕ, ◌+◌, ◌*◌, ◌^◌, ◌≤◌, ◌<◌, max}
use native.Mathlib.Nat.{le_refl}
use native.Mathlib.Omega.{arith}
use mathlib.Core.Path.{◌≡◌, sym, ap, ◌∙◌}
use mathlib.Core.List.{List, [], ◌∷◌, ◌++◌, map, map-append}
use lib.ListN.{length, set, take, get_or, length-map}
use Rattle.digits.specs.Stored.{stored}
use Rattle.charging.specs.Charging.{effective_deadline, effective_cost, entry_loss}
use Rattle.demand.specs.Load.{Load, Sound, Small, Every}
use Rattle.tasks.specs.declared.set.Header.{Header}
use Rattle.loads.specs.Charge.{numbers_of, cache_of, charged_in, server_loads, server_loss, Member, Overheads, SmallCost}
use Rattle.loads.specs.Figures.{Figures, figures_at, members_at}
use Rattle.loads.proofs.NumberLaws.{put_numbers, taken_length, taken_more}

-- what follows for each from what holds of each
pub every_map : {A B : Type 0} (P : A → Type 0) (Q : B → Type 0) (f : A → B) (ls : List A) → ((l : A) → P l → Q (f l)) → Every P ls → Every Q (map f ls)
every_map P Q f [] g e = tt
every_map P Q f (l ∷ ls) g e = (g l e.0, every_map P Q f ls g e.1)

-- ---- one place more

module _ (h : Header) (cache : ℕ) (figures places : List ℕ) where
  -- the loads of the first i places
  abbrev pub charged_to : ℕ → List Load
  charged_to i = map (charged_in h cache) (members_at figures (take i places))

  pub to_length : (i : ℕ) → i ≤ length places → length (charged_to i) ≡ i
  to_length i l = length-map (members_at figures (take i places)) (charged_in h cache) ∙ taken_length (figures_at figures) places i l

  to_more : (i : ℕ) → i < length places → charged_to i ++ (charged_in h cache (figures_at figures (get_or places i 0)) ∷ []) ≡ charged_to (i + 1)
  to_more i l =
      sym (map-append (charged_in h cache) (members_at figures (take i places)) (figures_at figures (get_or places i 0) ∷ []))
      ∙ ap (map (charged_in h cache)) (taken_more (figures_at figures) places i 0 l)

  -- the charged figures of place i stored behind those before it
  pub charge_step : (i : ℕ) (b : List ℕ) {loads : List ℕ} {cost due : ℕ} → i < length places → 3 * i + 3 ≤ length b →
      loads ≡ stored b 0 (numbers_of (charged_to i)) →
      cost ≡ effective_cost (figures_at figures (get_or places i 0)).cost h.relo h.ctswo cache →
      due ≡ effective_deadline (figures_at figures (get_or places i 0)).deadline h.relj →
      set (set (set loads (3 * i) cost) (3 * i + 1) due) (3 * i + 2) (figures_at figures (get_or places i 0)).period ≡ stored b 0 (numbers_of (charged_to (i + 1)))
  unfolding charged_in
  charge_step i b l room e p q =
      rw (e, p, q)
      (put_numbers b (charged_to i) (charged_in h cache (figures_at figures (get_or places i 0))) (to_length i (omega arith)) room
      ∙ ap (λ (ls : List Load). stored b 0 (numbers_of ls)) (to_more i l))

-- ---- the loads of a server

module _ (h : Header) (cache : ℕ) where
  pub charged_sound : (f : Figures) → Member h f → Sound (charged_in h cache f)
  unfolding charged_in effective_cost effective_deadline
  charged_sound f m = record {
    some = omega (arith, m.some);
    due = omega (arith, m.early);
    constrained = omega (arith, m.constrained);
  }

  pub charged_small : Overheads h → cache < 2 ^ 16 → (f : Figures) → Member h f → Small (charged_in h cache f)
  unfolding charged_in effective_cost
  charged_small o c f m = record {
    cost_small = omega (arith, m.meets, m.constrained, o.release, o.switch);
    period_small = omega (arith, m.short);
  }

  pub charged_period : (P : ℕ → Type 0) (f : Figures) → P f.period → P (charged_in h cache f).period
  unfolding charged_in
  charged_period P f p = p

-- the largest of such cache costs has four digits at most
pub cache_small : (ms : List Figures) → Every SmallCost ms → cache_of ms < 2 ^ 16
unfolding cache_of
cache_small [] e = omega arith
cache_small (f ∷ ms) e = omega (arith, e.0, cache_small ms e.1)

-- with a member more it is the larger of both
pub cache_more : (ms : List Figures) (f : Figures) → cache_of (ms ++ (f ∷ [])) ≡ max (cache_of ms) f.cache
unfolding cache_of
cache_more [] f = omega arith
cache_more (g ∷ ms) f = omega (arith, cache_more ms f)

-- no member's is larger
pub cache_most : (ms : List Figures) → Every (λ (f : Figures). f.cache ≤ cache_of ms) ms
unfolding cache_of
cache_most ms = upward ms (le_refl (cache_of ms))
  where
    upward : (fs : List Figures) → cache_of fs ≤ cache_of ms → Every (λ (f : Figures). f.cache ≤ cache_of ms) fs
    upward [] h = tt
    upward (f ∷ fs) h = (omega arith, upward fs (omega arith))

-- a task alone is charged with its own
pub cache_alone : (f : Figures) → cache_of (f ∷ []) ≡ f.cache
unfolding cache_of
cache_alone f = omega arith

pub loads_alone : (h : Header) (f : Figures) → server_loads h (f ∷ []) ≡ charged_in h f.cache f ∷ []
unfolding server_loads
loads_alone h f = ap (λ (cache : ℕ). charged_in h cache f ∷ []) (cache_alone f)

module _ (h : Header) (ms : List Figures) where
  -- as many as the members
  pub loads_many : length (server_loads h ms) ≡ length ms
  unfolding server_loads
  loads_many = length-map ms (charged_in h (cache_of ms))

  pub loads_sound : Every (Member h) ms → Every Sound (server_loads h ms)
  unfolding server_loads
  loads_sound e = every_map (Member h) Sound (charged_in h (cache_of ms)) ms (charged_sound h (cache_of ms)) e

  pub loads_small : Overheads h → Every SmallCost ms → Every (Member h) ms → Every Small (server_loads h ms)
  unfolding server_loads
  loads_small o costs e = every_map (Member h) Small (charged_in h (cache_of ms)) ms (charged_small h (cache_of ms) o (cache_small ms costs)) e

  -- what the members' periods have, the loads' have
  pub loads_period : (P : ℕ → Type 0) → Every (λ (f : Figures). P f.period) ms → Every (λ (l : Load). P l.period) (server_loads h ms)
  unfolding server_loads
  loads_period P e =
      every_map (λ (f : Figures). P f.period) (λ (l : Load). P l.period) (charged_in h (cache_of ms)) ms (charged_period h (cache_of ms) P) e

  -- the entry loss is at most twice four digits
  pub loss_small : Overheads h → Every SmallCost ms → server_loss h ms < 2 ^ 17
  unfolding server_loss entry_loss
  loss_small o costs = omega (arith, o.delay, cache_small ms costs)

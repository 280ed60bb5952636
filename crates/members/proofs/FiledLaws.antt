-- The figures of a file, and the members at some places among them: what holds of all holds of those.
-- Assumes nothing.
use Prim.Native.Nat.{ℕ, zero, suc, ◌+◌, ◌*◌, ◌≤◌, ◌<◌, ◌∣◌, suc-le-suc}
use native.Mathlib.Omega.{arith}
use native.Mathlib.Nat.{le_of_suc-le-suc}
use native.Mathlib.Decide.{dec_lt}
use mathlib.Core.Path.{◌≡◌, refl, sym, ap, ap₂, ◌∙◌}
use mathlib.Core.Bool.{Bool, true, false}
use mathlib.Core.List.{List, [], ◌∷◌, ◌++◌, map}
use lib.Dec.{eqb}
use lib.ListN.{length, get_or, get_or-append}
use lib.Seq.{get_or-append_seam}
use Rattle.demand.specs.Load.{Every, each}
use Rattle.demand.proofs.Demand.{each_length, every_first, every_at}
use Rattle.tasks.specs.declared.set.Header.{Header}
use Rattle.places.specs.Places.{keep, places_in, chosen}
use Rattle.places.proofs.PlacesLaws.{places_read, places_below}
use Rattle.loads.specs.Charge.{Member, SmallCost}
use Rattle.loads.specs.Figures.{Figures, figures_at, figures_to, members_at}
use Rattle.members.specs.Server.{Filed}

-- the first tasks of a file are a file
pub filed_first : {h : Header} {figures : List ℕ} {n H : ℕ} (i : ℕ) → i ≤ n → Filed h figures n H → Filed h figures i H
filed_first {h} {figures} {n} {H} i le f = record {
  there = omega (arith, f.there);
  few = omega (arith, f.few);
  members = every_first (figures_at figures) (Member h) n le f.members;
  costs = every_first (figures_at figures) SmallCost n le f.costs;
  slot = f.slot;
  some = f.some;
  short = f.short;
  of_slot = f.of_slot;
  of_periods = every_first (figures_at figures) (λ (l : Figures). l.period ∣ H) n le f.of_periods;
}

-- these places are all among the first n
abbrev pub Below : ℕ → List ℕ → Type 0
Below n places = (i : ℕ) → i < length places → get_or places i 0 < n

-- what holds of the first n holds of those at such places
pub every_placed : (P : Figures → Type 0) (figures : List ℕ) (n : ℕ) (places : List ℕ) → Every P (figures_to figures n) → Below n places →
    Every P (members_at figures places)
every_placed P figures n [] e b = tt
every_placed P figures n (p ∷ places) e b =
    (every_at (figures_at figures) P n (b 0 (omega arith)) e, every_placed P figures n places e (λ i h. b (suc i) (suc-le-suc h)))

-- and what holds of those holds of the one at place i
pub placed_at : (P : Figures → Type 0) (figures places : List ℕ) (i : ℕ) → i < length places → Every P (members_at figures places) →
    P (figures_at figures (get_or places i 0))
placed_at P figures [] i h e = absurd (omega arith)
placed_at P figures (p ∷ places) zero h e = e.0
placed_at P figures (p ∷ places) (suc i) h e = placed_at P figures places i (le_of_suc-le-suc h) e.1

-- what holds of all holds of those of a server
pub every_chosen : (P : Figures → Type 0) (ls : List Figures) (placement : List ℕ) (q : ℕ) → Every P ls → Every P (chosen ls placement q)
unfolding chosen
every_chosen P [] placement q e = tt
every_chosen P (l ∷ ls) [] q e = tt
every_chosen P (l ∷ ls) (a ∷ placement) q e = kept (eqb a q) (every_chosen P ls placement q e.1)
  where
    kept : (b : Bool) → Every P (chosen ls placement q) → Every P (keep b l (chosen ls placement q))
    kept true rest = (e.0, rest)
    kept false rest = rest

-- task i of the first n
pub figures_at_lem : (figures : List ℕ) (n i : ℕ) (d : Figures) → i < n → get_or (figures_to figures n) i d ≡ figures_at figures i
unfolding each
figures_at_lem figures zero i d h = absurd (omega arith)
figures_at_lem figures (suc n) i d h =
    elim (dec_lt i n) [
      | yes before ↦ get_or-append (figures_to figures n) (figures_at figures n ∷ []) d i (omega (arith, each_length (figures_at figures) n)) ∙ figures_at_lem figures n i d before
      | no past ↦
          let here : i ≡ n = omega (arith, past, h) in
          ap (λ (k : ℕ). get_or (figures_to figures n ++ (figures_at figures n ∷ [])) k d) (here ∙ sym (each_length (figures_at figures) n))
          ∙ get_or-append_seam (figures_to figures n) (figures_at figures n) [] d
          ∙ ap (figures_at figures) (sym here)
    ]

map_below : {A : Type 0} (f g : ℕ → A) (n : ℕ) (places : List ℕ) → ((i : ℕ) → i < n → f i ≡ g i) → Below n places → map f places ≡ map g places
map_below f g n [] e b = refl
map_below f g n (p ∷ places) e b = ap₂ ◌∷◌ (e p (b 0 (omega arith))) (map_below f g n places e (λ i h. b (suc i) (suc-le-suc h)))

-- the members at the places of a server are those chosen for it
pub placed_chosen : (figures : List ℕ) (n : ℕ) (placement : List ℕ) (q : ℕ) → length placement ≤ n →
    members_at figures (places_in placement q) ≡ chosen (figures_to figures n) placement q
placed_chosen figures n placement q h =
    map_below (figures_at figures) (λ (i : ℕ). get_or (figures_to figures n) i none) n (places_in placement q) (λ i l. sym (figures_at_lem figures n i none l)) (λ i l. omega (arith, places_below placement q i l)) ∙
    places_read none (figures_to figures n) placement q (omega (arith, each_length (figures_at figures) n))
  where
    none : Figures
    none = record { cost = 0; deadline = 0; period = 0; cache = 0 }

module _ {h : Header} {figures : List ℕ} {n H : ℕ} (f : Filed h figures n H) where
  -- the members at such places may be charged, their cache costs have four digits at most, and their periods divide H
  pub placed_members : (places : List ℕ) → Below n places → Every (Member h) (members_at figures places)
  placed_members places b = every_placed (Member h) figures n places f.members b

  pub placed_costs : (places : List ℕ) → Below n places → Every SmallCost (members_at figures places)
  placed_costs places b = every_placed SmallCost figures n places f.costs b

  pub placed_periods : (places : List ℕ) → Below n places → Every (λ (l : Figures). l.period ∣ H) (members_at figures places)
  placed_periods places b = every_placed (λ (l : Figures). l.period ∣ H) figures n places f.of_periods b

-- the last task of a file has its figures there, and may be charged
pub filed_last : {h : Header} {figures : List ℕ} {H : ℕ} (i : ℕ) → Filed h figures (i + 1) H → (4 * i + 4 ≤ length figures) × Member h (figures_at figures i)
filed_last {h} {figures} i file = (omega (arith, file.there), every_at (figures_at figures) (Member h) (i + 1) (omega arith) file.members)

-- A server's members at their places among a file's tasks, as the code finds them: they may be charged as a server, and whether they
-- fit is the test that is asked with no entry loss.
use Prim.Native.Nat.{ℕ, zero, suc, ◌+◌, ◌≤◌, ◌<◌}
use native.Mathlib.Omega.{arith}
use mathlib.Core.Path.{◌≡◌, refl, sym, ap, ap₂, subst, ◌∙◌}
use mathlib.Core.Bool.{Bool, true, false}
use mathlib.Core.Logic.{◌⊎◌, inl, inr}
use mathlib.Core.List.{List, [], ◌∷◌, ◌++◌, map, map-append}
use lib.Dec.{eqb}
use lib.ListN.{length, get_or, take, set, length-append, get_or-append}
use lib.Seq.{take-suc, take_at, length-take-le, get_or-append_seam}
use Rattle.laws.proofs.Orders.{le_or_lt}
use Rattle.laws.proofs.Tests.{same_test}
use Rattle.digits.specs.Stored.{stored}
use Rattle.digits.proofs.Stored.{stored_byte, stored_length}
use Rattle.demand.specs.Load.{Every, each}
use Rattle.demand.specs.Lawful.{Lawful}
use Rattle.demand.specs.Passes.{Passes}
use Rattle.demand.proofs.Demand.{each_length, every_snoc, every_front, every_last}
use Rattle.demand.proofs.Supply.{supply_all}
use Rattle.verdict.specs.Verdict.{passing}
use Rattle.verdict.proofs.Verdict.{passing_passes, passes_passing}
use Rattle.tasks.specs.declared.set.Header.{Header}
use Rattle.tasks.specs.Set.{most_tasks}
use Rattle.places.specs.Places.{keep, places_from, places_in, chosen}
use Rattle.places.proofs.PlacesLaws.{in_more, places_more, places_few, places_below}
use Rattle.loads.specs.Charge.{cache_of, server_loss, Member}
use Rattle.loads.specs.Figures.{Figures, figures_at, figures_to, members_at}
use Rattle.members.specs.Server.{Board, SoundBoard, server_demand, server_horizon, fits, passes_with, Filed}
use Rattle.members.proofs.ServerLaws.{server_lawful}
use Rattle.members.proofs.FiledLaws.{Below, every_chosen}
use Rattle.served.specs.Served.{Served}
use Rattle.served.proofs.ServedLaws.{filed_served}

-- ---- the places of a server's tasks

-- what is kept or left out, of each place its figures
keep_figures : (figures : List ℕ) (b : Bool) (i : ℕ) → map (figures_at figures) (keep b i []) ≡ keep b (figures_at figures i) []
keep_figures figures true i = refl
keep_figures figures false i = refl

-- the figures at the places of a server's tasks are its members
places_members : (figures placement : List ℕ) (n q : ℕ) → n ≤ length placement →
    members_at figures (places_in (take n placement) q) ≡ chosen (figures_to figures n) (take n placement) q
unfolding places_from chosen each
places_members figures placement zero q h = refl
places_members figures placement (suc n) q h =
    ap (λ (p : List ℕ). members_at figures (places_in p q)) next ∙
    ap (map (figures_at figures)) (places_more (take n placement) a q) ∙
    map-append (figures_at figures) (places_in (take n placement) q) (keep (eqb a q) (length (take n placement)) []) ∙
    ap₂ (λ (ks js : List Figures). ks ++ js)
    (places_members figures placement n q (omega arith))
    (keep_figures figures (eqb a q) (length (take n placement)) ∙ ap (λ (k : ℕ). keep (eqb a q) (figures_at figures k) []) as_long) ∙
    sym (in_more (figures_to figures n) (take n placement) (figures_at figures n) a q (as_long ∙ sym (each_length (figures_at figures) n))) ∙
    ap (λ (p : List ℕ). chosen (figures_to figures n ++ (figures_at figures n ∷ [])) p q) (sym next)
  where
    a : ℕ
    a = get_or placement n 0

    as_long : length (take n placement) ≡ n
    as_long = length-take-le n placement (omega arith)

    next : take (suc n) placement ≡ take n placement ++ (a ∷ [])
    next = take-suc placement n 0 h

-- the first n of `places` are those of these members among the first m tasks of a file
pub record Standing (figures : List ℕ) (m : ℕ) (members : List Figures) (places : List ℕ) (n : ℕ) : Type 0 where
  pub there : n ≤ length places
  pub few : n ≤ most_tasks
  pub below : Below m (take n places)
  pub is : members_at figures (take n places) ≡ members

-- what stands in front of a slice where it is stored
stored_front : (b x : List ℕ) → take (length x) (stored b 0 x) ≡ x
unfolding stored
stored_front b x = take_at x _ (length x) refl

module _ (figures placement b : List ℕ) (n q : ℕ) (h : n ≤ length placement) (room : length b ≡ most_tasks) where
  abbrev found : List ℕ
  found = places_in (take n placement) q

  as_few : length found ≤ n
  as_few = omega (arith, places_few (take n placement) q, length-take-le n placement h)

  found_below : Below n found
  found_below j g = omega (arith, places_below (take n placement) q j g, length-take-le n placement h)

  module _ {places : List ℕ} {k : ℕ} (e : k ≡ length found) (s : places ≡ stored b 0 found) where
    -- the places of a server's tasks
    pub standing_found : n ≤ most_tasks → Standing figures n (chosen (figures_to figures n) (take n placement) q) places k
    standing_found few =
        record {
          there = omega (arith, as_few, long);
          few = omega (arith, as_few);
          below = subst (Below n) (sym front) found_below;
          is = ap (members_at figures) front ∙ places_members figures placement n q h;
        }
      where
        long : length places ≡ most_tasks
        long = ap length s ∙ stored_length b 0 found (omega (arith, as_few)) ∙ room

        front : take k places ≡ found
        front = ap₂ take e s ∙ stored_front b found

    -- there is room for one more
    pub place_free : n < most_tasks → k < most_tasks
    place_free few = omega (arith, as_few)

    -- with task n's own place behind them
    pub standing_joined : n < most_tasks →
        Standing figures (n + 1) (chosen (figures_to figures n) (take n placement) q ++ (figures_at figures n ∷ [])) (set places k n) (k + 1)
    standing_joined few =
        record {
          there = omega (arith, as_few, long);
          few = omega (arith, as_few);
          below = subst (Below (n + 1)) (sym front) below;
          is =
              ap (members_at figures) front ∙ map-append (figures_at figures) found (n ∷ []) ∙
              ap (λ (ks : List Figures). ks ++ (figures_at figures n ∷ [])) (places_members figures placement n q h);
        }
      where
        joined : List ℕ
        joined = found ++ (n ∷ [])

        one : length joined ≡ length found + 1
        one = length-append found (n ∷ [])

        set_is : set places k n ≡ stored b 0 joined
        set_is =
            let behind : k ≡ 0 + length found = omega arith in
            ap₂ (λ (p : List ℕ) (j : ℕ). set p j n) s behind ∙ stored_byte b 0 found n (omega (arith, as_few))

        long : length (set places k n) ≡ most_tasks
        long = ap length set_is ∙ stored_length b 0 joined (omega (arith, as_few, one)) ∙ room

        front : take (k + 1) (set places k n) ≡ joined
        front =
            let all : k + 1 ≡ length joined = omega (arith, one, e) in
            ap₂ take all set_is ∙ stored_front b joined

        below : Below (n + 1) joined
        below j g = by (le_or_lt (length found) j)
          where
            by : (length found ≤ j) ⊎ (j < length found) → get_or joined j 0 < n + 1
            by (inl past) =
                let here : j ≡ length found = omega (arith, one) in
                rw (here, get_or-append_seam found n [] 0) (omega arith)
            by (inr old) = rw (get_or-append found (n ∷ []) 0 j old) (omega (arith, found_below j old))

-- a task alone
pub standing_alone : (figures : List ℕ) (i : ℕ) → Standing figures (i + 1) (figures_at figures i ∷ []) (i ∷ []) 1
standing_alone figures i =
    record {
      there = omega arith;
      few = omega arith;
      below = below;
      is = refl;
    }
  where
    below : Below (i + 1) (i ∷ [])
    below zero h = omega arith
    below (suc j) h = absurd (omega arith)

-- they may be charged as a server, at the largest cache cost among them
pub standing_served : {h : Header} {figures : List ℕ} {m H : ℕ} {members : List Figures} {places : List ℕ} {n : ℕ} (cache : ℕ) →
    Filed h figures m H → Standing figures m members places n → cache ≡ cache_of members → Served h cache figures places n H
standing_served {places = places} {n = n} cache file w cost =
    filed_served file places n cache w.there w.few w.below (cost ∙ ap cache_of (sym w.is))

-- ---- a whole processor has no entry loss

other_loss : (g : ℕ → ℕ) (S L L' : ℕ) → Passes g S L S → Passes g S L' S
other_loss g S L L' p t h = omega (arith, p t h, supply_all S L S t refl, supply_all S L' S t refl)

same_whole : (g : ℕ → ℕ) (H S L L' : ℕ) → Lawful g H → 1 ≤ S → passing g H S L S ≡ passing g H S L' S
same_whole g H S L L' lawful some =
    same_test (passing g H S L S) (passing g H S L' S)
    (λ e. passes_passing g H S L' S (other_loss g S L L' (passing_passes g H S L S lawful some e)))
    (λ e. passes_passing g H S L S (other_loss g S L' L (passing_passes g H S L' S lawful some e)))

-- so the test of members that is asked with none is whether they fit
pub fits_whole : (b : Board) (members : List Figures) → Every (Member b.header) members → SoundBoard b →
    passing (server_demand b members) (server_horizon b members) b.header.slot 0 b.header.slot ≡ fits b members
unfolding fits passes_with
fits_whole b members ok sound =
    same_whole (server_demand b members) (server_horizon b members) b.header.slot 0 (server_loss b.header members) (server_lawful b members ok sound) sound.slot

-- ---- a server with a task more

-- what holds of all tasks with the task holds of the members of a server with it
pub every_with : (P : Figures → Type 0) (done : List Figures) (placement : List ℕ) (l : Figures) → Every P (done ++ (l ∷ [])) →
    (q : ℕ) → Every P (chosen done placement q ++ (l ∷ []))
every_with P done placement l all q =
    every_snoc P (chosen done placement q) l (every_chosen P done placement q (every_front P done l all)) (every_last P done l all)

-- What every placement keeps as tasks come, for any step that takes the task or opens a server; and that each server asks for something.
use Prim.Native.Nat.{ℕ, suc, ◌+◌, ◌≤◌, ◌<◌}
use native.Mathlib.Omega.{arith}
use native.Mathlib.Decide.{dec_lt, dec_le, ℕ_discrete}
use mathlib.Core.Path.{◌≡◌, refl, sym, ap, subst, ◌∙◌}
use mathlib.Core.Logic.{⊎_elim}
use mathlib.Core.Bool.{Bool, true}
use mathlib.Core.List.{List, [], ◌∷◌, ◌++◌}
use lib.ListN.{length, get_or, length-append, get_or-append}
use lib.Seq.{get_or-append_seam}
use borrow.Author.Tests.{ne_eqb}
use Rattle.demand.specs.Load.{Load, Sound, Every}
use Rattle.loads.specs.Figures.{Figures}
use Rattle.demand.specs.Demand.{demand}
use Rattle.demand.proofs.Claims.{loads_lawful}
use Rattle.masking.proofs.MaskedLaws.{masked_above}
use Rattle.tasks.specs.Set.{masked_ticks}
use Rattle.places.specs.Places.{keep, chosen}
use Rattle.places.proofs.PlacesLaws.{in_joined, in_apart, in_some}
use Rattle.loads.specs.Charge.{Member, server_loads}
use Rattle.loads.proofs.ChargeLaws.{loads_sound, loads_many}
use Rattle.members.specs.Server.{Board, SoundBoard, server_demand, fits}
use Rattle.members.proofs.FiledLaws.{every_chosen}
use Rattle.servers.specs.Placement.{servers_in}
use Rattle.taking.specs.Takes.{takes}
use Rattle.servers.specs.Fitting.{Parted, PassesWhole, Fitting}
use Rattle.servers.specs.Claims.{TakesOrNew}
use Rattle.members.proofs.ServerLaws.{fits_passes}
use Rattle.taking.proofs.ChargedLaws.{every_with}
use Rattle.servers.proofs.PlacementLaws.{servers_more}

-- a server past the last has no task
pub in_none : (figures : List Figures) (placement : List ℕ) (q : ℕ) → servers_in placement < q → chosen figures placement q ≡ []
unfolding chosen servers_in
in_none [] placement q h = refl
in_none (l ∷ figures) [] q h = refl
in_none (l ∷ figures) (a ∷ placement) q h =
    ap (λ (b : Bool). keep b l (chosen figures placement q)) (ne_eqb a q (omega arith)) ∙ in_none figures placement q (omega arith)

-- q is a server of the placement, or the next
abbrev pub InRange : (placement : List ℕ) (q : ℕ) → Type 0
InRange placement q = (1 ≤ q) × (q ≤ suc (servers_in placement))

-- a server that takes the task, or a new one, is
pub in_range : (b : Board) (done : List Figures) (placement : List ℕ) (l : Figures) (q : ℕ) → TakesOrNew b done placement l q → InRange placement q
in_range b done placement l q o =
    ⊎_elim (λ w. (w.0, omega (arith, w.1))) (λ (e : q ≡ suc (servers_in placement)). (omega arith, omega arith)) o

-- ---- one server for each task, and none empty

module _ (placement : List ℕ) (q : ℕ) where
  -- the places of a placement with one task more
  at_old : (i : ℕ) → i < length placement → get_or (placement ++ (q ∷ [])) i 0 ≡ get_or placement i 0
  at_old i h = get_or-append placement (q ∷ []) 0 i h

  at_new : get_or (placement ++ (q ∷ [])) (length placement) 0 ≡ q
  at_new = get_or-append_seam placement q [] 0

  longer : length (placement ++ (q ∷ [])) ≡ length placement + 1
  longer = length-append placement (q ∷ [])

  module _ (figures : List Figures) (l : Figures) (p : Parted figures placement) (o : InRange placement q) where
    -- every server named is there
    still_there : (i : ℕ) → i < length (placement ++ (q ∷ [])) →
        (1 ≤ get_or (placement ++ (q ∷ [])) i 0) × (get_or (placement ++ (q ∷ [])) i 0 ≤ servers_in (placement ++ (q ∷ [])))
    still_there i h = by (dec_lt i (length placement))
      where
        by : Dec (i < length placement) → (1 ≤ get_or (placement ++ (q ∷ [])) i 0) × (get_or (placement ++ (q ∷ [])) i 0 ≤ servers_in (placement ++ (q ∷ [])))
        by (yes g) =
            let t = p.there i g in
            rw (at_old i g, servers_more placement q) (t.0, omega (arith, t.1))
        by (no g) =
            let e : i ≡ length placement = omega (arith, longer) in
            rw (e, at_new, servers_more placement q) (o.0, omega arith)

    -- and none is empty
    still_none_empty : (x : ℕ) → 1 ≤ x → x ≤ servers_in (placement ++ (q ∷ [])) →
        (i : ℕ) × (i < length (placement ++ (q ∷ []))) × (get_or (placement ++ (q ∷ [])) i 0 ≡ x)
    still_none_empty x some h = by (dec_le x (servers_in placement))
      where
        by : Dec (x ≤ servers_in placement) → (i : ℕ) × (i < length (placement ++ (q ∷ []))) × (get_or (placement ++ (q ∷ [])) i 0 ≡ x)
        by (yes g) =
            let t = p.none_empty x some g in
            (t.0, omega (arith, t.1, longer), at_old t.0 t.1 ∙ t.2)
        by (no g) = (length placement, omega (arith, longer), at_new ∙ omega (arith, servers_more placement q, o.1))

    -- one task more, in a server that there is or in a new one
    pub parted_more : Parted (figures ++ (l ∷ [])) (placement ++ (q ∷ []))
    parted_more =
        record {
          one_each = longer ∙ omega (arith, p.one_each, length-append figures (l ∷ []));
          there = still_there;
          none_empty = still_none_empty;
        }

-- no task, no server
parted_none : Parted [] []
unfolding servers_in
parted_none = record { one_each = refl; there = λ i h. absurd (omega arith); none_empty = λ q a b. absurd (omega arith) }

pub fitting_none : (b : Board) → Fitting b [] []
unfolding servers_in
fitting_none b = record { parted = parted_none; passes = λ q a b. absurd (omega arith) }

-- there are never more servers than tasks
pub few_more : (placement : List ℕ) (q : ℕ) → InRange placement q → servers_in placement ≤ length placement →
    servers_in (placement ++ (q ∷ [])) ≤ length (placement ++ (q ∷ []))
few_more placement q o h = omega (arith, servers_more placement q, length-append placement (q ∷ []), o.1)

-- ---- every server passes

module _ (b : Board) (done : List Figures) (placement : List ℕ) (l : Figures) (q : ℕ) (sound : SoundBoard b)
    (members : Every (Member b.header) (done ++ (l ∷ []))) (alone : fits b (l ∷ []) ≡ true) where
  -- the server that the task joins fits
  joined_fits : TakesOrNew b done placement l q → fits b (chosen done placement q ++ (l ∷ [])) ≡ true
  unfolding takes
  joined_fits o = ⊎_elim (λ w. w.2) new o
    where
      new : q ≡ suc (servers_in placement) → fits b (chosen done placement q ++ (l ∷ [])) ≡ true
      new e = ap (λ (ks : List Figures). fits b (ks ++ (l ∷ []))) (in_none done placement q (omega arith)) ∙ alone

  -- every server passes still
  still_pass : Fitting b done placement → TakesOrNew b done placement l q → (x : ℕ) → 1 ≤ x → x ≤ servers_in (placement ++ (q ∷ [])) →
      PassesWhole b (chosen (done ++ (l ∷ [])) (placement ++ (q ∷ [])) x)
  still_pass w o x first there = by (ℕ_discrete q x)
    where
      by : Dec (q ≡ x) → PassesWhole b (chosen (done ++ (l ∷ [])) (placement ++ (q ∷ [])) x)
      by (yes e) =
          subst (PassesWhole b)
          (sym (in_joined done placement l q q w.parted.one_each refl) ∙ ap (chosen (done ++ (l ∷ [])) (placement ++ (q ∷ []))) e)
          (fits_passes b (chosen done placement q ++ (l ∷ [])) (every_with (Member b.header) done placement l members q) sound (joined_fits o))
      by (no n) =
          subst (PassesWhole b) (sym (in_apart done placement l q x w.parted.one_each n))
          (w.passes x first (omega (arith, there, n, servers_more placement q, (in_range b done placement l q o).1)))

  -- a fitting placement with one task more
  pub fitting_more : Fitting b done placement → TakesOrNew b done placement l q → Fitting b (done ++ (l ∷ [])) (placement ++ (q ∷ []))
  fitting_more w o =
      record {
        parted = parted_more placement q done l w.parted (in_range b done placement l q o);
        passes = still_pass w o;
      }

-- ---- every server asks for something

-- sound loads, at least one, demand something at some length
some_demand : (ls : List Load) → Every Sound ls → 1 ≤ length ls → (t : ℕ) × (1 ≤ demand ls t)
some_demand [] e h = absurd (omega arith)
some_demand (l ∷ ls) e h = (l.deadline, loads_lawful.some l ls e.0)

-- so does each server, since none is empty
pub fitting_asks : (b : Board) (figures : List Figures) (placement : List ℕ) (q : ℕ) → Every (Member b.header) figures → Fitting b figures placement →
    1 ≤ q → q ≤ servers_in placement → (t : ℕ) × (1 ≤ server_demand b (chosen figures placement q) t)
fitting_asks b figures placement q members w first there =
    let ms = chosen figures placement q in
    let f = w.parted.none_empty q first there in
    let some = in_some figures placement f.0 q w.parted.one_each f.1 f.2 in
    let asks = some_demand (server_loads b.header ms) (loads_sound b.header ms (every_chosen (Member b.header) figures placement q members)) (omega (arith, some, loads_many b.header ms)) in
    (asks.0, omega (arith, asks.1, masked_above (masked_ticks b.header) (server_loads b.header ms) asks.0))

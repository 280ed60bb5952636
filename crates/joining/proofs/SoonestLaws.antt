-- A server's smallest deadline: one task more, and a server that B alone keeps a task out of.
-- Assumes nothing.
use Prim.Native.Nat.{ℕ, ◌≤◌, ◌<◌, min, max}
use native.Mathlib.Omega.{arith}
use mathlib.Core.Path.{◌≡◌, refl, sym, ap, ap₂, ◌∙◌}
use mathlib.Core.Bool.{Bool, true, false, ◌&&◌}
use mathlib.Core.List.{List, [], ◌∷◌, ◌++◌, map, map-append}
use borrow.Author.Tests.{le-ltb, lt-ltb, leb-true, ltb-true}
use lib.Dec.{leb, ltb}
use Rattle.laws.proofs.Tests.{and_parts}
use Rattle.laws.proofs.Choices.{cond_eqb, cond_eqb_not}
use Rattle.demand.specs.Load.{Load, Sound, Every}
use Rattle.demand.proofs.Demand.{every_front}
use Rattle.masking.specs.Masking.{soonest_of, soonest}
use Rattle.masking.proofs.EndsLaws.{soonest_some, soonest_latest, soonest_next, latest_next}
use Rattle.tasks.specs.declared.set.Header.{Header}
use Rattle.tasks.specs.Set.{masked_ticks}
use Rattle.places.specs.Places.{chosen}
use Rattle.loads.specs.Figures.{Figures}
use Rattle.loads.specs.Charge.{cache_of, charged_in, server_loads, Member}
use Rattle.loads.proofs.ChargeLaws.{charged_sound, every_map}
use Rattle.members.specs.Server.{Board, SoundBoard}
use Rattle.members.proofs.ServerLaws.{masked_fails}
use Rattle.shares.specs.Soonest.{soonest_in}
use Rattle.taking.specs.Takes.{takes}
use Rattle.taking.proofs.ChargedLaws.{every_with}
use Rattle.joining.specs.Soonest.{soonest_with, masked_out}

-- ---- one deadline more

module _ (s d : ℕ) where
  pub with_none : s ≡ 0 → soonest_with s d ≡ d
  unfolding soonest_with
  with_none e = cond_eqb d (min s d) e

  pub with_some : (s ≡ 0 → ⊥) → soonest_with s d ≡ min s d
  unfolding soonest_with
  with_some n = cond_eqb_not d (min s d) n

-- of sound loads
soonest_joined : (ls : List Load) (l : Load) → Every Sound ls → soonest (ls ++ (l ∷ [])) ≡ soonest_with (soonest ls) l.deadline
unfolding soonest soonest_of
soonest_joined [] l e = sym (with_none 0 l.deadline refl)
soonest_joined (k ∷ ls) l e =
    soonest_next k.deadline ls l ∙
    sym (with_some (soonest_of k.deadline ls) l.deadline (λ (z : soonest_of k.deadline ls ≡ 0). absurd (omega (arith, soonest_some k ls e))))

-- ---- deadlines do not go by the cache cost

of_any : (h : Header) (c e d : ℕ) (ms : List Figures) → soonest_of d (map (charged_in h c) ms) ≡ soonest_of d (map (charged_in h e) ms)
unfolding soonest_of charged_in
of_any h c e d [] = refl
of_any h c e d (f ∷ ms) = ap (min d) (of_any h c e (charged_in h c f).deadline ms)

soonest_any : (h : Header) (c e : ℕ) (ms : List Figures) → soonest (map (charged_in h c) ms) ≡ soonest (map (charged_in h e) ms)
unfolding soonest charged_in
soonest_any h c e [] = refl
soonest_any h c e (f ∷ ms) = of_any h c e _ ms

due_any : (h : Header) (c : ℕ) (f : Figures) → (charged_in h c f).deadline ≡ soonest_in h (f ∷ [])
unfolding soonest soonest_of server_loads charged_in
due_any h c f = refl

-- ---- a server with a task more

module _ (h : Header) (ms : List Figures) (f : Figures) where
  -- the loads of the others, and the task's
  abbrev others : List Load
  others = map (charged_in h (cache_of (ms ++ (f ∷ [])))) ms

  abbrev own : Load
  own = charged_in h (cache_of (ms ++ (f ∷ []))) f

  loads_joined : server_loads h (ms ++ (f ∷ [])) ≡ others ++ (own ∷ [])
  unfolding server_loads
  loads_joined = map-append (charged_in h (cache_of (ms ++ (f ∷ [])))) ms (f ∷ [])

  others_sound : Every (Member h) ms → Every Sound others
  others_sound ok = every_map (Member h) Sound (charged_in h (cache_of (ms ++ (f ∷ [])))) ms (charged_sound h (cache_of (ms ++ (f ∷ [])))) ok

  others_soonest : soonest others ≡ soonest_in h ms
  unfolding server_loads
  others_soonest = soonest_any h (cache_of (ms ++ (f ∷ []))) (cache_of ms) ms

  pub soonest_more : Every (Member h) ms → soonest_in h (ms ++ (f ∷ [])) ≡ soonest_with (soonest_in h ms) (soonest_in h (f ∷ []))
  soonest_more ok =
      ap soonest loads_joined ∙ soonest_joined others own (others_sound ok) ∙
      ap₂ soonest_with others_soonest (due_any h (cache_of (ms ++ (f ∷ []))) f)

-- ---- the test by B

last_false : (a b : Bool) → (a && false && b) ≡ false
last_false true b = refl
last_false false b = refl

module _ (B d s : ℕ) where
  -- what it says
  out_says : masked_out B d s ≡ true → (1 ≤ s) × (min d s < max d s) × (min d s ≤ B)
  unfolding masked_out
  out_says e =
      let w = and_parts (ltb 0 s && ltb (min d s) (max d s)) (leb (min d s) B) e in
      let v = and_parts (ltb 0 s) (ltb (min d s) (max d s)) w.0 in
      (ltb-true 0 s v.0, ltb-true (min d s) (max d s) v.1, leb-true (min d s) B w.1)

  -- it rules out nothing where there is no member
  pub out_none : s ≡ 0 → masked_out B d s ≡ false
  unfolding masked_out
  out_none e = rw (le-ltb 0 s (omega arith))

  -- nor a task of the same deadline
  pub out_same : d ≡ s → masked_out B d s ≡ false
  unfolding masked_out
  out_same e = rw (le-ltb (min d s) (max d s) (omega arith)) (last_false (ltb 0 s) (leb (min d s) B))

  -- of two deadlines the smaller decides
  pub out_apart : {m : ℕ} → 1 ≤ s → min d s < max d s → m ≡ min d s → masked_out B d s ≡ leb m B
  unfolding masked_out
  out_apart some apart e = rw (lt-ltb 0 s some, lt-ltb (min d s) (max d s) apart) (ap (λ (k : ℕ). leb k B) (sym e))

-- ---- a server that B alone keeps the task out of does not take it

module _ (b : Board) (done : List Figures) (placement : List ℕ) (f : Figures) (q : ℕ) (sound : SoundBoard b)
    (members : Every (Member b.header) (done ++ (f ∷ []))) where
  pub kept_out : masked_out (masked_ticks b.header) (soonest_in b.header (f ∷ [])) (soonest_in b.header (chosen done placement q)) ≡ true → takes b done placement f q ≡ false
  unfolding takes
  kept_out out =
      masked_fails b (ms ++ (f ∷ [])) ok sound
      (rw (loads_joined b.header ms f) (omega (arith, from_is, latest_next ls k, soonest_latest ls, w.1)))
      (rw (loads_joined b.header ms f) (omega (arith, from_is, w.2)))
    where
      ms : List Figures
      ms = chosen done placement q

      ok : Every (Member b.header) (ms ++ (f ∷ []))
      ok = every_with (Member b.header) done placement f members q

      ls : List Load
      ls = others b.header ms f

      k : Load
      k = own b.header ms f

      w : (1 ≤ soonest ls) × (min k.deadline (soonest ls) < max k.deadline (soonest ls)) × (min k.deadline (soonest ls) ≤ masked_ticks b.header)
      w =
          out_says (masked_ticks b.header) k.deadline (soonest ls)
          (rw (due_any b.header (cache_of (ms ++ (f ∷ []))) f, others_soonest b.header ms f) out)

      from_is : soonest (ls ++ (k ∷ [])) ≡ min (soonest ls) k.deadline
      from_is =
          soonest_joined ls k (others_sound b.header ms f (every_front (Member b.header) ms f ok)) ∙
          with_some (soonest ls) k.deadline (λ (z : soonest ls ≡ 0). absurd (omega (arith, w.0)))

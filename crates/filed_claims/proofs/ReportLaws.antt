-- The smallest reserve with which a rising demand passes is the smallest by the report's own test.
-- Assumes nothing.
use Prim.Native.Nat.{ℕ, ◌≤◌, ◌<◌}
use mathlib.Core.Path.{◌≡◌}
use mathlib.Core.Logic.{⊎_elim}
use native.Mathlib.Omega.{arith}
use Rattle.demand.specs.Lawful.{Rising}
use Rattle.demand.specs.Supply.{Ring, Allowed}
use Rattle.demand.proofs.Supply.{supply_all}
use Rattle.demand.proofs.Claims.{fake_agrees}
use Rattle.verdict.specs.Reserve.{Smallest}
use Rattle.filed_claims.specs.Claims.{ReportSmallest}

-- an allowed reserve is at most the slot, and below it stands on the ring
allowed_most : {S L R : ℕ} → Allowed S L R → R ≤ S
allowed_most {S} {L} {R} a = ⊎_elim (λ (r : Ring S L R). omega (arith, r.parts)) (λ (e : R ≡ S). omega arith) a

allowed_ring : {S L R : ℕ} → Allowed S L R → R < S → Ring S L R
allowed_ring {S} {L} {R} a below = ⊎_elim (λ (r : Ring S L R). r) (λ (e : R ≡ S). absurd (omega arith)) a

pub by_report : (g : ℕ → ℕ) (S L R : ℕ) → Rising g → Smallest g S L R → ReportSmallest g S L R
by_report g S L R rising s = record {
  allowed = s.allowed;
  passes = record {
    ring = λ below. (fake_agrees g S L R rising (allowed_ring s.allowed below)).0 s.passes;
    whole = λ e t p. omega (arith, s.passes t p, supply_all S L R t e);
  };
  none_smaller = λ R' a below fake.
      let ring : Ring S L R' = allowed_ring a (omega (arith, allowed_most s.allowed, below)) in
      omega (arith, below, s.least R' a ((fake_agrees g S L R' rising ring).1 fake));
}

-- Laws of the first of several outcomes: which refuses, exactly when, and when none does.
-- Assumes nothing.
use Rattle.std.specs.Prelude.{Err, Ok}
use Prim.Native.Nat.{ℕ, zero, suc, ◌+◌, ◌-◌, ◌<◌}
use native.Mathlib.Omega.{arith}
use native.Mathlib.Decide.{ℕ_discrete}
use native.Mathlib.Nat.{add-zero, add-suc}
use mathlib.Core.Bool.{Bool, true, false}
use mathlib.Core.Path.{◌≡◌, refl, sym, subst, ◌∙◌}
use Rattle.laws.proofs.Tests.{clash}
use Rattle.refusals.specs.declared.Refusal.{Refusal}
use Rattle.refusals.specs.Refused.{Outcome}
use Rattle.refusals.specs.First.{first_of, when, till}

-- from Done as a refusal all follows
pub done_refused : {A : Type 0} {r : Refusal} → ◌≡◌ {A = Outcome} (Ok tt) (Err r) → A
done_refused e = clash (cc)

-- two refusals that are one outcome are the same
pub refused_same : {r s : Refusal} → ◌≡◌ {A = Outcome} (Err r) (Err s) → r ≡ s
refused_same e = cc

-- the first of two is done where both are
pub first_done : (a b : Outcome) → first_of a b ≡ Ok tt → (a ≡ Ok tt) × (b ≡ Ok tt)
first_done (Ok _) b e = (refl, e)
first_done (Err r) b e = done_refused (sym e)

-- nothing refuses behind it
pub first_none : (a : Outcome) → first_of a (Ok tt) ≡ a
first_none (Ok _) = refl
first_none (Err r) = refl

-- in what order several are taken two by two does not matter
pub first_assoc : (a b c : Outcome) → first_of (first_of a b) c ≡ first_of a (first_of b c)
first_assoc (Ok _) b c = refl
first_assoc (Err r) b c = refl

-- a row that gives nothing does not hold
pub when_done : (b : Bool) (r : Refusal) → when b r ≡ Ok tt → b ≡ false
when_done true r e = done_refused (sym e)
when_done false r e = refl

-- a row that refuses holds, and gives its own refusal
pub when_refused : (b : Bool) (r s : Refusal) → when b r ≡ Err s → (b ≡ true) × (s ≡ r)
when_refused true r s e = (refl, cc)
when_refused false r s e = done_refused e

-- one outcome more
pub till_suc : (out : ℕ → Outcome) (n : ℕ) → till out (suc n) ≡ first_of (till out n) (out (suc n))
unfolding till
till_suc out n = refl

module _ (out : ℕ → Outcome) where
  -- where the first n give nothing, each of them gives nothing
  pub till_done : (n : ℕ) → till out n ≡ Ok tt → (j : ℕ) → j < n → out (suc j) ≡ Ok tt
  unfolding till
  till_done zero e j h = absurd (omega arith)
  till_done (suc n) e j h =
      let p = first_done (till out n) (out (suc n)) e in
      elim (ℕ_discrete j n) [
        | yes same ↦ subst (λ (k : ℕ). out (suc k) ≡ Ok tt) (sym same) p.1
        | no other ↦ till_done n p.0 j (omega (arith, other))
      ]

  -- and the other way
  pub done_till : (n : ℕ) → ((j : ℕ) → j < n → out (suc j) ≡ Ok tt) → till out n ≡ Ok tt
  unfolding till
  done_till zero f = refl
  done_till (suc n) f = rw (done_till n (λ j h. f j (omega arith)), f n (omega arith))

  -- a refusal stays, whatever comes after it
  pub till_stays : (n m : ℕ) (r : Refusal) → till out n ≡ Err r → till out (n + m) ≡ Err r
  unfolding till
  till_stays n zero r e = rw add-zero e
  till_stays n (suc m) r e = rw (add-suc, till_stays n m r e)

  -- the first n give nothing and the next refuses: so do more of them
  pub stays : (n m : ℕ) (r : Refusal) → till out n ≡ Ok tt → out (suc n) ≡ Err r → n < m → till out m ≡ Err r
  unfolding till
  stays n m r clear e lt =
      let here : till out (suc n) ≡ Err r = rw (clear, e) in
      let k : suc n + (m - suc n) ≡ m = omega arith in
      subst (λ (k : ℕ). till out k ≡ Err r) k (till_stays (suc n) (m - suc n) r here)

  -- one of the first n refuses, and those before it give nothing
  pub record Found (n : ℕ) (r : Refusal) : Type 0 where
    pub before : ℕ
    pub within : before < n
    pub clear : till out before ≡ Ok tt
    pub refuses : out (suc before) ≡ Err r

  pub found : (n : ℕ) (r : Refusal) → till out n ≡ Err r → Found n r
  unfolding till
  found zero r e = done_refused e
  found (suc n) r e = by (till out n) refl e (found n r)
    where
      by : (o : Outcome) → till out n ≡ o → first_of o (out (suc n)) ≡ Err r → (till out n ≡ Err r → Found n r) → Found (suc n) r
      by (Ok _) p e' rest = record { before = n; within = omega arith; clear = p; refuses = e' }
      by (Err s) p e' rest =
          let f = rest (p ∙ e') in
          record { before = f.before; within = omega (arith, f.within); clear = f.clear; refuses = f.refuses }

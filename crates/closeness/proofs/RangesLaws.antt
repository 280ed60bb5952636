-- The least of two ranges of numbers: of the least of each, the one with the smaller value, and of equal values the first.
-- Assumes nothing.
use Prim.Native.Nat.{ℕ, ◌+◌, ◌-◌, ◌≤◌, ◌<◌}
use mathlib.Core.Path.{◌≡◌, sym, ◌∙◌}
use mathlib.Core.Bool.{Bool, true}
use mathlib.Core.Logic.{⊎_elim}
use native.Mathlib.Omega.{arith}
use Rattle.laws.proofs.Orders.{le_or_lt}
use Rattle.slack.specs.Least.{Least}
use Rattle.slack.proofs.LeastLaws.{LeastFrom}

-- the same least, of a property and a value that agree with these from the lower end to the bound
pub least_as : {p q : ℕ → Bool} {v w : ℕ → ℕ} {from n t : ℕ} (extra : ℕ) → ((x : ℕ) → from ≤ x → x ≤ n → p x ≡ q x) →
    ((x : ℕ) → from ≤ x → x ≤ n → v x + extra ≡ w x) → LeastFrom q w from n t → LeastFrom p v from n t
least_as {n = n} {t = t} extra same value l =
    record {
      begins = l.begins;
      within = l.within;
      has = same t l.begins l.within ∙ l.has;
      least = λ x a b e.
          omega (arith, value t l.begins l.within, value x a b, l.least x a b (sym (same x a b) ∙ e));
      first = λ x a b e.
          let inside : x ≤ n = omega (arith, l.within) in
          omega (arith, value t l.begins l.within, value x a inside, l.first x a b (sym (same x a inside) ∙ e));
    }

-- where none has p before the lower end, it is the least of all
pub least_all : {p : ℕ → Bool} {v : ℕ → ℕ} {from hi t : ℕ} → 1 ≤ from → ((x : ℕ) → x < from → p x ≡ true → ⊥) → LeastFrom p v from hi t → Least p v hi t
least_all {from = from} some none l =
    record {
      there = omega (arith, l.begins);
      within = l.within;
      has = l.has;
      least = λ x a b e. ⊎_elim (λ (k : from ≤ x). l.least x k b e) (λ (k : x < from). absurd (none x k e)) (le_or_lt from x);
      first = λ x a b e. ⊎_elim (λ (k : from ≤ x). l.first x k b e) (λ (k : x < from). absurd (none x k e)) (le_or_lt from x);
    }

module _ {p : ℕ → Bool} {v : ℕ → ℕ} {from hi : ℕ} where
  -- the least of the lower range, where none of the upper range has a smaller value
  pub least_near : {cut near : ℕ} → 1 ≤ cut → cut ≤ hi → LeastFrom p v from (cut - 1) near →
      ((x : ℕ) → cut ≤ x → x ≤ hi → p x ≡ true → v near ≤ v x) → LeastFrom p v from hi near
  least_near {cut} {near} begun within l upper =
      record {
        begins = l.begins;
        within = omega (arith, l.within);
        has = l.has;
        least = λ x a b e.
            ⊎_elim (λ (k : cut ≤ x). upper x k b e) (λ (k : x < cut). l.least x a (omega arith) e) (le_or_lt cut x);
        first = l.first;
      }

  -- the least of the upper range, where it has a smaller value
  pub least_far : {cut near far : ℕ} → from < cut → LeastFrom p v from (cut - 1) near → LeastFrom p v cut hi far → v far < v near → LeastFrom p v from hi far
  least_far {cut} {near} {far} apart l u less =
      record {
        begins = omega (arith, u.begins);
        within = u.within;
        has = u.has;
        least = λ x a b e.
            ⊎_elim (λ (k : cut ≤ x). u.least x k b e) (λ (k : x < cut). omega (arith, l.least x a (omega arith) e)) (le_or_lt cut x);
        first = λ x a b e.
            ⊎_elim (λ (k : cut ≤ x). u.first x k b e) (λ (k : x < cut). omega (arith, l.least x a (omega arith) e)) (le_or_lt cut x);
      }

-- Laws of ticks that are passed over: up to the first end no processor switches, and what is carried stays. And of a turn's lines, written tick by tick.
-- Assumes nothing.
use Prim.Native.Nat.{ℕ, zero, suc, ◌+◌, ◌*◌, ◌≤◌, ◌<◌}
use mathlib.Core.Path.{◌≡◌, refl, sym, ap, ap₂, subst, ◌∙◌}
use mathlib.Core.List.{List, [], ◌++◌, append-nil}
use mathlib.Core.Bool.{false}
use native.Mathlib.Decide.{dec_lt}
use native.Mathlib.Omega.{arith}
use lib.ListN.{length, replicate, length-append, length-replicate, get_or-replicate}
use Rattle.digits.specs.Stored.{stored}
use Rattle.digits.proofs.Stored.{stored_nil, stored_stored}
use Rattle.ring_claims.specs.Slotted.{Slotted}
use Rattle.reserves.specs.Reserves.{ring_processors, ring_length}
use Rattle.turn.specs.Switches.{Switch, switches, switches_at, switches_before, switch_lines, switch_text, turn_switches}
use Rattle.switchline.specs.Before.{server_before, until_before}
use Rattle.ticklines.specs.Walk.{Carried, least_of}
use Rattle.ticklines.proofs.LinesLaws.{at_on, before_next, before_bytes}
use Rattle.ticklines.proofs.LeastLaws.{least_most, least_each, least_above}
use Rattle.switchline.proofs.StepLaws.{until_ahead, runs_on, server_on, until_on}

-- from tick x to tick y nothing switches, and what is carried stays
record Passed (S : ℕ) (rs : List ℕ) (x y : ℕ) : Type 0 where
  before : switches_before S rs y ≡ switches_before S rs x
  server : (p : ℕ) → 1 ≤ p → p ≤ ring_processors S rs → server_before S rs p y ≡ server_before S rs p x
  until : (p : ℕ) → 1 ≤ p → p ≤ ring_processors S rs → until_before S rs p y ≡ until_before S rs p x

-- a tick at which none of n processors switches has no switches
at_none : (S : ℕ) (rs : List ℕ) (x n : ℕ) → ((p : ℕ) → 1 ≤ p → p ≤ n → switches S rs p x ≡ false) → switches_at S rs x n ≡ []
unfolding switches_at
at_none S rs x zero each = refl
at_none S rs x (suc n) each =
    at_on S rs x n (each (suc n) (omega arith) (omega arith)) ∙ at_none S rs x n (λ p l h. each p l (omega arith))

module _ {S : ℕ} {rs : List ℕ} (res : Slotted S rs) where
  passed_on : {x z : ℕ} → Passed S rs x z → ((p : ℕ) → 1 ≤ p → p ≤ ring_processors S rs → suc z ≤ until_before S rs p x) → Passed S rs x (suc z)
  unfolding switches_before
  passed_on {x} {z} so ahead = record {
    before =
        ap (λ (l : List Switch). switches_before S rs z ++ l) (at_none S rs z (ring_processors S rs) (λ p l h. runs_on res p l h z (later p l h)))
        ∙ append-nil (switches_before S rs z)
        ∙ so.before;
    server = λ p l h. server_on res p l h z (later p l h) ∙ so.server p l h;
    until = λ p l h. until_on res p l h z (later p l h) ∙ so.until p l h;
  }
    where
      later : (p : ℕ) → 1 ≤ p → p ≤ ring_processors S rs → z < until_before S rs p z
      later p l h = omega (arith, ahead p l h, so.until p l h)

  passes : (x y : ℕ) → x ≤ y → ((p : ℕ) → 1 ≤ p → p ≤ ring_processors S rs → y ≤ until_before S rs p x) → Passed S rs x y
  passes x zero h ahead = subst (λ (k : ℕ). Passed S rs k 0) (omega arith) (record { before = refl; server = λ p l m. refl; until = λ p l m. refl })
  passes x (suc y) h ahead =
      elim (dec_lt x (suc y)) [
        | yes below ↦ passed_on (passes x y (omega arith) (λ p l m. omega (arith, ahead p l m))) ahead
        | no past ↦ subst (λ (k : ℕ). Passed S rs k (suc y)) (omega (arith, past, h)) (record { before = refl; server = λ p l m. refl; until = λ p l m. refl })
      ]

-- the lines before a tick are put, and each of r processors is carried up to it
pub record Turned (S : ℕ) (rs : List ℕ) (r : ℕ) (b out servers untils : List ℕ) (at x : ℕ) : Type 0 where
  pub within : x ≤ r * S
  pub carried : Carried S rs x 0 r servers untils
  pub there : at ≡ length (switch_lines (switches_before S rs x))
  pub same : length out ≡ length b
  pub holds : out ≡ stored b 0 (switch_lines (switches_before S rs x))

-- before tick 0 there is nothing to put, and each place carries 0
pub turned_none : (S : ℕ) (rs : List ℕ) {r m : ℕ} (b : List ℕ) → r ≤ m → Turned S rs r b b (replicate m 0) (replicate m 0) 0 0
unfolding switches_before switch_lines
turned_none S rs {r} {m} b room = record {
  within = omega arith;
  carried = record {
    server = λ k l h. get_or-replicate {A = ℕ} m k 0 0 (omega arith);
    until = λ k l h. get_or-replicate {A = ℕ} m k 0 0 (omega arith);
    servers_room = omega (arith, length-replicate {A = ℕ} m 0);
    until_room = omega (arith, length-replicate {A = ℕ} m 0);
  };
  there = refl;
  same = refl;
  holds = sym (stored_nil b 0);
}

module _ {S : ℕ} {rs : List ℕ} (res : Slotted S rs) {r : ℕ} (ring : r ≡ ring_processors S rs) {b out servers untils : List ℕ} {at x : ℕ}
    (turned : Turned S rs r b out servers untils at x) (h : x < r * S) where
  -- the tick of the next switch, or the turn's end
  abbrev next_tick : ℕ
  next_tick = least_of (λ p. until_before S rs p (suc x)) (r * S) r

  -- it lies ahead
  pub next_later : x < least_of (λ p. until_before S rs p (suc x)) (r * S) r
  next_later = least_above _ _ (suc x) r h (λ p l m. until_ahead res p l (omega (arith, ring)) (suc x))

  -- up to the next tick there are this tick's lines and those before it
  after : switch_lines (switches_before S rs (suc x)) ≡ switch_lines (switches_before S rs x) ++ switch_lines (switches_at S rs x r)
  after = before_next S rs x ∙ ap (λ (k : ℕ). switch_lines (switches_before S rs x) ++ switch_lines (switches_at S rs x k)) (sym ring)

  after_bytes : length (switch_lines (switches_before S rs (suc x))) ≡ at + length (switch_lines (switches_at S rs x r))
  after_bytes =
      ap (λ (l : List ℕ). length l) after
      ∙ length-append (switch_lines (switches_before S rs x)) (switch_lines (switches_at S rs x r))
      ∙ ap (λ (k : ℕ). k + length (switch_lines (switches_at S rs x r))) (sym turned.there)

  -- there is room for the tick's lines
  pub turned_room : length (switch_text S rs) ≤ length b → at + length (switch_lines (switches_at S rs x r)) ≤ length b
  unfolding switch_text turn_switches
  turned_room fits =
      let end : r * S ≡ ring_length S rs = ap (λ (k : ℕ). k * S) ring in
      omega (arith, after_bytes, before_bytes S rs (suc x) (ring_length S rs) (omega (arith, end, h)))

  -- with the tick's lines put, and all carried past it, all are carried up to the next
  pub turned_next : {left servers' untils' : List ℕ} → length (switch_text S rs) ≤ length b
      → left ≡ stored out at (switch_lines (switches_at S rs x r)) → length left ≡ length out
      → Carried S rs (suc x) 0 r servers' untils'
      → Turned S rs r b left servers' untils' (at + length (switch_lines (switches_at S rs x r))) (least_of (λ p. until_before S rs p (suc x)) (r * S) r)
  turned_next fits put same carried = record {
    within = least_most _ _ r;
    carried = record {
      server = λ k l m. carried.server k l m ∙ sym (passed.server (suc k) (omega arith) (omega (arith, ring, m)));
      until = λ k l m. carried.until k l m ∙ sym (passed.until (suc k) (omega arith) (omega (arith, ring, m)));
      servers_room = carried.servers_room;
      until_room = carried.until_room;
    };
    there = sym (ap (λ (l : List Switch). length (switch_lines l)) passed.before ∙ after_bytes);
    same = same ∙ turned.same;
    holds =
        put
        ∙ ap₂ (λ (o : List ℕ) (k : ℕ). stored o k (switch_lines (switches_at S rs x r))) turned.holds place
        ∙ stored_stored b 0 (switch_lines (switches_before S rs x)) (switch_lines (switches_at S rs x r)) (omega (arith, turned.there, turned_room fits))
        ∙ ap (stored b 0) (sym (ap switch_lines passed.before ∙ after));
  }
    where
      place : at ≡ 0 + length (switch_lines (switches_before S rs x))
      place = omega (arith, turned.there)

      passed : Passed S rs (suc x) next_tick
      passed = passes res (suc x) next_tick next_later (λ p l m. least_each _ _ r p l (omega (arith, ring, m)))

-- at the turn's end its text is put
pub turned_all : {S : ℕ} {rs : List ℕ} {r : ℕ} {b out servers untils : List ℕ} {at x : ℕ} → r ≡ ring_processors S rs
    → Turned S rs r b out servers untils at x → r * S ≤ x → out ≡ stored b 0 (switch_text S rs)
unfolding switch_text turn_switches
turned_all {S} {rs} {r} {b} ring turned h =
    let end : r * S ≡ ring_length S rs = ap (λ (k : ℕ). k * S) ring in
    turned.holds ∙ ap (λ (k : ℕ). stored b 0 (switch_lines (switches_before S rs k))) (omega (arith, turned.within, end))

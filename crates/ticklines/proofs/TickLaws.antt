-- Laws of a tick's lines, written processor by processor: what is put so far, and what is carried past the tick.
-- Assumes nothing.
use Prim.Native.Nat.{ℕ, suc, ◌+◌, ◌≤◌, ◌<◌}
use mathlib.Core.Path.{◌≡◌, refl, sym, ap, ap₂, subst, ◌∙◌}
use mathlib.Core.List.{List}
use mathlib.Core.Bool.{true}
use native.Mathlib.Decide.{dec_lt}
use native.Mathlib.Omega.{arith}
use lib.ListN.{length, get_or, set, length-set, length-append}
use lib.Seq.{get_or-set_same, get_or-set_other}
use Rattle.digits.specs.Stored.{stored}
use Rattle.digits.proofs.Stored.{stored_nil, stored_stored}
use Rattle.frames.specs.declared.table.Frame.{Frame}
use Rattle.frames.specs.Table.{length_of}
use Rattle.ring_claims.specs.Slotted.{Slotted}
use Rattle.reserves.specs.Reserves.{ring_processors}
use Rattle.turn.specs.Switches.{Switch, runs, switches, switches_at, switch_line, switch_lines}
use Rattle.switchline.specs.declared.Switched.{Switched}
use Rattle.switchline.specs.Before.{server_before, until_before}
use Rattle.ticklines.specs.Walk.{Carried}
use Rattle.ticklines.proofs.LinesLaws.{at_over, at_on, at_bytes, line_bytes}
use Rattle.switchline.proofs.StepLaws.{until_ahead, is_over, runs_on, server_on, until_on}

-- the lines of the first i of n processors at a tick are put, these processors are carried past it, and the others are yet to be
pub record Walked (S : ℕ) (rs : List ℕ) (x n : ℕ) (b : List ℕ) (at : ℕ) (out servers untils : List ℕ) (next i : ℕ) : Type 0 where
  pub within : i ≤ n
  pub past : Carried S rs (suc x) 0 i servers untils
  pub ahead : Carried S rs x i n servers untils
  pub there : next ≡ at + length (switch_lines (switches_at S rs x i))
  pub same : length out ≡ length b
  pub holds : out ≡ stored b at (switch_lines (switches_at S rs x i))

pub walked_none : {S : ℕ} {rs : List ℕ} {x n : ℕ} (b : List ℕ) (at : ℕ) {servers untils : List ℕ} → Carried S rs x 0 n servers untils
    → Walked S rs x n b at b servers untils at 0
unfolding switches_at switch_lines
walked_none b at carried = record {
  within = omega arith;
  past = record {
    server = λ k l m. absurd (omega arith);
    until = λ k l m. absurd (omega arith);
    servers_room = omega arith;
    until_room = omega arith;
  };
  ahead = carried;
  there = omega arith;
  same = refl;
  holds = sym (stored_nil b at);
}

-- a place set behind places that are as they should be
place_set : (f : ℕ → ℕ) (i v : ℕ) (xs : List ℕ) → i < length xs → v ≡ f i
    → ((k : ℕ) → k < i → get_or xs k 0 ≡ f k) → (k : ℕ) → k < suc i → get_or (set xs i v) k 0 ≡ f k
place_set f i v xs room e before k h =
    elim (dec_lt k i) [
      | yes below ↦ get_or-set_other xs i k v 0 (λ (c : k ≡ i). omega arith) ∙ before k below
      | no past ↦
          let here : k ≡ i = omega (arith, past, h) in
          ap (λ (j : ℕ). get_or (set xs i v) j 0) here ∙ get_or-set_same xs i v 0 room ∙ e ∙ ap f (sym here)
    ]

module _ {S : ℕ} {rs : List ℕ} (res : Slotted S rs) {x n : ℕ} (few : n ≤ ring_processors S rs) {b : List ℕ} {at : ℕ} {out servers untils : List ℕ} {next i : ℕ}
    (walked : Walked S rs x n b at out servers untils next i) (h : i < n) where
  -- the next processor's place
  pub servers_there : i < length servers
  servers_there = omega (arith, walked.ahead.servers_room)

  pub untils_there : i < length untils
  untils_there = omega (arith, walked.ahead.until_room)

  pub until_here : get_or untils i 0 ≡ until_before S rs (suc i) x
  until_here = walked.ahead.until i (omega arith) h

  -- its time is not over before the tick
  pub until_reached : x ≤ get_or untils i 0
  until_reached = rw until_here (until_ahead res (suc i) (omega arith) (omega arith) x)

  pub server_here : get_or servers i 0 ≡ server_before S rs (suc i) x
  server_here = walked.ahead.server i (omega arith) h

  module _ (is : get_or untils i 0 ≡ x) (fits : at + length (switch_lines (switches_at S rs x n)) ≤ length b) where
    here_over : switches S rs (suc i) x ≡ true
    here_over = is_over res (suc i) (omega arith) (omega arith) x (sym until_here ∙ is)

    abbrev here : Switch
    here = record { tick = x; processor = suc i; server = runs S rs (suc i) x }

    here_bytes : length (switch_lines (switches_at S rs x (suc i))) ≡ length (switch_lines (switches_at S rs x i)) + (length_of Frame.Switch + 1)
    here_bytes =
        ap (λ (l : List ℕ). length l) (at_over S rs x i here_over)
        ∙ length-append (switch_lines (switches_at S rs x i)) (switch_line here)
        ∙ ap (λ (k : ℕ). length (switch_lines (switches_at S rs x i)) + k) (line_bytes here)

    -- there is room for its line
    pub walked_room : next + length_of Frame.Switch + 1 ≤ length b
    walked_room = omega (arith, walked.there, here_bytes, at_bytes S rs x (suc i) n h)

    -- a processor whose time is over: its line is put, and its place carries what begins
    pub walked_over : {p : ℕ} {put : Switched} {left : List ℕ} → p ≡ suc i
        → put ≡ record { at = next + length_of Frame.Switch + 1; server = server_before S rs p (suc x); until = until_before S rs p (suc x) }
        → left ≡ stored out next (switch_line (record { tick = x; processor = p; server = runs S rs p x })) → length left ≡ length out
        → Walked S rs x n b at left (set servers i put.server) (set untils i put.until) put.at (suc i)
    walked_over {p} {put} {left} one is-put line same = record {
      within = h;
      past = record {
        server = λ k l m. place_set (λ (k : ℕ). server_before S rs (suc k) (suc x)) i put.server servers servers_there (ap (λ (s : Switched). s.server) e) (λ k m. walked.past.server k (omega arith) m) k m;
        until = λ k l m. place_set (λ (k : ℕ). until_before S rs (suc k) (suc x)) i put.until untils untils_there (ap (λ (s : Switched). s.until) e) (λ k m. walked.past.until k (omega arith) m) k m;
        servers_room = omega (arith, servers_there, length-set servers i put.server);
        until_room = omega (arith, untils_there, length-set untils i put.until);
      };
      ahead = record {
        server = λ k l m. get_or-set_other servers i k put.server 0 (λ (c : k ≡ i). omega arith) ∙ walked.ahead.server k (omega arith) m;
        until = λ k l m. get_or-set_other untils i k put.until 0 (λ (c : k ≡ i). omega arith) ∙ walked.ahead.until k (omega arith) m;
        servers_room = omega (arith, walked.ahead.servers_room, length-set servers i put.server);
        until_room = omega (arith, walked.ahead.until_room, length-set untils i put.until);
      };
      there = omega (arith, ap (λ (s : Switched). s.at) e, walked.there, here_bytes);
      same = same ∙ walked.same;
      holds =
          line
          ∙ ap (λ (k : ℕ). stored out next (switch_line (record { tick = x; processor = k; server = runs S rs k x }))) one
          ∙ ap₂ (λ (o : List ℕ) (k : ℕ). stored o k (switch_line here)) walked.holds walked.there
          ∙ stored_stored b at (switch_lines (switches_at S rs x i)) (switch_line here) (omega (arith, line_bytes here, walked_room, walked.there))
          ∙ ap (stored b at) (sym (at_over S rs x i here_over));
    }
      where
        e : put ≡ record { at = next + length_of Frame.Switch + 1; server = server_before S rs (suc i) (suc x); until = until_before S rs (suc i) (suc x) }
        e = is-put ∙ ap (λ (k : ℕ). record { at = next + length_of Frame.Switch + 1; server = server_before S rs k (suc x); until = until_before S rs k (suc x) }) one

  -- a processor that runs on: nothing is put, and its place carries what it did
  pub walked_on : (get_or untils i 0 ≡ x → ⊥) → Walked S rs x n b at out servers untils next (suc i)
  walked_on not = record {
    within = h;
    past = record {
      server = λ k l m. carried_on server_before servers (λ k m. walked.past.server k (omega arith) m) (server_here ∙ sym (server_on res (suc i) (omega arith) (omega arith) x later)) k m;
      until = λ k l m. carried_on until_before untils (λ k m. walked.past.until k (omega arith) m) (until_here ∙ sym (until_on res (suc i) (omega arith) (omega arith) x later)) k m;
      servers_room = servers_there;
      until_room = untils_there;
    };
    ahead = record {
      server = λ k l m. walked.ahead.server k (omega arith) m;
      until = λ k l m. walked.ahead.until k (omega arith) m;
      servers_room = walked.ahead.servers_room;
      until_room = walked.ahead.until_room;
    };
    there = walked.there ∙ ap (λ (l : List Switch). at + length (switch_lines l)) none;
    same = walked.same;
    holds = walked.holds ∙ ap (λ (l : List Switch). stored b at (switch_lines l)) none;
  }
    where
      later : x < until_before S rs (suc i) x
      later =
          elim (dec_lt x (until_before S rs (suc i) x)) [
            | yes below ↦ below
            | no past ↦ absurd (not (omega (arith, past, until_here, until_reached)))
          ]

      none : switches_at S rs x i ≡ switches_at S rs x (suc i)
      none = sym (at_on S rs x i (runs_on res (suc i) (omega arith) (omega arith) x later))

      carried_on : (f : (S : ℕ) (rs : List ℕ) (p x : ℕ) → ℕ) (xs : List ℕ) → ((k : ℕ) → k < i → get_or xs k 0 ≡ f S rs (suc k) (suc x)) → get_or xs i 0 ≡ f S rs (suc i) (suc x)
          → (k : ℕ) → k < suc i → get_or xs k 0 ≡ f S rs (suc k) (suc x)
      carried_on f xs before e k m =
          elim (dec_lt k i) [
            | yes below ↦ before k below
            | no past ↦
                let same : k ≡ i = omega (arith, past, m) in
                ap (λ (j : ℕ). get_or xs j 0) same ∙ e ∙ ap (λ (j : ℕ). f S rs (suc j) (suc x)) (sym same)
          ]

-- where all n are carried past the tick, its lines are put
pub walked_all : {S : ℕ} {rs : List ℕ} {x n : ℕ} {b : List ℕ} {at : ℕ} {out servers untils : List ℕ} {next i : ℕ}
    → Walked S rs x n b at out servers untils next i → n ≤ i → Walked S rs x n b at out servers untils next n
walked_all {S} {rs} {x} {n} {b} {at} {out} {servers} {untils} {next} {i} walked h =
    subst (λ (k : ℕ). Walked S rs x n b at out servers untils next k) (omega (arith, walked.within)) walked

-- The server of some places among a file's figures: what charging it asks holds, its loads as charged are those of its members, its
-- horizon is within the file's, and the test may be asked of them with the interrupts behind them.
-- Assumes nothing.
use Rattle.std.specs.Prelude.{Option, Some, unwrap_or}
use Prim.Native.Nat.{ℕ, zero, suc, ◌+◌, ◌*◌, ◌-◌, ◌/◌, ◌^◌, ◌≤◌, ◌<◌}
use native.Mathlib.Omega.{arith}
use native.Mathlib.Nat.{le_of_dvd}
use mathlib.Core.Path.{◌≡◌, refl, sym, ap, ap₂, subst, ◌∙◌}
use mathlib.Core.List.{List, [], ◌∷◌, ◌++◌, map, append_assoc}
use lib.ListN.{length, take, drop, get_or, length-append}
use lib.Seq.{get_or-take, get_or-append-add, length-take-le, take_at}
use Rattle.digits.specs.Stored.{stored}
use Rattle.digits.proofs.Stored.{stored_length, stored_stored}
use Rattle.wholes.specs.Multiple.{within}
use Rattle.wholes.proofs.WithinLaws.{within_is}
use Rattle.charging.specs.Charging.{entry_loss}
use Rattle.demand.specs.Load.{Load, loads_of}
use Rattle.interrupting.specs.Interrupts.{Bound, asked, bounds_of, greatest_of_all, interrupts_of}
use Rattle.interrupting.specs.Interrupted.{Interrupted}
use Rattle.masking.specs.Masking.{Maskable, gaining, gain_of, masked_demand}
use Rattle.verdict.specs.Verdict.{own_horizon, Testable}
use Rattle.tasks.specs.declared.set.Header.{Header}
use Rattle.tasks.specs.Set.{most_tasks, most_interrupts, masked_ticks}
use Rattle.loads.specs.Charge.{numbers_of, cache_of, charged_in, server_loads, server_loss, Member, Overheads, Charging}
use Rattle.loads.specs.Figures.{Figures, figures_at, members_at}
use Rattle.loads.proofs.NumberLaws.{numbers_length, loads_back, taken_length}
use Rattle.loads.proofs.ChargeLaws.{cache_small, loads_many, loads_sound, loads_small, loss_small}
use Rattle.members.specs.Server.{Board, board_of, server_demand, server_horizon, Filed, Bounded, Timed}
use Rattle.members.proofs.ServerLaws.{server_within, server_due}
use Rattle.members.proofs.BoundedLaws.{bounded_sound, bounded_greatest}
use Rattle.members.proofs.FiledLaws.{Below, placed_at, placed_members, placed_costs, placed_periods}
use Rattle.served.specs.Served.{Served}

-- places among the first n tasks of a file may be charged as a server
pub filed_served : {h : Header} {figures : List ℕ} {n H : ℕ} → Filed h figures n H → (places : List ℕ) (k cache : ℕ) → k ≤ length places → k ≤ most_tasks →
    Below n (take k places) → cache ≡ cache_of (members_at figures (take k places)) → Served h cache figures places k H
filed_served {h} {figures} {n} {H} f places k cache there few b cost = record {
  places_there = there;
  few = few;
  there = λ i l. omega (arith, f.there, at i l);
  members = placed_members f (take k places) b;
  costs = placed_costs f (take k places) b;
  cost = cost;
  slot = f.slot;
  some = f.some;
  short = f.short;
  of_slot = f.of_slot;
  of_periods = placed_periods f (take k places) b;
}
  where
    at : (i : ℕ) → i < k → get_or places i 0 < n
    at i l = subst (λ (p : ℕ). p < n) (get_or-take k places i 0 l) (b i (rw (length-take-le k places there) l))

-- interrupts behind other numbers are those interrupts
bounds_behind : (ns interrupts : List ℕ) (from k : ℕ) → length ns ≡ from → bounds_of (ns ++ interrupts) from k ≡ bounds_of interrupts 0 k
unfolding bounds_of
bounds_behind ns interrupts from zero e = refl
bounds_behind ns interrupts from (suc k) e =
    ap₂ (λ (bs : List Bound) (x : Bound). bs ++ (x ∷ [])) (bounds_behind ns interrupts from k e)
    (rw (at (from + 4 * k) (0 + 4 * k) (omega arith), at (from + 4 * k + 1) (0 + 4 * k + 1) (omega arith), at (from + 4 * k + 2) (0 + 4 * k + 2) (omega arith), at (from + 4 * k + 3) (0 + 4 * k + 3) (omega arith)))
  where
    at : (i j : ℕ) → i ≡ from + j → get_or (ns ++ interrupts) i 0 ≡ get_or interrupts j 0
    at i j g =
        let past : i ≡ length ns + j = omega arith in
        ap (λ (x : ℕ). get_or (ns ++ interrupts) x 0) past ∙ get_or-append-add ns interrupts j 0

-- what loads ask and gain, and what the interrupts behind them ask
asked_parts : (B : ℕ) (ns : List ℕ) (k t : ℕ) →
    gaining (gain_of B (loads_of ns k)) (asked ns k) t ≡ masked_demand B (loads_of ns k) t + greatest_of_all (interrupts_of ns k) t
unfolding asked gaining masked_demand
asked_parts B ns k t = omega arith

module _ {h : Header} {cache : ℕ} {figures places : List ℕ} {k H : ℕ} (s : Served h cache figures places k H) where
  -- the members of the server
  abbrev ms : List Figures
  ms = members_at figures (take k places)

  -- its entry loss
  pub own_loss : {lost : ℕ} → lost ≡ entry_loss h.resd cache → lost ≡ server_loss h ms
  unfolding server_loss
  own_loss e = e ∙ ap (entry_loss h.resd) s.cost

  -- its members may be charged with any cache cost that is small
  pub may_charge : (cost : ℕ) (loads : List ℕ) → cost < 2 ^ 32 → 3 * k ≤ length loads → Charging h cost figures places k loads
  may_charge cost loads small room = record {
    places_there = s.places_there;
    room = room;
    cache_small = small;
    there = s.there;
    members = λ i l.
        subst (λ (p : ℕ). Member h (figures_at figures p)) (get_or-take k places i 0 l)
        (placed_at (Member h) figures (take k places) i (rw (length-take-le k places s.places_there) l) s.members);
  }

  pub small_cache : cache < 2 ^ 32
  small_cache = omega (arith, s.cost, cache_small ms s.costs)

  -- its members, charged with its cache cost, are its loads
  pub own_charged : map (charged_in h cache) ms ≡ server_loads h ms
  unfolding server_loads
  own_charged = ap (λ (c : ℕ). map (charged_in h c) ms) s.cost

  as_many : length (server_loads h ms) ≡ k
  as_many = loads_many h ms ∙ taken_length (figures_at figures) places k s.places_there

  -- on the board of interrupts
  module _ {interrupts : List ℕ} (w : Bounded h interrupts H) where
    abbrev board : Board
    board = board_of h interrupts

    -- the numbers of its loads, and of the interrupts behind them
    abbrev numbers : List ℕ
    numbers = numbers_of (server_loads h ms) ++ interrupts

    -- its horizon, at most the file's
    own_within : server_horizon board ms ≤ H
    own_within = server_within board ms s.members H s.some s.of_slot s.of_periods w.of_periods

    numbers_many : length numbers ≡ 3 * k + length interrupts
    numbers_many = length-append (numbers_of (server_loads h ms)) interrupts ∙ omega (arith, numbers_length (server_loads h ms), as_many)

    -- they fit into room for those of every task and every interrupt
    pub own_room : {room : ℕ} → room ≡ 3 * most_tasks + 4 * most_interrupts → 3 * k + length interrupts ≤ room
    own_room e = omega (arith, s.few, w.few)

    -- the test may be asked, with its own entry loss or with less
    pub may_test : Overheads h → {own : ℕ} (lost : ℕ) → own ≡ server_horizon board ms → lost ≤ server_loss h ms → Testable own h.slot lost
    may_test o lost e g = record {
      slot_some = s.slot;
      slot_small = omega (arith, le_of_dvd s.some s.of_slot, s.short);
      loss_small = omega (arith, g, loss_small h ms o s.costs);
      horizon_small = omega (arith, e, s.short, own_within);
    }

    -- the interrupts' numbers stored behind its loads'
    module _ (b : List ℕ) {charged : List ℕ} (room : 3 * k + length interrupts ≤ length b)
        (is : charged ≡ stored b 0 (numbers_of (map (charged_in h cache) ms))) where
      loads_are : charged ≡ stored b 0 (numbers_of (server_loads h ms))
      loads_are = is ∙ ap (λ (ls : List Load). stored b 0 (numbers_of ls)) own_charged

      pub charged_room : 3 * k + length interrupts ≤ length charged
      charged_room =
          omega (arith, ap length loads_are, stored_length b 0 (numbers_of (server_loads h ms)) (omega (arith, numbers_length (server_loads h ms), as_many)))

      pub put_behind : {out : List ℕ} → out ≡ stored charged (3 * k) interrupts → out ≡ stored b 0 numbers
      put_behind e =
          let behind : 3 * k ≡ 0 + length (numbers_of (server_loads h ms)) = omega (arith, numbers_length (server_loads h ms), as_many) in
          e ∙ ap₂ (λ (o : List ℕ) (at : ℕ). stored o at interrupts) loads_are behind ∙
          stored_stored b 0 (numbers_of (server_loads h ms)) interrupts (omega (arith, behind))

    -- where they are stored
    module _ (b : List ℕ) {out : List ℕ} (room : 3 * k + length interrupts ≤ length b) (is : out ≡ stored b 0 numbers) where
      as_long : length out ≡ length b
      as_long = ap length is ∙ stored_length b 0 numbers (omega (arith, room, numbers_many))

      left_loads : loads_of out k ≡ server_loads h ms
      unfolding stored
      left_loads =
          ap₂ loads_of (is ∙ append_assoc (numbers_of (server_loads h ms)) interrupts (drop (0 + length numbers) b)) (sym as_many) ∙
          loads_back (server_loads h ms) (interrupts ++ drop (0 + length numbers) b)

      pub left_timed : Timed out k interrupts h.slot
      left_timed = record {
        there = omega (arith, as_long);
        slot = s.slot;
        sound = rw left_loads (loads_sound h ms s.members);
        sound_interrupts = (bounded_sound w s.slot).sound;
      }

      left_horizon : within H (own_horizon h.slot (loads_of out k) board.interrupts) ≡ Some (server_horizon board ms)
      left_horizon =
          ap (λ (ls : List Load). within H (own_horizon h.slot ls board.interrupts)) left_loads ∙ within_is H (server_horizon board ms) own_within

      -- their horizon is found, and never past the file's
      pub horizon_found : {r : Option ℕ} → r ≡ within H (own_horizon h.slot (loads_of out k) board.interrupts) → unwrap_or r H ≡ server_horizon board ms
      horizon_found e = ap (λ (r : Option ℕ). unwrap_or r H) (e ∙ left_horizon)

      -- the front of the slice, up to their end, is theirs
      pub front_within : {end : ℕ} → end ≡ 3 * k + length interrupts → end ≤ length out
      front_within e = omega (arith, as_long)

      pub front_is : {end : ℕ} → end ≡ 3 * k + length interrupts → take end out ≡ numbers
      unfolding stored
      front_is {end} e = ap (take end) is ∙ take_at numbers _ end (omega (arith, numbers_many))

    -- a slice of no more than them
    module _ {front : List ℕ} (is : front ≡ numbers) where
      front_loads : loads_of front k ≡ server_loads h ms
      front_loads = ap₂ loads_of is (sym as_many) ∙ loads_back (server_loads h ms) interrupts

      front_behind : length front - 3 * k ≡ length interrupts
      front_behind = omega (arith, ap length is, numbers_many)

      front_bounds : interrupts_of front k ≡ board.interrupts
      unfolding interrupts_of
      front_bounds =
          ap₂ (λ (ns : List ℕ) (j : ℕ). bounds_of ns (3 * k) (j / 4)) is front_behind ∙
          bounds_behind (numbers_of (server_loads h ms)) interrupts (3 * k) (length interrupts / 4) (omega (arith, numbers_length (server_loads h ms), as_many))

      pub front_interrupted : Overheads h → Interrupted front k
      front_interrupted o = record {
        loads = record {
          there = omega (arith, ap length is, numbers_many);
          few = omega (arith, s.few);
          sound = rw front_loads (loads_sound h ms s.members);
          small = rw front_loads (loads_small h ms o s.costs s.members);
        };
        fours = rw front_behind w.fours;
        few = rw front_behind (omega (arith, s.few, w.few));
        bound = rw front_bounds w.numbered;
        ordered = rw front_bounds w.ordered;
      }

      -- the deadlines are within its horizon, so that the test may be asked where interrupts can be held off
      pub front_maskable : {own : ℕ} (B : ℕ) → own ≡ server_horizon board ms → B < 2 ^ 36 → Maskable B (loads_of front k) own
      front_maskable B e small = record {
        masked_small = small;
        due = rw (front_loads, e) (server_due board ms s.members (bounded_sound w s.slot));
      }

      -- what they ask is the server's demand
      pub front_asked : {B : ℕ} → B ≡ masked_ticks h → gaining (gain_of B (loads_of front k)) (asked front k) ≡ server_demand board ms
      front_asked {B} e = λ i t. at t i
        where
          at : (t : ℕ) → gaining (gain_of B (loads_of front k)) (asked front k) t ≡ server_demand board ms t
          at t =
              asked_parts B front k t ∙
              ap₂ (λ (x y : ℕ). x + y) (ap₂ (λ (C : ℕ) (ls : List Load). masked_demand C ls t) e front_loads)
              (ap (λ (bs : List Bound). greatest_of_all bs t) front_bounds ∙ ap (λ (g : ℕ → ℕ). g t) (sym (bounded_greatest w)))

-- Laws of figures taken into the tasks' turns, task by task, and of servers taken back into file order, from the last turn to the first.
-- Assumes nothing.
use Prim.Native.Nat.{ℕ, suc, ◌+◌, ◌*◌, ◌-◌, ◌≤◌, ◌<◌}
use native.Mathlib.Nat.{le_refl}
use native.Mathlib.Omega.{arith}
use mathlib.Core.Path.{◌≡◌, refl, sym, ap, ap₂, ◌∙◌}
use mathlib.Core.Logic.{⊎_elim}
use mathlib.Core.List.{List, [], ◌∷◌, ◌++◌}
use mathlib.Core.Bool.{cond}
use lib.Dec.{eqb}
use lib.ListN.{length, set, take, drop, get_or, replicate, length-set, length-replicate, get_or-replicate, replicate-append-replicate}
use lib.Seq.{length-take-le, drop-cons, slice, slice_empty, slice-cons, set-append_left, get_or-set_same, get_or-set_other, ext_get_or}
use Rattle.laws.proofs.Orders.{eq_or_ne}
use Rattle.laws.proofs.Choices.{cond_eqb, cond_eqb_not}
use Rattle.digits.specs.Stored.{stored}
use Rattle.digits.proofs.Stored.{stored_nil, stored_length, stored_stored}
use Rattle.demand.specs.Load.{each}
use Rattle.demand.proofs.Demand.{each_length}
use Rattle.tasks.specs.Set.{most_tasks}
use Rattle.places.specs.Padded.{padded}
use Rattle.loads.specs.Figures.{Figures, own_numbers, figures_at, figures_to}
use Rattle.loads.proofs.FigureLaws.{own_length, four, own_more, figures_stored}
use Rattle.loads.proofs.NumberLaws.{taken_length, taken_more}
use Rattle.packing.specs.Turns.{task_at, in_turn, server_at, in_file_order}
use Rattle.packing.proofs.EachLaws.{each_at}
use Rattle.turns_code.specs.Turned.{Turned, Assigned}

-- ---- into the turns

-- four numbers from a place on
four_from : (ns : List ℕ) (k : ℕ) → k + 4 ≤ length ns →
    take 4 (drop k ns) ≡ get_or ns k 0 ∷ get_or ns (k + 1) 0 ∷ get_or ns (k + 2) 0 ∷ get_or ns (k + 3) 0 ∷ []
four_from ns k h =
    ap (take 4) (drop-cons ns k 0 (omega arith)) ∙
    ap (λ (l : List ℕ). get_or ns k 0 ∷ take 3 l) (drop-cons ns (suc k) 0 (omega arith)) ∙
    ap (λ (l : List ℕ). get_or ns k 0 ∷ get_or ns (suc k) 0 ∷ take 2 l) (drop-cons ns (suc (suc k)) 0 (omega arith)) ∙
    ap (λ (l : List ℕ). get_or ns k 0 ∷ get_or ns (suc k) 0 ∷ get_or ns (suc (suc k)) 0 ∷ take 1 l) (drop-cons ns (suc (suc (suc k))) 0 (omega arith)) ∙
    ap (λ (i : ℕ). get_or ns k 0 ∷ get_or ns i 0 ∷ get_or ns (suc i) 0 ∷ get_or ns (suc (suc i)) 0 ∷ []) (omega arith) ∙
    ap₂ (λ (i j : ℕ). get_or ns k 0 ∷ get_or ns (k + 1) 0 ∷ get_or ns i 0 ∷ get_or ns j 0 ∷ []) (omega arith) (omega arith)

-- the figures of the first j turns are stored
pub record TurnedTo (figures turns : List ℕ) (n j : ℕ) (numbers : List ℕ) : Type 0 where
  pub within : j ≤ n
  pub is : numbers ≡ stored (replicate (4 * most_tasks) 0) 0 (own_numbers (in_turn (take j turns) (figures_to figures n)))

pub turned_none : (figures turns : List ℕ) (n : ℕ) → TurnedTo figures turns n 0 (replicate (4 * most_tasks) 0)
unfolding own_numbers
turned_none figures turns n = record { within = omega arith; is = sym (stored_nil (replicate (4 * most_tasks) 0) 0) }

module _ {figures turns : List ℕ} {n : ℕ} (t : Turned figures turns n) {j : ℕ} {numbers : List ℕ} (w : TurnedTo figures turns n j numbers) where
  -- so many tasks
  turned_many : length (in_turn (take j turns) (figures_to figures n)) ≡ j
  turned_many = taken_length (task_at (figures_to figures n)) turns j (omega (arith, w.within, t.turns_there))

  -- and numbers
  turned_numbers : length (own_numbers (in_turn (take j turns) (figures_to figures n))) ≡ 4 * j
  turned_numbers = omega (arith, own_length (in_turn (take j turns) (figures_to figures n)), turned_many)

  -- the room stays
  pub turned_long : length numbers ≡ 4 * most_tasks
  turned_long =
      ap length w.is ∙
      stored_length (replicate (4 * most_tasks) 0) 0 (own_numbers (in_turn (take j turns) (figures_to figures n)))
      (omega (arith, turned_numbers, w.within, t.few, length-replicate {A = ℕ} (4 * most_tasks) 0)) ∙
      length-replicate {A = ℕ} (4 * most_tasks) 0

  -- one turn more
  pub turned_next : {m : ℕ} {out : List ℕ} → j < n → out ≡ stored numbers (4 * j) (take m (drop (4 * get_or turns j 0) figures)) → m ≡ 4 →
      TurnedTo figures turns n (j + 1) out
  turned_next {m} {out} h e four-taken =
      record {
        within = omega arith;
        is =
            e
            ∙ ap (λ (k : ℕ). stored numbers (4 * j) (take k (drop (4 * get_or turns j 0) figures))) four-taken
            ∙ ap₂ (λ (ns more : List ℕ). stored ns (4 * j) more) w.is (four_from figures (4 * get_or turns j 0) (omega (arith, t.below j h, t.figures_there)))
            ∙ ap (λ (k : ℕ). stored (stored room 0 before) k (four task)) (omega (arith, turned_numbers))
            ∙ stored_stored room 0 before (four task) (omega (arith, turned_numbers, t.few, length-replicate {A = ℕ} (4 * most_tasks) 0))
            ∙ ap (stored room 0) (sym (own_more (in_turn (take j turns) fs) task))
            ∙ ap (λ (f : Figures). stored room 0 (own_numbers (in_turn (take j turns) fs ++ (f ∷ [])))) (sym at)
            ∙ ap (λ (gs : List Figures). stored room 0 (own_numbers gs)) (taken_more (task_at fs) turns j 0 (omega (arith, t.turns_there)));
      }
    where
      room : List ℕ
      room = replicate (4 * most_tasks) 0

      fs : List Figures
      fs = figures_to figures n

      before : List ℕ
      before = own_numbers (in_turn (take j turns) fs)

      task : Figures
      task = figures_at figures (get_or turns j 0)

      at : task_at fs (get_or turns j 0) ≡ task
      at = each_at (figures_at figures) (record { cost = 0; deadline = 0; period = 0; cache = 0 }) n (get_or turns j 0) (t.below j h)

-- all turns
pub turned_all : {figures turns : List ℕ} {n j : ℕ} {numbers : List ℕ} → TurnedTo figures turns n j numbers → j ≡ n →
    numbers ≡ stored (replicate (4 * most_tasks) 0) 0 (own_numbers (in_turn (take n turns) (figures_to figures n)))
turned_all {figures} {turns} {n} w e =
    w.is ∙ ap (λ (k : ℕ). stored (replicate (4 * most_tasks) 0) 0 (own_numbers (in_turn (take k turns) (figures_to figures n)))) e

-- ---- back into file order

-- one server written over another
each_set : (f : ℕ → ℕ) (n t v : ℕ) → t < n → set (each f n) t v ≡ each (λ (i : ℕ). cond (eqb t i) v (f i)) n
each_set f n t v h =
    ext_get_or 0 (set (each f n) t v) (each g n) (length-set (each f n) t v ∙ each_length f n ∙ sym (each_length g n))
    (λ i l. there i (omega (arith, l, length-set (each f n) t v, each_length f n)))
  where
    g : ℕ → ℕ
    g i = cond (eqb t i) v (f i)

    there : (i : ℕ) → i < n → get_or (set (each f n) t v) i 0 ≡ get_or (each g n) i 0
    there i l =
        ⊎_elim
        (λ (e : t ≡ i).
        ap (λ (k : ℕ). get_or (set (each f n) t v) k 0) (sym e) ∙ get_or-set_same (each f n) t v 0 (omega (arith, each_length f n)) ∙
        sym (cond_eqb v (f i) e) ∙ sym (each_at g 0 n i l))
        (λ (d : t ≡ i → ⊥).
        get_or-set_other (each f n) t i v 0 (λ e. d (sym e)) ∙ each_at f 0 n i l ∙ sym (cond_eqb_not v (f i) d) ∙ sym (each_at g 0 n i l))
        (eq_or_ne t i)

-- the same in most_tasks places
padded_set : (f : ℕ → ℕ) (n t v : ℕ) → t < n → set (padded (each f n)) t v ≡ padded (each (λ (i : ℕ). cond (eqb t i) v (f i)) n)
padded_set f n t v h =
    set-append_left (each f n) (replicate (most_tasks - length (each f n)) 0) t v (omega (arith, each_length f n)) ∙
    ap₂ (λ (l : List ℕ) (k : ℕ). l ++ replicate (most_tasks - k) 0) (each_set f n t v h)
    (each_length f n ∙ sym (each_length (λ (i : ℕ). cond (eqb t i) v (f i)) n))

-- where no task has a server, all room is unused
padded_zeros : (f : ℕ → ℕ) (n : ℕ) → n ≤ most_tasks → ((i : ℕ) → f i ≡ 0) → replicate most_tasks 0 ≡ padded (each f n)
padded_zeros f n h z =
    let zeros : each f n ≡ replicate n 0 =
    ext_get_or 0 (each f n) (replicate n 0) (each_length f n ∙ sym (length-replicate {A = ℕ} n 0))
    (λ i l. let below : i < n = omega (arith, l, each_length f n) in each_at f 0 n i below ∙ z i ∙ sym (get_or-replicate n i 0 0 below)) in
    let all : most_tasks ≡ n + (most_tasks - n) = omega arith in
    ap (λ (k : ℕ). replicate k 0) all ∙ sym (replicate-append-replicate n (most_tasks - n) 0) ∙
    ap₂ (λ (l : List ℕ) (k : ℕ). l ++ replicate (most_tasks - k) 0) (sym zeros) (sym (each_length f n))

server_none : (placement : List ℕ) (i : ℕ) → server_at [] placement i ≡ 0
unfolding server_at
server_none placement i = refl

-- the servers of the turns from j on stand at their tasks' places
pub record AssignedFrom (turns placement : List ℕ) (n j : ℕ) (servers : List ℕ) : Type 0 where
  pub within : j ≤ n
  pub is : servers ≡ padded (each (server_at (slice j n turns) (slice j n placement)) n)

pub assigned_none : (turns placement : List ℕ) (n : ℕ) → n ≤ most_tasks → AssignedFrom turns placement n n (replicate most_tasks 0)
assigned_none turns placement n h =
    record {
      within = omega arith;
      is =
          padded_zeros (server_at (slice n n turns) (slice n n placement)) n h
          (λ i. ap (λ (l : List ℕ). server_at l (slice n n placement) i) (slice_empty n turns) ∙ server_none (slice n n placement) i);
    }

module _ {turns placement : List ℕ} {n : ℕ} (a : Assigned turns placement n) {j : ℕ} {servers : List ℕ} (w : AssignedFrom turns placement n j servers) where
  -- the turn before
  pub assigned_next : {k : ℕ} → j ≡ suc k → AssignedFrom turns placement n k (set servers (get_or turns k 0) (get_or placement k 0))
  unfolding server_at
  assigned_next {k} e =
      record {
        within = omega (arith, w.within);
        is =
            ap (λ (l : List ℕ). set l (get_or turns k 0) (get_or placement k 0)) w.is
            ∙ ap (λ (i : ℕ). set (padded (each (server_at (slice i n turns) (slice i n placement)) n)) (get_or turns k 0) (get_or placement k 0)) e
            ∙ padded_set (server_at (slice (suc k) n turns) (slice (suc k) n placement)) n (get_or turns k 0) (get_or placement k 0) (a.below k below)
            ∙ ap₂ (λ (ts ps : List ℕ). padded (each (server_at ts ps) n)) (sym (slice-cons k n turns 0 below a.turns_there))
            (sym (slice-cons k n placement 0 below a.servers_there));
      }
    where
      below : k < n
      below = omega (arith, w.within)

  -- all turns
  pub assigned_all : j ≡ 0 → servers ≡ padded (in_file_order (take n turns) (take n placement))
  unfolding in_file_order
  assigned_all e =
      w.is ∙ ap (λ (i : ℕ). padded (each (server_at (slice i n turns) (slice i n placement)) n)) e ∙
      ap (λ (k : ℕ). padded (each (server_at (take n turns) (take n placement)) k)) (sym (length-take-le n turns a.turns_there))

-- ---- what callers read

-- the figures in turn, read back
pub in_turn_figures : {figures turns : List ℕ} {n : ℕ} → Turned figures turns n → {r : List ℕ} →
    r ≡ stored (replicate (4 * most_tasks) 0) 0 (own_numbers (in_turn (take n turns) (figures_to figures n))) →
    figures_to r n ≡ in_turn (take n turns) (figures_to figures n)
in_turn_figures {figures} {turns} {n} t e =
    ap (λ (ns : List ℕ). figures_to ns n) e ∙
    figures_stored (replicate (4 * most_tasks) 0) (in_turn (take n turns) (figures_to figures n))
    (taken_length (task_at (figures_to figures n)) turns n t.turns_there)

-- there is room for all tasks
pub in_turn_length : {figures turns : List ℕ} {n : ℕ} → Turned figures turns n → {r : List ℕ} →
    r ≡ stored (replicate (4 * most_tasks) 0) 0 (own_numbers (in_turn (take n turns) (figures_to figures n))) → length r ≡ 4 * most_tasks
in_turn_length {n} t e = turned_long t {j = n} (record { within = le_refl n; is = e })

-- Each refusal of reading exactly when its row says: the claims of specs/Claims, proved.
use Rattle.std.specs.Prelude.{Err, Ok}
use Prim.Native.Nat.{ℕ, zero, suc, pred, ◌+◌, ◌≤◌, ◌<◌}
use native.Mathlib.Omega.{arith}
use native.Mathlib.Decide.{dec_lt}
use mathlib.Core.List.{List}
use mathlib.Core.Bool.{Bool, true, false}
use mathlib.Core.Path.{◌≡◌, refl, sym, ◌∙◌, ap, ap₂, subst, subst₂}
use lib.ListN.{length, get_or}
use Rattle.laws.proofs.Tests.{clash}
use Rattle.refusals.specs.Refused.{number_of, place_of}
use Rattle.refusals.specs.declared.Refusal.{Refusal}
use Rattle.refusals.specs.declared.Refusal.TheVariants.{Line, Order, Count, Twice, Board, Range}
use Rattle.refusals.specs.Refused.{Outcome}
use Rattle.tasks.specs.declared.set.Interrupt.{Interrupt}
use Rattle.tasks.specs.declared.set.Task.{Task}
use Rattle.tasks.specs.declared.set.TaskSet.{TaskSet}
use Rattle.taskread.specs.declared.read.ReadAnswer.{ReadAnswer}
use Rattle.tasks.specs.Set.{most_tasks, members, interrupts_in, set_of, zero_task, zero_interrupt}
use Rattle.refusals.specs.First.{first_of, when, till}
use Rattle.tasks.specs.Search.{at_task, first_task}
use Rattle.taskrows.specs.Rows.{board_row, range_row, interrupt_row, range_at, figures_outcome}
use Rattle.taskfile.specs.File.{file_header, line_row, order_row, count_line_row, twice_line_row, line_outcome, file_tasks, file_interrupts}
use Rattle.taskread.specs.Read.{read_of, read_outcome, file_set, answer}
use Rattle.tasks_claims.specs.Claims.{LineRow, LINE, ORDER, COUNT, TWICE, refusal_at, holds_at, Clear, AllClear, FirstAt, FirstRange, FirstInterrupt, NoRow, ReadExactlyLine, ReadExactlyBoard, ReadExactlyRange, ReadExactlyInterrupt, ReadExactlyDone, ReadRefuses, ReadDetermined}
use Rattle.refusals.proofs.FirstLaws.{done_refused, first_done, till_done, done_till, found}
use Rattle.taskfile.proofs.Past.{absent_past}
use Rattle.taskread.proofs.Reading.{reads_refused, reads_clear}
use Rattle.taskfile.proofs.Lines.{absent_done}
use Rattle.tasks.proofs.SetLaws.{members_set, interrupts_set}
use Rattle.tasks.proofs.FirstLaws.{Stops, first_stops, stops_first, first_none, none_first}
use Rattle.tasks_claims.proofs.ShapedLaws.{shaped_all}
use Rattle.tasks_claims.proofs.ReachedLaws.{Ended, ends}

-- the outcome of an answer is what it was made of
pub answer_outcome : (o : Outcome) (set : TaskSet) → (answer o set).outcome ≡ o
answer_outcome (Ok _) set = refl
answer_outcome (Err r) set = refl

pub read_outcome_lem : (text : List ℕ) → (read_of text).outcome ≡ read_outcome text
unfolding read_of
read_outcome_lem text = answer_outcome (read_outcome text) (file_set text)

-- rows 1 to 4 have numbers of their own, and their place is the line
abbrev row_of : ℕ → LineRow
row_of zero = LINE
row_of (suc zero) = LINE
row_of (suc (suc zero)) = ORDER
row_of (suc (suc (suc zero))) = COUNT
row_of (suc (suc (suc (suc n)))) = TWICE

row_of_lem : (row : LineRow) (k : ℕ) → row_of (number_of (refusal_at row k)) ≡ row
row_of_lem LINE k = refl
row_of_lem ORDER k = refl
row_of_lem COUNT k = refl
row_of_lem TWICE k = refl

place_of_lem : (row : LineRow) (k : ℕ) → place_of (refusal_at row k) ≡ k
place_of_lem LINE k = refl
place_of_lem ORDER k = refl
place_of_lem COUNT k = refl
place_of_lem TWICE k = refl

row_below : (row : LineRow) (k : ℕ) → number_of (refusal_at row k) ≤ 4
row_below LINE k = omega arith
row_below ORDER k = omega arith
row_below COUNT k = omega arith
row_below TWICE k = omega arith

-- the row that is the lowest of those that hold
record Lowest (b : LineRow → Bool) (row : LineRow) (k : ℕ) : Type 0 where
  lower : (other : LineRow) → number_of (refusal_at other k) < number_of (refusal_at row k) → b other ≡ false
  holds : b row ≡ true

abbrev four_rows : (b1 b2 b3 b4 : Bool) (k : ℕ) → Outcome
four_rows b1 b2 b3 b4 k =
    first_of (when b1 (Line k)) (first_of (when b2 (Order k)) (first_of (when b3 (Count k)) (when b4 (Twice k))))

module _ (b : LineRow → Bool) (k : ℕ) where
  below : (n : ℕ) → (1 < n → b LINE ≡ false) → (2 < n → b ORDER ≡ false) → (3 < n → b COUNT ≡ false) → (4 < n → b TWICE ≡ false) → (other : LineRow) → number_of (refusal_at other k) < n → b other ≡ false
  below n f1 f2 f3 f4 LINE lt = f1 lt
  below n f1 f2 f3 f4 ORDER lt = f2 lt
  below n f1 f2 f3 f4 COUNT lt = f3 lt
  below n f1 f2 f3 f4 TWICE lt = f4 lt

  -- a refusal of the four rows is the lowest's
  lowest : (r : Refusal) (b1 b2 b3 b4 : Bool) → b LINE ≡ b1 → b ORDER ≡ b2 → b COUNT ≡ b3 → b TWICE ≡ b4 → four_rows b1 b2 b3 b4 k ≡ Err r → (row : LineRow) × (r ≡ refusal_at row k) × Lowest b row k
  lowest r true b2 b3 b4 e1 e2 e3 e4 e =
      (LINE, cc, record { lower = below 1 (λ lt. absurd (omega arith)) (λ lt. absurd (omega arith)) (λ lt. absurd (omega arith)) (λ lt. absurd (omega arith)); holds = e1 })
  lowest r false true b3 b4 e1 e2 e3 e4 e =
      (ORDER, cc, record { lower = below 2 (λ lt. e1) (λ lt. absurd (omega arith)) (λ lt. absurd (omega arith)) (λ lt. absurd (omega arith)); holds = e2 })
  lowest r false false true b4 e1 e2 e3 e4 e =
      (COUNT, cc, record { lower = below 3 (λ lt. e1) (λ lt. e2) (λ lt. absurd (omega arith)) (λ lt. absurd (omega arith)); holds = e3 })
  lowest r false false false true e1 e2 e3 e4 e =
      (TWICE, cc, record { lower = below 4 (λ lt. e1) (λ lt. e2) (λ lt. e3) (λ lt. absurd (omega arith)); holds = e4 })
  lowest r false false false false e1 e2 e3 e4 e = done_refused e

-- a line's refusal is the lowest row's that holds there
line_lowest : (text : List ℕ) (k : ℕ) (r : Refusal) → line_outcome text k ≡ Err r → (row : LineRow) × (r ≡ refusal_at row k) × Lowest (λ row. holds_at row text k) row k
unfolding line_outcome
line_lowest text k r e = lowest (λ row. holds_at row text k) k r (line_row text k) (order_row text k) (count_line_row text k) (twice_line_row text k) refl refl refl refl e

lowest_line : (row : LineRow) (text : List ℕ) (k : ℕ) → Lowest (λ row. holds_at row text k) row k → line_outcome text k ≡ Err (refusal_at row k)
unfolding line_outcome
lowest_line LINE text k l = rw l.holds
lowest_line ORDER text k l = rw (l.lower LINE (omega arith), l.holds)
lowest_line COUNT text k l = rw (l.lower LINE (omega arith), l.lower ORDER (omega arith), l.holds)
lowest_line TWICE text k l = rw (l.lower LINE (omega arith), l.lower ORDER (omega arith), l.lower COUNT (omega arith), l.holds)

-- the outcome of reading, where the lines are clear and where they are not
outcome_of_lem : (text : List ℕ) (o : Outcome) → (read_of text).outcome ≡ o → read_outcome text ≡ o
outcome_of_lem text o e = sym (read_outcome_lem text) ∙ e

pub read_done : (text : List ℕ) → (read_of text).outcome ≡ Ok tt → (till (line_outcome text) (length text + 2) ≡ Ok tt) × (figures_outcome (file_set text) ≡ Ok tt)
unfolding read_outcome
read_done text e = first_done (till (line_outcome text) (length text + 2)) (figures_outcome (file_set text)) (outcome_of_lem text (Ok tt) e)

-- a refusal is that of a line, at which it is the lowest row's, or lines are clear and it is rows 5 and 6's
data Came (text : List ℕ) (r : Refusal) : Type 0 where
  at_line : (row : LineRow) (j : ℕ) → r ≡ refusal_at row (suc j) → till (line_outcome text) j ≡ Ok tt → Lowest (λ row. holds_at row text (suc j)) row (suc j) → Came text r
  at_figures : till (line_outcome text) (length text + 2) ≡ Ok tt → figures_outcome (file_set text) ≡ Err r → Came text r

came : (text : List ℕ) (r : Refusal) → (read_of text).outcome ≡ Err r → Came text r
unfolding read_outcome
came text r e = at (till (line_outcome text) (length text + 2)) refl (outcome_of_lem text (Err r) e)
  where
    at : (o : Outcome) → till (line_outcome text) (length text + 2) ≡ o → first_of o (figures_outcome (file_set text)) ≡ Err r → Came text r
    at (Ok _) clear e = at_figures clear e
    at (Err q) refused e =
        let first = found (line_outcome text) (length text + 2) r (refused ∙ e) in
        let low : (row : LineRow) × (r ≡ refusal_at row (suc first.before)) × Lowest (λ row. holds_at row text (suc first.before)) row (suc first.before) = line_lowest text (suc first.before) r first.refuses in
        at_line low.0 first.before low.1 first.clear low.2

-- rows 5 and 6 by what they find: whether the board breaks row 5, the first task and the first interrupt out of range
abbrev figures_found : (board : Bool) (task interrupt : ℕ) → Outcome
figures_found b n i = first_of (when b Board) (first_of (at_task Range n) (at_task range_at i))

-- they give 5 and 6
figures_number : (set : TaskSet) (r : Refusal) → figures_outcome set ≡ Err r → (5 ≤ number_of r) × (number_of r ≤ 6)
unfolding figures_outcome
figures_number set r e = at (board_row set.header) (first_task range_row (members set)) (first_task (interrupt_row set.header.processors) (interrupts_in set)) e
  where
    at : (b : Bool) (n i : ℕ) → figures_found b n i ≡ Err r → (5 ≤ number_of r) × (number_of r ≤ 6)
    at true n i e = let five : Board ≡ r = cc in subst (λ (r : Refusal). (5 ≤ number_of r) × (number_of r ≤ 6)) five (omega arith)
    at false zero zero e = done_refused e
    at false zero (suc i) e = let six : Range (most_tasks + suc i) ≡ r = cc in subst (λ (r : Refusal). (5 ≤ number_of r) × (number_of r ≤ 6)) six (omega arith)
    at false (suc n) i e = let six : Range (suc n) ≡ r = cc in subst (λ (r : Refusal). (5 ≤ number_of r) × (number_of r ≤ 6)) six (omega arith)

-- lines that are clear up to the end are clear for ever
pub all_clear : (text : List ℕ) → till (line_outcome text) (length text + 2) ≡ Ok tt → AllClear text
all_clear text clear zero one = absurd (omega arith)
all_clear text clear (suc j) one =
    elim (dec_lt j (length text + 2)) [
      | yes lt ↦ till_done (line_outcome text) (length text + 2) clear j lt
      | no over ↦ past_end j (omega (arith, over))
    ]
  where
    past_end : (j : ℕ) → length text + 2 ≤ j → line_outcome text (suc j) ≡ Ok tt
    past_end zero le = absurd (omega arith)
    past_end (suc n) le = absent_done text n (absent_past n text (omega arith))

pub clear_all : (text : List ℕ) → AllClear text → till (line_outcome text) (length text + 2) ≡ Ok tt
clear_all text f = done_till (line_outcome text) (length text + 2) (λ j lt. f (suc j) (omega arith))

-- the lowest row of the first line that is not clear
first_at_lem : (row : LineRow) (text : List ℕ) (j : ℕ) → till (line_outcome text) j ≡ Ok tt → Lowest (λ row. holds_at row text (suc j)) row (suc j) → FirstAt row text (suc j)
first_at_lem row text j clear low = record { counted = omega arith; clear = before; lower = low.lower; holds = low.holds }
  where
    before : Clear text (suc j)
    before zero one lt = absurd (omega arith)
    before (suc i) one lt = till_done (line_outcome text) j clear i (omega arith)

at_first : (row : LineRow) (text : List ℕ) (k : ℕ) → FirstAt row text k → (read_of text).outcome ≡ Err (refusal_at row k)
at_first row text zero f = absurd (omega (arith, f.counted))
at_first row text (suc j) f =
    ap (λ (a : ReadAnswer). a.outcome)
    (reads_refused text j (refusal_at row (suc j))
    (done_till (line_outcome text) j (λ i lt. f.clear (suc i) (omega arith) (omega arith)))
    (lowest_line row text (suc j) (record { lower = f.lower; holds = f.holds })))

-- rows 1 to 4, each with its place
pub read_exactly_line : ReadExactlyLine
read_exactly_line row text k = (λ e. said (came text (refusal_at row k) e), at_first row text k)
  where
    said : Came text (refusal_at row k) → FirstAt row text k
    said (at_line other j same clear low) =
        let place : k ≡ suc j = sym (place_of_lem row k) ∙ (ap place_of same ∙ place_of_lem other (suc j)) in
        let one : other ≡ row = sym (row_of_lem other (suc j)) ∙ (ap (λ (r : Refusal). row_of (number_of r)) (sym same) ∙ row_of_lem row k) in
        subst₂ (λ (r : LineRow) (n : ℕ). FirstAt r text n) one (sym place) (first_at_lem other text j clear low)
    said (at_figures clear e) =
        absurd (omega (arith, row_below row k, (figures_number (file_set text) (refusal_at row k) e).0))

-- the outcome of a read whose lines are clear
clear_outcome : (text : List ℕ) → AllClear text → (read_of text).outcome ≡ figures_outcome (file_set text)
clear_outcome text clear =
    ap (λ (a : ReadAnswer). a.outcome) (reads_clear text (clear_all text clear)) ∙ answer_outcome (figures_outcome (file_set text)) (file_set text)

-- what a refusal tells of what was found
board_said : (b : Bool) (n i : ℕ) → figures_found b n i ≡ Err Board → b ≡ true
board_said true n i e = refl
board_said false zero zero e = done_refused e
board_said false zero (suc i) e = clash (cc)
board_said false (suc n) i e = clash (cc)

range_said : (b : Bool) (n i k : ℕ) → k ≤ most_tasks → figures_found b n i ≡ Err (Range k) → (b ≡ false) × (n ≡ k) × (1 ≤ k)
range_said true n i k few e = clash (cc)
range_said false zero zero k few e = done_refused e
range_said false zero (suc i) k few e = let same : most_tasks + suc i ≡ k = cc in absurd (omega (arith, same, few))
range_said false (suc n) i k few e = let same : suc n ≡ k = cc in (refl, same, omega (arith, same))

interrupt_said : (b : Bool) (n i k : ℕ) → n ≤ most_tasks → 1 ≤ k → figures_found b n i ≡ Err (Range (most_tasks + k)) → (b ≡ false) × (n ≡ 0) × (i ≡ k)
interrupt_said true n i k few one e = clash (cc)
interrupt_said false zero zero k few one e = done_refused e
interrupt_said false zero (suc i) k few one e = let same : most_tasks + suc i ≡ most_tasks + k = cc in (refl, refl, omega (arith, same))
interrupt_said false (suc n) i k few one e = let same : suc n ≡ most_tasks + k = cc in absurd (omega (arith, same, few, one))

done_said : (b : Bool) (n i : ℕ) → figures_found b n i ≡ Ok tt → (b ≡ false) × (n ≡ 0) × (i ≡ 0)
done_said true n i e = done_refused (sym e)
done_said false zero zero e = (refl, refl, refl)
done_said false zero (suc i) e = done_refused (sym e)
done_said false (suc n) i e = done_refused (sym e)

-- a refusal of rows 5 or 6 comes after all lines
after_lines : (text : List ℕ) (r : Refusal) → 5 ≤ number_of r → Came text r → AllClear text × (figures_outcome (file_set text) ≡ Err r)
after_lines text r five (at_line row j same clear low) =
    absurd (omega (arith, row_below row (suc j), ap number_of same))
after_lines text r five (at_figures clear e) = (all_clear text clear, e)

-- the first of a list for which a test holds, counted from 1
module _ {A : Type 0} (p : A → Bool) (z : A) (xs : List A) where
  record FirstIn (k : ℕ) : Type 0 where
    within : k ≤ length xs
    holds : p (get_or xs (pred k) z) ≡ true
    earlier : (j : ℕ) → 1 ≤ j → j < k → p (get_or xs (pred j) z) ≡ false

  stops_in : (d : ℕ) → Stops p z xs d → FirstIn (suc d)
  stops_in d s = record { within = omega (arith, s.within); holds = s.holds; earlier = before }
    where
      before : (j : ℕ) → 1 ≤ j → j < suc d → p (get_or xs (pred j) z) ≡ false
      before zero one lt = absurd (omega arith)
      before (suc j) one lt = s.earlier j (omega arith)

  first_in_lem : (k : ℕ) → 1 ≤ k → first_task p xs ≡ k → FirstIn k
  first_in_lem zero one e = absurd (omega arith)
  first_in_lem (suc m) one e =
      let stop : (d : ℕ) × (m ≡ 0 + d) × Stops p z xs d = first_stops p z 0 m xs e in
      let same : stop.0 ≡ m = omega (arith, stop.1) in
      subst (λ (d : ℕ). FirstIn (suc d)) same (stops_in stop.0 stop.2)

  in_first : (k : ℕ) → 1 ≤ k → FirstIn k → first_task p xs ≡ k
  in_first zero one f = absurd (omega arith)
  in_first (suc d) one f =
      let stops : Stops p z xs d = record { within = omega (arith, f.within); holds = f.holds; earlier = λ j lt. f.earlier (suc j) (omega arith) (omega arith) } in
      omega (arith, stops_first p z 1 d xs stops)

  first_zero : first_task p xs ≡ 0 → (j : ℕ) → 1 ≤ j → j ≤ length xs → p (get_or xs (pred j) z) ≡ false
  first_zero e zero one le = absurd (omega arith)
  first_zero e (suc j) one le = first_none p z 0 xs e j (omega arith)

  zero_first : ((j : ℕ) → 1 ≤ j → j ≤ length xs → p (get_or xs (pred j) z) ≡ false) → first_task p xs ≡ 0
  zero_first f = none_first p z 1 xs (λ j lt. f (suc j) (omega arith) (omega arith))

  -- it is one of them
  first_few : first_task p xs ≤ length xs
  first_few = at (first_task p xs) refl
    where
      at : (k : ℕ) → first_task p xs ≡ k → k ≤ length xs
      at zero e = omega arith
      at (suc m) e = (first_in_lem (suc m) (omega arith) e).within

-- what rows 5 and 6 find in a file
module _ (text : List ℕ) where
  abbrev board : Bool
  board = board_row (file_header text)

  abbrev task : ℕ
  task = first_task range_row (file_tasks text)

  abbrev row : Interrupt → Bool
  row = interrupt_row (file_header text).processors

  abbrev interrupt : ℕ
  interrupt = first_task row (file_interrupts text)

  file_figures : figures_outcome (file_set text) ≡ figures_found board task interrupt
  unfolding figures_outcome file_set set_of
  file_figures =
      ap₂ (λ (ts : List Task) (is : List Interrupt). figures_found board (first_task range_row ts) (first_task row is))
      (members_set (file_header text) (file_tasks text) (file_interrupts text)) (interrupts_set (file_header text) (file_tasks text) (file_interrupts text))

  refused_said : (r : Refusal) → 5 ≤ number_of r → (read_of text).outcome ≡ Err r → AllClear text × (figures_found board task interrupt ≡ Err r)
  refused_said r five e = let all = after_lines text r five (came text r e) in (all.0, sym file_figures ∙ all.1)

  found_outcome : {b : Bool} {n i : ℕ} → AllClear text → board ≡ b → task ≡ n → interrupt ≡ i → (read_of text).outcome ≡ figures_found b n i
  found_outcome clear eb et ei = clear_outcome text clear ∙ file_figures ∙ (λ j. figures_found (eb j) (et j) (ei j))

  -- a clear file has no more tasks than fit
  tasks_few : AllClear text → task ≤ most_tasks
  tasks_few clear =
      let end : Ended text = ends text (λ j one le. clear j one) in
      omega (arith, first_few range_row zero_task (file_tasks text), (shaped_all text end.tasks end.interrupts end.reached.shaped end.ended).0, end.reached.most)

-- row 5
pub read_exactly_board : ReadExactlyBoard
read_exactly_board text = (said, answered)
  where
    said : (read_of text).outcome ≡ Err Board → AllClear text × (board_row (file_header text) ≡ true)
    said e = let found = refused_said text Board (omega arith) e in (found.0, board_said (board text) (task text) (interrupt text) found.1)

    answered : AllClear text × (board_row (file_header text) ≡ true) → (read_of text).outcome ≡ Err Board
    answered h = found_outcome text h.0 h.1 refl refl

-- row 6, with its task
pub read_exactly_range : ReadExactlyRange
read_exactly_range text k few = (said, answered)
  where
    said : (read_of text).outcome ≡ Err (Range k) → FirstRange text k
    said e =
        let found = refused_said text (Range k) (omega arith) e in
        let told = range_said (board text) (task text) (interrupt text) k few found.1 in
        let first = first_in_lem range_row zero_task (file_tasks text) k told.2 told.1 in
        record { clear = found.0; board = told.0; counted = told.2; within = first.within; holds = first.holds; earlier = first.earlier }

    some : (n : ℕ) → 1 ≤ n → figures_found false n (interrupt text) ≡ Err (Range n)
    some zero one = absurd (omega arith)
    some (suc n) one = refl

    answered : FirstRange text k → (read_of text).outcome ≡ Err (Range k)
    answered f =
        let first = in_first range_row zero_task (file_tasks text) k f.counted (record { within = f.within; holds = f.holds; earlier = f.earlier }) in
        found_outcome text f.clear f.board first refl ∙ some k f.counted

-- row 6, with its interrupt
pub read_exactly_interrupt : ReadExactlyInterrupt
read_exactly_interrupt text k one = (said, answered)
  where
    said : (read_of text).outcome ≡ Err (Range (most_tasks + k)) → FirstInterrupt text k
    said e =
        let found = refused_said text (Range (most_tasks + k)) (omega arith) e in
        let told = interrupt_said (board text) (task text) (interrupt text) k (tasks_few text found.0) one found.1 in
        let first = first_in_lem (row text) zero_interrupt (file_interrupts text) k one told.2 in
        record {
          clear = found.0;
          board = told.0;
          tasks = first_zero range_row zero_task (file_tasks text) told.1;
          within = first.within;
          holds = first.holds;
          earlier = first.earlier;
        }

    some : (n : ℕ) → 1 ≤ n → figures_found false 0 n ≡ Err (Range (most_tasks + n))
    some zero one = absurd (omega arith)
    some (suc n) one = refl

    answered : FirstInterrupt text k → (read_of text).outcome ≡ Err (Range (most_tasks + k))
    answered f =
        let first = in_first (row text) zero_interrupt (file_interrupts text) k one (record { within = f.within; holds = f.holds; earlier = f.earlier }) in
        found_outcome text f.clear f.board (zero_first range_row zero_task (file_tasks text) f.tasks) first ∙ some k one

-- none of rows 1 to 6
pub read_exactly_done : ReadExactlyDone
read_exactly_done text = (said, answered)
  where
    said : (read_of text).outcome ≡ Ok tt → NoRow text
    said e =
        let both-done : (till (line_outcome text) (length text + 2) ≡ Ok tt) × (figures_outcome (file_set text) ≡ Ok tt) = read_done text e in
        let told = done_said (board text) (task text) (interrupt text) (sym (file_figures text) ∙ both-done.1) in
        record {
          clear = all_clear text both-done.0;
          board = told.0;
          range = first_zero range_row zero_task (file_tasks text) told.1;
          interrupts = first_zero (row text) zero_interrupt (file_interrupts text) told.2;
        }

    answered : NoRow text → (read_of text).outcome ≡ Ok tt
    answered f =
        found_outcome text f.clear f.board (zero_first range_row zero_task (file_tasks text) f.range) (zero_first (row text) zero_interrupt (file_interrupts text) f.interrupts)

-- the reader's numbers, and the all-zero set
pub read_refuses : ReadRefuses
unfolding read_of
read_refuses text r e = (number (came text r e), ap (λ (o : Outcome). (answer o (file_set text)).set) (outcome_of_lem text (Err r) e))
  where
    number : Came text r → number_of r ≤ 6
    number (at_line row j same clear low) = omega (arith, row_below row (suc j), ap number_of same)
    number (at_figures clear e) = (figures_number (file_set text) r e).1

pub read_determined : ReadDetermined
read_determined text a b p q = p ∙ sym q

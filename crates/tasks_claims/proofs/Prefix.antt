-- Reading looks no further than a header, a 05 line, a 06 line, 64 tasks, 32 interrupts and one line more: a text cut behind them is answered the same.
use Rattle.std.specs.Prelude.{Err, Ok}
use Prim.Native.Nat.{ℕ, zero, suc, pred, ◌+◌, ◌-◌, ◌≤◌, ◌<◌}
use native.Mathlib.Omega.{arith}
use native.Mathlib.Decide.{dec_lt}
use mathlib.Core.List.{List, [], ◌∷◌, ◌++◌}
use mathlib.Core.Bool.{Bool, true, false, cond, ◌||◌}
use mathlib.Core.Path.{◌≡◌, refl, sym, ◌∙◌, ap, ap₂}
use lib.ListN.{length, take, drop}
use lib.Seq.{take_all, take-take, take-add, drop_at, length-take-le}
use lib.Dec.{eqb}
use Rattle.frameread.specs.Line.{formed, field_of, line}
use Rattle.frames.specs.Table.{length_of, widths_of, sum, index_of}
use Rattle.frames.specs.declared.table.Frame.{Frame}
use Rattle.refusals.specs.declared.Refusal.{Refusal}
use Rattle.refusals.specs.declared.Refusal.TheVariants.{Count, Twice}
use Rattle.refusals.specs.Refused.{Outcome}
use Rattle.frameread.proofs.Formed.{formed_line}
use Rattle.frames_claims.proofs.LineLaws.{formed_prefix}
use Rattle.tasks.specs.declared.set.Interrupt.{Interrupt}
use Rattle.tasks.specs.declared.set.Task.{Task}
use Rattle.refusals.specs.First.{first_of, when, till}
use Rattle.tasks.specs.Set.{most_tasks, most_interrupts, has_id}
use Rattle.tasks.specs.Search.{some}
use Rattle.taskfile.specs.File.{past, empty, file_kinds, line_outcome, bytes_by, rule_line, opening_lines, opening_bytes, task_formed, task_kind, cache_at, task_at, interrupt_at, among, tasks_among, interrupts_among}
use Rattle.readbytes.specs.Furthest.{furthest}
use Rattle.taskread.specs.Read.{read_of}
use Rattle.tasks_claims.specs.Claims.{Opened, lines_to, size_of, ReadLooksAt}
use Rattle.taskfile.proofs.TaskLaws.{task_formed_lem, kind_most}
use Rattle.taskfile.proofs.AmongLaws.{among_here, among_other}
use Rattle.taskfile.proofs.Past.{past_formed}
use Rattle.taskread.proofs.Reading.{reads_refused}
use Rattle.taskfile.proofs.Lines.{neither, line_other, first_header, first_task_lem, first_kind, first_other, later_header, later_masked, later_rule, later_task, late_task_lem, later_interrupt, clear_header}
use Rattle.refusals.proofs.FirstLaws.{till_suc}
use Rattle.tasks_claims.proofs.ShapedLaws.{optional_most, opening_most, lines_in, lines_opened, lines_some, size_most, size_task, shaped_none, past_shaped}
use Rattle.tasks_claims.proofs.ReachedLaws.{Reached, Next, task, interrupt, reached_next}
use Rattle.taskfile.proofs.Standing.{byte_there}
use Rattle.taskfile.proofs.OpeningLaws.{past_header, passed_masked, taken_opening, among_opening, none_opening}

-- a part of the front of a text is the front of a part
drop_take : (p m : ℕ) (text : List ℕ) → p ≤ length text → drop p (take (p + m) text) ≡ take m (drop p text)
drop_take p m text h = rw (take-add p m text) (drop_at (take p text) (take m (drop p text)) p (length-take-le p text h))

-- what follows a formed line does not change its bytes, nor what it gives
line_prefix : (frame : Frame) (n : ℕ) (text : List ℕ) → length_of frame + 1 ≤ n → formed frame text ≡ true → line (take n text) ≡ line text
line_prefix frame n text h f =
    formed_line frame (take n text) (formed_prefix frame n text h ∙ f)
    ∙ (take-take (length_of frame) n text (omega arith) ∙ sym (formed_line frame text f))

task_same : (a b : List ℕ) → formed Frame.Cached a ≡ formed Frame.Cached b → line a ≡ line b → task_at a ≡ task_at b
unfolding task_at task_kind cache_at field_of
task_same a b kind e = rw (kind, e)

interrupt_same : (a b : List ℕ) → line a ≡ line b → interrupt_at a ≡ interrupt_at b
unfolding interrupt_at field_of
interrupt_same a b e = rw e

there_take : (n : ℕ) (rest : List ℕ) → 1 ≤ n → empty rest ≡ false → empty (take n rest) ≡ false
there_take zero rest one e = absurd (omega arith)
there_take (suc n) [] one e = e
there_take (suc n) (b ∷ bs) one e = refl

module _ (N : ℕ) (text : List ℕ) (far : furthest ≤ N) (long : N < length text) where
  abbrev cut : List ℕ
  cut = take N text

  cut_length : length cut ≡ N
  cut_length = length-take-le N text (omega arith)

  -- a place of the front, as one of the text
  drop_cut : (p : ℕ) → p ≤ N → drop p cut ≡ take (N - p) (drop p text)
  drop_cut p fits =
      let split : p + (N - p) ≡ N = omega arith in
      ap (λ (n : ℕ). drop p (take n text)) (sym split) ∙ drop_take p (N - p) text (omega arith)

  -- the front is opened as the text is, with as many lines and bytes
  opened_cut : Opened text → Opened cut
  unfolding widths_of sum
  opened_cut header = formed_prefix Frame.Header N text (omega arith) ∙ header

  -- a line that starts in both at the same byte, and that the front has, is of the same kind in both
  optional_cut : (kind : Frame) (k at : ℕ) → past k cut ≡ drop at cut → past k text ≡ drop at text → at + (length_of kind + 1) ≤ N → formed kind (past k cut) ≡ formed kind (past k text)
  optional_cut kind k at here there fits =
      ap (formed kind) (here ∙ drop_cut at (omega arith) ∙ ap (take (N - at)) (sym there)) ∙ formed_prefix kind (N - at) (past k text) (omega arith)

  module _ (header : Opened text) where
    masked_cut : formed Frame.Masked (past 1 cut) ≡ formed Frame.Masked (past 1 text)
    unfolding widths_of sum
    masked_cut = optional_cut Frame.Masked 1 (length_of Frame.Header + 1) (past_header cut (opened_cut header)) (past_header text header) (omega arith)

    place_cut : rule_line cut ≡ rule_line text
    unfolding rule_line
    place_cut = ap (λ (b : Bool). cond b 3 2) masked_cut

    bytes_cut : bytes_by Frame.Masked (past 1 cut) ≡ bytes_by Frame.Masked (past 1 text)
    bytes_cut = ap (λ (b : Bool). cond b (length_of Frame.Masked + 1) 0) masked_cut

    rule_cut : formed Frame.Rule (past (pred (rule_line cut)) cut) ≡ formed Frame.Rule (past (pred (rule_line text)) text)
    unfolding widths_of sum
    rule_cut =
        let at = length_of Frame.Header + 1 + bytes_by Frame.Masked (past 1 text) in
        let here : past (pred (rule_line text)) cut ≡ drop at cut = ap (λ (n : ℕ). past (pred n) cut) (sym place_cut) ∙ (passed_masked cut (opened_cut header)).rest ∙ ap (λ (n : ℕ). drop (length_of Frame.Header + 1 + n) cut) bytes_cut in
        ap (λ (n : ℕ). formed Frame.Rule (past (pred n) cut)) place_cut
        ∙ optional_cut Frame.Rule (pred (rule_line text)) at here (passed_masked text header).rest (omega (arith, optional_most Frame.Masked (past 1 text)))

    lines_cut : opening_lines cut ≡ opening_lines text
    unfolding opening_lines
    lines_cut = ap₂ (λ (b : Bool) (n : ℕ). cond b n (pred n)) rule_cut place_cut

    size_cut : opening_bytes cut ≡ opening_bytes text
    unfolding opening_bytes
    size_cut = ap₂ (λ (n : ℕ) (b : Bool). length_of Frame.Header + 1 + n + cond b (length_of Frame.Rule + 1) 0) bytes_cut rule_cut

  -- the lines of n tasks and k interrupts are clear in both, end at the same byte and hold the same
  record Same (n k : ℕ) : Type 0 where
    reached : Reached text n k
    rest : past (lines_to text n k) cut ≡ drop (size_of text n k) cut
    tasks : tasks_among cut (lines_to text n k) ≡ tasks_among text (lines_to text n k)
    interrupts : interrupts_among cut (lines_to text n k) ≡ interrupts_among text (lines_to text n k)
    clear : till (line_outcome text) (lines_to text n k) ≡ Ok tt
    clear_cut : till (line_outcome cut) (lines_to text n k) ≡ Ok tt

  same_none : Opened text → Same 0 0
  same_none header =
      let lines = lines_cut header in
      record {
        reached = record { shaped = shaped_none text header; most = omega arith; few = omega arith };
        rest = ap (λ (n : ℕ). past n cut) (sym lines) ∙ (taken_opening cut (opened_cut header)).rest ∙ ap (λ (n : ℕ). drop n cut) (size_cut header);
        tasks = ap (tasks_among cut) (sym lines) ∙ among_opening cut (opened_cut header) ∙ sym (among_opening text header);
        interrupts = ap (interrupts_among cut) (sym lines) ∙ none_opening cut (opened_cut header) ∙ sym (none_opening text header);
        clear = (taken_opening text header).clear;
        clear_cut = ap (till (line_outcome cut)) (sym lines) ∙ (taken_opening cut (opened_cut header)).clear;
      }

  module _ (n k : ℕ) (c : Same n k) where
    abbrev lines : ℕ
    lines = lines_to text n k

    abbrev at : ℕ
    at = size_of text n k

    some_lines : 1 ≤ lines
    some_lines = lines_some text n k

    -- the next line is there, and the front has all of it
    fits : at + 31 ≤ N
    unfolding widths_of sum
    fits = omega (arith, size_most text n k, opening_most text, c.reached.most, c.reached.few)

    ends_at : (past lines text ≡ drop at text) × (at ≤ length text)
    ends_at = past_shaped text n k c.reached.shaped

    there : empty (past lines text) ≡ false
    there = ap empty ends_at.0 ∙ byte_there at text (omega (arith, fits, long))

    same_rest : past lines cut ≡ take (N - at) (past lines text)
    same_rest = c.rest ∙ drop_cut at (omega (arith, fits)) ∙ ap (take (N - at)) (sym ends_at.0)

    there_cut : empty (past lines cut) ≡ false
    there_cut = ap empty same_rest ∙ there_take (N - at) (past lines text) (omega (arith, fits)) there

    kind_cut : (frame : Frame) → length_of frame + 1 ≤ 31 → formed frame (past lines cut) ≡ formed frame (past lines text)
    kind_cut frame short = ap (formed frame) same_rest ∙ formed_prefix frame (N - at) (past lines text) (omega (arith, fits, short))

    line_cut : (frame : Frame) → length_of frame + 1 ≤ 31 → formed frame (past lines text) ≡ true → line (past lines cut) ≡ line (past lines text)
    line_cut frame short here = ap line same_rest ∙ line_prefix frame (N - at) (past lines text) (omega (arith, fits, short)) here

    -- whether it is a task's, and the figures of one
    task_cut : task_formed (past lines cut) ≡ task_formed (past lines text)
    unfolding task_formed widths_of sum
    task_cut = ap₂ ◌||◌ (kind_cut Frame.Task (omega arith)) (kind_cut Frame.Cached (omega arith))

    short_task : length_of (task_kind (past lines text)) + 1 ≤ 31
    unfolding widths_of sum
    short_task = omega (arith, kind_most (past lines text))

    figures_task : task_formed (past lines text) ≡ true → task_at (past lines cut) ≡ task_at (past lines text)
    unfolding widths_of sum
    figures_task here =
        task_same (past lines cut) (past lines text) (kind_cut Frame.Cached (omega arith)) (line_cut (task_kind (past lines text)) short_task (task_formed_lem (past lines text) here))

    figures_interrupt : formed Frame.Interrupt (past lines text) ≡ true → interrupt_at (past lines cut) ≡ interrupt_at (past lines text)
    unfolding widths_of sum
    figures_interrupt here = interrupt_same (past lines cut) (past lines text) (line_cut Frame.Interrupt (omega arith) here)

    -- what the lines hold with one more
    among_cut : {A : Type 0} (test : List ℕ → Bool) (figures : List ℕ → A) → test (past lines cut) ≡ test (past lines text) → (test (past lines text) ≡ true → figures (past lines cut) ≡ figures (past lines text)) → among test figures cut lines ≡ among test figures text lines → among test figures cut (suc lines) ≡ among test figures text (suc lines)
    among_cut {A = A} test figures same_test same_figures_lem before = by_test (test (past lines text)) refl
      where
        by_test : (b : Bool) → test (past lines text) ≡ b → among test figures cut (suc lines) ≡ among test figures text (suc lines)
        by_test true e =
            among_here test figures cut lines (same_test ∙ e)
            ∙ ap₂ (λ (xs : List A) (x : A). xs ++ (x ∷ [])) before (same_figures_lem e)
            ∙ sym (among_here test figures text lines e)
        by_test false e =
            among_other test figures cut lines (same_test ∙ e) ∙ before ∙ sym (among_other test figures text lines e)

    -- the line is answered the same
    same_line : line_outcome cut (suc lines) ≡ line_outcome text (suc lines)
    unfolding widths_of sum
    same_line = kinds (formed Frame.Header (past lines text)) (task_formed (past lines text)) (formed Frame.Masked (past lines text)) (formed Frame.Rule (past lines text)) (formed Frame.Interrupt (past lines text)) refl refl refl refl refl
      where
        a_task : (is : List Interrupt) → interrupts_among text lines ≡ is → task_formed (past lines text) ≡ true → line_outcome cut (suc lines) ≡ line_outcome text (suc lines)
        a_task [] none et =
            later_task cut lines some_lines (c.interrupts ∙ none) (task_cut ∙ et)
            ∙ ap₂ (λ (u : Task) (ts : List Task). first_of (when (eqb (length ts) most_tasks) (Count (suc lines))) (when (some (has_id u.id) ts) (Twice (suc lines)))) (figures_task et) c.tasks
            ∙ sym (later_task text lines some_lines none et)
        a_task (i ∷ is) late et =
            late_task_lem cut lines some_lines (omega (arith, ap length (c.interrupts ∙ late))) (task_cut ∙ et)
            ∙ sym (late_task_lem text lines some_lines (omega (arith, ap length late)) et)

        opened_both : (opening_lines cut ≤ lines) × (opening_lines text ≤ lines)
        opened_both = (omega (arith, lines_cut c.reached.shaped.opened, lines_opened text n k), lines_opened text n k)

        kinds : (h t b r i : Bool) → formed Frame.Header (past lines text) ≡ h → task_formed (past lines text) ≡ t → formed Frame.Masked (past lines text) ≡ b → formed Frame.Rule (past lines text) ≡ r → formed Frame.Interrupt (past lines text) ≡ i → line_outcome cut (suc lines) ≡ line_outcome text (suc lines)
        kinds true t b r i eh et eb er ei =
            later_header cut lines some_lines (kind_cut Frame.Header (omega arith) ∙ eh) ∙ sym (later_header text lines some_lines eh)
        kinds false true b r i eh et eb er ei = a_task (interrupts_among text lines) refl et
        kinds false false true r i eh et eb er ei =
            later_masked cut lines opened_both.0 (kind_cut Frame.Masked (omega arith) ∙ eb) ∙ sym (later_masked text lines opened_both.1 eb)
        kinds false false false true i eh et eb er ei =
            later_rule cut lines opened_both.0 (kind_cut Frame.Rule (omega arith) ∙ er) ∙ sym (later_rule text lines opened_both.1 er)
        kinds false false false false true eh et eb er ei =
            later_interrupt cut lines some_lines (kind_cut Frame.Interrupt (omega arith) ∙ ei)
            ∙ ap (λ (is : List Interrupt). when (eqb (length is) most_interrupts) (Count (suc lines))) c.interrupts
            ∙ sym (later_interrupt text lines some_lines ei)
        kinds false false false false false eh et eb er ei =
            line_other cut lines there_cut (neither (past lines cut) (kind_cut Frame.Header (omega arith) ∙ eh) (task_cut ∙ et) (kind_cut Frame.Masked (omega arith) ∙ eb) (kind_cut Frame.Rule (omega arith) ∙ er) (kind_cut Frame.Interrupt (omega arith) ∙ ei))
            ∙ sym (line_other text lines there (neither (past lines text) eh et eb er ei))

    -- one line more is taken in both
    same_next : (m l : ℕ) (frame : Frame) → Reached text m l → lines_to text m l ≡ suc lines → size_of text m l ≡ at + (length_of frame + 1) → length_of frame + 1 ≤ 31 → formed frame (past lines text) ≡ true → line_outcome text (suc lines) ≡ Ok tt → Same m l
    unfolding widths_of sum
    same_next m l frame reached on size short here done =
        record {
          reached = reached;
          rest =
              ap (λ (k : ℕ). past k cut) on
              ∙ (past_formed frame cut lines at c.rest (omega (arith, fits, cut_length)) (ap (formed frame) (sym c.rest) ∙ kind_cut frame short ∙ here)).0
              ∙ ap (λ (p : ℕ). drop p cut) (sym size);
          tasks = ap (tasks_among cut) on ∙ among_cut task_formed task_at task_cut figures_task c.tasks ∙ ap (tasks_among text) (sym on);
          interrupts = ap (interrupts_among cut) on ∙ among_cut (formed Frame.Interrupt) interrupt_at (kind_cut Frame.Interrupt (omega arith)) figures_interrupt c.interrupts ∙ ap (interrupts_among text) (sym on);
          clear = ap (till (line_outcome text)) on ∙ till_suc (line_outcome text) lines ∙ rw (c.clear, done);
          clear_cut = ap (till (line_outcome cut)) on ∙ till_suc (line_outcome cut) lines ∙ rw (c.clear_cut, same_line, done);
        }

  -- both are refused alike
  both_refused : (n : ℕ) (r : Refusal) → till (line_outcome cut) n ≡ Ok tt → till (line_outcome text) n ≡ Ok tt → line_outcome cut (suc n) ≡ Err r → line_outcome text (suc n) ≡ Err r → read_of cut ≡ read_of text
  both_refused n r c t ec et = reads_refused cut n r c ec ∙ sym (reads_refused text n r t et)

  -- a line is refused in both alike, or taken in both
  step : (n k : ℕ) → Same n k → ((m l : ℕ) → Same m l → m + l ≡ suc (n + k) → read_of cut ≡ read_of text) → read_of cut ≡ read_of text
  unfolding widths_of sum
  step n k c taken = by_line (line_outcome text (suc (lines_to text n k))) refl
    where
      next : line_outcome text (suc (lines_to text n k)) ≡ Ok tt → Next text n k → read_of cut ≡ read_of text
      next e (task none here more) =
          let rest = past (lines_to text n k) text in
          taken (suc n) k
          (same_next n k c (suc n) k (task_kind rest) more (omega (arith, lines_in text (suc n) k, lines_in text n k)) (size_task text n k none) (short_task n k c) (task_formed_lem rest here) e)
          (omega arith)
      next e (interrupt here more) = taken n (suc k) (same_next n k c n (suc k) Frame.Interrupt more refl refl (omega arith) here e) (omega arith)

      by_line : (o : Outcome) → line_outcome text (suc (lines_to text n k)) ≡ o → read_of cut ≡ read_of text
      by_line (Err r) e = both_refused (lines_to text n k) r c.clear_cut c.clear (same_line n k c ∙ e) e
      by_line (Ok _) e = next e (reached_next text n k c.reached (there n k c) e)

  -- in a text as long as that a line is refused, and the front's answer is the text's
  going : (fuel n k : ℕ) → most_tasks + most_interrupts ≤ n + k + fuel → Same n k → read_of cut ≡ read_of text
  going zero n k enough c = step n k c (λ m l more e. absurd (omega (arith, enough, e, more.reached.most, more.reached.few)))
  going (suc fuel) n k enough c = step n k c (λ m l more e. going fuel m l (omega (arith, enough, e)) more)

  -- line 1 is answered the same
  same_first : line_outcome cut 1 ≡ line_outcome text 1
  unfolding task_formed widths_of sum
  same_first = header (formed Frame.Header text) refl
    where
      there_text : empty text ≡ false
      there_text = byte_there 0 text (omega arith)

      there_front : empty cut ≡ false
      there_front = there_take N text (omega arith) there_text

      kind : (frame : Frame) → length_of frame + 1 ≤ 31 → formed frame cut ≡ formed frame text
      kind frame short = formed_prefix frame N text (omega (arith, short))

      task : task_formed cut ≡ task_formed text
      task = ap₂ ◌||◌ (kind Frame.Task (omega arith)) (kind Frame.Cached (omega arith))

      ordered : (frame : Frame) → eqb (index_of frame) 0 ≡ false → index_of frame < length file_kinds → length_of frame + 1 ≤ 31 → formed frame text ≡ true → line_outcome cut 1 ≡ line_outcome text 1
      ordered frame later lt short f = first_kind frame later lt cut (kind frame short ∙ f) ∙ sym (first_kind frame later lt text f)

      other : (t b r i : Bool) → formed Frame.Header text ≡ false → task_formed text ≡ t → formed Frame.Masked text ≡ b → formed Frame.Rule text ≡ r → formed Frame.Interrupt text ≡ i → line_outcome cut 1 ≡ line_outcome text 1
      other true b r i eh et eb er ei = first_task_lem cut (task ∙ et) ∙ sym (first_task_lem text et)
      other false true r i eh et eb er ei = ordered Frame.Masked refl (omega arith) (omega arith) eb
      other false false true i eh et eb er ei = ordered Frame.Rule refl (omega arith) (omega arith) er
      other false false false true eh et eb er ei = ordered Frame.Interrupt refl (omega arith) (omega arith) ei
      other false false false false eh et eb er ei =
          first_other cut there_front (neither cut (kind Frame.Header (omega arith) ∙ eh) (task ∙ et) (kind Frame.Masked (omega arith) ∙ eb) (kind Frame.Rule (omega arith) ∙ er) (kind Frame.Interrupt (omega arith) ∙ ei))
          ∙ sym (first_other text there_text (neither text eh et eb er ei))

      header : (h : Bool) → formed Frame.Header text ≡ h → line_outcome cut 1 ≡ line_outcome text 1
      header true e = first_header cut (kind Frame.Header (omega arith) ∙ e) ∙ sym (first_header text e)
      header false e = other (task_formed text) (formed Frame.Masked text) (formed Frame.Rule text) (formed Frame.Interrupt text) e refl refl refl refl

  pub long_prefix : read_of cut ≡ read_of text
  unfolding till
  long_prefix = at_first (line_outcome text 1) refl
    where
      at_first : (o : Outcome) → line_outcome text 1 ≡ o → read_of cut ≡ read_of text
      at_first (Err r) e = both_refused 0 r refl refl (same_first ∙ e) e
      at_first (Ok _) e = going (most_tasks + most_interrupts) 0 0 (omega arith) (same_none (clear_header text e))

-- reading looks no further than that
pub read_looks_at : ReadLooksAt
read_looks_at N text far =
    elim (dec_lt N (length text)) [
      | yes long ↦ long_prefix N text far long
      | no short ↦ ap read_of (take_all N text (omega (arith, short)))
    ]

-- in bytes: 31 + 7 + 5 + 64 · 27 + 32 · 27 + 31
pub furthest_bytes : furthest ≡ 2666
unfolding widths_of sum
furthest_bytes = refl

-- Task files and what reading answers for each, computed from the definitions of specs/.
-- Document 01, example A and the rows of the refusals; document 02, Req 04, 05, 07 and 08.
use Rattle.std.specs.Prelude.{Err, None, Ok, Option, Some, ℕ}
use Prim.Native.String.{String}
use mathlib.Core.List.{List, [], ◌∷◌, map}
use mathlib.Core.Path.{◌≡◌, refl}
use Rattle.digits.specs.Digit.{legal, value_of, digit_of, all_legal}
use Rattle.digits.specs.Number.{number_from, hex}
use Rattle.frames.specs.Table.{kind_of, widths_of, sum}
use Rattle.frameread.specs.Line.{line, after, closed, formed, field_of}
use Rattle.framewrite.specs.Line.{fields, line_of}
use Rattle.laws.specs.Same.{same}
use Rattle.refusals.specs.declared.Refusal.TheVariants.{Line, Order, Count, Twice, Board, Range}
use Rattle.refusals.specs.Refused.{Outcome}
use Rattle.tasks.specs.declared.set.Interrupt.{Interrupt}
use Rattle.tasks.specs.Set.{set_of, members, interrupts_in, interrupts_with}
use Rattle.refusals.specs.First.{till}
use Rattle.tasks.specs.Search.{some, first_from}
use Rattle.taskrows.specs.Rows.{board_row, range_row, interrupt_row, figures_outcome}
use Rattle.taskfile.specs.File.{past, among, line_row, order_row, count_line_row, twice_line_row, line_outcome, header_at, masked_at, rule_line, rule_at, file_header, task_formed, task_kind, cache_at, task_at, interrupt_at}
use Rattle.taskread.specs.Read.{file_set, read_outcome, read_of}
use Rattle.framelines.specs.Each.{each_line}
use Rattle.optionallines.specs.Lines.{optional_line}
use Rattle.tasktext.specs.Text.{text_of}
pub use Rattle.quoted.specs.Quoted.{bytes_of}

-- what reading computes with, and writing: to unfold one of these is to unfold what its line names
unfoldable reading : Unit {0}
unfolding legal value_of all_legal number_from kind_of widths_of sum line after closed same formed field_of set_of interrupts_with first_from board_row range_row interrupt_row figures_outcome some till past among line_row order_row count_line_row twice_line_row line_outcome header_at masked_at rule_line rule_at file_header task_formed task_kind cache_at task_at interrupt_at file_set read_outcome read_of
reading = tt

unfoldable writing : Unit {0}
unfolding digit_of hex fields line_of each_line optional_line text_of
writing = tt

abbrev pub answers : String → Outcome
answers text = (read_of (bytes_of text)).outcome

-- a file, and what reading it answers
pub record Example : Type 0 where
  pub file : String
  pub answer : Outcome

abbrev pub examples : List Example
examples =
    -- A
    record { file = "010200000A00000000000000000000\n020100000600000A00000A\n020200000600000A00000A\n020300000600000A00000A\n"; answer = Ok tt }
    -- nothing at all, and nothing but a header
    ∷ record { file = ""; answer = Err (Order 1) }
    ∷ record { file = "010200000A00000000000000000000\n"; answer = Err (Count 2) }
    -- no LF at the end, CR before LF, a lower-case digit
    ∷ record { file = "010200000A00000000000000000000\n020100000600000A00000A"; answer = Err (Line 2) }
    ∷ record { file = "010200000A00000000000000000000\r\n020100000600000A00000A\r\n"; answer = Err (Line 1) }
    ∷ record { file = "010200000a00000000000000000000\n020100000600000A00000A\n"; answer = Err (Line 1) }
    -- an id that repeats, a second header, an empty line
    ∷ record { file = "010200000A00000000000000000000\n020100000600000A00000A\n020100000500000A00000A\n"; answer = Err (Twice 3) }
    ∷ record { file = "010200000A00000000000000000000\n020100000600000A00000A\n010200000A00000000000000000000\n"; answer = Err (Order 3) }
    ∷ record { file = "010200000A00000000000000000000\n\n020100000600000A00000A\n"; answer = Err (Line 2) }
    -- a header that breaks row 5, a task that breaks row 6
    ∷ record { file = "010000000A00000000000000000000\n020100000600000A00000A\n"; answer = Err Board }
    ∷ record { file = "010200000A00000000000000000000\n020100000600000A00000A\n020200000B00000A00000A\n"; answer = Err (Range 2) }
    -- a 05 line behind the header, with 5 and with 0, and one digit short
    ∷ record { file = "010200000A00000000000000000000\n050005\n020100000600000A00000A\n"; answer = Ok tt }
    ∷ record { file = "010200000A00000000000000000000\n050000\n020100000600000A00000A\n"; answer = Ok tt }
    ∷ record { file = "010200000A00000000000000000000\n05005\n020100000600000A00000A\n"; answer = Err (Line 2) }
    -- elsewhere than line 2: at line 1, behind a task, and a second one
    ∷ record { file = "050005\n010200000A00000000000000000000\n020100000600000A00000A\n"; answer = Err (Order 1) }
    ∷ record { file = "010200000A00000000000000000000\n020100000600000A00000A\n050005\n"; answer = Err (Order 3) }
    ∷ record { file = "010200000A00000000000000000000\n050005\n050005\n020100000600000A00000A\n"; answer = Err (Order 3) }
    -- nothing behind it
    ∷ record { file = "010200000A00000000000000000000\n050005\n"; answer = Err (Count 3) }
    -- a 06 line behind the header, behind a 05 line, with the last rule, with a number above it, and one digit short
    ∷ record { file = "010200000A00000000000000000000\n0603\n020100000600000A00000A\n"; answer = Ok tt }
    ∷ record { file = "010200000A00000000000000000000\n050005\n0603\n020100000600000A00000A\n"; answer = Ok tt }
    ∷ record { file = "010200000A00000000000000000000\n0608\n020100000600000A00000A\n"; answer = Ok tt }
    ∷ record { file = "010200000A00000000000000000000\n0609\n020100000600000A00000A\n"; answer = Err Board }
    ∷ record { file = "010200000A00000000000000000000\n050005\n06FF\n020100000600000A00000A\n"; answer = Err Board }
    ∷ record { file = "010200000A00000000000000000000\n063\n020100000600000A00000A\n"; answer = Err (Line 2) }
    -- elsewhere: at line 1, before a 05 line, behind a task, behind an 07 line, and a second one with and without a 05 line
    ∷ record { file = "0603\n010200000A00000000000000000000\n020100000600000A00000A\n"; answer = Err (Order 1) }
    ∷ record { file = "010200000A00000000000000000000\n0603\n050005\n020100000600000A00000A\n"; answer = Err (Order 3) }
    ∷ record { file = "010200000A00000000000000000000\n020100000600000A00000A\n0603\n"; answer = Err (Order 3) }
    ∷ record { file = "010200000A00000000000000000000\n050005\n020100000600000A00000A\n0603\n"; answer = Err (Order 4) }
    ∷ record { file = "010200000A00000000000000000000\n020100000600000A00000A\n070100000100000A00000A0000\n0603\n"; answer = Err (Order 4) }
    ∷ record { file = "010200000A00000000000000000000\n0603\n0603\n020100000600000A00000A\n"; answer = Err (Order 3) }
    ∷ record { file = "010200000A00000000000000000000\n050005\n0603\n0603\n020100000600000A00000A\n"; answer = Err (Order 4) }
    -- nothing behind it
    ∷ record { file = "010200000A00000000000000000000\n0603\n"; answer = Err (Count 3) }
    ∷ record { file = "010200000A00000000000000000000\n050005\n0603\n"; answer = Err (Count 4) }
    -- 03 lines behind the header, before and behind 02 lines, one digit short, without its LF
    ∷ record { file = "010200000A00000000000000000000\n030100000600000A00000A0005\n"; answer = Ok tt }
    ∷ record { file = "010200000A00000000000000000000\n050005\n030100000600000A00000A0005\n020200000600000A00000A\n030300000600000A00000A0000\n070100000100000A00000A0000\n"; answer = Ok tt }
    ∷ record { file = "010200000A00000000000000000000\n030100000600000A00000A005\n"; answer = Err (Line 2) }
    ∷ record { file = "010200000A00000000000000000000\n020100000600000A00000A\n030200000600000A00000A0005"; answer = Err (Line 3) }
    -- elsewhere than among the tasks, with the id of an 02 line, and with a cost above its deadline
    ∷ record { file = "030100000600000A00000A0005\n010200000A00000000000000000000\n"; answer = Err (Order 1) }
    ∷ record { file = "010200000A00000000000000000000\n020100000600000A00000A\n070100000100000A00000A0000\n030200000600000A00000A0005\n"; answer = Err (Order 4) }
    ∷ record { file = "010200000A00000000000000000000\n020100000600000A00000A\n030100000500000A00000A0005\n"; answer = Err (Twice 3) }
    ∷ record { file = "010200000A00000000000000000000\n020100000600000A00000A\n030200000B00000A00000A0005\n"; answer = Err (Range 2) }
    -- an 07 line behind the tasks, two of them, one digit short, without its LF
    ∷ record { file = "010200000A00000000000000000000\n020100000600000A00000A\n070100000100000A00000A0000\n"; answer = Ok tt }
    ∷ record { file = "010200000A00000000000000000000\n020100000600000A00000A\n07020000020000050000140004\n070100000100000A00000A0000\n"; answer = Ok tt }
    ∷ record { file = "010200000A00000000000000000000\n020100000600000A00000A\n070100000100000A00000A000\n"; answer = Err (Line 3) }
    ∷ record { file = "010200000A00000000000000000000\n020100000600000A00000A\n070100000100000A00000A0000"; answer = Err (Line 3) }
    -- elsewhere than behind the tasks: at line 1, before a task, and a 05 line or a header behind it
    ∷ record { file = "070100000100000A00000A0000\n010200000A00000000000000000000\n020100000600000A00000A\n"; answer = Err (Order 1) }
    ∷ record { file = "010200000A00000000000000000000\n020100000600000A00000A\n070100000100000A00000A0000\n020200000600000A00000A\n"; answer = Err (Order 4) }
    ∷ record { file = "010200000A00000000000000000000\n020100000600000A00000A\n070100000100000A00000A0000\n050005\n"; answer = Err (Order 4) }
    ∷ record { file = "010200000A00000000000000000000\n020100000600000A00000A\n070100000100000A00000A0000\n010200000A00000000000000000000\n"; answer = Err (Order 4) }
    -- with no task
    ∷ record { file = "010200000A00000000000000000000\n070100000100000A00000A0000\n"; answer = Err (Count 3) }
    ∷ record { file = "010200000A00000000000000000000\n050005\n070100000100000A00000A0000\n070100000100000A00000A0000\n"; answer = Err (Count 5) }
    -- no cost, a cost above the deadline, a deadline above the period, a jitter as long as the deadline, no processor, a third of two
    ∷ record { file = "010200000A00000000000000000000\n020100000600000A00000A\n070100000000000A00000A0000\n"; answer = Err (Range 65) }
    ∷ record { file = "010200000A00000000000000000000\n020100000600000A00000A\n070100000B00000A00000A0000\n"; answer = Err (Range 65) }
    ∷ record { file = "010200000A00000000000000000000\n020100000600000A00000A\n070100000100000B00000A0000\n"; answer = Err (Range 65) }
    ∷ record { file = "010200000A00000000000000000000\n020100000600000A00000A\n070100000100000A00000A000A\n"; answer = Err (Range 65) }
    ∷ record { file = "010200000A00000000000000000000\n020100000600000A00000A\n070000000100000A00000A0000\n"; answer = Err (Range 65) }
    ∷ record { file = "010200000A00000000000000000000\n020100000600000A00000A\n070100000100000A00000A0000\n070300000100000A00000A0000\n"; answer = Err (Range 66) }
    -- a cost above D less J is in range, and a task out of range comes first
    ∷ record { file = "010200000A00000000000000000000\n020100000600000A00000A\n070100000A00000A00000A0009\n"; answer = Ok tt }
    ∷ record { file = "010200000A00000000000000000000\n020100000B00000A00000A\n070000000100000A00000A0000\n"; answer = Err (Range 1) }
    ∷ []

pub examples_read : map (λ e. answers e.file) examples ≡ map (λ e. e.answer) examples
unfolding reading
examples_read = refl

-- a file that is accepted, and what its set remembers of a 05 line, of a 06 line, of 03 lines and of 07 lines
pub record Kept : Type 0 where
  pub file : String
  pub masked : Option ℕ
  pub rule : Option ℕ
  pub caches : List (Option ℕ)
  pub interrupts : List Interrupt

abbrev pub kept : List Kept
kept =
    record { file = "010200000A00000000000000000000\n020100000600000A00000A\n"; masked = None; rule = None; caches = None ∷ []; interrupts = [] }
    ∷ record { file = "010200000A00000000000000000000\n050005\n020100000600000A00000A\n"; masked = Some 5; rule = None; caches = None ∷ []; interrupts = [] }
    ∷ record { file = "010200000A00000000000000000000\n050000\n020100000600000A00000A\n"; masked = Some 0; rule = None; caches = None ∷ []; interrupts = [] }
    ∷ record { file = "010200000A00000000000000000000\n020100000600000A00000A\n070100000100000A00000A0000\n"; masked = None; rule = None; caches = None ∷ []; interrupts = record { processor = 1; cost = 1; deadline = 10; period = 10; jitter = 0 } ∷ [] }
    ∷ record {
      file = "010200000A00000000000000000000\n050005\n020100000600000A00000A\n07020000020000050000140004\n070100000100000A00000A0000\n";
      masked = Some 5;
      rule = None;
      caches = None ∷ [];
      interrupts = record { processor = 2; cost = 2; deadline = 5; period = 20; jitter = 4 } ∷ record { processor = 1; cost = 1; deadline = 10; period = 10; jitter = 0 } ∷ [];
    }
    ∷ record { file = "010200000A00000000000000000000\n030100000600000A00000A0000\n"; masked = None; rule = None; caches = Some 0 ∷ []; interrupts = [] }
    ∷ record {
      file = "010200000A00000000000000000000\n050005\n030100000600000A00000A0005\n020200000600000A00000A\n030300000600000A00000AFFFF\n070100000100000A00000A0000\n";
      masked = Some 5;
      rule = None;
      caches = Some 5 ∷ None ∷ Some 65535 ∷ [];
      interrupts = record { processor = 1; cost = 1; deadline = 10; period = 10; jitter = 0 } ∷ [];
    }
    ∷ record { file = "010200000A00000000000000000000\n0603\n020100000600000A00000A\n"; masked = None; rule = Some 3; caches = None ∷ []; interrupts = [] }
    ∷ record { file = "010200000A00000000000000000000\n0600\n020100000600000A00000A\n"; masked = None; rule = Some 0; caches = None ∷ []; interrupts = [] }
    ∷ record { file = "010200000A00000000000000000000\n050005\n0608\n020100000600000A00000A\n"; masked = Some 5; rule = Some 8; caches = None ∷ []; interrupts = [] }
    ∷ []

pub kept_read : map (λ k. (read_of (bytes_of k.file)).set.header.masked) kept ≡ map (λ k. k.masked) kept
unfolding reading
kept_read = refl

pub kept_rule : map (λ k. (read_of (bytes_of k.file)).set.header.rule) kept ≡ map (λ k. k.rule) kept
unfolding reading
kept_rule = refl

pub kept_cached : map (λ k. map (λ t. t.cache) (members (read_of (bytes_of k.file)).set)) kept ≡ map (λ k. k.caches) kept
unfolding reading
kept_cached = refl

pub kept_listed : map (λ k. interrupts_in (read_of (bytes_of k.file)).set) kept ≡ map (λ k. k.interrupts) kept
unfolding reading
kept_listed = refl

-- written again each has the same bytes
pub kept_written : map (λ k. text_of (read_of (bytes_of k.file)).set) kept ≡ map (λ k. bytes_of k.file) kept
unfolding reading writing
kept_written = refl

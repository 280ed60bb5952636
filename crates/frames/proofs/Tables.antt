-- Laws of the table of frames: the line lengths, and what the filled rows have at each field.
-- Assumes nothing.
use Prim.Native.Nat.{ℕ, zero, suc, ◌+◌, ◌≤◌, ◌<◌}
use mathlib.Core.Path.{◌≡◌, refl, sym, ◌∙◌, ap}
use mathlib.Core.Bool.{Bool, true, cond, ◌&&◌}
use mathlib.Core.Option.{Option, none, some}
use mathlib.Core.List.{List, [], ◌∷◌, ◌++◌, map}
use native.Mathlib.Omega.{arith}
use lib.Dec.{leb, eqb}
use lib.ListN.{length, get_or, take, replicate}
use lib.Seq.{get_or-take, take_all}
use borrow.Author.Tests.{leb-true, eqb-true}
use Rattle.frames.specs.declared.table.Frame.{Frame}
use Rattle.frames.specs.declared.table.Frame.TheVariants.{Header, Task, Cached, Masked, Rule, Interrupt, Plan, Server, Placed, Processor, Refused, Switch, Accepted, Met}
use Rattle.digits.specs.Digit.{legal, all_legal}
use Rattle.frames.specs.Table.{all_frames, kind_of, widths_of, fields_in, most_fields, most_width, most_digits, sum, width_of, field_start, length_of, front, row_of, index_of}
use Rattle.laws.specs.Same.{same}
use Rattle.laws.proofs.Tests.{and_left, and_right}

-- a list over the frames has each frame's entry at its index
pub at_index : {B : Type 0} (g : Frame → B) (other : B) (frame : Frame) → get_or (map g all_frames) (index_of frame) other ≡ g frame
at_index g other Header = refl
at_index g other Task = refl
at_index g other Cached = refl
at_index g other Masked = refl
at_index g other Rule = refl
at_index g other Interrupt = refl
at_index g other Plan = refl
at_index g other Server = refl
at_index g other Placed = refl
at_index g other Processor = refl
at_index g other Refused = refl
at_index g other Switch = refl
at_index g other Accepted = refl
at_index g other Met = refl

-- a test of every entry of a list
abbrev every : {A : Type 0} → (A → Bool) → List A → Bool
every test [] = true
every test (x ∷ xs) = test x && every test xs

every_at : {A : Type 0} (test : A → Bool) (xs : List A) → every test xs ≡ true → (k : ℕ) → get_or (map test xs) k true ≡ true
every_at test [] p k = refl
every_at test (x ∷ xs) p zero = and_left (test x) (every test xs) p
every_at test (x ∷ xs) p (suc k) = every_at test xs (and_right (test x) (every test xs) p) k

-- a test that computes to true over all frames passes at each
pub at_frame : (test : Frame → Bool) → every test all_frames ≡ true → (frame : Frame) → test frame ≡ true
at_frame test p frame = sym (at_index test true frame) ∙ every_at test all_frames p (index_of frame)

-- a kind is two legal digits
pub kind_length : (frame : Frame) → length (kind_of frame) ≡ 2
unfolding kind_of
kind_length frame = eqb-true (length (kind_of frame)) 2 (at_frame (λ (f : Frame). eqb (length (kind_of f)) 2) refl frame)

pub kind_legal : (frame : Frame) → all_legal (kind_of frame) ≡ true
unfolding kind_of all_legal legal
kind_legal frame = at_frame (λ (f : Frame). all_legal (kind_of f)) refl frame

two : (l : List ℕ) → length l ≡ 2 → l ≡ get_or l 0 0 ∷ get_or l 1 0 ∷ []
two [] e = absurd (omega arith)
two (a ∷ []) e = absurd (omega arith)
two (a ∷ b ∷ []) e = refl
two (a ∷ b ∷ d ∷ l) e = absurd (omega arith)

pub kind_two : (frame : Frame) → kind_of frame ≡ get_or (kind_of frame) 0 0 ∷ get_or (kind_of frame) 1 0 ∷ []
kind_two frame = two (kind_of frame) (kind_length frame)

-- no frame has more than the most fields
pub fields_most : (frame : Frame) → fields_in frame ≤ most_fields
unfolding widths_of
fields_most frame = leb-true (fields_in frame) most_fields (at_frame (λ (f : Frame). leb (fields_in f) most_fields) refl frame)

-- no line has more than the most digits
pub length_most : (frame : Frame) → length_of frame ≤ most_digits
unfolding sum widths_of
length_most frame = leb-true (length_of frame) most_digits (at_frame (λ (f : Frame). leb (length_of f) most_digits) refl frame)

-- no field is wider than sixteen digits, so that its value fits 64 bits
pub width_most : (frame : Frame) (field : ℕ) → width_of frame field ≤ most_width
unfolding widths_of
width_most frame field = narrow (widths_of frame) (at_frame (λ (f : Frame). every (λ (w : ℕ). leb w most_width) (widths_of f)) refl frame) field
  where
    narrow : (ws : List ℕ) → every (λ (w : ℕ). leb w most_width) ws ≡ true → (k : ℕ) → get_or ws k 0 ≤ most_width
    narrow [] p k = omega arith
    narrow (w ∷ ws) p zero = leb-true w most_width (and_left (leb w most_width) _ p)
    narrow (w ∷ ws) p (suc k) = narrow ws (and_right (leb w most_width) _ p) k

-- the first of these frames that has this kind
abbrev of_kind : List ℕ → List Frame → Option Frame
of_kind kind [] = none
of_kind kind (f ∷ fs) = cond (same kind (kind_of f)) (some f) (of_kind kind fs)

found_kinds : map (λ (f : Frame). of_kind (kind_of f) all_frames) all_frames ≡ map some all_frames
unfolding kind_of same
found_kinds = refl

found_kind : (frame : Frame) → of_kind (kind_of frame) all_frames ≡ some frame
found_kind frame =
    sym (at_index (λ (f : Frame). of_kind (kind_of f) all_frames) none frame)
    ∙ ap (λ (l : List (Option Frame)). get_or l (index_of frame) none) found_kinds
    ∙ at_index some none frame

-- frames of one kind are one frame
pub kinds_differ : (f g : Frame) → kind_of f ≡ kind_of g → f ≡ g
kinds_differ f g e = cc (found_kind f, found_kind g, ap (λ (k : List ℕ). of_kind k all_frames) e)

-- zeros at the end of a list change no field
get_d_zeros : (ws : List ℕ) (n k : ℕ) → get_or (ws ++ replicate n 0) k 0 ≡ get_or ws k 0
get_d_zeros [] zero k = refl
get_d_zeros [] (suc n) zero = refl
get_d_zeros [] (suc n) (suc k) = get_d_zeros [] n k
get_d_zeros (w ∷ ws) n zero = refl
get_d_zeros (w ∷ ws) n (suc k) = get_d_zeros ws n k

-- the filled row has each field's width
pub row_width : (frame : Frame) (field : ℕ) → field < most_fields → get_or (row_of frame).widths field 0 ≡ width_of frame field
unfolding row_of
row_width frame field h = get_or-take most_fields (widths_of frame ++ replicate most_fields 0) field 0 h ∙ get_d_zeros (widths_of frame) most_fields field

front_at : (f : ℕ → ℕ) (n k : ℕ) → k < n → get_or (front f n) k 0 ≡ f k
unfolding front
front_at f zero k h = absurd (omega arith)
front_at f (suc n) zero h = refl
front_at f (suc n) (suc k) h = front_at (λ (i : ℕ). f (suc i)) n k (omega arith)

-- the row has each field's start
pub row_start : (frame : Frame) (field : ℕ) → field ≤ most_fields → get_or (row_of frame).starts field 0 ≡ field_start frame field
unfolding row_of
row_start frame field h = front_at (field_start frame) (most_fields + 1) field (omega arith)

-- the sum of a list's front, one entry more
pub sum_take : (ws : List ℕ) (k : ℕ) → sum (take (suc k) ws) ≡ sum (take k ws) + get_or ws k 0
unfolding sum
sum_take [] zero = refl
sum_take [] (suc k) = refl
sum_take (w ∷ ws) zero = omega arith
sum_take (w ∷ ws) (suc k) = omega (arith, sum_take ws k)

-- a front sums to no more than the whole
pub sum_front : (ws : List ℕ) (k : ℕ) → sum (take k ws) ≤ sum ws
unfolding sum
sum_front [] zero = omega arith
sum_front [] (suc k) = omega arith
sum_front (w ∷ ws) zero = omega arith
sum_front (w ∷ ws) (suc k) = omega (arith, sum_front ws k)

-- a field ends within its line
pub field_within : (frame : Frame) (field : ℕ) → field_start frame field + width_of frame field ≤ length_of frame
field_within frame field = omega (arith, sum_take (widths_of frame) field, sum_front (widths_of frame) (suc field))

-- past the last field the line ends
pub field_last : (frame : Frame) → field_start frame most_fields ≡ length_of frame
field_last frame = ap (λ (ws : List ℕ). 2 + sum ws) (take_all most_fields (widths_of frame) (fields_most frame))

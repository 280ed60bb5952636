-- What is promised of the four functions beside their contracts, each claim as a type. The proofs stand under the same names in proofs/.
-- Document 01, "How tight each promise is" and "a refused write stores nothing"; document 02, Req 01 (RULES 4.3 to 4.5).
use Rattle.std.specs.Prelude.{ℕ, ◌+◌, ◌*◌, ◌≤◌, ◌<◌, List, ◌∷◌, ◌++◌, ◌↔◌, ◌⊎◌, ◌≡◌, length, get_or, drop, Err, Ok}
use Rattle.refusals.specs.declared.Refusal.{Refusal}
use Rattle.refusals.specs.Refused.{Outcome}
use Rattle.refusals.specs.Refused.{number_of, place_of}
use Rattle.turn.specs.Count.{longest_switches}
use Rattle.plantext.specs.Text.{longest_text}
use Rattle.taskplan.specs.File.{filed_of}
use Rattle.planfile.specs.Tool.{answered}
use Rattle.filed_claims.specs.Claims.{FileAccepted, plan_in}
use Rattle.told.specs.Told.{status_of, leaves_numbers}
use Rattle.rack.specs.Rack.{plan_bytes, plan_leaves, who_numbers, who_told, pass_numbers, pass_told, list_text, list_numbers, list_told, list_leaves}

-- A caller who lends as many bytes as the longest text has gets the whole text: a plan, or a 1F line.
pub record PlanSuffices : Type 0 where
  pub bytes : (tasks out : List ℕ) → longest_text ≤ length out → plan_bytes tasks out ≡ length (answered tasks)
  pub leaves : (tasks out : List ℕ) → longest_text ≤ length out → plan_leaves tasks out ≡ answered tasks ++ drop (length (answered tasks)) out

-- Too short a buffer gets 0, and nothing is stored.
pub record PlanTooShort : Type 0 where
  pub bytes : (tasks out : List ℕ) → length out < length (answered tasks) → plan_bytes tasks out ≡ 0
  pub leaves : (tasks out : List ℕ) → length out < length (answered tasks) → plan_leaves tasks out ≡ out

-- what each contract says of the answer and of the lent memory
abbrev pub Plans : (tasks out : List ℕ) (r : ℕ) (left : List ℕ) → Type 0
Plans tasks out r left = (r ≡ plan_bytes tasks out) × (left ≡ plan_leaves tasks out)

abbrev pub Tells : Outcome → (numbers answer : List ℕ) (r : ℕ) (left : List ℕ) → Type 0
Tells told numbers answer r left = (r ≡ status_of told) × (left ≡ leaves_numbers told numbers answer)

-- of the switch list: its status, and what the place for the number then holds; `list_leaves` is what the lent bytes hold
abbrev pub list_status : (tasks out answer : List ℕ) → ℕ
list_status tasks out answer = status_of (list_told tasks out answer)

abbrev pub list_answer : (tasks out answer : List ℕ) → List ℕ
list_answer tasks out answer = leaves_numbers (list_told tasks out answer) (list_numbers tasks) answer

abbrev pub Lists : (tasks out answer : List ℕ) (r : ℕ) (text number : List ℕ) → Type 0
Lists tasks out answer r text number =
    (r ≡ list_status tasks out answer) × (text ≡ list_leaves tasks out answer) × (number ≡ list_answer tasks out answer)

-- Two results that keep a promise coincide: the answers, and what the lent memory holds.
pub record Determined : Type 0 where
  pub plan : (tasks out : List ℕ) {r s : ℕ} {l k : List ℕ} → Plans tasks out r l → Plans tasks out s k → (r ≡ s) × (l ≡ k)
  pub who : (tasks : List ℕ) (p x : ℕ) (answer : List ℕ) {r s : ℕ} {l k : List ℕ}
      → Tells (who_told tasks p x answer) (who_numbers tasks p x) answer r l → Tells (who_told tasks p x answer) (who_numbers tasks p x) answer s k
      → (r ≡ s) × (l ≡ k)
  pub pass : (tasks : List ℕ) (q R : ℕ) (answer : List ℕ) {r s : ℕ} {l k : List ℕ}
      → Tells (pass_told tasks q R answer) (pass_numbers tasks q R) answer r l → Tells (pass_told tasks q R answer) (pass_numbers tasks q R) answer s k
      → (r ≡ s) × (l ≡ k)
  pub list : (tasks out answer : List ℕ) {r s : ℕ} {t u l k : List ℕ} → Lists tasks out answer r t l → Lists tasks out answer s u k
      → (r ≡ s) × (t ≡ u) × (l ≡ k)

-- A status of 0 is given exactly for an answer that stands in the lent memory.
abbrev pub ZeroIsDone : Type 0
ZeroIsDone = (told : Outcome) → status_of told ≡ 0 → told ≡ Ok tt

-- ---- the switch list

-- It is given: status 0, the list at the start of the lent bytes, its number of bytes in answer[0], and what is behind stays.
pub record GivesList (tasks out answer : List ℕ) : Type 0 where
  pub status : list_status tasks out answer ≡ 0
  pub text : list_leaves tasks out answer ≡ list_text tasks ++ drop (length (list_text tasks)) out
  pub number : list_answer tasks out answer ≡ length (list_text tasks) ∷ drop 1 answer

-- It is refused with a status, and nothing is stored.
pub record RefusesList (tasks out answer : List ℕ) (told : ℕ) : Type 0 where
  pub status : list_status tasks out answer ≡ told
  pub text : list_leaves tasks out answer ≡ out
  pub number : list_answer tasks out answer ≡ answer

-- there is a place for the number, and room for the list; or one of both is missing
abbrev pub HasRoom : (tasks out answer : List ℕ) → Type 0
HasRoom tasks out answer = (1 ≤ length answer) × (length (list_text tasks) ≤ length out)

abbrev pub TooShort : (tasks out answer : List ℕ) → Type 0
TooShort tasks out answer = (length answer ≡ 0) ⊎ (length out < length (list_text tasks))

-- Room for the list and a place for the number: an accepted file's list is given. As many bytes as the longest list has are room for
-- every one.
pub record ListSuffices : Type 0 where
  pub fits : (tasks out answer : List ℕ) → FileAccepted tasks → HasRoom tasks out answer → GivesList tasks out answer
  pub longest : (tasks out answer : List ℕ) → FileAccepted tasks → longest_switches ≤ length out → 1 ≤ length answer → GivesList tasks out answer

-- Too short a buffer, or no place for the number: the status of ROOM, and nothing is stored.
abbrev pub ListTooShort : Type 0
ListTooShort = (tasks out answer : List ℕ) → FileAccepted tasks → TooShort tasks out answer → RefusesList tasks out answer (12 * 256)

-- A refused file has its own refusal's status, whatever is lent, and nothing is stored.
abbrev pub ListRefused : Type 0
ListRefused =
    (tasks out answer : List ℕ) (r : Refusal) → (filed_of tasks).outcome ≡ Err r → RefusesList tasks out answer (number_of r * 256 + place_of r)

-- An empty list, a refused file and too little room are told apart by what the caller sees.
pub record ListToldApart : Type 0 where
  -- status 0: an accepted file's list, and no other
  pub given : (tasks out answer : List ℕ) → (list_status tasks out answer ≡ 0) ↔ (FileAccepted tasks × HasRoom tasks out answer)
  -- and with it the number 0: one whose plan has no ring processors, and no other
  pub empty : (tasks out answer : List ℕ) → 1 ≤ length answer →
      ((list_status tasks out answer ≡ 0) × (get_or (list_answer tasks out answer) 0 0 ≡ 0)) ↔ (FileAccepted tasks × ((plan_in tasks).ring ≡ 0))
  -- the status of ROOM: an accepted file with too little room, and no other
  pub short : (tasks out answer : List ℕ) → (list_status tasks out answer ≡ 12 * 256) ↔ (FileAccepted tasks × TooShort tasks out answer)
  -- a file's own refusal has neither
  pub refused : (tasks out answer : List ℕ) (r : Refusal) → (filed_of tasks).outcome ≡ Err r
      → (list_status tasks out answer ≡ 0 → ⊥) × (list_status tasks out answer ≡ 12 * 256 → ⊥)

-- Laws of what a writer answers: of the set and the plan that it is asked of, and told as a status and a length.
-- Assumes nothing.
use Prim.Native.Nat.{ℕ}
use mathlib.Core.List.{List}
use mathlib.Core.Path.{◌≡◌, ◌∙◌, ap, ap₂}
use Rattle.refusals.specs.Refused.{Written}
use Rattle.refusals.specs.Leaves.{leaves}
use Rattle.tasks.specs.declared.set.TaskSet.{TaskSet}
use Rattle.plan.specs.declared.plan.Plan.{Plan}
use Rattle.toldtext.specs.Length.{written_status, written_length}

-- an answer v with a text, and the bytes that it leaves
abbrev pub Answered : (v w : Written) (out text left : List ℕ) → Type 0
Answered v w out text left = (w ≡ v) × (left ≡ leaves v out text)

-- a writer that is asked of a set and a plan is asked of what they are
pub asked_of : (answer : TaskSet → Plan → Written) (text : TaskSet → Plan → List ℕ) (out : List ℕ) {s t : TaskSet} {p q : Plan} {w : Written} {left : List ℕ}
    → s ≡ t → p ≡ q → Answered (answer s p) w out (text s p) left → Answered (answer t q) w out (text t q) left
asked_of answer text out e f a = (a.0 ∙ ap₂ answer e f, a.1 ∙ ap₂ (λ (x : TaskSet) (y : Plan). leaves (answer x y) out (text x y)) e f)

-- an answer told as a status and a length
pub written_told : (v : Written) (out text : List ℕ) (before : ℕ) {w : Written} {status length : ℕ} {left : List ℕ} → Answered v w out text left
    → (status ≡ written_status w) × (length ≡ written_length w before)
    → (status ≡ written_status v) × ((left ≡ leaves v out text) × (length ≡ written_length v before))
written_told v out text before a t = (t.0 ∙ ap written_status a.0, (a.1, t.1 ∙ ap (λ (x : Written). written_length x before) a.0))

-- What is claimed of cache costs by task, each claim as a type. The proofs stand under the same names in proofs/Claims.antt.
-- Document 02, Req 07.
use Rattle.std.specs.Prelude.{ℕ, ◌≤◌, ◌<◌, ◌≡◌, true, false, List, [], ◌∷◌, ◌++◌, length, get_or}
use Rattle.demand.specs.Load.{Load, Meets, Every}
use Rattle.tasks.specs.declared.set.Header.{Header}
use Rattle.loads.specs.Figures.{Figures}
use Rattle.loads.specs.Charge.{cache_of, charged_in, server_loss, Member}
use Rattle.members.specs.Server.{Board, SoundBoard, uninterrupted, passes_with, fits}

-- A server's cache cost is the largest among its tasks': one of them has it, and none has more.
pub record LargestOf (f : Figures) (ms : List Figures) : Type 0 where
  pub one : (i : ℕ) × (i < length (f ∷ ms)) × ((get_or (f ∷ ms) i f).cache ≡ cache_of (f ∷ ms))
  pub none_more : Every (λ (g : Figures). g.cache ≤ cache_of (f ∷ ms)) (f ∷ ms)

abbrev pub LargestCost : Type 0
LargestCost = (f : Figures) (ms : List Figures) → LargestOf f ms

-- With a task more, the server's cache cost, the c of each task in it and its entry loss do not fall.
pub record Joined (h : Header) (ms : List Figures) (f : Figures) : Type 0 where
  pub cost : cache_of ms ≤ cache_of (ms ++ (f ∷ []))
  pub charged : (g : Figures) → (charged_in h (cache_of ms) g).cost ≤ (charged_in h (cache_of (ms ++ (f ∷ []))) g).cost
  pub loss : server_loss h ms ≤ server_loss h (ms ++ (f ∷ []))

abbrev pub NeverCheaper : Type 0
NeverCheaper = (h : Header) (ms : List Figures) (f : Figures) → Joined h ms f

-- A task as a server of these members has it: c, d and T.
abbrev pub held_by : Header → List Figures → Figures → Load
held_by h ms f = charged_in h (cache_of ms) f

-- A neighbour's cost may push a task's c past its d: the server then passes with no reserve. The verdict is no.
abbrev pub PushedPast : Type 0
PushedPast =
    (b : Board) (before : List Figures) (f : Figures) (after : List Figures) (R : ℕ) → SoundBoard b → Every (Member b.header) (before ++ (f ∷ after)) →
    (held_by b.header (before ++ (f ∷ after)) f).deadline < (held_by b.header (before ++ (f ∷ after)) f).cost →
    passes_with b (before ++ (f ∷ after)) R ≡ false

-- A task that row 8 lets pass, by its own cost, passes alone with a whole processor where there are no interrupts.
abbrev pub AlonePasses : Type 0
AlonePasses = (h : Header) (f : Figures) → Member h f → 1 ≤ h.slot → Meets (charged_in h f.cache f) → fits (uninterrupted h) (f ∷ []) ≡ true

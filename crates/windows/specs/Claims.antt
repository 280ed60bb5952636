-- What is claimed of windows: the finite test and the printed rota say the same.
-- The note's demand 3, for any reserve that stands once a slot. They are proved in proofs/Claims.antt.
use Rattle.std.specs.Prelude.{ℕ, ◌+◌, ◌-◌, ◌%◌, ◌≤◌, ◌<◌, ◌≡◌, ◌↔◌, true}
use Rattle.demand.specs.Supply.{Ring, Allowed, supply_past}
use Rattle.demand.specs.Lawful.{Lawful}
use Rattle.demand.specs.Passes.{Passes}
use Rattle.windows.specs.Window.{since, usable_at, usable_in, Covered, CoveredFromZero, FallsShort}

-- `since` is (x − start) mod S: below S, and start and it together agree with x modulo S
pub record SinceIsRight : Type 0 where
  pub below : (S start x : ℕ) → 1 ≤ S → since S start x < S
  pub reaches : (S start x : ℕ) → 1 ≤ S → (since S start x + start) % S ≡ x % S

-- a tick is usable exactly when at least L positions of the reserve have passed and the reserve has not ended
abbrev pub UsableMeans : Type 0
UsableMeans = (S L R start x : ℕ) → (usable_at S L R start x ≡ true) ↔ ((L ≤ since S start x) × (since S start x < R))

-- with R ≤ L no tick of a reserve is usable
abbrev pub LossLeavesNone : Type 0
LossLeavesNone = (S L R start a t : ℕ) → R ≤ L → usable_in S L R start a t ≡ 0

-- in any S consecutive ticks a reserve of R ≤ S has exactly R ticks: with no entry loss every tick of it counts
abbrev pub InAnySlot : Type 0
InAnySlot = (S R start a : ℕ) → 1 ≤ S → R ≤ S → usable_in S 0 R start a S ≡ R

-- a whole processor: a reserve of the whole slot, with no entry loss, has every tick of every window
abbrev pub EveryTick : Type 0
EveryTick = (S start a t : ℕ) → 1 ≤ S → usable_in S 0 S start a t ≡ t

-- every window of t ticks has at least the supply at t, and some window from the second slot on has exactly that
pub record SupplyIsWorst : Type 0 where
  pub least : (S L R start a t : ℕ) → 1 ≤ S → R < S → supply_past S (S - R + L) t ≤ usable_in S L R start a t
  pub met : (S L R start t : ℕ) → 1 ≤ S → R < S → (a : ℕ) × (S ≤ a) × (usable_in S L R start a t ≡ supply_past S (S - R + L) t)

-- the test is the rota: a ring reserve of any size, from any start, covers the demand in every window exactly when
-- demand ≤ supply at every length
abbrev pub TestIsRota : Type 0
TestIsRota =
    (g : ℕ → ℕ) (S L R start : ℕ) → 1 ≤ S → R < S →
    Covered g S L R start ↔ ((t : ℕ) → g t ≤ supply_past S (S - R + L) t)

-- in the words of the verdict: a reserve below S passes exactly when it covers, from any start
abbrev pub PassesIsCovered : Type 0
PassesIsCovered =
    (g : ℕ → ℕ) (S L R start : ℕ) → g 0 ≡ 0 → 1 ≤ S → R < S → Passes g S L R ↔ Covered g S L R start

-- "from the second slot on" is no restriction: what covers from there covers from tick 0 on
abbrev pub FromZero : Type 0
FromZero =
    (g : ℕ → ℕ) (S L R start : ℕ) → 1 ≤ S → R < S → Covered g S L R start ↔ CoveredFromZero g S L R start

-- a passing ring reserve covers, from any start
abbrev pub PassingCovers : Type 0
PassingCovers =
    (g : ℕ → ℕ) (S L R start : ℕ) → g 0 ≡ 0 → 1 ≤ S → Ring S L R → Passes g S L R → Covered g S L R start

-- a whole processor covers: every tick is usable
abbrev pub WholeCovers : Type 0
WholeCovers = (g : ℕ → ℕ) (S L : ℕ) → g 0 ≡ 0 → Passes g S L S → (t : ℕ) → g t ≤ t

-- a reserve that fails the test at some length falls short in some window, from any start: so do a cut reserve, and a
-- smaller one for a whole-processor server, once they fail the test
abbrev pub FailingFallsShort : Type 0
FailingFallsShort =
    (g : ℕ → ℕ) (S L R start t : ℕ) → 1 ≤ S → R < S → supply_past S (S - R + L) t < g t →
    FallsShort g S L R start

-- a reserve below S with which a lawful demand does not pass falls short in some window, from any start
abbrev pub RefusedFallsShort : Type 0
RefusedFallsShort =
    (g : ℕ → ℕ) (H S L R start : ℕ) → Lawful g H → 1 ≤ S → R < S → (Passes g S L R → ⊥) → FallsShort g S L R start

-- where no smaller allowed reserve passes and something is asked, any smaller one falls short in some window, allowed or not,
-- from any start: a ring reserve cut by one tick with its start kept, and any R below S for a whole-processor server
abbrev pub SmallerFallsShort : Type 0
SmallerFallsShort =
    (g : ℕ → ℕ) (H S L R start t : ℕ) → Lawful g H → 1 ≤ g t → 1 ≤ S → R < S →
    (Allowed S L R → Passes g S L R → ⊥) →
    FallsShort g S L R start

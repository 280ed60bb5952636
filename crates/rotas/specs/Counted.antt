-- Counting ticks of a window one by one, and the ticks that a reserve makes usable where it stands.
-- Document 01, "From tasks to servers to ring" (RULES 3): usable ticks; a cut reserve; a smaller reserve for a whole-processor server.
use Rattle.std.specs.Prelude.{ℕ, zero, suc, ◌+◌, ◌%◌, ◌≤◌, ◌<◌, ◌≡◌, List}
use Rattle.ring.specs.declared.clock.Tick.{Tick}
use Rattle.reserves.specs.Reserves.{start_of, ring_processors}
use Rattle.ring.specs.Phase.{phase}

-- n of the t ticks from a on have P
pub data Counted (P : Tick → Type 0) (a : ℕ) : ℕ → ℕ → Type 0 where
  none : Counted P a zero zero
  counts : {t n : ℕ} → Counted P a t n → P (record { 0 = a + t }) → Counted P a (suc t) (suc n)
  passes : {t n : ℕ} → Counted P a t n → (P (record { 0 = a + t }) → ⊥) → Counted P a (suc t) n

-- ring processor p stands, at tick x, in a reserve of R ticks from server q's start, at least L positions past the start
pub record StandsIn (S L : ℕ) (reserves : List ℕ) (q R : ℕ) (x : Tick) (p : ℕ) : Type 0 where
  pub processor_some : 1 ≤ p
  pub on_ring : p ≤ ring_processors S reserves
  pub passed : start_of S reserves q + L ≤ (phase S (ring_processors S reserves) p x).0
  pub before : (phase S (ring_processors S reserves) p x).0 < start_of S reserves q + R

-- some ring processor does: the tick is usable to server q, were its reserve R, with its start and all others kept
abbrev pub UsableWith : (S L : ℕ) (reserves : List ℕ) (q R : ℕ) → Tick → Type 0
UsableWith S L reserves q R x = (p : ℕ) × StandsIn S L reserves q R x p

-- tick x comes y ticks after a start of a reserve of R ticks that stands once a slot from `start`, at least L past it
pub record StandsOnce (S L R start : ℕ) (x : Tick) (y : ℕ) : Type 0 where
  pub reached : (start + y) % S ≡ x.0 % S
  pub passed : L ≤ y
  pub before : y < R

-- so it is usable to whom that reserve is given
abbrev pub UsableOnce : (S L R start : ℕ) → Tick → Type 0
UsableOnce S L R start x = (y : ℕ) × StandsOnce S L R start x y

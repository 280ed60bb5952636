-- The interrupts of a board, from their numbers: they are sound, and what they ask over all processors is what those of the board ask.
-- Assumes nothing.
use Prim.Native.Nat.{ℕ, ◌≤◌}
use mathlib.Core.Path.{◌≡◌}
use mathlib.Core.List.{List, [], ◌∷◌}
use Rattle.demand.specs.Load.{Sound}
use Rattle.interrupting.specs.Interrupts.{Bound, Numbered, EveryBound, greatest, greatest_of_all}
use Rattle.interrupting.proofs.Claims.{greatest_means}
use Rattle.tasks.specs.declared.set.Header.{Header}
use Rattle.members.specs.Server.{SoundBoard, board_of, Bounded}

-- numbered interrupts are sound
numbered_sound : (bs : List Bound) → EveryBound Numbered bs → EveryBound (λ (x : Bound). Sound x.load) bs
numbered_sound [] e = tt
numbered_sound (x ∷ bs) e = (e.0.sound, numbered_sound bs e.1)

module _ {h : Header} {numbers : List ℕ} {H : ℕ} (w : Bounded h numbers H) where
  pub bounded_sound : 1 ≤ h.slot → SoundBoard (board_of h numbers)
  bounded_sound slot = record { slot = slot; sound = numbered_sound (board_of h numbers).interrupts w.numbered }

  pub bounded_greatest : greatest h.processors (board_of h numbers).interrupts ≡ greatest_of_all (board_of h numbers).interrupts
  bounded_greatest = greatest_means.all h.processors (board_of h numbers).interrupts w.on_board

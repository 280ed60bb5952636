-- A server of members that may be charged, on a sound board: its demand is lawful, its horizon divides the file's, and when it passes.
-- Assumes nothing.
use Prim.Native.Nat.{ℕ, zero, suc, ◌+◌, ◌*◌, ◌≤◌, ◌<◌, ◌∣◌}
use native.Mathlib.Omega.{arith}
use native.Mathlib.Nat.{le_of_dvd}
use mathlib.Core.Path.{◌≡◌, refl, ap, ap₂}
use mathlib.Core.Bool.{true, false}
use mathlib.Core.List.{List, [], ◌∷◌}
use Rattle.laws.proofs.Tests.{never_true}
use Rattle.demand.specs.Load.{Load, Sound, Meets, Every}
use Rattle.demand.specs.Demand.{demand}
use Rattle.demand.specs.Lawful.{Lawful}
use Rattle.demand.specs.Passes.{Passes}
use Rattle.demand.proofs.Demand.{jobs_full}
use Rattle.demand.proofs.Supply.{supply_all}
use Rattle.interrupting.specs.Interrupts.{Bound, EveryBound, bound_to, interrupt_demand, greatest}
use Rattle.masking.specs.Masking.{soonest, latest, masked_demand}
use Rattle.masking.proofs.MaskedLaws.{masked_above, masked_short}
use Rattle.masking.proofs.Claims.{alone_passes}
use Rattle.verdict.proofs.Claims.{own_horizon_lem}
use Rattle.verdict.proofs.Horizons.{own_due}
use Rattle.verdict.proofs.Verdict.{passing_passes, passes_passing}
use Rattle.tasks.specs.declared.set.Header.{Header}
use Rattle.tasks.specs.Set.{masked_ticks}
use Rattle.loads.specs.Charge.{charged_in, server_loads, server_loss, Member}
use Rattle.loads.specs.Figures.{Figures}
use Rattle.members.specs.Server.{Board, SoundBoard, uninterrupted, server_demand, server_horizon, passes_with, fits, total_of}
use Rattle.members.proofs.HorizonLaws.{own_divides}
use Rattle.loads.proofs.ChargeLaws.{charged_sound, loads_sound, loads_period, loads_alone}

-- ---- what loads ask of a common multiple of their periods

pub total_demand : (H : ℕ) (ls : List Load) → Every Sound ls → Every (λ (l : Load). l.period ∣ H) ls → demand ls H ≡ total_of H ls
unfolding demand total_of
total_demand H [] e v = refl
total_demand H (l ∷ ls) e v =
    ap₂ (λ (j w : ℕ). l.cost * j + w) (jobs_full l.deadline l.period H e.0.due e.0.constrained v.0) (total_demand H ls e.1 v.1)

module _ (b : Board) (ms : List Figures) (ok : Every (Member b.header) ms) where
  module _ (sound : SoundBoard b) where
    -- its demand is lawful under its own horizon
    pub server_lawful : Lawful (server_demand b ms) (server_horizon b ms)
    server_lawful =
        own_horizon_lem (masked_ticks b.header) (server_loads b.header ms) b.header.processors b.interrupts b.header.slot
        (loads_sound b.header ms ok) sound.sound sound.slot

    -- no deadline lies past it
    pub server_due : latest (server_loads b.header ms) ≤ server_horizon b ms
    server_due = own_due (server_loads b.header ms) b.interrupts b.header.slot (loads_sound b.header ms ok) sound.sound sound.slot

    -- the test with a reserve is whether demand ≤ supply at every length
    pub with_passes : (R : ℕ) → passes_with b ms R ≡ true → Passes (server_demand b ms) b.header.slot (server_loss b.header ms) R
    unfolding passes_with
    with_passes R e =
        passing_passes (server_demand b ms) (server_horizon b ms) b.header.slot (server_loss b.header ms) R server_lawful sound.slot e

    pub passes_with_lem : (R : ℕ) → Passes (server_demand b ms) b.header.slot (server_loss b.header ms) R → passes_with b ms R ≡ true
    unfolding passes_with
    passes_with_lem R p = passes_passing (server_demand b ms) (server_horizon b ms) b.header.slot (server_loss b.header ms) R p

    pub fits_passes : fits b ms ≡ true → Passes (server_demand b ms) b.header.slot (server_loss b.header ms) b.header.slot
    unfolding fits
    fits_passes e = with_passes b.header.slot e

    pub passes_fits : Passes (server_demand b ms) b.header.slot (server_loss b.header ms) b.header.slot → fits b ms ≡ true
    unfolding fits
    passes_fits p = passes_with_lem b.header.slot p

    -- more than H ticks asked of H never fit, whatever the interrupts ask beside them
    pub total_fails : (H : ℕ) → 1 ≤ H → Every (λ (f : Figures). f.period ∣ H) ms → H < total_of H (server_loads b.header ms) → fits b ms ≡ false
    total_fails H some v more =
        never_true (fits b ms)
        (λ e. absurd (omega (
          arith,
          fits_passes e H some,
          masked_above (masked_ticks b.header) (server_loads b.header ms) H,
          supply_all b.header.slot (server_loss b.header ms) b.header.slot H refl,
          total_demand H (server_loads b.header ms) (loads_sound b.header ms ok) (loads_period b.header ms (λ (p : ℕ). p ∣ H) v),
        )))

    -- nor does a demand that gains at a length of at most B
    pub masked_fails : soonest (server_loads b.header ms) < latest (server_loads b.header ms) → soonest (server_loads b.header ms) ≤ masked_ticks b.header →
        fits b ms ≡ false
    masked_fails gain small =
        let at = soonest (server_loads b.header ms) in
        let short = masked_short (masked_ticks b.header) (server_loads b.header ms) (loads_sound b.header ms ok) gain small in
        never_true (fits b ms)
        (λ e. absurd (omega (arith, fits_passes e at short.0, supply_all b.header.slot (server_loss b.header ms) b.header.slot at refl, short.1)))

  -- the horizon divides every multiple of the slot and the periods, and is at most each that is positive
  pub server_divides : (H : ℕ) → b.header.slot ∣ H → Every (λ (f : Figures). f.period ∣ H) ms → EveryBound (λ (x : Bound). x.load.period ∣ H) b.interrupts →
      server_horizon b ms ∣ H
  server_divides H s v i =
      own_divides b.header.slot (server_loads b.header ms) b.interrupts H s (loads_period b.header ms (λ (p : ℕ). p ∣ H) v) i

  pub server_within : (H : ℕ) → 1 ≤ H → b.header.slot ∣ H → Every (λ (f : Figures). f.period ∣ H) ms →
      EveryBound (λ (x : Bound). x.load.period ∣ H) b.interrupts → server_horizon b ms ≤ H
  server_within H some s v i = le_of_dvd some (server_divides H s v i)

-- ---- a task alone, without interrupts

-- no interrupts ask for nothing
greatest_none : (m t : ℕ) → greatest m [] t ≡ 0
unfolding greatest interrupt_demand bound_to demand
greatest_none zero t = refl
greatest_none (suc m) t = omega (arith, greatest_none m t)

-- a task whose charged cost, with its own cache cost, is no more than its charged deadline fits
pub alone_fits : (h : Header) (f : Figures) → Member h f → 1 ≤ h.slot → Meets (charged_in h f.cache f) → fits (uninterrupted h) (f ∷ []) ≡ true
alone_fits h f m slot meets =
    passes_fits (uninterrupted h) (f ∷ []) (m, tt) (record { slot = slot; sound = tt })
    (λ t some. omega (
      arith,
      ap (λ (ls : List Load). masked_demand (masked_ticks h) ls t) (loads_alone h f),
      alone_passes (masked_ticks h) (charged_in h f.cache f) h.slot (server_loss h (f ∷ [])) (charged_sound h f.cache f m) meets t some,
      greatest_none h.processors t,
    ))

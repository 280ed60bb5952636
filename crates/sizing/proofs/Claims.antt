-- The claims of specs/Claims.antt, proved, and what follows from them of the reserves: how many there are, and their range.
use Prim.Native.Nat.{ℕ, zero, suc, ◌-◌, ◌≤◌, ◌<◌}
use native.Mathlib.Numerals.{add-one}
use native.Mathlib.Omega.{arith}
use mathlib.Core.Path.{◌≡◌, sym, ap, subst, ◌∙◌}
use mathlib.Core.Logic.{⊎_elim}
use mathlib.Core.List.{List}
use lib.ListN.{length, get_or}
use Rattle.demand.specs.Load.{Every}
use Rattle.loads.specs.Figures.{Figures}
use Rattle.demand.specs.Supply.{Ring, Allowed}
use Rattle.verdict.specs.Reserve.{Smallest}
use Rattle.verdict.proofs.Claims.{reserve_means}
use Rattle.places.specs.Places.{chosen}
use Rattle.places.proofs.PaddedLaws.{up_length, up_at}
use Rattle.loads.specs.Charge.{server_loss, Member}
use Rattle.members.specs.Server.{Board, SoundBoard, server_demand, server_horizon, reserve_for}
use Rattle.members.proofs.ServerLaws.{server_lawful}
use Rattle.servers.specs.Placement.{servers_in}
use Rattle.servers.specs.Fitting.{PassesWhole, Fitting}
use Rattle.members.proofs.FiledLaws.{every_chosen}
use Rattle.sizing.specs.Reserve.{reserve_in, reserves_of}
use Rattle.sizing.specs.Claims.{SmallestReserves}

-- members that pass with a whole processor have their smallest reserve
reserve_for_lem : (b : Board) (members : List Figures) → SoundBoard b → Every (Member b.header) members → PassesWhole b members →
    Smallest (server_demand b members) b.header.slot (server_loss b.header members) (reserve_for b members)
unfolding reserve_for
reserve_for_lem b members sound ok whole =
    reserve_means (server_demand b members) (server_horizon b members) b.header.slot (server_loss b.header members) (server_lawful b members ok sound) sound.slot whole

pub smallest_reserves : SmallestReserves
unfolding reserves_of
smallest_reserves b figures placement sound members w = (up_length (reserve_in b figures placement) (servers_in placement), each)
  where
    each : (q : ℕ) → 1 ≤ q → q ≤ servers_in placement →
        Smallest (server_demand b (chosen figures placement q)) b.header.slot (server_loss b.header (chosen figures placement q)) (get_or (reserves_of b figures placement) (q - 1) 0)
    each zero first there = absurd (omega arith)
    each (suc q) first there =
        let e : suc q - 1 ≡ q = omega arith in
        let own = chosen figures placement (suc q) in
        subst (Smallest (server_demand b own) b.header.slot (server_loss b.header own))
        (sym (ap (λ (k : ℕ). get_or (reserves_of b figures placement) k 0) e ∙ up_at (reserve_in b figures placement) (servers_in placement) q there ∙ ap (reserve_in b figures placement) (add-one q)))
        (reserve_for_lem b own sound (every_chosen (Member b.header) figures placement (suc q) members) (w.passes (suc q) first there))

-- one reserve for each server
pub reserves_count : (b : Board) (figures : List Figures) (placement : List ℕ) → length (reserves_of b figures placement) ≡ servers_in placement
unfolding reserves_of
reserves_count b figures placement = up_length (reserve_in b figures placement) (servers_in placement)

-- an allowed reserve is from 1 to the slot
pub allowed_range : (S L R : ℕ) → 1 ≤ S → Allowed S L R → (1 ≤ R) × (R ≤ S)
allowed_range S L R some a =
    ⊎_elim (λ (r : Ring S L R). (omega (arith, r.enters), omega (arith, r.parts))) (λ (e : R ≡ S). (omega arith, omega arith)) a

-- so each reserve of a fitting placement is
pub reserves_range : (b : Board) (figures : List Figures) (placement : List ℕ) → SoundBoard b → Every (Member b.header) figures → Fitting b figures placement →
    (i : ℕ) → i < length (reserves_of b figures placement) →
    (1 ≤ get_or (reserves_of b figures placement) i 0) × (get_or (reserves_of b figures placement) i 0 ≤ b.header.slot)
reserves_range b figures placement sound members w i below =
    let own = chosen figures placement (suc i) in
    let e : suc i - 1 ≡ i = omega arith in
    subst (λ (k : ℕ). (1 ≤ get_or (reserves_of b figures placement) k 0) × (get_or (reserves_of b figures placement) k 0 ≤ b.header.slot)) e
    (allowed_range b.header.slot (server_loss b.header own) (get_or (reserves_of b figures placement) (suc i - 1) 0) sound.slot
    ((smallest_reserves b figures placement sound members w).1 (suc i) (omega arith) (omega (arith, reserves_count b figures placement))).allowed)

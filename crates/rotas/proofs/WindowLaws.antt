-- Windows by the test: where the ticks that have P are the usable ticks of a reserve that stands once a slot, what is known of its
-- windows is known of theirs, counted one by one.
-- Assumes nothing.
use Prim.Native.Nat.{ℕ, ◌≤◌, ◌<◌}
use mathlib.Core.Path.{◌≡◌, refl, sym, subst}
use mathlib.Core.Bool.{true}
use mathlib.Core.Logic.{◌↔◌}
use native.Mathlib.Nat.{le_trans, le_of_eq}
use native.Mathlib.Omega.{arith}
use Rattle.demand.specs.Supply.{Allowed}
use Rattle.demand.specs.Passes.{Passes}
use Rattle.demand.proofs.Supply.{supply_all}
use Rattle.ring.specs.declared.clock.Tick.{Tick}
use Rattle.windows.specs.Window.{usable_at, usable_in}
use Rattle.windows.proofs.Claims.{passes_is_covered, whole_covers, smaller_falls_short}
use Rattle.rotas.specs.Rota.{Rota, IsServer, Standing}
use Rattle.rotas.specs.Counted.{Counted}
use Rattle.rotas.specs.Claims.{Covers, ShortWindow}
use Rattle.rotas.proofs.CountLaws.{once, counts_all, counts_usable}

module _ (rota : Rota) (stands : Standing rota) (q : ℕ) (s : IsServer rota q) where
  abbrev S : ℕ
  S = rota.slot

  abbrev L : ℕ
  L = rota.loss_of q

  abbrev g : ℕ → ℕ
  g = rota.demand_of q

  none : g 0 ≡ 0
  none = (stands.servers q s).lawful.none

  module _ (P : Tick → Type 0) (R start : ℕ) (tested : (x : Tick) → P x ↔ (usable_at S L R start x.0 ≡ true)) (less : R < S) where
    -- the count of a window is the test's
    by_test : (a t : ℕ) → Counted P a t (usable_in S L R start a t)
    by_test a t = counts_usable P a S L R start tested t

    -- so the finite test and the count say the same
    pub part_same : Passes g S L R ↔ Covers rota q P
    part_same =
        let w = passes_is_covered g S L R start none stands.slot_some less in (
          λ p a t later. record { ticks = usable_in S L R start a t; counted = by_test a t; enough = w.0 p a t later },
          λ covers. w.1 (λ a t later. let c = covers a t later in subst (λ (n : ℕ). g t ≤ n) (once P a c.counted (by_test a t)) c.enough),
        )

    -- and a reserve that is not allowed, or does not pass, falls short in some window
    pub part_short : (Allowed S L R → Passes g S L R → ⊥) → ShortWindow rota q P
    part_short refused =
        let server = stands.servers q s in
        let f = smaller_falls_short g server.horizon S L R start server.long server.lawful server.demanded stands.slot_some less refused in
        record {
          from = f.0;
          long = f.1;
          ticks = usable_in S L R start f.0 f.1;
          second_slot = f.2;
          counted = by_test f.0 f.1;
          lacks = omega (arith, f.3);
        }

  -- a whole processor supplies every tick
  pub whole_same : Passes g S L S ↔ ((t : ℕ) → g t ≤ t)
  whole_same = (whole_covers g S L none, λ enough t some. le_trans (enough t) (le_of_eq (sym (supply_all S L S t refl))))

  -- where every tick has P a window's count is its length
  pub all_same : (P : Tick → Type 0) → ((x : Tick) → P x) → Passes g S L S ↔ Covers rota q P
  all_same P all = (
    λ p a t later. record { ticks = t; counted = counts_all P a all t; enough = whole_same.0 p t },
    λ covers. whole_same.1 (λ t. let c = covers S t (le_of_eq refl) in subst (λ (n : ℕ). g t ≤ n) (once P S c.counted (counts_all P S all t)) c.enough),
  )

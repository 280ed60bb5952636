-- Where a reserve stands, tick by tick: a ring server's ticks on the board, its usable ticks, those of a cut reserve and of any other.
-- Each is told by the test for a reserve that stands once a slot. Assumes nothing.
use Prim.Native.Nat.{ℕ, ◌+◌, ◌-◌, ◌%◌, ◌≤◌, ◌<◌, zero-le}
use mathlib.Core.Path.{◌≡◌, sym, ap, subst, ◌∙◌}
use mathlib.Core.Bool.{true}
use mathlib.Core.List.{List}
use mathlib.Core.Logic.{⊎_elim, ◌↔◌}
use native.Mathlib.Nat.{le_trans, add_comm}
use native.Mathlib.Omega.{arith}
use Rattle.ring.specs.declared.clock.Tick.{Tick}
use Rattle.reserves.specs.Reserves.{reserve_of, start_of, ring_processors}
use Rattle.ring.specs.Phase.{phase}
use Rattle.ring_claims.specs.Serves.{RingServer, WholeProcessor, OnBoard, UsableOnRing, Usable, since_start}
use Rattle.ring_claims.proofs.TurnLaws.{since_form, since_is}
use Rattle.ring_claims.proofs.PhaseLaws.{phase_agrees}
use Rattle.ring_claims.proofs.ServeLaws.{serves_since}
use Rattle.ring_claims.proofs.Claims.{on_board_when, usable_when}
use Rattle.windows.specs.Window.{since, usable_at}
use Rattle.windows.proofs.Claims.{since_is_right, usable_means}
use Rattle.rotas.specs.Counted.{UsableWith, UsableOnce}

-- the ring and the windows count alike from a start
since_same : (S start x : ℕ) → 1 ≤ S → (x + S - start % S) % S ≡ since S start x
unfolding since
since_same S start x h = since_form S h start x

-- a reserve that stands once a slot: the ticks since its start are the only ones that reach a tick
module _ (S L R start : ℕ) (h : 1 ≤ S) (part : R ≤ S) (x : Tick) where
  -- a tick that such a start reaches passes the test
  once_told : UsableOnce S L R start x → usable_at S L R start x.0 ≡ true
  once_told u =
      let e : since S start x.0 ≡ u.0 =
      sym (since_same S start x.0 h) ∙ since_is S h start x.0 u.0 (omega (arith, u.1.before)) u.1.reached
      in
      (usable_means S L R start x.0).1 (omega (arith, e, u.1.passed), omega (arith, e, u.1.before))

  -- and a tick that passes it is reached by one
  once_made : usable_at S L R start x.0 ≡ true → UsableOnce S L R start x
  once_made e =
      let w = (usable_means S L R start x.0).0 e in (
        since S start x.0,
        record {
          reached = ap (λ (n : ℕ). n % S) (add_comm start (since S start x.0)) ∙ since_is_right.reaches S start x.0 h;
          passed = w.0;
          before = w.1;
        },
      )

  -- so a tick is usable exactly when it passes the test
  pub once_tested : UsableOnce S L R start x ↔ (usable_at S L R start x.0 ≡ true)
  once_tested = (once_told, once_made)

module _ (S : ℕ) (rs : List ℕ) (h : 1 ≤ S) (q : ℕ) where
  abbrev Between : (L R : ℕ) → Tick → Type 0
  Between L R x = (L ≤ since_start S rs q x) × (since_start S rs q x < R)

  abbrev Tested : (L R : ℕ) → Tick → Type 0
  Tested L R x = usable_at S L R (start_of S rs q) x.0 ≡ true

  -- from L on and below R is what the test says
  tested : (L R : ℕ) (x : Tick) → Between L R x → Tested L R x
  tested L R x w =
      (usable_means S L R (start_of S rs q) x.0).1 (subst (λ (n : ℕ). (L ≤ n) × (n < R)) (since_same S (start_of S rs q) x.0 h) w)

  -- and what it says is that
  told : (L R : ℕ) (x : Tick) → Tested L R x → Between L R x
  told L R x e =
      subst (λ (n : ℕ). (L ≤ n) × (n < R)) (sym (since_same S (start_of S rs q) x.0 h)) ((usable_means S L R (start_of S rs q) x.0).0 e)

  module _ (s : RingServer S rs q) where
    -- a ring server is on the board where the test without loss says so
    pub board_tested : (x : Tick) → OnBoard S rs q x ↔ Tested 0 (reserve_of rs q) x
    board_tested x =
        let w = (on_board_when S rs x h).ring q s in
        (λ b. tested 0 (reserve_of rs q) x (zero-le, w.0 b), λ e. w.1 (told 0 (reserve_of rs q) x e).1)

    -- and a tick is usable to it where the test says so
    pub usable_tested : (L : ℕ) (x : Tick) → Usable S L rs q x ↔ Tested L (reserve_of rs q) x
    usable_tested L x =
        let w = usable_when S L rs q x h s in
        (λ u. tested L (reserve_of rs q) x (w.0 u), λ e. w.1 (told L (reserve_of rs q) x e))

    -- a processor in the reserve has passed as many positions of it as there are ticks since the start
    stands : (x : Tick) (p : ℕ) → 1 ≤ p → p ≤ ring_processors S rs → start_of S rs q ≤ (phase S (ring_processors S rs) p x).0 →
        (phase S (ring_processors S rs) p x).0 < start_of S rs q + reserve_of rs q →
        (phase S (ring_processors S rs) p x).0 ≡ start_of S rs q + since_start S rs q x
    stands x p some on from before =
        serves_since S rs {q = q} x.0 h (record { ring = s.ring; from = from; before = before })
        (phase_agrees S (ring_processors S rs) h p x (le_trans some on))

    module _ (L R : ℕ) (less : R ≤ reserve_of rs q) (x : Tick) where
      -- what stands in a reserve cut to R is below R ticks past the start
      stands_between : UsableWith S L rs q R x → Between L R x
      stands_between u =
          let a = u.1 in
          let e = stands x u.0 a.processor_some a.on_ring (omega (arith, a.passed)) (omega (arith, a.before)) in
          (omega (arith, e, a.passed), omega (arith, e, a.before))

      -- a processor that stands in the whole reserve, below R ticks past the start, stands in the cut one
      stands_there : Between L R x → (p : ℕ) × UsableOnRing S L rs q x p → UsableWith S L rs q R x
      stands_there w u =
          let a = u.1 in
          let e = stands x u.0 a.processor_some a.on_ring (omega (arith, a.passed)) a.before in (
            u.0,
            record { processor_some = a.processor_some; on_ring = a.on_ring; passed = a.passed; before = omega (arith, e, w.1) },
          )

      -- and there is one
      between_stands : Between L R x → UsableWith S L rs q R x
      between_stands w =
          ⊎_elim
          (stands_there w)
          (λ (o : WholeProcessor S rs q). absurd (omega (arith, o.whole, s.ring)))
          ((usable_when S L rs q x h s).1 (w.0, omega (arith, w.1)))

      -- a reserve cut to R, with its start kept
      pub cut_tested : UsableWith S L rs q R x ↔ Tested L R x
      cut_tested = (λ u. tested L R x (stands_between u), λ e. between_stands (told L R x e))

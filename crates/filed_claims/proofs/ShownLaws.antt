-- Unused room of a set or of a plan does not show in what is written.
-- Assumes nothing.
use Prim.Native.Nat.{ℕ, zero, suc, ◌+◌, ◌-◌, ◌<◌}
use mathlib.Core.Path.{◌≡◌, refl, sym, ap, ap₂, ◌∙◌}
use mathlib.Core.Bool.{Bool, cond}
use mathlib.Core.List.{List, ◌∷◌, [], ◌++◌}
use native.Mathlib.Omega.{arith}
use lib.Dec.{ltb}
use lib.ListN.{get_or, take}
use lib.Seq.{get_or-take}
use Rattle.frames.specs.declared.table.Frame.{Frame}
use Rattle.framewrite.specs.Line.{line_of}
use Rattle.framelines.specs.Lines.{joined}
use Rattle.ring.specs.declared.cover.Stand.{Stand}
use Rattle.tasks.specs.declared.set.Task.{Task}
use Rattle.tasks.specs.declared.set.TaskSet.{TaskSet}
use Rattle.tasks.specs.Set.{zero_task}
use Rattle.taskask.specs.Ask.{count_row, ask_row}
use Rattle.tasktext.specs.Text.{text_of}
use Rattle.taskwrite.specs.Write.{writer_asks, write_of}
use Rattle.plan.specs.declared.plan.Plan.{Plan}
use Rattle.plan.specs.declared.server.Server.{Server}
use Rattle.plan.specs.Plan.{no_server, zero_stand}
use Rattle.planagree.specs.Agrees.{SamePlan}
use Rattle.plancheck.specs.Makes.{makes}
use Rattle.planfigures.specs.Figures.{mark, server_figures, placed_figures, processor_figures}
use Rattle.planlines.specs.Line.{plan_line, server_line, placed_line, processor_line}
use Rattle.plantext.specs.Text.{plan_text}
use Rattle.planfit.specs.Fit.{write_of as written}
use Rattle.planfile.specs.Write.{write_plan}
use Rattle.plan_claims.specs.Claims.{SameSet}
use Rattle.plan_claims.proofs.Claims.{room_ignored}
use Rattle.plan_claims.proofs.FittingLaws.{used_same}

-- lines that are the same one by one are the same behind each other
joined_same : (f g : ℕ → List ℕ) (n : ℕ) → ((i : ℕ) → i < n → f (suc i) ≡ g (suc i)) → joined f n ≡ joined g n
unfolding joined
joined_same f g zero e = refl
joined_same f g (suc n) e = ap₂ (λ (a b : List ℕ). a ++ b) (joined_same f g n (λ i h. e i (omega arith))) (e n (omega arith))

-- what stands at a place of two rows whose fronts are the same
front_at : {A : Type 0} (n m : ℕ) (a b : List A) (d : A) → take n a ≡ take m b → (i : ℕ) → i < n → i < m → get_or a i d ≡ get_or b i d
front_at {A} n m a b d e i h l = sym (get_or-take n a i d h) ∙ ap (λ (xs : List A). get_or xs i d) e ∙ get_or-take m b i d l

-- the line of a server, which shows what is used of it
abbrev shown_server : (slot q : ℕ) → Server → List ℕ
shown_server slot q s = line_of Frame.Server (q ∷ s.reserve ∷ cond (ltb s.reserve slot) s.start.0 mark ∷ s.count ∷ [])

-- the line of a processor
abbrev shown_processor : (p : ℕ) → Stand → List ℕ
shown_processor p stand = line_of Frame.Processor (p ∷ stand.server ∷ stand.left ∷ [])

module _ (a b : TaskSet) (s : SameSet a b) where
  -- ---- two sets that differ in unused room alone

  pub text_same : text_of a ≡ text_of b
  unfolding text_of
  text_same = rw (s.header, s.tasks, s.interrupts)

  asks_same : writer_asks a ≡ writer_asks b
  unfolding writer_asks ask_row count_row
  asks_same = rw (s.tasks, s.interrupts, s.header, s.count, s.interrupt_count_lem)

  pub set_written_same : (buffer : List ℕ) → write_of a buffer ≡ write_of b buffer
  unfolding write_of
  set_written_same buffer = rw (asks_same, text_same)

  -- ---- two plans of such sets that differ in unused room alone

  module _ (p q : Plan) (r : SamePlan a.count p q) where
    plan_line_lem : plan_line p ≡ plan_line q
    unfolding plan_line
    plan_line_lem = rw (r.whole, r.ring, r.servers, r.slot, r.idle)

    server_line_lem : (i : ℕ) → i < p.servers → server_line p (suc i) ≡ server_line q (suc i)
    unfolding server_line server_figures
    server_line_lem i h =
        ap (λ (slot : ℕ). shown_server slot (suc i) (get_or p.server (suc i - 1) no_server)) r.slot
        ∙ ap (shown_server q.slot (suc i)) (used_same p q r (suc i - 1) (omega arith))

    placed_line_lem : (i : ℕ) → i < a.count → placed_line a p (suc i) ≡ placed_line b q (suc i)
    unfolding placed_line placed_figures
    placed_line_lem i h =
        ap₂ (λ (t : Task) (server : ℕ). line_of Frame.Placed (t.id ∷ server ∷ []))
        (front_at a.count b.count a.tasks b.tasks zero_task s.tasks (suc i - 1) (omega arith) (omega (arith, s.count)))
        (front_at a.count a.count p.placement q.placement 0 r.placement (suc i - 1) (omega arith) (omega arith))

    processor_line_lem : (i : ℕ) → i < p.ring + p.whole → processor_line p (suc i) ≡ processor_line q (suc i)
    unfolding processor_line processor_figures
    processor_line_lem i h =
        ap (shown_processor (suc i))
        (front_at (p.ring + p.whole) (q.ring + q.whole) p.first q.first zero_stand r.first (suc i - 1) (omega arith) (omega (arith, r.ring, r.whole)))

    pub plan_text_same : plan_text a p ≡ plan_text b q
    unfolding plan_text
    plan_text_same =
        ap₂ ◌++◌ plan_line_lem
        (ap₂ ◌++◌ (joined_same (server_line p) (server_line q) p.servers server_line_lem ∙ ap (joined (server_line q)) r.servers)
        (ap₂ ◌++◌ (joined_same (placed_line a p) (placed_line b q) a.count placed_line_lem ∙ ap (joined (placed_line b q)) s.count)
        (joined_same (processor_line p) (processor_line q) (p.ring + p.whole) processor_line_lem
        ∙ ap₂ (λ (ring whole : ℕ). joined (processor_line q) (ring + whole)) r.ring r.whole)))

    made_same : makes a p ≡ makes b q
    made_same = (room_ignored.of_plans a p q r).check ∙ (room_ignored.of_sets a b s).check q

    pub plan_written_same : (buffer : List ℕ) → write_plan a p buffer ≡ write_plan b q buffer
    plan_written_same buffer = ap₂ (λ (made : Bool) (text : List ℕ). written made buffer text) made_same plan_text_same

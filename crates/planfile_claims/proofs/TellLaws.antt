-- A plan's text tells the plan: equal texts are cut line by line, and each line's figures are read back.
-- Assumes nothing.
use Prim.Native.Nat.{ℕ, zero, suc, ◌+◌, ◌*◌, ◌^◌, ◌<◌}
use mathlib.Core.Path.{◌≡◌, refl, sym, ◌∙◌, ap}
use mathlib.Core.List.{List, [], ◌∷◌, ◌++◌}
use mathlib.Core.Bool.{Bool, true, false, cond}
use native.Mathlib.Nat.{add-sub_cancel}
use native.Mathlib.Decide.{dec_lt}
use native.Mathlib.Omega.{arith}
use lib.Dec.{ltb, lit<}
use lib.ListN.{length, take, drop, get_or, length-append}
use lib.Seq.{take-append_seam, drop-append_seam, take_at, drop_at}
use borrow.Author.Tests.{ltb-false}
use Rattle.frames.specs.Table.{widths_of, width_of, length_of}
use Rattle.framewrite.specs.Line.{line_of}
use Rattle.frameread.specs.Line.{field_of}
use Rattle.framelines.specs.Lines.{joined}
use Rattle.frames.specs.declared.table.Frame.{Frame}
use Rattle.frames_claims.proofs.LineLaws.{field_line}
use Rattle.tasks.specs.declared.set.TaskSet.{TaskSet}
use Rattle.tasks.specs.Set.{zero_task}
use Rattle.plan.specs.declared.plan.Plan.{Plan}
use Rattle.planfigures.specs.Figures.{mark, server_figures, placed_figures, processor_figures}
use Rattle.planlines.specs.Line.{plan_line, server_line, placed_line, processor_line}
use Rattle.plantext.specs.Text.{plan_text}
use Rattle.planfile_claims.specs.Claims.{server_in, first_in, FitFields, SamePrinted}
use Rattle.planlines.proofs.LineLaws.{plan_bytes_lem, server_size, placed_size, processor_size, server_bytes, placed_bytes, processor_bytes}
use Rattle.framelines.proofs.LinesLaws.{joined_length}

-- equal texts whose fronts are as long have equal fronts and equal rests
cut_front : (a b c d : List ℕ) → length a ≡ length c → a ++ b ≡ c ++ d → a ≡ c
cut_front a b c d e f = sym (take-append_seam a b) ∙ ap (take (length a)) f ∙ take_at c d (length a) (sym e)

cut_rest : (a b c d : List ℕ) → length a ≡ length c → a ++ b ≡ c ++ d → b ≡ d
cut_rest a b c d e f = sym (drop-append_seam a b) ∙ ap (drop (length a)) f ∙ drop_at c d (length a) (sym e)

-- equal lines of a frame have the same figure in each field that it fits
line_tells : (frame : Frame) (vs ws : List ℕ) → line_of frame vs ≡ line_of frame ws → (k : ℕ)
    → get_or vs k 0 < 16 ^ width_of frame k → get_or ws k 0 < 16 ^ width_of frame k → get_or vs k 0 ≡ get_or ws k 0
line_tells frame vs ws e k p q =
    sym (field_line frame vs [] k p) ∙ ap (λ (l : List ℕ). field_of frame k (l ++ [])) e ∙ field_line frame ws [] k q

-- equal groups of as many lines of one length have equal lines
lines_tell : (f g : ℕ → List ℕ) (k : ℕ) → ((j : ℕ) → length (f j) ≡ k) → ((j : ℕ) → length (g j) ≡ k)
    → (n : ℕ) → joined f n ≡ joined g n → (i : ℕ) → i < n → f (i + 1) ≡ g (i + 1)
unfolding joined
lines_tell f g k p q zero e i h = absurd (omega arith)
lines_tell f g k p q (suc n) e i h = go (lines_tell f g k p q n (cut_front (joined f n) (f (suc n)) (joined g n) (g (suc n)) same e) i)
  where
    same : length (joined f n) ≡ length (joined g n)
    same = joined_length f k p n ∙ sym (joined_length g k q n)

    last : f (suc n) ≡ g (suc n)
    last = cut_rest (joined f n) (f (suc n)) (joined g n) (g (suc n)) same e

    go : (i < n → f (i + 1) ≡ g (i + 1)) → f (i + 1) ≡ g (i + 1)
    go earlier =
        elim (dec_lt i n) [
          | yes before ↦ earlier before
          | no past ↦
              let here : i + 1 ≡ suc n = omega (arith, past, h) in
              ap f here ∙ last ∙ sym (ap g here)
        ]

-- the figures of each line, by the place from 0
server_figures_lem : (plan : Plan) (i : ℕ) → server_line plan (i + 1) ≡ line_of Frame.Server ((i + 1) ∷ (server_in plan i).reserve ∷ cond (ltb (server_in plan i).reserve plan.slot) (server_in plan i).start.0 mark ∷ (server_in plan i).count ∷ [])
unfolding server_line server_figures
server_figures_lem plan i =
    ap (λ (k : ℕ). line_of Frame.Server ((i + 1) ∷ (server_in plan k).reserve ∷ cond (ltb (server_in plan k).reserve plan.slot) (server_in plan k).start.0 mark ∷ (server_in plan k).count ∷ [])) (add-sub_cancel i 1)

placed_figures_lem : (set : TaskSet) (plan : Plan) (i : ℕ) → placed_line set plan (i + 1) ≡ line_of Frame.Placed ((get_or set.tasks i zero_task).id ∷ get_or plan.placement i 0 ∷ [])
unfolding placed_line placed_figures
placed_figures_lem set plan i =
    ap (λ (k : ℕ). line_of Frame.Placed ((get_or set.tasks k zero_task).id ∷ get_or plan.placement k 0 ∷ [])) (add-sub_cancel i 1)

processor_figures_lem : (plan : Plan) (i : ℕ) → processor_line plan (i + 1) ≡ line_of Frame.Processor ((i + 1) ∷ (first_in plan i).server ∷ (first_in plan i).left ∷ [])
unfolding processor_line processor_figures
processor_figures_lem plan i =
    ap (λ (k : ℕ). line_of Frame.Processor ((i + 1) ∷ (first_in plan k).server ∷ (first_in plan k).left ∷ [])) (add-sub_cancel i 1)

-- a ring start or the mark fits its field
pub pick_fits : (t : Bool) (x : ℕ) → x < 16 ^ width_of Frame.Server 2 → cond t x mark < 16 ^ width_of Frame.Server 2
unfolding widths_of
pick_fits true x h = h
pick_fits false x h = lit< tt

-- a ring start that is told, or none on both sides
start_tells : (t : Bool) (x y : ℕ) → cond t x mark ≡ cond t y mark → (t ≡ false → x ≡ 0) → (t ≡ false → y ≡ 0) → x ≡ y
start_tells true x y e p q = e
start_tells false x y e p q = p refl ∙ sym (q refl)

module _ (set₁ set₂ : TaskSet) (plan₁ plan₂ : Plan) (fit₁ : FitFields set₁ plan₁) (fit₂ : FitFields set₂ plan₂) (e : plan_text set₁ plan₁ ≡ plan_text set₂ plan₂) where
  servers_of_lem : Plan → List ℕ
  servers_of_lem plan = joined (server_line plan) plan.servers

  tasks_of : TaskSet → Plan → List ℕ
  tasks_of set plan = joined (placed_line set plan) set.count

  processors_of_lem : Plan → List ℕ
  processors_of_lem plan = joined (processor_line plan) (plan.ring + plan.whole)

  same_first : plan_line plan₁ ≡ plan_line plan₂
  unfolding plan_text
  same_first = cut_front (plan_line plan₁) _ (plan_line plan₂) _ (plan_bytes_lem plan₁ ∙ sym (plan_bytes_lem plan₂)) e

  after_first : servers_of_lem plan₁ ++ (tasks_of set₁ plan₁ ++ processors_of_lem plan₁) ≡ servers_of_lem plan₂ ++ (tasks_of set₂ plan₂ ++ processors_of_lem plan₂)
  unfolding plan_text servers_of_lem tasks_of processors_of_lem
  after_first = cut_rest (plan_line plan₁) _ (plan_line plan₂) _ (plan_bytes_lem plan₁ ∙ sym (plan_bytes_lem plan₂)) e

  -- the figures of the plan line
  figures : (k : ℕ) → get_or (plan₁.whole ∷ plan₁.ring ∷ plan₁.servers ∷ plan₁.slot ∷ plan₁.idle ∷ []) k 0 < 16 ^ width_of Frame.Plan k
      → get_or (plan₂.whole ∷ plan₂.ring ∷ plan₂.servers ∷ plan₂.slot ∷ plan₂.idle ∷ []) k 0 < 16 ^ width_of Frame.Plan k
      → get_or (plan₁.whole ∷ plan₁.ring ∷ plan₁.servers ∷ plan₁.slot ∷ plan₁.idle ∷ []) k 0 ≡ get_or (plan₂.whole ∷ plan₂.ring ∷ plan₂.servers ∷ plan₂.slot ∷ plan₂.idle ∷ []) k 0
  unfolding plan_line
  figures = line_tells Frame.Plan _ _ same_first

  same_whole : plan₁.whole ≡ plan₂.whole
  same_whole = figures 0 fit₁.whole fit₂.whole

  same_ring : plan₁.ring ≡ plan₂.ring
  same_ring = figures 1 fit₁.ring fit₂.ring

  same_servers_lem : plan₁.servers ≡ plan₂.servers
  same_servers_lem = figures 2 fit₁.servers fit₂.servers

  same_slot : plan₁.slot ≡ plan₂.slot
  same_slot = figures 3 fit₁.slot fit₂.slot

  same_idle : plan₁.idle ≡ plan₂.idle
  same_idle = figures 4 fit₁.idle fit₂.idle

  -- the groups of lines, each as long in both texts
  servers_long : (plan : Plan) → length (servers_of_lem plan) ≡ plan.servers * 21
  unfolding servers_of_lem
  servers_long plan = joined_length (server_line plan) 21 (λ q. server_bytes plan q ∙ server_size) plan.servers

  tasks_long : (set : TaskSet) (plan : Plan) → length (tasks_of set plan) ≡ set.count * 7
  unfolding tasks_of
  tasks_long set plan = joined_length (placed_line set plan) 7 (λ k. placed_bytes set plan k ∙ placed_size) set.count

  processors_long : (plan : Plan) → length (processors_of_lem plan) ≡ (plan.ring + plan.whole) * 13
  unfolding processors_of_lem
  processors_long plan = joined_length (processor_line plan) 13 (λ p. processor_bytes plan p ∙ processor_size) (plan.ring + plan.whole)

  servers_as_long : length (servers_of_lem plan₁) ≡ length (servers_of_lem plan₂)
  servers_as_long = omega (arith, servers_long plan₁, servers_long plan₂, same_servers_lem)

  same_server_lines : servers_of_lem plan₁ ≡ servers_of_lem plan₂
  same_server_lines = cut_front (servers_of_lem plan₁) _ (servers_of_lem plan₂) _ servers_as_long after_first

  after_servers : tasks_of set₁ plan₁ ++ processors_of_lem plan₁ ≡ tasks_of set₂ plan₂ ++ processors_of_lem plan₂
  after_servers = cut_rest (servers_of_lem plan₁) _ (servers_of_lem plan₂) _ servers_as_long after_first

  pub same_count : set₁.count ≡ set₂.count
  same_count =
      omega (
        arith,
        ap length after_servers,
        length-append (tasks_of set₁ plan₁) (processors_of_lem plan₁),
        length-append (tasks_of set₂ plan₂) (processors_of_lem plan₂),
        tasks_long set₁ plan₁,
        tasks_long set₂ plan₂,
        processors_long plan₁,
        processors_long plan₂,
        same_ring,
        same_whole,
      )

  tasks_as_long : length (tasks_of set₁ plan₁) ≡ length (tasks_of set₂ plan₂)
  tasks_as_long = omega (arith, tasks_long set₁ plan₁, tasks_long set₂ plan₂, same_count)

  same_task_lines : tasks_of set₁ plan₁ ≡ tasks_of set₂ plan₂
  same_task_lines = cut_front (tasks_of set₁ plan₁) _ (tasks_of set₂ plan₂) _ tasks_as_long after_servers

  same_processor_lines : processors_of_lem plan₁ ≡ processors_of_lem plan₂
  same_processor_lines = cut_rest (tasks_of set₁ plan₁) _ (tasks_of set₂ plan₂) _ tasks_as_long after_servers

  module _ (i : ℕ) where
    module _ (h : i < plan₂.servers) where
      there : i < plan₁.servers
      there = omega (arith, same_servers_lem)

      server_line_lem : server_line plan₁ (i + 1) ≡ server_line plan₂ (i + 1)
      unfolding servers_of_lem
      server_line_lem =
          lines_tell (server_line plan₁) (server_line plan₂) (length_of Frame.Server + 1) (server_bytes plan₁) (server_bytes plan₂) plan₂.servers
          (ap (joined (server_line plan₁)) (sym same_servers_lem) ∙ same_server_lines) i h

      server_same : line_of Frame.Server ((i + 1) ∷ (server_in plan₁ i).reserve ∷ cond (ltb (server_in plan₁ i).reserve plan₁.slot) (server_in plan₁ i).start.0 mark ∷ (server_in plan₁ i).count ∷ []) ≡ line_of Frame.Server ((i + 1) ∷ (server_in plan₂ i).reserve ∷ cond (ltb (server_in plan₂ i).reserve plan₂.slot) (server_in plan₂ i).start.0 mark ∷ (server_in plan₂ i).count ∷ [])
      server_same = sym (server_figures_lem plan₁ i) ∙ server_line_lem ∙ server_figures_lem plan₂ i

      same_reserve : (server_in plan₁ i).reserve ≡ (server_in plan₂ i).reserve
      same_reserve = line_tells Frame.Server _ _ server_same 1 (fit₁.reserve i there) (fit₂.reserve i h)

      same_tasks : (server_in plan₁ i).count ≡ (server_in plan₂ i).count
      same_tasks = line_tells Frame.Server _ _ server_same 3 (fit₁.tasks i there) (fit₂.tasks i h)

      test : ltb (server_in plan₁ i).reserve plan₁.slot ≡ ltb (server_in plan₂ i).reserve plan₂.slot
      test = rw (same_reserve, same_slot)

      picked : cond (ltb (server_in plan₁ i).reserve plan₁.slot) (server_in plan₁ i).start.0 mark ≡ cond (ltb (server_in plan₂ i).reserve plan₂.slot) (server_in plan₂ i).start.0 mark
      picked = line_tells Frame.Server _ _ server_same 2 (pick_fits (ltb (server_in plan₁ i).reserve plan₁.slot) _ (fit₁.start i there)) (pick_fits (ltb (server_in plan₂ i).reserve plan₂.slot) _ (fit₂.start i h))

      same_start : (server_in plan₁ i).start.0 ≡ (server_in plan₂ i).start.0
      same_start =
          start_tells (ltb (server_in plan₁ i).reserve plan₁.slot) (server_in plan₁ i).start.0 (server_in plan₂ i).start.0
          (picked ∙ ap (λ (t : Bool). cond t (server_in plan₂ i).start.0 mark) (sym test))
          (λ (w : ltb (server_in plan₁ i).reserve plan₁.slot ≡ false). fit₁.no_start i there (ltb-false (server_in plan₁ i).reserve plan₁.slot w))
          (λ (w : ltb (server_in plan₁ i).reserve plan₁.slot ≡ false). fit₂.no_start i h (ltb-false (server_in plan₂ i).reserve plan₂.slot (sym test ∙ w)))

    module _ (h : i < set₂.count) where
      placed_line_lem : placed_line set₁ plan₁ (i + 1) ≡ placed_line set₂ plan₂ (i + 1)
      unfolding tasks_of
      placed_line_lem =
          lines_tell (placed_line set₁ plan₁) (placed_line set₂ plan₂) (length_of Frame.Placed + 1) (placed_bytes set₁ plan₁) (placed_bytes set₂ plan₂) set₂.count
          (ap (joined (placed_line set₁ plan₁)) (sym same_count) ∙ same_task_lines) i h

      same_server_lem : get_or plan₁.placement i 0 ≡ get_or plan₂.placement i 0
      same_server_lem =
          line_tells Frame.Placed ((get_or set₁.tasks i zero_task).id ∷ get_or plan₁.placement i 0 ∷ []) ((get_or set₂.tasks i zero_task).id ∷ get_or plan₂.placement i 0 ∷ [])
          (sym (placed_figures_lem set₁ plan₁ i) ∙ placed_line_lem ∙ placed_figures_lem set₂ plan₂ i) 1 (fit₁.server i (omega (arith, same_count))) (fit₂.server i h)

    module _ (h : i < plan₂.ring + plan₂.whole) where
      here : i < plan₁.ring + plan₁.whole
      here = omega (arith, same_ring, same_whole)

      processor_line_lem : processor_line plan₁ (i + 1) ≡ processor_line plan₂ (i + 1)
      unfolding processors_of_lem
      processor_line_lem =
          lines_tell (processor_line plan₁) (processor_line plan₂) (length_of Frame.Processor + 1) (processor_bytes plan₁) (processor_bytes plan₂) (plan₂.ring + plan₂.whole)
          (ap (joined (processor_line plan₁)) (omega (arith, same_ring, same_whole)) ∙ same_processor_lines) i h

      processor_same : line_of Frame.Processor ((i + 1) ∷ (first_in plan₁ i).server ∷ (first_in plan₁ i).left ∷ []) ≡ line_of Frame.Processor ((i + 1) ∷ (first_in plan₂ i).server ∷ (first_in plan₂ i).left ∷ [])
      processor_same = sym (processor_figures_lem plan₁ i) ∙ processor_line_lem ∙ processor_figures_lem plan₂ i

      same_first_server : (first_in plan₁ i).server ≡ (first_in plan₂ i).server
      same_first_server = line_tells Frame.Processor _ _ processor_same 1 (fit₁.first i here) (fit₂.first i h)

      same_duration : (first_in plan₁ i).left ≡ (first_in plan₂ i).left
      same_duration = line_tells Frame.Processor _ _ processor_same 2 (fit₁.duration i here) (fit₂.duration i h)

  pub told : SamePrinted set₂.count plan₁ plan₂
  told =
      record {
        whole = same_whole;
        ring = same_ring;
        servers = same_servers_lem;
        slot = same_slot;
        idle = same_idle;
        reserve = same_reserve;
        start = same_start;
        tasks = same_tasks;
        server = same_server_lem;
        first = same_first_server;
        duration = same_duration;
      }

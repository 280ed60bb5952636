-- The claims of specs/Claims.antt, proved.
-- Assumes nothing.
use Rattle.std.specs.Prelude.{Err, Ok}
use Prim.Native.Nat.{ℕ, ◌+◌, ◌≤◌, ◌<◌, max}
use mathlib.Core.Path.{◌≡◌, refl, sym, ◌∙◌, ap, ap₂}
use mathlib.Core.List.{List, [], ◌∷◌, ◌++◌, map}
use mathlib.Core.Bool.{Bool, true, false, cond}
use native.Mathlib.Nat.{zero-add}
use native.Mathlib.Omega.{arith}
use lib.Dec.{ltb, eqb}
use lib.ListN.{length, take, drop, get_or}
use lib.Seq.{ext_get_or, get_or-take}
use borrow.Author.Tests.{ltb-true}
use Rattle.laws.proofs.Tests.{clash}
use Rattle.digits.specs.Stored.{stored}
use Rattle.refusals.specs.declared.Refusal.{Refusal}
use Rattle.refusals.specs.declared.Refusal.TheVariants.{Room}
use Rattle.refusals.specs.Refused.{Outcome}
use Rattle.refusals.specs.Refused.{Written}
use Rattle.tasks.specs.declared.set.TaskSet.{TaskSet}
use Rattle.taskread.specs.declared.read.ReadAnswer.{ReadAnswer}
use Rattle.refusals.specs.Leaves.{leaves}
use Rattle.refusals.specs.Refused.{place_of}
use Rattle.places.specs.Places.{keep, places_in, chosen}
use Rattle.loads.specs.Charge.{cache_of}
use Rattle.loads.specs.Figures.{Figures}
use Rattle.setfigures.specs.Figures.{set_figures}
use Rattle.tasks_claims.proofs.Prefix.{read_looks_at}
use Rattle.plan.specs.declared.plan.Plan.{Plan}
use Rattle.plancheck.specs.Makes.{makes}
use Rattle.plantext.specs.Text.{plan_text, longest_text}
use Rattle.frames.specs.Table.{widths_of, sum}
use Rattle.readbytes.specs.Furthest.{furthest}
use Rattle.planfit.specs.Fit.{fitted}
use Rattle.taskplan.specs.File.{unless, refused_file, planned_set, filed_of}
use Rattle.planfile.specs.Tool.{printed, answered}
use Rattle.askfile.specs.OfFile.{who_of_file, pass_of_file, who_in, pass_in}
use Rattle.planfile_claims.specs.Claims.{Determined, TextExact, WriteExactly, RefusedStoresNothing, PrefixEnough, AnsweredShort, SamePrinted, TextTells, TextTellsPlan, NothingCutOff, PlacesFit}
use Rattle.planfile_claims.proofs.AnswerLaws.{rows_exactly}
use Rattle.planfile_claims.proofs.TellLaws.{same_count, told}
use Rattle.planfile_claims.proofs.FieldLaws.{front_long, places_at, cache_at_lem, fit_fields}
use Rattle.planfile_claims.proofs.PlaceLaws.{read_few, plan_few}
use Rattle.planfile_claims.proofs.RefusedLaws.{refused_by}
use Rattle.planfile_claims.proofs.CutLaws.{plan_whole, server_whole, placed_whole, processor_whole}
use Rattle.planlines.proofs.LineLaws.{refusal_bytes}
use Rattle.plantext.proofs.TextLaws.{text_short}
use Rattle.planfit.proofs.FitLaws.{fitted_room, fitted_bytes}
use Rattle.planfile.proofs.AcceptLaws.{makes_counted}
use Rattle.taskplan.proofs.FileLaws.{filed_makes}

pub determined : Determined
determined =
    record {
      write = λ set plan buffer f g. (f.0 ∙ sym g.0, f.1 ∙ sym g.1);
      answer = λ text buffer f g. (f.answered ∙ sym g.answered, f.holds ∙ sym g.holds);
      who = λ text p x f g. f ∙ sym g;
      pass = λ text q R f g. f ∙ sym g;
    }

-- a refusal of a text is row 12
only_room : (t : Bool) (n : ℕ) (r : Refusal) → cond t (Err Room) (Ok n) ≡ Err r → (r ≡ Room) × (t ≡ true)
only_room true n r e = (cc, refl)
only_room false n r e = clash (cc)

pub text_exact : TextExact
unfolding stored fitted
text_exact =
    record {
      bytes = λ buffer text h. (fitted_bytes buffer text h, ap (λ (w : Written). leaves w buffer text) (fitted_bytes buffer text h) ∙ ap (λ (n : ℕ). text ++ drop n buffer) (zero-add (length text)));
      room = fitted_room;
      room_only = λ buffer text r e. let only = only_room (ltb (length buffer) (length text)) (length text) r e in (only.0, ltb-true (length buffer) (length text) only.1);
    }

pub write_exactly : WriteExactly
write_exactly set plan buffer = rows_exactly (makes set plan) buffer (plan_text set plan)

pub refused_stores_nothing : RefusedStoresNothing
refused_stores_nothing =
    record {
      write = λ set plan buffer r f. f.1 ∙ ap (λ (w : Written). leaves w buffer (plan_text set plan)) (sym f.0);
      answer = λ text buffer r f. f.holds ∙ ap (λ (w : Written). leaves w buffer (answered text)) (sym f.answered);
    }

-- a file's first bytes are read as the file is, and so they have its set and its plan
pub same_filed : (n : ℕ) (text : List ℕ) → furthest ≤ n → filed_of (take n text) ≡ filed_of text
unfolding filed_of
same_filed n text h = ap (λ (a : ReadAnswer). unless refused_file a.outcome (planned_set a.set)) (read_looks_at n text h)

pub prefix_enough : PrefixEnough
unfolding answered who_in pass_in
prefix_enough =
    record {
      answer = λ n text h. ap printed (same_filed n text h);
      who = λ n text h p x. ap (who_of_file p x) (same_filed n text h);
      pass = λ n text h q R. ap (pass_of_file q R) (same_filed n text h);
    }

printed_short : (o : Outcome) (set : TaskSet) (plan : Plan) → (o ≡ Ok tt → makes set plan ≡ true) → length (printed (record { outcome = o; set = set; plan = plan })) ≤ longest_text
unfolding sum widths_of
printed_short (Ok _) set plan made = text_short set plan (makes_counted set plan (made refl))
printed_short (Err r) set plan made = omega (arith, refusal_bytes r)

pub answered_short : AnsweredShort
unfolding answered
answered_short text = printed_short (filed_of text).outcome (filed_of text).set (filed_of text).plan (filed_makes text refl)

pub text_tells : TextTells
text_tells set₁ set₂ plan₁ plan₂ fit₁ fit₂ e = (same_count set₁ set₂ plan₁ plan₂ fit₁ fit₂ e, told set₁ set₂ plan₁ plan₂ fit₁ fit₂ e)

-- as many tasks in the same servers are the same placement
fronts_same : (set₁ set₂ : TaskSet) (plan₁ plan₂ : Plan) → length (take set₁.count plan₁.placement) ≡ set₁.count → length (take set₂.count plan₂.placement) ≡ set₂.count → set₁.count ≡ set₂.count →
    ((i : ℕ) → i < set₂.count → get_or plan₁.placement i 0 ≡ get_or plan₂.placement i 0) → take set₁.count plan₁.placement ≡ take set₂.count plan₂.placement
fronts_same set₁ set₂ plan₁ plan₂ long₁ long₂ e f =
    ext_get_or 0 (take set₁.count plan₁.placement) (take set₂.count plan₂.placement) (omega (arith, long₁, long₂, e))
    (λ i h.
    let here : i < set₁.count = omega (arith, long₁) in
    let there : i < set₂.count = omega (arith, here, e) in
    get_or-take set₁.count plan₁.placement i 0 here ∙ f i there ∙ sym (get_or-take set₂.count plan₂.placement i 0 there))

-- the same cache costs placed alike give a server the same
caches_same : (fs gs : List Figures) (placement : List ℕ) (q : ℕ) → map (λ (f : Figures). f.cache) fs ≡ map (λ (f : Figures). f.cache) gs →
    cache_of (chosen fs placement q) ≡ cache_of (chosen gs placement q)
unfolding chosen cache_of
caches_same [] [] placement q e = refl
caches_same [] (g ∷ gs) placement q e = clash (cc)
caches_same (f ∷ fs) [] placement q e = clash (cc)
caches_same (f ∷ fs) (g ∷ gs) [] q e = refl
caches_same (f ∷ fs) (g ∷ gs) (a ∷ placement) q e = kept (eqb a q) (caches_same fs gs placement q (cc))
  where
    first : f.cache ≡ g.cache
    first = cc

    kept : (b : Bool) → cache_of (chosen fs placement q) ≡ cache_of (chosen gs placement q) →
        cache_of (keep b f (chosen fs placement q)) ≡ cache_of (keep b g (chosen gs placement q))
    kept true rest = ap₂ max first rest
    kept false rest = rest

pub text_tells_plan : TextTellsPlan
text_tells_plan set₁ set₂ plan₁ plan₂ full₁ full₂ m₁ m₂ e = record {
  count = same.0;
  printed = same.1;
  places = λ i h.
      places_at set₁ plan₁ full₁ m₁ i (there i h)
      ∙ ap (λ (p : List ℕ). places_in p (i + 1)) alike
      ∙ sym (places_at set₂ plan₂ full₂ m₂ i h);
  cache = λ c i h.
      cache_at_lem set₁ plan₁ full₁ m₁ i (there i h)
      ∙ caches_same (set_figures set₁) (set_figures set₂) (take set₁.count plan₁.placement) (i + 1) c
      ∙ ap (λ (p : List ℕ). cache_of (chosen (set_figures set₂) p (i + 1))) alike
      ∙ sym (cache_at_lem set₂ plan₂ full₂ m₂ i h);
}
  where
    same : (set₁.count ≡ set₂.count) × SamePrinted set₂.count plan₁ plan₂
    same = text_tells set₁ set₂ plan₁ plan₂ (fit_fields set₁ plan₁ full₁ m₁) (fit_fields set₂ plan₂ full₂ m₂) e

    alike : take set₁.count plan₁.placement ≡ take set₂.count plan₂.placement
    alike = fronts_same set₁ set₂ plan₁ plan₂ (front_long set₁ plan₁ full₁ m₁) (front_long set₂ plan₂ full₂ m₂) same.0 same.1.server

    there : (i : ℕ) → i < plan₂.servers → i < plan₁.servers
    there i h = omega (arith, same.1.servers)

pub nothing_cut_off : NothingCutOff
nothing_cut_off set plan full m =
    record {
      figures = plan_whole set plan full m;
      servers = λ q some h. server_whole set plan full m q some (omega (arith, h));
      tasks = λ k some h. placed_whole set plan full m k some (omega (arith, h));
      processors = λ p some h. processor_whole set plan full m p some (omega (arith, h));
    }

pub places_fit : PlacesFit
unfolding widths_of
places_fit text r e =
    let few : place_of r < 256 = refused_by (λ (q : Refusal). place_of q < 256) text (read_few text) plan_few r e in
    omega (arith, few)

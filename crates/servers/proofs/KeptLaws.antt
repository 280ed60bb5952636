-- What is kept of the servers while tasks are placed: that of one server, and the same with one task more.
-- Assumes nothing.
use Prim.Native.Nat.{ℕ, suc, ◌+◌, ◌-◌, ◌≤◌, ◌<◌}
use native.Mathlib.Omega.{arith}
use native.Mathlib.Decide.{ℕ_discrete, dec_lt}
use mathlib.Core.Path.{◌≡◌, sym, ap, ◌∙◌}
use mathlib.Core.List.{List, [], ◌∷◌, ◌++◌}
use lib.ListN.{length, get_or, set, replicate, length-replicate, length-set, get_or-replicate}
use lib.Seq.{get_or-set_same, get_or-set_other, get_or-append-add, ext_get_or}
use Rattle.masking.specs.Masking.{soonest}
use Rattle.tasks.specs.declared.set.Header.{Header}
use Rattle.tasks.specs.Set.{most_tasks}
use Rattle.loads.specs.Figures.{Figures}
use Rattle.loads.specs.Charge.{cache_of, server_loads}
use Rattle.members.specs.Server.{total_of}
use Rattle.places.specs.Padded.{padded, up_to}
use Rattle.places.specs.Places.{chosen}
use Rattle.places.proofs.PaddedLaws.{padded_length, pad_at, up_length, up_at}
use Rattle.places.proofs.PlacesLaws.{in_joined, in_apart}
use Rattle.shares.specs.declared.Share.{Share}
use Rattle.shares.specs.Share.{share_in}
use Rattle.shares.specs.Totals.{jobs_in}
use Rattle.joining.specs.Kept.{Kept, no_share}

-- no task yet
pub kept_none : (h : Header) (H : ℕ) → Kept h H [] [] (replicate most_tasks no_share)
unfolding chosen total_of jobs_in cache_of server_loads soonest
kept_none h H = record { room = length-replicate {A = Share} most_tasks no_share; each = λ k g. get_or-replicate most_tasks k no_share no_share g }

module _ {h : Header} {H : ℕ} {done : List Figures} {placement : List ℕ} {kept : List Share} (w : Kept h H done placement kept) {q at : ℕ} (first : 1 ≤ q)
    (few : q ≤ most_tasks) (here : at ≡ q - 1) where
  -- what is kept of server q
  pub kept_at : get_or kept at no_share ≡ share_in h H (chosen done placement q)
  kept_at =
      let own : suc at ≡ q = omega arith in
      w.each at (omega arith) ∙ ap (λ (x : ℕ). share_in h H (chosen done placement x)) own

  -- a task more in server q: its own share is another
  pub kept_next : (l : Figures) {v : Share} → length placement ≡ length done → v ≡ share_in h H (chosen done placement q ++ (l ∷ [])) →
      Kept h H (done ++ (l ∷ [])) (placement ++ (q ∷ [])) (set kept at v)
  kept_next l {v} even is = record { room = length-set kept at v ∙ w.room; each = each }
    where
      each : (k : ℕ) → k < most_tasks → get_or (set kept at v) k no_share ≡ share_in h H (chosen (done ++ (l ∷ [])) (placement ++ (q ∷ [])) (suc k))
      each k g = by (ℕ_discrete at k)
        where
          by : Dec (at ≡ k) → get_or (set kept at v) k no_share ≡ share_in h H (chosen (done ++ (l ∷ [])) (placement ++ (q ∷ [])) (suc k))
          by (yes e) =
              let own : q ≡ suc k = omega arith in
              ap (λ (j : ℕ). get_or (set kept at v) j no_share) (sym e) ∙ get_or-set_same kept at v no_share (omega (arith, w.room)) ∙ is ∙
              ap (λ (x : ℕ). share_in h H (chosen done placement x ++ (l ∷ []))) own ∙
              ap (share_in h H) (sym (in_joined done placement l q (suc k) even own))
          by (no n) =
              let apart : q ≡ suc k → ⊥ = λ (e : q ≡ suc k). n (omega arith) in
              get_or-set_other kept at k v no_share (λ (e : k ≡ at). n (sym e)) ∙ w.each k g ∙
              ap (share_in h H) (sym (in_apart done placement l q (suc k) even apart))

-- numbers by server, which are zeros past the last server
pub up_padded : (f : ℕ → ℕ) (n : ℕ) → n ≤ most_tasks → ((q : ℕ) → n < q → f q ≡ 0) → up_to f most_tasks ≡ padded (up_to f n)
up_padded f n few none =
    ext_get_or 0 (up_to f most_tasks) (padded ups) (up_length f most_tasks ∙ sym (padded_length ups (omega (arith, long))))
    (λ i h. at i (omega (arith, up_length f most_tasks, h)))
  where
    ups : List ℕ
    ups = up_to f n

    long : length ups ≡ n
    long = up_length f n

    at : (i : ℕ) → i < most_tasks → get_or (up_to f most_tasks) i 0 ≡ get_or (padded ups) i 0
    at i h = by (dec_lt i n)
      where
        by : Dec (i < n) → get_or (up_to f most_tasks) i 0 ≡ get_or (padded ups) i 0
        by (yes g) = up_at f most_tasks i h ∙ sym (up_at f n i g) ∙ sym (pad_at 0 ups i 0 (omega (arith, long)))
        by (no g) =
            let past : i ≡ length ups + (i - n) = omega (arith, long, g) in
            up_at f most_tasks i h ∙ none (i + 1) (omega (arith, g)) ∙
            sym
            (ap (λ (k : ℕ). get_or (padded ups) k 0) past ∙ get_or-append-add ups (replicate (most_tasks - length ups) 0) (i - n) 0 ∙
            get_or-replicate (most_tasks - length ups) (i - n) 0 0 (omega (arith, long, g)))

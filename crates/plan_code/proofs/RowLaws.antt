-- A row made place by place, each from the server there.
-- Assumes nothing.
use Rattle.std.proofs.Common.{◌≡◌, ℕ, zero, suc, ◌+◌, ◌<◌, ◌≤◌, List, map, length, get_or, refl, sym, subst, ◌∙◌, arith}
use denote.Param.Members.{Mut, Called}
use lib.ListN.{length-map}
use lib.Seq.{ext_get_or}
use Rattle.std.specs.Array.{IsFromFnResultFrom, IsFromFnResult}
use Rattle.plan.specs.declared.server.Server.{Server}
use Rattle.plan.specs.Plan.{no_server}
use Rattle.plan.proofs.RecordLaws.{row_at}

-- a function that stays as it is gives the number of the server at each place
module _ {F : Type 0} (g : Mut F (ℕ × Unit {0}) ℕ) (f : F) (number : Server → ℕ) (servers : List Server) (gives : (i n : ℕ) (q : F) → i < length servers → Called g f (i, tt) n q → (q ≡ f) × (n ≡ number (get_or servers i no_server))) where
  each_place : (row : List ℕ) (i n : ℕ) (p : F) → i + n ≤ length servers → p ≡ f → IsFromFnResultFrom g p row i n →
      (k j : ℕ) → j ≡ i + k → k < n → get_or row j 0 ≡ number (get_or servers j no_server)
  each_place row i zero p within same made k j at h = absurd (omega arith)
  each_place row i (suc n) p within same made zero j at h =
      let here = gives i made.1 made.0 (omega arith) (subst (λ (x : F). Called g x (i, tt) made.1 made.0) same made.3) in
      let is : j ≡ i = omega arith in
      rw is (made.2.1 0 ∙ here.1)
  each_place row i (suc n) p within same made (suc k) j at h =
      let here = gives i made.1 made.0 (omega arith) (subst (λ (x : F). Called g x (i, tt) made.1 made.0) same made.3) in
      each_place row (i + 1) n made.0 (omega arith) here.0 made.4 k j (omega arith) (omega arith)

  pub row_made : (row : List ℕ) (n : ℕ) → IsFromFnResult g f row n → length servers ≡ n → number no_server ≡ 0 → row ≡ map number servers
  row_made row n made full none =
      ext_get_or 0 row (map number servers) (made.long ∙ sym full ∙ sym (length-map servers number))
      (λ i h. each_place row 0 n f (omega arith) refl made.each i i (omega arith) (omega (arith, h, made.long)) ∙ sym (row_at number servers i none))

-- A row of one number of every server, as the code finds it, is that of the definitions.
-- Assumes nothing.
use Prim.Native.Nat.{ℕ, zero, suc}
use mathlib.Core.Path.{◌≡◌, refl, sym, ap, ◌∙◌}
use mathlib.Core.List.{List, [], ◌∷◌, map}
use lib.ListN.{take, get_or, get_or-map}
use Rattle.plan.specs.declared.plan.Plan.{Plan}
use Rattle.plan.specs.declared.server.Server.{Server}
use Rattle.plan.specs.Plan.{no_server}

module _ (number : Server → ℕ) (servers : List Server) where
  -- what stands in such a row at place i
  pub row_at : (i : ℕ) → number no_server ≡ 0 → get_or (map number servers) i 0 ≡ number (get_or servers i no_server)
  row_at i none = ap (get_or (map number servers) i) (sym none) ∙ get_or-map number servers i no_server

-- the front of a row of something of each element
pub take_map : {A B : Type 0} (f : A → B) (n : ℕ) (xs : List A) → take n (map f xs) ≡ map f (take n xs)
take_map f zero xs = refl
take_map f (suc n) [] = refl
take_map f (suc n) (x ∷ xs) = ap (λ (l : List _). f x ∷ l) (take_map f n xs)

-- of the row of all places, those of the servers that there are
pub row_front : (number : Server → ℕ) (plan : Plan) {row : List ℕ} → row ≡ map number plan.server → take plan.servers row ≡ map number (take plan.servers plan.server)
row_front number plan e = ap (take plan.servers) e ∙ take_map number plan.servers plan.server

-- What a walk through the turn carries from switch to switch: for each ring processor its server and the tick until which it runs.
use Rattle.std.specs.Prelude.{ℕ, zero, suc, min, ◌≤◌, ◌<◌, ◌≡◌, List, length, get_or}
use Rattle.switchline.specs.Before.{server_before, until_before}

-- the smallest of a number and f 1 to f n
unfoldable pub least_of : (f : ℕ → ℕ) (most n : ℕ) → ℕ
least_of f most zero = most
least_of f most (suc n) = min (least_of f most n) (f (suc n))

-- the places from i to n carry what was right before tick x
pub record Carried (S : ℕ) (reserves : List ℕ) (x i n : ℕ) (servers untils : List ℕ) : Type 0 where
  pub server : (k : ℕ) → i ≤ k → k < n → get_or servers k 0 ≡ server_before S reserves (suc k) x
  pub until : (k : ℕ) → i ≤ k → k < n → get_or untils k 0 ≡ until_before S reserves (suc k) x
  pub servers_room : n ≤ length servers
  pub until_room : n ≤ length untils

-- One step of placing: a task joins the server that a fit rule picks of those that take it, otherwise it opens a new one. By first fit
-- that server is the lowest-numbered. Document 01, "From tasks to servers to ring", rule 1 (RULES 3.1) (the report's Alg. 1).
use Rattle.std.specs.Prelude.{ℕ, suc, ◌≤◌, ◌<◌, ◌≡◌, ◌⊎◌, Bool, true}
use Rattle.search.specs.Search.{first_after, or_else}

-- a fit rule picks a number above lo, up to hi, that is a candidate; or 0
abbrev pub FitRule : Type 0
FitRule = (candidate : ℕ → Bool) → (lo hi : ℕ) → ℕ

-- the lowest-numbered candidate
abbrev pub first_fit : FitRule
first_fit candidate lo hi = first_after candidate lo hi

-- one step of placing: the candidate that the rule picks, otherwise a new server
unfoldable pub join : FitRule → (candidate : ℕ → Bool) → (lo hi : ℕ) → ℕ
join rule candidate lo hi = or_else (rule candidate lo hi) (suc hi)

-- a fit rule that picks candidates only, above lo and up to hi, or answers 0
abbrev pub Picks : FitRule → Type 0
Picks rule =
    (candidate : ℕ → Bool) (lo hi : ℕ) →
    (rule candidate lo hi ≡ 0) ⊎ ((lo < rule candidate lo hi) × (rule candidate lo hi ≤ hi) × (candidate (rule candidate lo hi) ≡ true))

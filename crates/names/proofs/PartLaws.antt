-- Laws of a list of names that comes in parts: what the next LF cuts off, and the names of all parts are those of the whole list.
-- Assumes nothing.
use Prim.Native.Nat.{ℕ, suc, ◌≤◌, ◌<◌}
use mathlib.Core.Path.{◌≡◌, refl, sym, ◌∙◌, ap, ap₂}
use mathlib.Core.Bool.{Bool, true, false, cond}
use mathlib.Core.List.{List, [], ◌∷◌, ◌++◌, append_assoc, append-nil}
use native.Mathlib.Omega.{arith}
use lib.Dec.{eqb}
use lib.ListN.{length, drop}
use lib.Seq.{length-take-le, take_all}
use Rattle.frames.specs.Table.{LF}
use Rattle.names.specs.Names.{onto, names}
use Rattle.names.specs.Parts.{ended, begun_by, last_name, names_in, index_of, up_to_lF}
use Rattle.names.specs.Claims.{whole}

-- a byte stands first where it is the first, and else one further than behind that
pub index_here : (b x : ℕ) (xs : List ℕ) → eqb x b ≡ true → index_of b (x ∷ xs) ≡ 0
unfolding index_of
index_here b x xs e = rw e refl

pub index_behind : (b x : ℕ) (xs : List ℕ) → eqb x b ≡ false → index_of b (x ∷ xs) ≡ suc (index_of b xs)
unfolding index_of
index_behind b x xs e = rw e (omega arith)

pub index_within : (b : ℕ) (xs : List ℕ) → index_of b xs ≤ length xs
unfolding index_of
index_within b [] = omega arith
index_within b (x ∷ xs) = by_test (eqb x b) refl (index_within b xs)
  where
    by_test : (t : Bool) → eqb x b ≡ t → index_of b xs ≤ length xs → index_of b (x ∷ xs) ≤ suc (length xs)
    by_test true e h = omega (arith, index_here b x xs e)
    by_test false e h = omega (arith, index_behind b x xs e, h)

-- the next LF stands behind the bytes up to it
pub up_to_length : (xs : List ℕ) → length (up_to_lF xs) ≡ index_of LF xs
unfolding up_to_lF
up_to_length xs = length-take-le (index_of LF xs) xs (index_within LF xs)

-- without one they are all
pub up_to_all : (xs : List ℕ) → index_of LF xs ≡ length xs → up_to_lF xs ≡ xs
unfolding up_to_lF
up_to_all xs e = take_all (index_of LF xs) xs (omega arith)

-- a part is cut at its next LF: a name ends there, and the rest begins anew
pub record CutAt (begun part : List ℕ) : Type 0 where
  pub names : ended begun part ≡ (begun ++ up_to_lF part) ∷ ended [] (drop (suc (index_of LF part)) part)
  pub rest : begun_by begun part ≡ begun_by [] (drop (suc (index_of LF part)) part)

cut_byte : (begun part : List ℕ) (b : ℕ) (t : Bool) → eqb b LF ≡ t → (index_of LF part < length part → CutAt (begun ++ (b ∷ [])) part)
    → index_of LF (b ∷ part) < suc (length part) → CutAt begun (b ∷ part)
unfolding ended begun_by up_to_lF
cut_byte begun part b true e later h = record {
  names = rw (e, index_here LF b part e) (ap (λ (l : List ℕ). l ∷ ended [] part) (sym (append-nil begun)));
  rest = rw (e, index_here LF b part e);
}
cut_byte begun part b false e later h =
    let at = later (omega (arith, index_behind LF b part e)) in
    record {
      names = rw (e, index_behind LF b part e) (at.names ∙ ap (λ (l : List ℕ). l ∷ ended [] (drop (suc (index_of LF part)) part)) (append_assoc begun (b ∷ []) (up_to_lF part)));
      rest = rw (e, index_behind LF b part e) at.rest;
    }

pub cut_at : (begun part : List ℕ) → index_of LF part < length part → CutAt begun part
unfolding index_of
cut_at begun [] h = absurd (omega arith)
cut_at begun (b ∷ part) h = cut_byte begun part b (eqb b LF) refl (cut_at (begun ++ (b ∷ [])) part) h

-- without an LF no name ends, and all of the part is begun
pub record NoCut (begun part : List ℕ) : Type 0 where
  pub names : ended begun part ≡ []
  pub rest : begun_by begun part ≡ begun ++ up_to_lF part

begun_byte : (begun part : List ℕ) (b : ℕ) (t : Bool) → eqb b LF ≡ t → (index_of LF part ≡ length part → NoCut (begun ++ (b ∷ [])) part)
    → index_of LF (b ∷ part) ≡ suc (length part) → NoCut begun (b ∷ part)
unfolding ended begun_by up_to_lF
begun_byte begun part b true e later h = absurd (omega (arith, index_here LF b part e))
begun_byte begun part b false e later h =
    let all = later (omega (arith, index_behind LF b part e)) in
    record { names = rw e all.names; rest = rw (e, index_behind LF b part e) (all.rest ∙ append_assoc begun (b ∷ []) (up_to_lF part)) }

pub no_cut : (begun part : List ℕ) → index_of LF part ≡ length part → NoCut begun part
unfolding ended begun_by up_to_lF index_of
no_cut begun [] e = record { names = refl; rest = sym (append-nil begun) }
no_cut begun (b ∷ part) h = begun_byte begun part b (eqb b LF) refl (no_cut (begun ++ (b ∷ [])) part) h

-- names of which the first was begun before them
abbrev pub begun_onto : (begun : List ℕ) → List (List ℕ) → List (List ℕ)
begun_onto begun [] = last_name begun
begun_onto begun (n ∷ ns) = (begun ++ n) ∷ ns

pub onto_none : (ns : List (List ℕ)) → begun_onto [] ns ≡ ns
onto_none [] = refl
onto_none (n ∷ ns) = refl

last_byte : (begun : List ℕ) (b : ℕ) → last_name (begun ++ (b ∷ [])) ≡ (begun ++ (b ∷ [])) ∷ []
last_byte [] b = refl
last_byte (x ∷ begun) b = refl

onto_byte : (begun : List ℕ) (b : ℕ) (ns : List (List ℕ)) → begun_onto (begun ++ (b ∷ [])) ns ≡ begun_onto begun (onto b ns)
onto_byte begun b [] = last_byte begun b
onto_byte begun b (n ∷ ns) = ap (λ (l : List ℕ). l ∷ ns) (append_assoc begun (b ∷ []) n)

-- a part and what follows it
unfoldable PartFirst : (begun part rest : List ℕ) → Type 0
PartFirst begun part rest = ended begun part ++ begun_onto (begun_by begun part) (names rest) ≡ begun_onto begun (names (part ++ rest))

first_byte : (begun part rest : List ℕ) (b : ℕ) (t : Bool) → eqb b LF ≡ t → PartFirst [] part rest → PartFirst (begun ++ (b ∷ [])) part rest → PartFirst begun (b ∷ part) rest
unfolding PartFirst ended begun_by names
first_byte begun part rest b true e anew on = rw e (ap₂ ◌∷◌ (sym (append-nil begun)) (anew ∙ onto_none (names (part ++ rest))))
first_byte begun part rest b false e anew on = rw e (on ∙ onto_byte begun b (names (part ++ rest)))

part_first : (begun part rest : List ℕ) → PartFirst begun part rest
unfolding PartFirst ended begun_by names
part_first begun [] rest = refl
part_first begun (b ∷ part) rest = first_byte begun part rest b (eqb b LF) refl (part_first [] part rest) (part_first (begun ++ (b ∷ [])) part rest)

pub parts_names : (begun : List ℕ) (parts : List (List ℕ)) → names_in begun parts ≡ begun_onto begun (names (whole parts))
unfolding PartFirst names_in names
parts_names begun [] = refl
parts_names begun (part ∷ parts) =
    ap (λ (l : List (List ℕ)). ended begun part ++ l) (parts_names (begun_by begun part) parts) ∙ part_first begun part (whole parts)

-- the names that end in two parts, and what is begun behind both
pub ended_append : (begun part next : List ℕ) → ended begun (part ++ next) ≡ ended begun part ++ ended (begun_by begun part) next
unfolding ended begun_by
ended_append begun [] next = refl
ended_append begun (b ∷ part) next = by_test (eqb b LF) (ended_append [] part next) (ended_append (begun ++ (b ∷ [])) part next)
  where
    by_test : (t : Bool) → ended [] (part ++ next) ≡ ended [] part ++ ended (begun_by [] part) next
        → ended (begun ++ (b ∷ [])) (part ++ next) ≡ ended (begun ++ (b ∷ [])) part ++ ended (begun_by (begun ++ (b ∷ [])) part) next
        → cond t (begun ∷ ended [] (part ++ next)) (ended (begun ++ (b ∷ [])) (part ++ next))
        ≡ cond t (begun ∷ ended [] part) (ended (begun ++ (b ∷ [])) part) ++ ended (cond t (begun_by [] part) (begun_by (begun ++ (b ∷ [])) part)) next
    by_test true anew on = ap (λ (l : List (List ℕ)). begun ∷ l) anew
    by_test false anew on = on

pub begun_append : (begun part next : List ℕ) → begun_by begun (part ++ next) ≡ begun_by (begun_by begun part) next
unfolding begun_by
begun_append begun [] next = refl
begun_append begun (b ∷ part) next = by_test (eqb b LF) (begun_append [] part next) (begun_append (begun ++ (b ∷ [])) part next)
  where
    by_test : (t : Bool) → begun_by [] (part ++ next) ≡ begun_by (begun_by [] part) next
        → begun_by (begun ++ (b ∷ [])) (part ++ next) ≡ begun_by (begun_by (begun ++ (b ∷ [])) part) next
        → cond t (begun_by [] (part ++ next)) (begun_by (begun ++ (b ∷ [])) (part ++ next))
        ≡ begun_by (cond t (begun_by [] part) (begun_by (begun ++ (b ∷ [])) part)) next
    by_test true anew on = anew
    by_test false anew on = on

-- the names of a list are those that end in it, and the last
pub names_ended : (list : List ℕ) → names list ≡ ended [] list ++ last_name (begun_by [] list)
unfolding names_in
names_ended list =
    sym (onto_none (names list)) ∙ ap (λ (l : List ℕ). begun_onto [] (names l)) (sym (append-nil list)) ∙ sym (parts_names [] (list ∷ []))

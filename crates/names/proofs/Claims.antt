-- The claims of specs/Claims.
-- Assumes nothing.
use Prim.Native.Nat.{ℕ}
use mathlib.Core.Path.{refl, ◌∙◌, ap}
use mathlib.Core.Bool.{cond}
use mathlib.Core.List.{List, [], ◌∷◌}
use lib.Dec.{eqb}
use borrow.Author.Tests.{ne_eqb}
use Rattle.frames.specs.Table.{LF}
use Rattle.names.specs.Names.{onto, names}
use Rattle.names.specs.Claims.{whole, AnyParts, LFOrEnd, NamesSo}
use Rattle.names.proofs.PartLaws.{parts_names, onto_none}

pub any_parts : AnyParts
any_parts parts = parts_names [] parts ∙ onto_none (names (whole parts))

pub lf_or_end : LFOrEnd
unfolding names
lf_or_end [] b other = rw (ne_eqb b LF other)
lf_or_end (x ∷ list) b other = ap (λ (ns : List (List ℕ)). cond (eqb x LF) ([] ∷ ns) (onto x ns)) (lf_or_end list b other)

pub names_so : NamesSo
unfolding names
names_so = (refl, refl, refl, refl, refl)

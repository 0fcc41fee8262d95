-- What the calls answer, by what is read.
-- Only proofs rest on this: no public contract speaks of it.
use Rattle.std.specs.Prelude.{ℕ, List, [], ◌∷◌, length, Option, Some, None, Result, Ok, Err, if◌then◌else◌}
use Rattle.fq_core.specs.declared.refusal.Place.{Place}
use Rattle.fq_core.specs.declared.refusal.Place.TheVariants as place
use Rattle.fq_core.specs.declared.refusal.Fault.{Fault}
use Rattle.c_parse.specs.declared.sign.Terminal.{Terminal}
use Rattle.c_parse.specs.declared.expr.ExprTree.{ExprTree}
use Rattle.c_parse.specs.Limits.{first_foreign, first_passed}
use Rattle.fq_core.specs.Refusals.{refusal}
use Rattle.c_parse.specs.Expression.{line_of}
use Rattle.c_parse.specs.declared.unit.Item.{Item}
use Rattle.c_parse.specs.declared.unit.Unit.{Unit as Whole}
use Rattle.c_parse.specs.Reading.{whole_at}
use Rattle.c_parse.specs.SequencePoints.{has_sequence_point}
use Rattle.c_parse.specs.ReadingItems.{items_at}

-- the code and the place of a token that the profile leaves out, or of a limit
abbrev pub early_of : Option Terminal → Option ℕ → Option (ℕ × Place)
early_of (Some t) limit = Some (21, line_of t)
early_of None (Some n) = Some (22, place.Limit n)
early_of None None = None

abbrev pub early_cause : List Terminal → Option (ℕ × Place)
early_cause ts = early_of (first_foreign ts) (first_passed ts)

abbrev pub by_early : {X : Type 0} → Option (ℕ × Place) → Result X Fault → Result X Fault
by_early None otherwise = otherwise
by_early (Some c) otherwise = Err (refusal c.0 c.1)

abbrev pub or_syntax : {X : Type 0} → Option X → Place → Result X Fault
or_syntax None p = Err (refusal 20 p)
or_syntax (Some x) p = Ok x

-- the expression that was read, where it has no sequence point
abbrev pub if_unsequenced : Option ExprTree → Option ExprTree
if_unsequenced None = None
if_unsequenced (Some t) = if has_sequence_point t then None else Some t

unfoldable pub expression_outcome : List Terminal → Result ExprTree Fault
expression_outcome ts = by_early (early_cause ts) (or_syntax (if_unsequenced (whole_at ts)) place.Nowhere)

-- the items that were read, where nothing is left
abbrev pub by_rest : List Item → List Terminal → Result Whole Fault
by_rest items [] = Ok (record { items = items })
by_rest items (t ∷ ts) = Err (refusal 20 (line_of t))

unfoldable pub unit_outcome : List Terminal → Result Whole Fault
unit_outcome ts = by_early (early_cause ts) (by_rest (items_at (length ts) ts).0 (items_at (length ts) ts).1)

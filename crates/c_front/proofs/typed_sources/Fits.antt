-- The typed tree of texts fits.
use Rattle.std.proofs.Common.{sym, subst}
use Rattle.std.specs.Prelude.{IfOk, List, Result, Ok, Err, length}
use Rattle.fq_core.specs.declared.refusal.Fault.{Fault}
use Rattle.c_lex.specs.declared.token.SourceText.{SourceText}
use Rattle.c_typed_trees.specs.Fitting.{IsFitting}
use Rattle.c_typed_trees.specs.declared.unit.Typed.{Typed}
use Rattle.c_types_laws.specs.typing_fits.Laws.{UnitsOfTextsFit}
use Rattle.c_front.specs.typed_sources.Trees.{IsTypedOf}

abbrev Fits : List SourceText → Typed → Type 0
Fits texts typed = IsFitting typed (length texts)

fits : (texts : List SourceText) → UnitsOfTextsFit → (typed : Typed) → IsTypedOf texts typed → Fits texts typed
fits texts law typed is =
    subst (Fits texts) (sym is.is) (law texts is.unit.tokens is.items is.unit.cut is.unit.unit.spelled is.faultless)

pub tree_fits : (texts : List SourceText) → UnitsOfTextsFit → (result : Result Typed Fault) → IfOk result (IsTypedOf texts) → IfOk result (λ typed. IsFitting typed (length texts))
tree_fits texts law (Ok typed) is = fits texts law typed is
tree_fits texts law (Err fault) is = tt

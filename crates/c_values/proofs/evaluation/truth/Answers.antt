use Rattle.std.proofs.Common.{◌≡◌, ◌∙◌, Bool, true, false, sym, subst, refl}
use Rattle.std.specs.Int.{from_bool}
use Rattle.c_values.specs.Kind.{IsValue, int}
use Rattle.c_values.specs.Operations.{truth_of}
use Rattle.c_values.proofs.Fitting.{IsValue-truth_of}
use Rattle.c_values.proofs.evaluation.truth.Goals as goal

byte_is : (test : Bool) → from_bool test ≡ truth_of test
byte_is true = refl
byte_is false = refl

pub returns-clause-of_kind : goal.returns-clause-of_kind
returns-clause-of_kind c = subst (IsValue int) (sym (c.from.ensures ∙ byte_is c.args.test)) (IsValue-truth_of c.args.test)

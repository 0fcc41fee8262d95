-- What follows from the typing rules.
use Rattle.std.specs.Prelude.{◌≡◌, ℕ, Option}
use Rattle.c_values.specs.declared.kinds.Kind.{Kind}
use Rattle.c_parse.specs.declared.unit.Body.{Body}
use Rattle.c_type_rules.specs.Rule.{At}
use Rattle.c_types.specs.declared.parameters.Parameters.{Parameters}
use Rattle.c_types.specs.Functions.{in_frame, body_rule}

-- wherever the temporaries of a body begin, its locals take as many cells
abbrev pub FramesAreApart : Type 0
FramesAreApart = (result : Option Kind) (ps : Parameters) (b : Body) (at : At) (first temporary : ℕ)
    → (body_rule result ps b (in_frame first temporary at)).locals ≡ (body_rule result ps b (in_frame first 0 at)).locals

-- What a text of inputs is answered with: its inputs, or the refusal of it.
use Rattle.std.specs.Prelude.{ℕ, ◌+◌, List, [], ◌∷◌, ◌++◌, Result, Ok, Err, nat_le, if◌then◌else◌}
use Rattle.c_meaning.specs.declared.input.Input.{Input}
use Rattle.fq_core.specs.declared.refusal.Place.{Place}
use Rattle.fq_core.specs.declared.refusal.Place.TheVariants as place
use Rattle.fq_core.specs.declared.refusal.Refusal.{Refusal}
use Rattle.input_text.specs.declared.misfit.Misfit.{Misfit}
use Rattle.input_text.specs.declared.misfit.Misfit.TheVariants as misfit

abbrev pub Outcome : Type 0
Outcome = Result (List Input) Refusal

abbrev pub refused_at : ℕ → Place → Outcome
refused_at code p = Err (record { code = code; place = p })

-- the code of what is wrong with one input
abbrev pub misfit_code : Misfit → ℕ
misfit_code misfit.Shape = 51
misfit_code misfit.Range = 52

-- a text has so many inputs, at most
abbrev pub most_inputs : ℕ
most_inputs = 10000

-- these inputs, and then those of an outcome
abbrev pub after : List Input → Outcome → Outcome
after inputs (Ok more) = Ok (inputs ++ more)
after inputs (Err refusal) = Err refusal

-- The inputs of a text's parts, which are numbered from this number on: all of them, or the refusal of the first part that
-- gives no input, or that is one too many.
abbrev pub numbered : ℕ → List (Result Input Misfit) → Outcome
numbered number [] = Ok []
numbered number (Err misfit ∷ parts) = refused_at (misfit_code misfit) (place.InputNumber number)
numbered number (Ok input ∷ parts) =
    if nat_le number most_inputs then after (input ∷ []) (numbered (number + 1) parts)
    else refused_at 53 (place.Limit most_inputs)

-- How soon the states of an input end.
use Rattle.std.specs.Prelude.{ℕ, ◌<◌}
use Rattle.cfa.specs.declared.parts.Function.{Function}
use Rattle.cfa.specs.declared.parts.GraphParts.{GraphParts}
use Rattle.c_meaning.specs.declared.input.Input.{Input}
use Rattle.c_meaning.specs.declared.stepped.Stepped.{Stepped}
use Rattle.measurer_hits.specs.run_laws.Ends.{EndsIn}

-- the states of an input from an entry end so, after fewer edges than this
pub record EndsSoon (parts : GraphParts) (entry : Function) (input : Input) (limit : ℕ) (end : Stepped) : Type 0 where
  pub ends : EndsIn parts entry input end
  pub soon : ends.number < limit

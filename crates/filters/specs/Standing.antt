-- What the names of filters stand for.
use Rattle.std.specs.Prelude.{ℕ, Option, None, option_map}
use Rattle.cfa.specs.declared.parts.Function.{Function}
use Rattle.cfa.specs.declared.parts.GraphParts.{GraphParts}
use Rattle.cfa.specs.Names.{first_named}
use Rattle.fql_read.specs.declared.filter.FilterForm.TheOpen.{FilterForm-F}
use Rattle.filters.specs.Properties.{function_with}

-- the number of the function that a filter names, or of its entry or exit
abbrev pub number_for : {A B : Type 0} → GraphParts → FilterForm-F A B → Option ℕ
number_for parts (FilterForm-F.Func name) = first_named parts.functions name
number_for parts (FilterForm-F.Entry name) = option_map (λ (f : Function). f.entry) (function_with parts name)
number_for parts (FilterForm-F.Exit name) = option_map (λ (f : Function). f.exit) (function_with parts name)
number_for parts _ = None

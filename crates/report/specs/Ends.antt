-- How the end of a run is written.
use Rattle.std.specs.Prelude.{ℕ, ℤ, List, [], ◌++◌, Option, None, Some, codes, option_and_then, slice_get}
use Rattle.std.specs.Fmt.{signed_decimal}
use Rattle.c_values.specs.declared.kinds.Kind.{Kind}
use Rattle.c_values.specs.Kind.{number_of}
use Rattle.cfa.specs.declared.parts.Function.{Function}
use Rattle.cfa.specs.declared.parts.GraphParts.{GraphParts}
use Rattle.cfa.specs.declared.state.Trap.TheVariants as trap
use Rattle.path_runner.specs.declared.path.RunEnd.{RunEnd}
use Rattle.path_runner.specs.declared.path.RunEnd.TheVariants as ended

-- the kind of what a function gives, where it gives something
abbrev pub result_kind : GraphParts → ℕ → Option Kind
result_kind graph entry = option_and_then (λ (f : Function). f.result) (slice_get graph.functions entry)

-- the words of an end, without its value
abbrev pub end_name : RunEnd → List ℕ
end_name (ended.Returned value) = codes "returned"
end_name (ended.Trapped trap.ZeroDivisor) = codes "trapped zero-divisor"
end_name (ended.Trapped trap.OverflowDivisor) = codes "trapped overflow-divisor"
end_name (ended.Trapped trap.Index) = codes "trapped index"
end_name (ended.Trapped trap.Shift) = codes "trapped shift"
end_name (ended.Trapped trap.Assert) = codes "trapped assert"
end_name ended.Blocked = codes "blocked"
end_name ended.TooDeep = codes "too-deep"
end_name ended.Cut = codes "cut"

-- the word that was returned
abbrev pub returned_word : RunEnd → Option ℕ
returned_word (ended.Returned value) = value
returned_word _ = None

-- the number that was returned, of a function that gives one of this kind
abbrev pub number_in : Option Kind → Option ℕ → Option ℤ
number_in (Some kind) (Some word) = Some (number_of kind word)
number_in _ _ = None

abbrev pub end_value : Option Kind → RunEnd → Option ℤ
end_value kind run_end = number_in kind (returned_word run_end)

-- the number that a word stands for in a kind, after a space
abbrev pub spaced_value : Kind → ℕ → List ℕ
spaced_value kind word = codes " " ++ signed_decimal (number_of kind word)

-- a number after a space, where there is one
abbrev pub value_text : Option ℤ → List ℕ
value_text None = []
value_text (Some number) = codes " " ++ signed_decimal number

-- the words of an end, and its value where there is one
abbrev pub end_text : Option Kind → RunEnd → List ℕ
end_text kind run_end = end_name run_end ++ value_text (end_value kind run_end)

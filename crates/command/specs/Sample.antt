-- What is due of a program that is made from a number.
use Rattle.std.specs.Prelude.{ℕ, [], ◌∷◌, codes}
use Rattle.c_lex.specs.declared.token.SourceText.{SourceText}
use Rattle.c_meaning.specs.declared.ends.Ends.TheVariants as counted
use Rattle.cfa.specs.declared.parts.GraphParts.{GraphParts}
use Rattle.unwinder_reach.specs.declared.reached.bounds.Bounds.{Bounds}
use Rattle.report.specs.Generated.{sample_text}
use Rattle.sample.specs.Sample.{program_text, query_text}
use Rattle.command.specs.Asked.{sample_file}
use Rattle.command.specs.Generate.{IsGeneration}
use Rattle.command.specs.Said.{Said}
use Rattle.command.specs.Stages.{OfEntry, OfQuery, OfTexts}

-- the program, in its file
abbrev pub sample_source : ℕ → SourceText
sample_source number = record { name = sample_file; bytes = program_text number }

-- the bounds that stand where no option is given
abbrev pub default_bounds : Bounds
default_bounds = record { turns = 4; frames = 8; answers = 16 }

abbrev pub default_budget : ℕ
default_budget = 5000000

-- by the program's automaton
abbrev pub IsSampled : ℕ → GraphParts → Said → Type 0
IsSampled number graph said =
    OfEntry graph (codes "f") (λ entry. OfQuery (sample_file ∷ []) graph query_text (λ p plan.
    IsGeneration (sample_file ∷ []) graph entry p plan default_bounds counted.Returned default_budget (λ made. sample_text number graph plan made.answers))) said

-- what is due of `sample`
abbrev pub IsDueOfSample : ℕ → Said → Type 0
IsDueOfSample number said = OfTexts (sample_file ∷ []) (sample_source number ∷ []) (IsSampled number) said

-- The options: their names after `--`, and which of them take a value.
use Rattle.std.specs.Prelude.{ℕ, Bool, true, false, List, codes}
use Rattle.command_words.specs.declared.command_option.CommandOption.{CommandOption}
use Rattle.command_words.specs.declared.command_option.CommandOption.TheVariants.{Steps, Turns, Frames, Answers, Ends, Budget, Json}

abbrev pub name_of : CommandOption → List ℕ
name_of Steps = codes "steps"
name_of Turns = codes "turns"
name_of Frames = codes "frames"
name_of Answers = codes "answers"
name_of Ends = codes "ends"
name_of Budget = codes "budget"
name_of Json = codes "json"

abbrev pub takes_value : CommandOption → Bool
takes_value Json = false
takes_value _ = true

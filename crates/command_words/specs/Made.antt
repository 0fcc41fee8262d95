-- The command that reads the words: a positional for each word, and the options, all of which may come again.
use Rattle.std.specs.Prelude.{Bool, true, List, [], ◌∷◌, Some, map, if◌then◌else◌}
use Rattle.std.specs.List.{list_any}
use Rattle.std.specs.Str.{bytes_eq}
use Rattle.clap.specs.Lexer.{usize_max}
use Rattle.clap.specs.declared.builder.action.ArgAction.TheVariants.{Append}
use Rattle.clap.specs.Walk.{Rule}
use Rattle.clap.specs.Simple.{App, new_rule, new_shape}
use Rattle.command_words.specs.declared.command_option.CommandOption.{CommandOption}
use Rattle.command_words.specs.Options.{name_of, takes_value}
use Rattle.command_words.specs.Reading.{Text, positional_id}

abbrev pub words_arg : Rule
words_arg = record (new_rule positional_id) {
  action = Some Append;
  range = Some (record { start_inclusive = 0; end_inclusive = usize_max });
}

abbrev pub valued_arg : Text → Rule
valued_arg name = record (new_rule name) { long = Some name; action = Some Append }

abbrev pub flag_arg : Text → Rule
flag_arg name = record (new_rule name) {
  long = Some name;
  action = Some Append;
  range = Some (record { start_inclusive = 0; end_inclusive = 0 });
  missing = [] ∷ [];
}

abbrev pub opt_arg : CommandOption → Rule
opt_arg o = if (takes_value o) then valued_arg (name_of o) else flag_arg (name_of o)

abbrev pub form : Text → List CommandOption → App
form name opts = record {
  top = record (new_shape name) { rules = words_arg ∷ map opt_arg opts; no_binary_name = true; disable_help_flag = true };
  subs = [];
}

-- no option has the name of the positional
abbrev pub names_words : List CommandOption → Bool
names_words opts = list_any (λ o. bytes_eq (name_of o) positional_id) opts

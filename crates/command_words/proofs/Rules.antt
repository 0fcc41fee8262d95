-- The arguments of a command, as `clap` builds them.
use Rattle.std.proofs.Common.{◌≡◌, true, false, refl, List, Some, option_map}
use Rattle.std.specs.Prelude.{if◌then◌else◌}
use Rattle.std.specs.Str.{bytes_eq}
use Rattle.clap.specs.Walk.{Rule, arg_by_id, arg_by_index, arg_by_long}
use Rattle.clap.specs.Simple.{Shape, filled, with_index}
use Rattle.command_words.specs.declared.command_option.CommandOption.{CommandOption}
use Rattle.command_words.specs.Options.{name_of, takes_value}
use Rattle.command_words.specs.Made.{flag_arg, valued_arg, words_arg}
use Rattle.command_words.specs.Reading.{Text, option_named, positional_id}

-- as they are built
abbrev pub words_rule : Rule
words_rule = with_index 1 (filled words_arg)

abbrev pub valued_rule : Text → Rule
valued_rule name = filled (valued_arg name)

abbrev pub flag_rule : Text → Rule
flag_rule name = filled (flag_arg name)

abbrev pub opt_rule : CommandOption → Rule
opt_rule o = if (takes_value o) then valued_rule (name_of o) else flag_rule (name_of o)

-- What a walk looks up of a command with a positional for all words, and these options.
pub record IsForm (s : Shape) (opts : List CommandOption) : Type 0 where
  pub again : s.args_override_self ≡ false
  pub index : arg_by_index s.rules 1 ≡ Some words_rule
  pub id : arg_by_id s.rules positional_id ≡ Some words_rule
  pub long : (name : Text) → arg_by_long s.rules name ≡ option_map opt_rule (option_named opts name)
  pub known : (name : Text) (o : CommandOption) → option_named opts name ≡ Some o
      → (arg_by_id s.rules (name_of o) ≡ Some (opt_rule o)) × (bytes_eq (name_of o) positional_id ≡ false)

pub opt_rule-valued : (o : CommandOption) → takes_value o ≡ true → opt_rule o ≡ valued_rule (name_of o)
opt_rule-valued o e = rw e refl

pub opt_rule-flag : (o : CommandOption) → takes_value o ≡ false → opt_rule o ≡ flag_rule (name_of o)
opt_rule-flag o e = rw e refl

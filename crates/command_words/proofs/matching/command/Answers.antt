use Rattle.std.proofs.Common.{◌∙◌, ap, ap₂, sym, arith}
use Rattle.std.proofs.lemmas.List.{take_more}
use Rattle.clap.specs.Simple.{with_rule}
use Rattle.command_words.specs.Made.{form}
use Rattle.command_words.proofs.Forms.{form-more}
use Rattle.command_words.proofs.matching.command.Goals as goal

pub loop-option-preserved : goal.loop-option-preserved
loop-option-preserved c =
    let rule = rw (c.name-name.ensures, c.has_value.ensures) at c.argument.ensures.rule in
    c.in_ok-command-2.ensures.shape c.argument.ensures.local
    ∙ ap₂ with_rule c.loop-option.invariant rule
    ∙ form-more c.args.name.now _ _
    ∙ ap (form c.args.name.now) (sym (take_more c.args.options.now c.loop-option.option-index _ (omega arith)))

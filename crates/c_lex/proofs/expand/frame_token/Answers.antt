use Rattle.std.proofs.Common.{ap, sym, ◌∙◌}
use Rattle.std.specs.Prelude.{slice_get}
use Rattle.c_lex.specs.declared.macros.Replacement.{Replacement}
use Rattle.c_lex.proofs.ExpandingLaws.{list_at_within, list_at_past, get_past, shown_at}
use Rattle.c_lex.proofs.expand.frame_token.Goals as goal

pub returns-then-frame-macros-clause-value : goal.returns-then-frame-macros-clause-value
returns-then-frame-macros-clause-value c = ap (λ xs. slice_get xs c.args.frame.at) (sym (list_at_past c.args.macros.now c.args.frame.index c.if-frame-macros.true))

pub returns-then-frame-list-clause-value : goal.returns-then-frame-list-clause-value
returns-then-frame-list-clause-value c =
    get_past Replacement _ c.args.frame.at c.if-frame-list.true ∙ ap (λ xs. slice_get xs c.args.frame.at) (c.as_slice-list.ensures ∙ sym (list_at_within c.args.macros.now c.args.frame.index c.index-macros-frame.result c.if-frame-macros.false))

pub returns-clause-value : goal.returns-clause-value
returns-clause-value c =
    shown_at _ _ c.args.frame.at _ c.index-list-frame.is c.if-frame-list.false (c.as_slice-list.ensures ∙ sym (list_at_within c.args.macros.now c.args.frame.index c.index-macros-frame.result c.if-frame-macros.false))

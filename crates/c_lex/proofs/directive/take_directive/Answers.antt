use Rattle.std.proofs.Common.{ap, sym, ◌∙◌, drop, rules}
use Rattle.c_lex.specs.declared.piece.Piece.{Piece}
use Rattle.c_lex.specs.Directives.{directive_of, list_of}
use Rattle.c_lex.proofs.TakingLaws.{included, unknown_byte, wrong, defined_twice, wide_list, defined, is_known, is_unknown, directive_memory}
use Rattle.c_lex.proofs.directive.take_directive.Goals as goal

pub returns-in_err-tokens-clause-taken : goal.returns-in_err-tokens-clause-taken
returns-in_err-tokens-clause-taken c = directive_memory _ _ _ _ c.from_residual.result c.from_residual.ensures.1

pub returns-in-Include-clause-taken : goal.returns-in-Include-clause-taken
returns-in-Include-clause-taken c =
    included c.args.table.now.macros.items c.args.line.now c.args.place c.in_ok-tokens.tokens.items c.in_ok-tokens.ensures (ap (directive_of c.args.line.now) (sym c.as_slice.ensures.value) ∙ sym c.in-Include.ensures)

pub returns-in-UnknownByte-clause-taken : goal.returns-in-UnknownByte-clause-taken
returns-in-UnknownByte-clause-taken c =
    rw c.refusal.ensures (unknown_byte c.args.table.now.macros.items c.args.line.now c.args.place c.in_ok-tokens.tokens.items c.in_ok-tokens.ensures (ap (directive_of c.args.line.now) (sym c.as_slice.ensures.value) ∙ sym c.in-UnknownByte.ensures))

pub returns-in-Wrong-clause-taken : goal.returns-in-Wrong-clause-taken
returns-in-Wrong-clause-taken c =
    rw c.refusal-in-Wrong.ensures (wrong c.args.table.now.macros.items c.args.line.now c.args.place c.in_ok-tokens.tokens.items c.in_ok-tokens.ensures (ap (directive_of c.args.line.now) (sym c.as_slice.ensures.value) ∙ sym c.in-Wrong.ensures))

pub returns-in_err-name-in-Define-clause-taken : goal.returns-in_err-name-in-Define-clause-taken
returns-in_err-name-in-Define-clause-taken c = directive_memory _ _ _ _ c.from_residual-in_err-name-in-Define.result c.from_residual-in_err-name-in-Define.ensures.1

pub returns-then-is_some-clause-taken : goal.returns-then-is_some-clause-taken
returns-then-is_some-clause-taken c =
    rw c.refusal-then-is_some.ensures (defined_twice c.args.table.now.macros.items c.args.line.now c.args.place c.in_ok-tokens.tokens.items c.in_ok-tokens.ensures c.in-Define.at c.in-Define.length (ap (directive_of c.args.line.now) (sym c.as_slice.ensures.value) ∙ sym c.in-Define.ensures)
    (is_known c.args.table.now.macros.items _ _ _ c.index_of.ensures c.is_some.result (search rules) (c.in_ok-name-in-Define.ensures ∙ c.part.ensures) c.if-is_some.true))

pub returns-in_err-list_of-in-Define-clause-taken : goal.returns-in_err-list_of-in-Define-clause-taken
returns-in_err-list_of-in-Define-clause-taken c = directive_memory _ _ _ _ c.from_residual-in_err-list_of-in-Define.result c.from_residual-in_err-list_of-in-Define.ensures.1

pub returns-in-None-clause-taken : goal.returns-in-None-clause-taken
returns-in-None-clause-taken c =
    rw c.refusal-in-None.ensures (wide_list c.args.table.now.macros.items c.args.line.now c.args.place c.in_ok-tokens.tokens.items c.in_ok-tokens.ensures c.in-Define.at c.in-Define.length (ap (directive_of c.args.line.now) (sym c.as_slice.ensures.value) ∙ sym c.in-Define.ensures)
    (is_unknown c.args.table.now.macros.items _ _ _ c.index_of.ensures c.is_some.result (search rules) (c.in_ok-name-in-Define.ensures ∙ c.part.ensures) c.if-is_some.false) (ap (list_of c.args.line.now) (sym (c.after_two.ensures ∙ ap (drop {A = Piece} 2) c.as_slice-in-Define.ensures.value)) ∙ sym c.in_ok-list_of-in-Define.ensures ∙ c.in-None.is))

pub returns-in_err-define-in-Some-clause-taken : goal.returns-in_err-define-in-Some-clause-taken
returns-in_err-define-in-Some-clause-taken c = directive_memory _ _ _ _ c.from_residual-in_err-define-in-Some.result c.from_residual-in_err-define-in-Some.ensures.1

pub returns-in_ok-define-in-Some-clause-taken : goal.returns-in_ok-define-in-Some-clause-taken
returns-in_ok-define-in-Some-clause-taken c =
    defined c.args.table.now.macros.items c.args.line.now c.args.place c.in_ok-tokens.tokens.items c.in_ok-tokens.ensures c.in-Define.at c.in-Define.length (ap (directive_of c.args.line.now) (sym c.as_slice.ensures.value) ∙ sym c.in-Define.ensures) c.in-Some.list _
    (is_unknown c.args.table.now.macros.items _ _ _ c.index_of.ensures c.is_some.result (search rules) (c.in_ok-name-in-Define.ensures ∙ c.part.ensures) c.if-is_some.false) (ap (list_of c.args.line.now) (sym (c.after_two.ensures ∙ ap (drop {A = Piece} 2) c.as_slice-in-Define.ensures.value)) ∙ sym c.in_ok-list_of-in-Define.ensures ∙ c.in-Some.is)
    (rw (c.in_ok-name-in-Define.ensures ∙ c.part.ensures) at c.in_ok-define-in-Some.ensures.added)

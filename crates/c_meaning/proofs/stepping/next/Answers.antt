use Rattle.std.proofs.Common.{◌≡◌, subst, sym}
use Rattle.std.specs.Prelude.{IfOk}
use Rattle.c_meaning.specs.declared.stepped.Stepped.{Stepped}
use Rattle.c_meaning.specs.Steps.{stepped}
use Rattle.c_meaning.proofs.Next.{next_left, next_onward, owner_kind, owner_inner}
use Rattle.c_meaning.proofs.stepping.next.Goals as goal

pub left-requires-clause-kind : goal.left-requires-clause-kind
left-requires-clause-kind c =
    owner_kind c.args.graph.now c.args.state.now c.owner_of-function.result.now c.well_formed-2.ensures c.requires.state c.owner_of-function.ensures

pub onward-requires-clause-inner : goal.onward-requires-clause-inner
onward-requires-clause-inner c =
    owner_inner c.args.graph.now c.args.state.now c.owner_of-function.result.now c.well_formed-2.ensures c.requires.state c.owner_of-function.ensures c.if-state-function.false

pub returns-then-state-function : goal.returns-then-state-function
returns-then-state-function c =
    subst (λ (q : Stepped). IfOk c.left.result (λ step. stepped step c.left.new.state ≡ q)) (sym (next_left c.args.graph.now c.args.input.now c.args.state.now c.owner_of-function.result.now c.owner_of-function.ensures c.if-state-function.true)) c.left.ensures

pub returns-else-state-function : goal.returns-else-state-function
returns-else-state-function c =
    subst (λ (q : Stepped). IfOk c.onward.result (λ step. stepped step c.onward.new.state ≡ q)) (sym (next_onward c.args.graph.now c.args.input.now c.args.state.now c.owner_of-function.result.now c.owner_of-function.ensures c.if-state-function.false)) c.onward.ensures

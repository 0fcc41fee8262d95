use Rattle.std.proofs.Common.{◌≡◌, refl, rules, arith}
use Rattle.std.proofs.lemmas.List.{nil_from_length}
use Rattle.c_lex.specs.Expanding.{ends}
use Rattle.c_lex.proofs.ExpandingLaws.{turn_done, turn_passes_tokens, turn_token, turn_passes_replacements, turn_replaces, turn_memory}
use Rattle.c_lex.proofs.expand.take_turn.Goals as goal

pub returns-in_default : goal.returns-in_default
returns-in_default c = ends (nil_from_length c.args.frames.now.items (omega (arith, c.in_default.ensures.cases.0, c.args.frames.now.ok.0))) refl refl

pub returns-in_default-frame_token : goal.returns-in_default-frame_token
returns-in_default-frame_token c =
    turn_done c.args.table.now.macros.items c.as_slice.result.now c.args.span c.args.frames.now.items c.pop.new.self.items c.in-Some.frame c.args.output.now.tokens.items c.args.output.now.replaced c.in-Some.ensures.items c.as_slice.ensures.value
    c.in_default-frame_token.ensures.value

pub returns-then-len-ge-MOST : goal.returns-then-len-ge-MOST
returns-then-len-ge-MOST c =
    turn_passes_tokens c.args.table.now.macros.items c.as_slice.result.now c.args.span c.args.frames.now.items c.pop.new.self.items c.in-Some.frame c.args.output.now.tokens.items c.args.output.now.replaced c.in-Some.ensures.items c.as_slice.ensures.value
    c.in-Some-frame_token.next.now c.in-Some-frame_token.ensures.value c.push.new.self.items c.in_ok-push.ensures.items c.in-None.ensures (search rules)

pub returns-in_err-clone-in-None : goal.returns-in_err-clone-in-None
returns-in_err-clone-in-None c = turn_memory _ _ _ _ _ _ _ _ c.from_residual-in_err-clone-in-None.result _ c.from_residual-in_err-clone-in-None.ensures.1

pub returns-in_err-push-in-None : goal.returns-in_err-push-in-None
returns-in_err-push-in-None c = turn_memory _ _ _ _ _ _ _ _ c.from_residual-in_err-push-in-None.result _ c.from_residual-in_err-push-in-None.ensures.1

pub returns-then-output-ge-MOST : goal.returns-then-output-ge-MOST
returns-then-output-ge-MOST c =
    turn_passes_replacements c.args.table.now.macros.items c.as_slice.result.now c.args.span c.args.frames.now.items c.pop.new.self.items c.in-Some.frame c.args.output.now.tokens.items c.args.output.now.replaced c.in-Some.ensures.items c.as_slice.ensures.value
    c.in-Some-frame_token.next.now c.in-Some-frame_token.ensures.value c.push.new.self.items c.in_ok-push.ensures.items c.in-Some-index_of.index c.in-Some-index_of.ensures c.if-output-ge-MOST.true

pub returns-in_err-push-in-Some-index_of : goal.returns-in_err-push-in-Some-index_of
returns-in_err-push-in-Some-index_of c = turn_memory _ _ _ _ _ _ _ _ c.from_residual-in_err-push-in-Some-index_of.result _ c.from_residual-in_err-push-in-Some-index_of.ensures.1

pub returns-in_ok-push-in-None : goal.returns-in_ok-push-in-None
returns-in_ok-push-in-None c =
    turn_token c.args.table.now.macros.items c.as_slice.result.now c.args.span c.args.frames.now.items c.pop.new.self.items c.in-Some.frame c.args.output.now.tokens.items c.args.output.now.replaced c.in-Some.ensures.items c.as_slice.ensures.value
    c.in-Some-frame_token.next.now c.in-Some-frame_token.ensures.value c.push.new.self.items c.in_ok-push.ensures.items c.push-in-None.new.self.items _ c.in-None.ensures (search rules) c.in_ok-push-in-None.ensures.items
    (let e : c.in_ok-clone-in-None.field-0 ≡ c.in-Some-frame_token.next.now.text = search rules in rw e refl)

pub returns-in_ok-push-in-Some-index_of : goal.returns-in_ok-push-in-Some-index_of
returns-in_ok-push-in-Some-index_of c =
    turn_replaces c.args.table.now.macros.items c.as_slice.result.now c.args.span c.args.frames.now.items c.pop.new.self.items c.in-Some.frame c.args.output.now.tokens.items c.args.output.now.replaced c.in-Some.ensures.items c.as_slice.ensures.value
    c.in-Some-frame_token.next.now c.in-Some-frame_token.ensures.value c.push.new.self.items c.in_ok-push.ensures.items c.in-Some-index_of.index c.in-Some-index_of.ensures c.push-in-Some-index_of.new.self.items c.if-output-ge-MOST.false c.in_ok-push-in-Some-index_of.ensures.items

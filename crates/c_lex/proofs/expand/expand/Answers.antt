use Rattle.std.proofs.Common.{ap, ◌∙◌, ◌++◌, ◌∷◌, []}
use Rattle.c_lex.proofs.Runs.{first_passes, first_progress, turn_goes, turn_ends, turn_passes}
use Rattle.c_lex.proofs.expand.expand.Goals as goal

pub returns-then-output-ge-MOST : goal.returns-then-output-ge-MOST
returns-then-output-ge-MOST c =
    first_passes c.args.table.now.macros.items c.args.span c.args.word.now c.args.index c.args.output.now.tokens.items c.args.output.now.replaced c.requires.index c.if-output-ge-MOST.true

pub turns-init : goal.turns-init
turns-init c =
    first_progress c.args.table.now.macros.items c.args.span c.args.word.now c.args.index c.args.output.now.tokens.items c.args.output.now.replaced c.requires.index c.push.new.self.items
    (c.in_ok-push.ensures.items ∙ ap (λ fs. fs ++ record { index = c.args.index; at = 0 } ∷ []) c.new-frames.ensures.items) c.requires.allowed.0 c.if-output-ge-MOST.false

pub turns-preserved : goal.turns-preserved
turns-preserved c =
    turn_goes c.args.table.now.macros.items c.args.span (c.args.word.now ∷ []) c.args.output.now.tokens.items c.args.output.now.replaced c.turns.frames.items _ c.turns.output.tokens.items _ c.turns.output.replaced _ (rw c.in-GoesOn.is at c.in_ok-take_turn.ensures) c.turns.invariant

pub returns-in-Ends : goal.returns-in-Ends
returns-in-Ends c =
    turn_ends c.args.table.now.macros.items c.args.span (c.args.word.now ∷ []) c.args.output.now.tokens.items c.args.output.now.replaced c.turns.frames.items _ c.turns.output.tokens.items _ c.turns.output.replaced _ (rw c.in-Ends.is at c.in_ok-take_turn.ensures) c.turns.invariant

pub returns-in-Passes : goal.returns-in-Passes
returns-in-Passes c =
    turn_passes c.args.table.now.macros.items c.args.span (c.args.word.now ∷ []) c.args.output.now.tokens.items c.args.output.now.replaced c.turns.frames.items _ c.turns.output.tokens.items _ c.turns.output.replaced _ (rw c.in-Passes.is at c.in_ok-take_turn.ensures) c.turns.invariant

use Rattle.std.proofs.Common.{◌≡◌, false, true, ap, sym, ◌∙◌}
use Rattle.std.specs.Prelude.{Some}
use Rattle.c_lex.specs.Pieces.{end_of, is_include}
use Rattle.c_lex.specs.Taking.{is_gap}
use Rattle.c_lex.proofs.LineLaws.{begins, line_ends, line_stops, gap_stops, past_gap, past_piece}
use Rattle.c_lex.proofs.Total.{ends_within}
use Rattle.c_lex.proofs.directive.line_pieces.Goals as goal
use Rattle.c_lex.proofs.directive.line_pieces.Goals.{then-not-is_gap+in_ok-push, else-not-is_gap}

pub pieces-init : goal.pieces-init
pieces-init c = record { within = c.requires; so_far = rw c.new-pieces.ensures.items (begins c.args.line.now) }

pub returns-in_default : goal.returns-in_default
returns-in_default c =
    line_ends c.args.line.now c.pieces.at c.pieces.pieces.items c.pieces.invariant.so_far c.is_include.result (c.is_include.ensures ∙ ap (is_include c.args.line.now) c.as_slice.ensures.value) c.in_default.ensures.value

pub returns-in_default-end_of : goal.returns-in_default-end_of
returns-in_default-end_of c =
    let due = c.is_include.ensures ∙ ap (is_include c.args.line.now) c.as_slice.ensures.value in
    elim c.if-not-is_gap.branch [
      | then-not-is_gap+in_ok-push w ↦
          rw w.pieces-is (line_stops c.args.line.now c.pieces.at c.pieces.pieces.items c.pieces.invariant.so_far c.is_include.result due c.in-Some.piece c.in-Some.ensures.value _ w.in_ok-push.ensures.items (sym w.if-not-is_gap.ensures) (sym c.in_default-end_of.ensures))
      | else-not-is_gap w ↦
          absurd (gap_stops c.args.line.now c.pieces.at c.pieces.pieces.items c.pieces.invariant.so_far c.is_include.result due c.in-Some.piece c.in-Some.ensures.value (sym c.in_default-end_of.ensures) (sym w.if-not-is_gap.ensures))
    ]

pub pieces-preserved : goal.pieces-preserved
pieces-preserved c =
    let due = c.is_include.ensures ∙ ap (is_include c.args.line.now) c.as_slice.ensures.value in
    let ends : end_of c.in-Some.piece ≡ Some c.in-Some-end_of.next = sym c.in-Some-end_of.ensures in
    record {
      within = (ends_within c.pieces.at _ c.in-Some.piece c.in-Some-end_of.next c.in-Some.ensures.inside ends).1;
      so_far = elim c.if-not-is_gap.branch [
        | then-not-is_gap+in_ok-push w ↦
            let kept : is_gap c.in-Some.piece ≡ false = sym w.if-not-is_gap.ensures in
            rw w.pieces-is (past_piece c.args.line.now c.pieces.at c.pieces.pieces.items c.pieces.invariant.so_far c.is_include.result due c.in-Some.piece c.in-Some.ensures.value _ w.in_ok-push.ensures.items kept c.in-Some-end_of.next ends)
        | else-not-is_gap w ↦
            let left : is_gap c.in-Some.piece ≡ true = sym w.if-not-is_gap.ensures in
            rw w.pieces-is (past_gap c.args.line.now c.pieces.at c.pieces.pieces.items c.pieces.invariant.so_far c.is_include.result due c.in-Some.piece c.in-Some.ensures.value c.in-Some-end_of.next ends left)
      ];
    }

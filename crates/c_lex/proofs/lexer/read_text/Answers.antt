use Rattle.std.proofs.Common.{◌≡◌, arith, sym}
use Rattle.std.specs.Prelude.{Some}
use Rattle.std.proofs.lemmas.Result.{err_from_is_err_and}
use Rattle.c_lex.specs.Pieces.{end_of}
use Rattle.c_lex.proofs.LexerLaws.{begins, past_piece, text_ends, text_refused}
use Rattle.c_lex.proofs.Total.{ends_within, first_place}
use Rattle.c_lex.proofs.lexer.read_text.Goals as goal

pub pieces-init : goal.pieces-init
pieces-init c = record {
  within = omega arith;
  indexed = c.requires.indexed;
  allowed = c.requires.allowed;
  position = first_place c.args.text.now;
  line = omega arith;
  column = omega arith;
  so_far = begins c.args.file c.args.text.now c.args.table.now.macros.items c.args.output.now c.requires.empty;
}

pub returns-in_default : goal.returns-in_default
returns-in_default c =
    text_ends c.args.file c.args.text.now c.pieces.at c.pieces.begins_line c.pieces.table c.args.output.now c.pieces.output c.pieces.invariant.so_far c.in_default.ensures.value c.pieces.invariant.allowed

pub returns-in_err-take_piece : goal.returns-in_err-take_piece
returns-in_err-take_piece c =
    let e = err_from_is_err_and c.from_residual.result c.from_residual.ensures.1 in
    rw (e.1, e.2) (text_refused c.args.file c.args.text.now c.pieces.at c.pieces.begins_line c.pieces.table c.args.output.now c.pieces.output c.pieces.invariant.so_far c.in-Some.piece c.in-Some.ensures.value
    c.take_piece.new.table c.take_piece.new.output c.pieces.invariant.within c.in-Some.ensures.inside c.in_err-take_piece.field-0.0 c.in_err-take_piece.ensures)

pub pieces-preserved : goal.pieces-preserved
pieces-preserved c =
    let ends : end_of c.in-Some.piece ≡ Some c.in-Some-end_of.next = sym c.in-Some-end_of.ensures in
    record {
      within = (ends_within c.pieces.at _ c.in-Some.piece c.in-Some-end_of.next c.in-Some.ensures.inside ends).1;
      indexed = c.in_ok-take_piece.ensures.0;
      allowed = c.in_ok-take_piece.ensures.3.0;
      position = c.later_position-position.ensures.position;
      line = c.later_position-position.ensures.line;
      column = c.later_position-position.ensures.column;
      so_far = rw c.begins_line_after-begins_line.ensures (past_piece c.args.file c.args.text.now c.pieces.at c.pieces.begins_line c.pieces.table c.args.output.now c.pieces.output c.pieces.invariant.so_far c.in-Some.piece c.in-Some.ensures.value
          c.take_piece.new.table c.take_piece.new.output c.in-Some-end_of.next ends c.in_ok-take_piece.ensures);
    }

use Rattle.std.proofs.Common.{subst, ℕ, List}
use Rattle.std.specs.Prelude.{Ok, Err}
use Rattle.std.proofs.lemmas.Result.{err_from_is_err_and}
use Rattle.c_lex.specs.Taking.{TextTaken}
use Rattle.c_lex.proofs.LexerLaws.{texts_more, texts_refused, texts_end}
use Rattle.c_lex.proofs.lexer.tokens.Goals as goal

pub returns-in_err-read_text : goal.returns-in_err-read_text
returns-in_err-read_text c =
    let e = err_from_is_err_and c.from_residual.result c.from_residual.ensures.1 in
    rw (e.1, e.2) (texts_refused c.args.texts.now c.loop-file.file c.index-texts-file.result c.loop-file-test.true c.index-texts-file.is c.loop-file.output c.read_text.new.output c.loop-file.invariant c.in_err-read_text.field-0.0
    (subst (λ (bytes : List ℕ). TextTaken c.loop-file.file bytes c.loop-file.output c.read_text.new.output (Err c.in_err-read_text.field-0.0)) c.as_slice.ensures c.in_err-read_text.ensures))

pub loop-file-preserved : goal.loop-file-preserved
loop-file-preserved c =
    texts_more c.args.texts.now c.loop-file.file c.index-texts-file.result c.loop-file-test.true c.index-texts-file.is c.loop-file.output c.read_text.new.output c.loop-file.invariant
    (subst (λ (bytes : List ℕ). TextTaken c.loop-file.file bytes c.loop-file.output c.read_text.new.output (Ok tt)) c.as_slice.ensures c.in_ok-read_text.ensures)

pub returns : goal.returns
returns c = texts_end c.args.texts.now c.loop-file.file c.loop-file.output c.loop-file-test.false c.loop-file.invariant

use Rattle.c_lex.proofs.Scans.{rest_word, rest_number, rest_constant, rest_string, rest_mark}
use Rattle.c_lex.proofs.form.rest_length.Goals as goal

pub returns-then-is_letter : goal.returns-then-is_letter
returns-then-is_letter c = rest_word _ _ _ _ c.is_letter.ensures c.if-is_letter.true c.word_length.ensures

pub returns-then-is_digit : goal.returns-then-is_digit
returns-then-is_digit c = rest_number _ _ _ _ _ c.is_letter.ensures c.if-is_letter.false c.is_digit.ensures c.if-is_digit.true c.number_length.ensures

pub returns-then-first-eq39 : goal.returns-then-first-eq39
returns-then-first-eq39 c = rest_constant _ _ _ _ _ c.is_letter.ensures c.if-is_letter.false c.is_digit.ensures c.if-is_digit.false c.if-first-eq39.true c.constant_length.ensures

pub returns-then-first-eq34 : goal.returns-then-first-eq34
returns-then-first-eq34 c = rest_string _ _ _ _ _ c.is_letter.ensures c.if-is_letter.false c.is_digit.ensures c.if-is_digit.false c.if-first-eq39.false c.if-first-eq34.true c.string_length.ensures

pub returns-else-first-eq34 : goal.returns-else-first-eq34
returns-else-first-eq34 c = rest_mark _ _ _ _ _ c.is_letter.ensures c.if-is_letter.false c.is_digit.ensures c.if-is_digit.false c.if-first-eq39.false c.if-first-eq34.false c.mark_length.ensures

use Rattle.std.proofs.Common.{arith}
use Rattle.bit_words.proofs.Steps.{grows_within}
use Rattle.bit_words.proofs.Values.{least_width}
use Rattle.sym_expr.proofs.operators.unary.Goals as goal

pub neg-requires-clause-room : goal.neg-requires-clause-room
neg-requires-clause-room c = let room = rw c.in-Neg.is at c.requires.room in omega arith

pub not-requires-clause-room : goal.not-requires-clause-room
not-requires-clause-room c = let room = rw c.in-Complement.is at c.requires.room in omega arith

pub zero_word-requires-clause-room : goal.zero_word-requires-clause-room
zero_word-requires-clause-room c = let room = rw c.in-Not.is at c.requires.room in omega (arith, least_width c.requires.operand)

pub returns-in-Neg-clause-grows : goal.returns-in-Neg-clause-grows
returns-in-Neg-clause-grows c = rw c.in-Neg.is (grows_within _ c.neg.ensures.grows (omega arith))

pub returns-in-Complement-clause-grows : goal.returns-in-Complement-clause-grows
returns-in-Complement-clause-grows c = rw c.in-Complement.is (grows_within _ c.not.ensures.grows (omega arith))

pub returns-in-Not-clause-grows : goal.returns-in-Not-clause-grows
returns-in-Not-clause-grows c = rw c.in-Not.is (grows_within _ c.zero_word.ensures.grows (omega (arith, least_width c.requires.operand)))

use Rattle.std.proofs.Common.{length, sym, ap, ◌∙◌, arith}
use Rattle.unwinder.proofs.input_words.GateLemmas.{alone_at, alone_length, input_gates-none}
use Rattle.unwinder.proofs.input_words.MadeLemmas.{AreMade, are_made, made_answer_count, made_answer_values, made_answer_wires, made_answers, made_count, made_inputs, made_kinds, made_length, made_values, made_wires, made_words}
use Rattle.unwinder.proofs.input_words.words.inputs.Goals as goal

pub argument_words-requires-clause-inputs : goal.argument_words-requires-clause-inputs
argument_words-requires-clause-inputs c = alone_at _ 0 (c.requires.empty ∙ sym input_gates-none)

pub answer_words-requires-clause-inputs : goal.answer_words-requires-clause-inputs
answer_words-requires-clause-inputs c = alone_at _ _ c.in_ok-words.ensures.gates

pub answer_words-requires-clause-room : goal.answer_words-requires-clause-room
answer_words-requires-clause-room c = let long = alone_length _ _ c.in_ok-words.ensures.gates in let none = ap length c.requires.empty in let room = c.requires.room in omega arith

made : (c : goal.In_ok-answers) → AreMade c.args.parameters.now c.args.answers c.answer_words.new.circuit c.in_ok-words.words c.in_ok-answers.answers
made c = are_made c.args.parameters.now c.args.answers c.args.circuit.now c.argument_words.new.circuit c.answer_words.new.circuit c.in_ok-words.words c.in_ok-answers.answers c.requires.empty c.requires.kinds c.in_ok-words.ensures.gates c.in_ok-words.ensures.words c.in_ok-answers.ensures.gates c.in_ok-answers.ensures.words

pub returns-clause-wires_used : goal.returns-clause-wires_used
returns-clause-wires_used c = made_length (made c)

pub returns-clause-inputs_alone : goal.returns-clause-inputs_alone
returns-clause-inputs_alone c = made_inputs (made c)

pub returns-clause-word_count : goal.returns-clause-word_count
returns-clause-word_count c = made_count (made c)

pub returns-clause-words : goal.returns-clause-words
returns-clause-words c = made_words (made c)

pub returns-clause-kinds : goal.returns-clause-kinds
returns-clause-kinds c = made_kinds (made c)

pub returns-clause-word_wires : goal.returns-clause-word_wires
returns-clause-word_wires c = made_wires (made c)

pub returns-clause-answer_count : goal.returns-clause-answer_count
returns-clause-answer_count c = made_answer_count (made c)

pub returns-clause-answers : goal.returns-clause-answers
returns-clause-answers c = made_answers (made c)

pub returns-clause-answer_wires : goal.returns-clause-answer_wires
returns-clause-answer_wires c = made_answer_wires (made c)

pub returns-clause-values : goal.returns-clause-values
returns-clause-values c = made_values (made c)

pub returns-clause-answer_values : goal.returns-clause-answer_values
returns-clause-answer_values c = made_answer_values (made c)

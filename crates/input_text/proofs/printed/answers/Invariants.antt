use Rattle.std.proofs.Common.{◌≡◌, ◌++◌, map, drop}
use Rattle.serde_json.specs.View.{view}
use Rattle.input_text.specs.Printed.{answers_data}
use Rattle.input_text.proofs.printed.answers.Given as goal

abbrev pub invariant-loop-answer : goal.invariant-loop-answer
invariant-loop-answer l = map view l.values.items ++ answers_data (drop l.answer-index l.answers) ≡ answers_data l.answers

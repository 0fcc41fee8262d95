use Rattle.std.proofs.lemmas.Result.{IfOk-weaker}
use Rattle.input_text.proofs.Fitting.{accepted_fit}
use Rattle.input_text.proofs.reading.inputs.Goals as goal

pub returns-clause-few : goal.returns-clause-few
returns-clause-few c = IfOk-weaker c.read.result _ _ (λ inputs is. (accepted_fit c.args.parameters c.args.bytes.now inputs.items is).0) c.read.ensures.ok

pub returns-clause-words : goal.returns-clause-words
returns-clause-words c = IfOk-weaker c.read.result _ _ (λ inputs is. (accepted_fit c.args.parameters c.args.bytes.now inputs.items is).1) c.read.ensures.ok

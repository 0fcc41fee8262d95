-- What is read of a file of inputs.
use Rattle.std.proofs.Common.{◌≡◌, ◌≤◌, ℕ, List, length}
use Rattle.std.specs.Prelude.{IfErr, IfOk, Result, Ok, Err}
use Rattle.std.specs.Global.{Vec}
use Rattle.c_meaning.specs.declared.input.Input.{Input}
use Rattle.fq_core.specs.Refusals.{IfRefused}
use Rattle.fq_core.specs.declared.refusal.Fault.{Fault}
use Rattle.input_text.specs.Inputs.{inputs_of}
use Rattle.command.specs.Calls.{AreInputsAs}
use Rattle.command.specs.Inputs.{at_form, most_inputs}
use Rattle.command.specs.Reads.{Reads, Sees}
use Rattle.command.proofs.ReadsLaws.{refused_map}

pub inputs_as : (r : Reads) (file : List ℕ) (parameters : ℕ) (bytes : List ℕ) → Sees r.holds file bytes → length bytes ≤ most_inputs → (result : Result (Vec Input) Fault)
    → IfOk result (λ given. inputs_of parameters bytes ≡ Ok given.items) → IfErr result (λ e. IfRefused e (λ x. inputs_of parameters bytes ≡ Err x))
    → AreInputsAs r file parameters result
inputs_as r file parameters bytes seen short (Ok given) ok refused = record { bytes = bytes; seen = seen; short = short; is = ok }
inputs_as r file parameters bytes seen short (Err e) ok refused = refused_map e refused (λ x is. at_form bytes seen short is)

-- Parts of a text, one after another.
use Rattle.std.proofs.Common.{◌≡◌, ℕ, ◌+◌, List, ◌∷◌, refl, sym, ◌∙◌, ap}
use Rattle.std.specs.Prelude.{Result, Err}
use Rattle.c_meaning.specs.declared.input.Input.{Input}
use Rattle.fq_core.specs.declared.refusal.Fault.{Fault}
use Rattle.fq_core.specs.declared.refusal.Fault.TheVariants as fault
use Rattle.input_text.specs.declared.misfit.Misfit.{Misfit}
use Rattle.fq_core.specs.Refusals.{IfRefused}
use Rattle.input_text.specs.Outcome.{Outcome, after, numbered}

-- a part that is refused, after these inputs
pub refused_here : (f : Fault) (n : ℕ) (inputs : List Input) (part : Result Input Misfit) (parts : List (Result Input Misfit)) (whole : Outcome)
    → IfRefused f (λ refusal. (rest : List (Result Input Misfit)) → numbered n (part ∷ rest) ≡ Err refusal)
    → whole ≡ after inputs (numbered n (part ∷ parts)) → IfRefused f (λ refusal. whole ≡ Err refusal)
refused_here fault.Memory n inputs part parts whole refused is = tt
refused_here (fault.Refused refusal) n inputs part parts whole refused is = is ∙ ap (after inputs) (refused parts)

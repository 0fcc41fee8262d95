use Rattle.std.proofs.Common.{sym}
use Rattle.std.proofs.lemmas.Bool.{false≢true}
use Rattle.std.proofs.lemmas.Bool.Decides.{Decides-eqb}
use Rattle.cfa.proofs.Exits.{exit_no_node, exit_no_function, exit_tells}
use Rattle.cfa.proofs.rest.is_exit.Goals as goal

pub returns-in-None : goal.returns-in-None
returns-in-None c = (λ t. absurd (false≢true t), λ ex. absurd (exit_no_node _ _ c.requires (sym c.in-None.ensures) ex))

pub returns-in-None-get : goal.returns-in-None-get
returns-in-None-get c = (λ t. absurd (false≢true t), λ ex. absurd (exit_no_function _ _ c.in-Some.n.now c.requires (sym c.in-Some.ensures) (sym c.in-None-get.ensures) ex))

pub returns-in-Some-get : goal.returns-in-Some-get
returns-in-Some-get c =
    let tells = exit_tells _ _ c.in-Some.n.now c.in-Some-get.function.now c.requires (sym c.in-Some.ensures) (sym c.in-Some-get.ensures) in
    let test = Decides-eqb c.in-Some-get.function.now.exit c.args.node in
    (λ t. tells.0 (test.0 t), λ ex. test.1 (tells.1 ex))

use Rattle.std.proofs.Common.{sym, ◌∙◌, subst}
use Rattle.std.proofs.lemmas.Bool.{false≢true}
use Rattle.cfa.specs.Table.{ContinuesAt}
use Rattle.cfa.proofs.Places.{continues_tells}
use Rattle.cfa.proofs.ways.goes_on.Goals as goal

pub returns-else-is_exit : goal.returns-else-is_exit
returns-else-is_exit c =
    let parts = c.args.parts.now in
    let tells = continues_tells parts c.args.node in
    let same = c.requires.numbers in
    let inner : ¬ _ = λ ex. false≢true (sym c.if-is_exit.false ∙ c.is_exit.ensures.1 ex) in
    (λ t. λ _. tells.0 (subst (ContinuesAt parts) same (c.continues_at.ensures.0 t)), λ goes. c.continues_at.ensures.1 (subst (ContinuesAt parts) (sym same) (tells.1 (goes inner))))

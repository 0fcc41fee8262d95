use Rattle.std.proofs.Common.{◌≡◌, ◌==◌, ℕ, Bool, List, sym, ◌∙◌, ap, subst}
use Rattle.std.specs.List.{list_any}
use Rattle.std.specs.List.Sorted.{IsStrictlyIncreasing}
use Rattle.patterns.proofs.Members.{found}
use Rattle.patterns.proofs.number_set.NumberSet.contains.Goals as goal

pub returns : goal.returns
returns c =
    let e : c.deref-2.result.now ≡ c.self.inside.numbers.value.items = c.deref-2.ensures.value ∙ (λ i. (c.deref.ensures i).items) in
    let any : List ℕ → Bool = λ xs. list_any (λ member. member == c.args.number) xs in
    c.is_ok.ensures.value
    ∙ found c.deref-2.result.now c.args.number c.binary_search.result c.binary_search.ensures.position (subst IsStrictlyIncreasing (sym e) c.self.invariant)
    ∙ ap any (e ∙ c.self.view_is)

use Rattle.std.proofs.Common.{◌≡◌, false, ap, sym, ◌∙◌}
use Rattle.cfa.specs.Names.{is_named, visible}
use Rattle.cfa.specs.NameTree.{in_part, is_low}
use Rattle.cfa.proofs.NameTreeLaws.{by_part, found_high, found_low}
use Rattle.cfa.proofs.name_tree.NameTree.+find.Goals as goal

pub returns-in-Some : goal.returns-in-Some
returns-in-Some t c =
    let missed : is_named c.args.name.now c.self.inside.variable.value ≡ false = cc (c.deref.ensures, c.if-has_name.ensures) in
    let found = c.find.ensures ∙ ap (visible c.args.name.now) c.deref-in-Some.ensures in
    let place = c.self.inside.place in
    by_part place c.args.hash
    (λ near.
    let at = ap in_part (sym (c.side.ensures.near near) ∙ c.in-Some.is) in
    let low = found_low _ _ _ _ _ c.self.invariant c.args.name.now missed (ap (is_low place) (sym c.requires) ∙ near) in
    found ∙ sym (low ∙ ap (visible c.args.name.now) at) ∙ ap (visible c.args.name.now) c.self.view_is)
    (λ far.
    let at = ap in_part (sym (c.side.ensures.far far) ∙ c.in-Some.is) in
    let high = found_high _ _ _ _ _ c.self.invariant c.args.name.now missed (ap (is_low place) (sym c.requires) ∙ far) in
    found ∙ sym (high ∙ ap (visible c.args.name.now) at) ∙ ap (visible c.args.name.now) c.self.view_is)

use Rattle.std.proofs.Common.{sym, subst}
use Rattle.measurer_index.specs.word_index.Groups.{Continues, IsAny, IsGroup, IsNarrowed}
use Rattle.measurer_index.specs.word_index.Numbers.{Adds}
use Rattle.measurer_index.specs.word_index.Tables.{AreBegun, root, step}
use Rattle.measurer_index.proofs.word_index.Begun.{chosen}
use Rattle.measurer_index.proofs.word_index.Steps.{on_ok}
use Rattle.measurer_index.proofs.word_index.index.WordIndex.add_begun.Goals as goal

pub add_walks-requires-clause-group : goal.add_walks-requires-clause-group
add_walks-requires-clause-group c =
    let are = subst (λ o. AreBegun c.args.goals.now o c.args.self.now.absents c.args.edges c.table-groups.result.now) (sym c.deref.ensures)
    (subst (AreBegun c.args.goals.now c.args.self.now.order c.args.self.now.absents c.args.edges) (sym c.table-groups.ensures) (chosen c.args.goals.now c.args.self.now c.requires.index c.args.edges))
    in
    let narrowed = subst (λ o. IsNarrowed c.args.goals.now o (step c.args.edges c.args.number) (root o c.args.self.now.absents) c.begun_with-group.result) c.deref.ensures (c.begun_with-group.ensures c.args.goals.now are) in
    subst (λ o. IsGroup c.args.goals.now o c.begun_with-group.result) (sym c.deref-2.ensures) narrowed.group

pub returns : goal.returns
returns c =
    let are = subst (λ o. AreBegun c.args.goals.now o c.args.self.now.absents c.args.edges c.table-groups.result.now) (sym c.deref.ensures)
    (subst (AreBegun c.args.goals.now c.args.self.now.order c.args.self.now.absents c.args.edges) (sym c.table-groups.ensures) (chosen c.args.goals.now c.args.self.now c.requires.index c.args.edges))
    in
    let narrowed = subst (λ o. IsNarrowed c.args.goals.now o (step c.args.edges c.args.number) (root o c.args.self.now.absents) c.begun_with-group.result) c.deref.ensures (c.begun_with-group.ensures c.args.goals.now are) in
    on_ok c.add_walks.result _ _
    (λ h. (c.begun_with-group.result, (narrowed, subst (λ o. Adds (Continues c.args.goals.now o c.args.path.now c.args.last IsAny c.begun_with-group.result c.args.at) c.args.numbers.now c.add_walks.new.numbers) c.deref-2.ensures h)))
    c.add_walks.ensures

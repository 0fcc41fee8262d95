use Rattle.std.proofs.Common.{inl, inr, refl, ap}
use Rattle.std.proofs.lemmas.Result.{err_from_is_err_and}
use Rattle.command_words.specs.Request.{running}
use Rattle.command.specs.Entries.{seen}
use Rattle.command.specs.Due.{IsDueOfTrees}
use Rattle.command.specs.Said.{answered}
use Rattle.command.specs.Stages.{OfTrees}
use Rattle.command.proofs.AtEntry.{TreesThen}
use Rattle.command.proofs.CallLaws.{no_entry, trees_not_given, refused_at_trees, refused_at_entry}
use Rattle.command.proofs.DueLaws.{at_trees, inputs_since, refused_since}
use Rattle.command.proofs.GivesLaws.{tells_refused}
use Rattle.command.proofs.ReadsLaws.{refused_map}
use Rattle.command.proofs.StageLaws.{entry_some}
use Rattle.command.proofs.trees.trees.Goals as goal

pub returns-in_err-trees : goal.returns-in_err-trees
returns-in_err-trees g c =
    let m = running c.args.request.now in
    let p = err_from_is_err_and c.from_residual.result c.from_residual.ensures.1 in
    rw (p.1, p.2) (tells_refused (OfTrees _ m.sources (IsDueOfTrees _ m)) m.sources c.in_err-trees.field-0.0
    (trees_not_given _ m.sources (IsDueOfTrees _ m) c.in_err-trees.field-0.0 (rw c.deref.ensures.value at c.in_err-trees.ensures.answer)))

pub returns-in_err-entry : goal.returns-in_err-entry
returns-in_err-entry g c =
    let m = running c.args.request.now in
    let have = rw c.deref.ensures.value at c.in_ok-trees.ensures.answer in
    let p = err_from_is_err_and c.from_residual-in_err-entry.result c.from_residual-in_err-entry.ensures.1 in
    rw (p.1, p.2) (tells_refused (OfTrees _ m.sources (IsDueOfTrees _ m)) m.sources c.in_err-entry.field-0.0
    (refused_at_trees _ m.sources (IsDueOfTrees _ m) c.in_ok-trees.trees.automaton.graph c.in_ok-trees.trees.typed have c.in_err-entry.field-0.0
    (no_entry c.in_ok-trees.trees.automaton.graph m.entry (TreesThen _ m c.in_ok-trees.trees.typed c.in_ok-trees.trees.automaton.graph) m.sources c.in_err-entry.field-0.0 c.in_err-entry.ensures)))

pub returns-in_err-inputs : goal.returns-in_err-inputs
returns-in_err-inputs g c =
    let m = running c.args.request.now in
    let have = rw c.deref.ensures.value at c.in_ok-trees.ensures.answer in
    let cause = c.in_err-inputs.ensures.answer in
    let p = err_from_is_err_and c.from_residual-in_err-inputs.result c.from_residual-in_err-inputs.ensures.1 in
    rw (p.1, p.2) (tells_refused (OfTrees _ m.sources (IsDueOfTrees _ m)) m.sources c.in_err-inputs.field-0.0
    (refused_at_trees _ m.sources (IsDueOfTrees _ m) c.in_ok-trees.trees.automaton.graph c.in_ok-trees.trees.typed have c.in_err-inputs.field-0.0
    (refused_at_entry c.in_ok-trees.trees.automaton.graph m.entry (TreesThen _ m c.in_ok-trees.trees.typed) c.in_ok-entry.entry c.in_ok-entry.ensures m.sources c.in_err-inputs.field-0.0
    (refused_map c.in_err-inputs.field-0.0 cause (λ x why. inl (x, refused_since _ _ _ _ _ _ _ _ _ c.in_ok-trees.ensures.same_files c.in_ok-trees.ensures.no_fault c.in_ok-trees.ensures.received _ _ x why, refl))))))

pub returns : goal.returns
returns g c =
    let m = running c.args.request.now in
    let have = rw c.deref.ensures.value at c.in_ok-trees.ensures.answer in
    let given = inputs_since _ _ _ _ _ _ _ _ _ c.in_ok-trees.ensures.same_files c.in_ok-trees.ensures.no_fault c.in_ok-trees.ensures.received _ _ _ c.in_ok-inputs.ensures.answer in
    let text = rw c.deref-2.ensures.value at c.in_ok-text.ensures in
    at_trees _ m.sources (IsDueOfTrees _ m) c.in_ok-trees.trees.automaton.graph c.in_ok-trees.trees.typed _ have
    (entry_some c.in_ok-trees.trees.automaton.graph m.entry (TreesThen _ m c.in_ok-trees.trees.typed c.in_ok-trees.trees.automaton.graph) (seen c.in_ok-entry.entry) c.in_ok-entry.ensures.1 _ (inr (c.in_ok-inputs.inputs.items, given, ap answered text)))

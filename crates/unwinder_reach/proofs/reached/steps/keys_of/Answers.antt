use Rattle.std.proofs.Common.{[], refl, sym, subst}
use Rattle.std.proofs.lemmas.List.{take_all}
use Rattle.cfa.proofs.Eaches.{read_at}
use Rattle.unwinder_reach.specs.reached.Searching.{AreKeys}
use Rattle.unwinder_reach.proofs.reached.StepLaws.{keys_more}
use Rattle.unwinder_reach.proofs.reached.Visits.{no_keys}
use Rattle.unwinder_reach.proofs.reached.steps.keys_of.Goals as goal

pub loop-at-init : goal.loop-at-init
loop-at-init c = subst (λ l. AreKeys c.args.table.now l []) (sym c.new-keys.ensures) (no_keys c.args.table.now c.requires.entries)

pub loop-at-preserved : goal.loop-at-preserved
loop-at-preserved c =
    let there = read_at c.args.pairs.now c.args.pairs.now refl c.loop-at.at c.index-pairs-at.result c.loop-at-test.true c.index-pairs-at.is in
    keys_more c.args.table.now c.args.pairs.now c.args.numbers.now c.loop-at.at c.index-pairs-at.result c.loop-at.keys c.add.new.self c.in_ok-key.key.items c.in_ok-_added._added c.requires.apart c.requires.numbers there c.in_ok-key.ensures
    c.loop-at.invariant c.in_ok-_added.ensures

pub returns : goal.returns
returns c = subst (AreKeys c.args.table.now c.loop-at.keys) (take_all c.loop-at.at c.args.pairs.now c.loop-at-test.false) c.loop-at.invariant

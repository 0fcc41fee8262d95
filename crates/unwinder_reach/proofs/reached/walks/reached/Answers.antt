use Rattle.std.proofs.Common.{◌<◌, List, length, sym, ap, ◌∙◌, subst, arith}
use Rattle.std.proofs.lemmas.Option.{same_Some}
use Rattle.cfa.specs.declared.parts.Function.{Function}
use Rattle.cfa.specs.Contexts.{Pair}
use Rattle.cfa.proofs.Eaches.{read_at}
use Rattle.unwinder_reach.specs.declared.reached.step.Step.{Step}
use Rattle.unwinder_reach.specs.reached.Reaching.{AreDistinct, AreReached}
use Rattle.unwinder_reach.specs.reached.Searching.{AreKeys}
use Rattle.unwinder_reach.proofs.reached.StepLaws.{in_order_apart, reached_all, stays_among}
use Rattle.unwinder_reach.proofs.reached.walks.reached.Goals as goal

pub keys_of-requires-clause-apart : goal.keys_of-requires-clause-apart
keys_of-requires-clause-apart c =
    subst AreDistinct (sym c.deref.ensures.value) (in_order_apart c.args.graph.now c.args.bounds c.index-functions-entry.result c.in-Ok.listed.pairs.items c.in-Ok.ensures.ok.order)

pub rows_of-requires : goal.rows_of-requires
rows_of-requires c =
    let order = c.in-Ok.ensures.ok.order in
    let keys = subst (AreKeys c.in-Ok.listed.frames c.in_ok-keys.keys) c.deref.ensures.value c.in_ok-keys.ensures in
    let long = keys.long in
    let few = order.few in
    record {
      few = omega arith;
      keys = keys;
      numbers = c.in-Ok.ensures.ok.numbers;
      closed = stays_among c.args.graph.now c.args.bounds c.index-functions-entry.result c.in-Ok.listed.pairs.items order;
    }

pub returns-clause-accepted : goal.returns-clause-accepted
returns-clause-accepted c f there =
    let order = c.in-Ok.ensures.ok.order in
    let all = reached_all c.args.graph.now c.args.bounds c.index-functions-entry.result c.in-Ok.listed.pairs.items c.in_ok-rows.rows.items order c.in_ok-rows.ensures in
    let Pairs : List Pair → Type 0 = λ ps. AreReached c.args.graph.now c.args.bounds c.index-functions-entry.result ps c.in_ok-rows.rows.items in
    let Rows : List (List Step) → Type 0 = λ rows. AreReached c.args.graph.now c.args.bounds c.index-functions-entry.result c.from_vec.result rows in
    let Own : Function → Type 0 = λ g. AreReached c.args.graph.now c.args.bounds g c.from_vec.result c.from_vec-2.result in
    let long = ap length c.functions.ensures in
    let within : c.args.entry < length c.functions.result.now = omega arith in
    let read = read_at c.args.graph.now.functions c.functions.result.now c.functions.ensures c.args.entry c.index-functions-entry.result within c.index-functions-entry.is in
    let same = same_Some c.index-functions-entry.result f (sym read ∙ there) in
    subst Own same (subst Rows (sym c.from_vec-2.ensures) (subst Pairs (sym c.from_vec.ensures) all))

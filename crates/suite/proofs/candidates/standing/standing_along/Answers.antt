use Rattle.std.proofs.Common.{◌≡◌, ◌+◌, ◌≤◌, ◌<◌, [], ◌∷◌, Some, Option, refl, sym, ◌∙◌, arith, All}
use Rattle.std.specs.Prelude.{IfSome, slice_get}
use Rattle.std.proofs.lemmas.Result.{IfOk-weaker}
use Rattle.cfa.specs.Contexts.{Context, counters_after}
use Rattle.cfa.specs.declared.parts.Operation.TheVariants.{Call, Return, Answer}
use Rattle.unwinder_reach.specs.reached.Reaching.{IsWithinBounds}
use Rattle.suite.specs.candidates.Standing.{GoesOn, Stands}
use Rattle.suite.specs.declared.candidates.standing.Standing.{Standing}
use Rattle.suite.proofs.candidates.StandingLaws.{after_call, after_return, after_turn, edge_there, plain_along, some_weaker}
use Rattle.suite.proofs.candidates.standing.standing_along.Goals as goal

pub returns-in-Call : goal.returns-in-Call
returns-in-Call c =
    let parts = c.args.graph.now in
    let bounds = c.args.bounds.now in
    let at = c.args.at in
    let e = c.in-Some.edge.now in
    let s = c.args.standing in
    let there : slice_get parts.edges at ≡ Some e = edge_there c.edges.result.now parts.edges at e c.edges.ensures c.in-Some.ensures.lookup.3.0 c.in-Some.ensures.lookup.1 in
    let Has : Standing → Type 0 = λ t. (t.frames ≡ s.frames + 1) × (t.frames ≤ bounds.frames) × (t.taken ≡ s.taken) × (t.counters.items ≡ []) × (t.callers ≡ s.counters.items ∷ s.callers) in
    let Goes : Standing → Type 0 = λ t. (d : Context) → Stands s d → IsWithinBounds bounds d → GoesOn parts bounds at d t in
    let goes : (t : Standing) → Has t → Goes t = λ t h d stands within. after_call parts bounds at e there s t d stands within (Call c.in-Call.callee c.in-Call.words c.in-Call.arrays) c.in-Call.is refl h.0 h.1 h.2 h.3 h.4 in
    IfOk-weaker c.called.result (λ (after : Option Standing). IfSome after Has) (λ (after : Option Standing). IfSome after Goes) (λ (after : Option Standing) (h : IfSome after Has). some_weaker after Has Goes goes h) c.called.ensures

pub returns-in-Return : goal.returns-in-Return
returns-in-Return c =
    let parts = c.args.graph.now in
    let bounds = c.args.bounds.now in
    let at = c.args.at in
    let e = c.in-Some.edge.now in
    let s = c.args.standing in
    let there : slice_get parts.edges at ≡ Some e = edge_there c.edges.result.now parts.edges at e c.edges.ensures c.in-Some.ensures.lookup.3.0 c.in-Some.ensures.lookup.1 in
    let Has : Standing → Type 0 = λ t. (t.frames + 1 ≡ s.frames) × (t.taken ≡ s.taken) × (s.callers ≡ t.counters.items ∷ t.callers) in
    let Goes : Standing → Type 0 = λ t. (d : Context) → Stands s d → IsWithinBounds bounds d → GoesOn parts bounds at d t in
    let goes : (t : Standing) → Has t → Goes t = λ t h d stands within. after_return parts bounds at e there s t d stands within (Return c.in-Return.call c.in-Return.dest) c.in-Return.is refl h.0 h.1 h.2 in
    IfOk-weaker c.returned.result (λ (after : Option Standing). IfSome after Has) (λ (after : Option Standing). IfSome after Goes) (λ (after : Option Standing) (h : IfSome after Has). some_weaker after Has Goes goes h) c.returned.ensures

pub returns-else-standing-bounds : goal.returns-else-standing-bounds
returns-else-standing-bounds c =
    let parts = c.args.graph.now in
    let bounds = c.args.bounds.now in
    let at = c.args.at in
    let e = c.in-Some.edge.now in
    let s = c.args.standing in
    let there : slice_get parts.edges at ≡ Some e = edge_there c.edges.result.now parts.edges at e c.edges.ensures c.in-Some.ensures.lookup.3.0 c.in-Some.ensures.lookup.1 in
    let few : s.taken < bounds.answers = c.if-standing-bounds.false in
    let Has : Standing → Type 0 = λ t. (t.frames ≡ s.frames) × (t.taken ≡ s.taken + 1) × (t.counters.items ≡ counters_after parts e s.counters.items) × (t.callers ≡ s.callers) × All (λ n. n ≤ bounds.turns) t.counters.items in
    let Goes : Standing → Type 0 = λ t. (d : Context) → Stands s d → IsWithinBounds bounds d → GoesOn parts bounds at d t in
    let goes : (t : Standing) → Has t → Goes t = λ t h d stands within.
    let now = stands.taken in
    let more = h.1 in
    let own : d.taken + 1 ≡ t.taken = omega (arith, now, more) in
    let most : t.taken ≤ bounds.answers = omega (arith, more, few) in
    after_turn parts bounds at e there s t d stands within (Answer c.in-Answer.input c.in-Answer.dest) (d.taken + 1) c.in-Answer.is refl h.0 own most h.2 h.3 h.4 in
    IfOk-weaker c.turned.result (λ (after : Option Standing). IfSome after Has) (λ (after : Option Standing). IfSome after Goes) (λ (after : Option Standing) (h : IfSome after Has). some_weaker after Has Goes goes h) c.turned.ensures

pub returns-in_default-operation : goal.returns-in_default-operation
returns-in_default-operation c =
    let parts = c.args.graph.now in
    let bounds = c.args.bounds.now in
    let at = c.args.at in
    let e = c.in-Some.edge.now in
    let s = c.args.standing in
    let there : slice_get parts.edges at ≡ Some e = edge_there c.edges.result.now parts.edges at e c.edges.ensures c.in-Some.ensures.lookup.3.0 c.in-Some.ensures.lookup.1 in
    let Has : Standing → Type 0 = λ t. (t.frames ≡ s.frames) × (t.taken ≡ s.taken) × (t.counters.items ≡ counters_after parts e s.counters.items) × (t.callers ≡ s.callers) × All (λ n. n ≤ bounds.turns) t.counters.items in
    let Goes : Standing → Type 0 = λ t. (d : Context) → Stands s d → IsWithinBounds bounds d → GoesOn parts bounds at d t in
    let goes : (t : Standing) → Has t → Goes t = λ t h d stands within.
    let now = stands.taken in
    let more = h.1 in
    let kept = within.answers_kept in
    let own : d.taken ≡ t.taken = now ∙ sym more in
    let most : t.taken ≤ bounds.answers = omega (arith, own, kept) in
    let plain = plain_along parts at e e.operation d (λ x y z. c.in_default-operation.not-Call x y z) (λ x y. c.in_default-operation.not-Return x y) (λ x y. c.in_default-operation.not-Answer x y) in
    after_turn parts bounds at e there s t d stands within e.operation d.taken refl plain h.0 own most h.2 h.3 h.4 in
    IfOk-weaker c.turned-in_default-operation.result (λ (after : Option Standing). IfSome after Has) (λ (after : Option Standing). IfSome after Goes) (λ (after : Option Standing) (h : IfSome after Has). some_weaker after Has Goes goes h) c.turned-in_default-operation.ensures

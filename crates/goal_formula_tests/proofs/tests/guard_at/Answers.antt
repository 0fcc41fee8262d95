use Rattle.std.proofs.Common.{◌≡◌, ℕ, ◌+◌, ◌*◌, ◌≤◌, ◌<◌, List, length, get_or, Some, refl, sym, ap, subst, ◌∙◌, arith}
use Rattle.std.specs.Prelude.{slice_get, sum_by}
use Rattle.std.proofs.lemmas.Option.{same_Some, slice_get_read, slice_get_within}
use Rattle.c_values.specs.declared.kinds.Kind.{Kind}
use Rattle.cfa.proofs.Exits.{taken}
use Rattle.cfa.specs.declared.parts.Function.{Function}
use Rattle.goal_formula.proofs.Rooms.{unwindings_leave_room_law}
use Rattle.unwinder.specs.Unwinding.{IsUnwound}
use Rattle.unwinder.specs.declared.unwound.Entry.{Entry}
use Rattle.goal_formula_tests.proofs.tests.guard_at.Goals as goal

read_at : {X : Type 0} (xs read : List X) (k : ℕ) (x : X) → read ≡ xs → k < length xs → x ≡ get_or read k x → slice_get xs k ≡ Some x
read_at xs read k x same lt is = ap (λ ys. slice_get ys k) (sym same) ∙ slice_get_read read (length read) k x refl (omega (arith, lt, ap length same)) is

pub literal_formula-requires-clause-literal : goal.literal_formula-requires-clause-literal
literal_formula-requires-clause-literal c =
    let u = c.args.unwound.now in
    let Own : Function → Type 0 = λ f. IsUnwound c.args.graph.now c.args.predicates.now f u.entry u.bounds u.ends u in
    let it = taken Own (slice_get c.args.graph.now.functions u.entry) c.requires.unwound in
    let e : Entry = c.index-deref-place.result in
    let at : slice_get u.entries c.args.place ≡ Some e = read_at u.entries c.deref.result.now c.args.place e c.deref.ensures c.requires.there c.index-deref-place.is in
    let wire = (it.2.entries c.args.place e at).guard in
    subst (λ (x : Entry). x.guard.wire ≤ length u.circuit) c.index-deref-place.is wire

pub literal_formula-requires-clause-few : goal.literal_formula-requires-clause-few
literal_formula-requires-clause-few c =
    let u = c.args.unwound.now in
    let Own : Function → Type 0 = λ f. IsUnwound c.args.graph.now c.args.predicates.now f u.entry u.bounds u.ends u in
    let it = taken Own (slice_get c.args.graph.now.functions u.entry) c.requires.unwound in
    let room = unwindings_leave_room_law c.args.graph.now c.args.predicates.now it.0 u c.well_formed-2.ensures c.requires.predicates it.1 it.2 in
    omega (arith, room)

pub literal_formula-requires-clause-inputs : goal.literal_formula-requires-clause-inputs
literal_formula-requires-clause-inputs c =
    let u = c.args.unwound.now in
    let f = c.index-functions-unwound.result in
    let Own : Function → Type 0 = λ f. IsUnwound c.args.graph.now c.args.predicates.now f u.entry u.bounds u.ends u in
    let it = taken Own (slice_get c.args.graph.now.functions u.entry) c.requires.unwound in
    let lt = slice_get_within c.args.graph.now.functions u.entry it.0 it.1 in
    let at = read_at c.args.graph.now.functions c.functions.result.now u.entry f c.functions.ensures lt c.index-functions-unwound.is in
    let same : it.0 ≡ f = same_Some it.0 f (sym it.1 ∙ at) in
    it.2.words.inputs ∙ ap (λ (kinds : List Kind). sum_by (λ (kind : Kind). kind.width) kinds + 64 * u.bounds.answers) (ap (λ (g : Function). g.parameters) same ∙ sym c.deref-2.ensures)

pub literal_formula-requires-clause-answers : goal.literal_formula-requires-clause-answers
literal_formula-requires-clause-answers c =
    let u = c.args.unwound.now in
    let Own : Function → Type 0 = λ f. IsUnwound c.args.graph.now c.args.predicates.now f u.entry u.bounds u.ends u in
    let it = taken Own (slice_get c.args.graph.now.functions u.entry) c.requires.unwound in
    it.2.most_answers

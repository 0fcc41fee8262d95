use Rattle.std.proofs.Common.{◌≡◌, ◌≤◌, sym, ap, subst, ◌∙◌, ⊎_elim}
use Rattle.std.specs.Prelude.{slice_get}
use Rattle.std.proofs.lemmas.Option.{same_Some}
use Rattle.std.proofs.lemmas.Bool.{cases_lt}
use Rattle.cfa.proofs.Exits.{given, taken}
use Rattle.cfa.specs.declared.parts.Function.{Function}
use Rattle.goals.specs.GoalForm.{GoalForm}
use Rattle.patterns.specs.Letters.{form}
use Rattle.unwinder.specs.Unwinding.{IsUnwound}
use Rattle.goal_formula.specs.Parts.{CanSay, SaysHit}
use Rattle.goal_formula.specs.Sizes.{size_of}
use Rattle.goal_formula.proofs.Exactness.{exact}
use Rattle.goal_formula.proofs.Reading.{read_goal}
use Rattle.goal_formula.proofs.Rooms.{can_say, few_says}
use Rattle.goal_formula.proofs.Worlds.{worlds_below}
use Rattle.goal_formula.proofs.exact.formula.Goals as goal

pub kept-requires : goal.kept-requires
kept-requires c =
    let u = c.args.unwound.now in
    let p = form c.in_ok-pattern.pattern in
    let size = size_of c.args.plan.now p u.pairs in
    let small : size ≤ 8388608 = ⊎_elim (λ lt. let wrong = c.if-is_too_large.ensures.1 lt in absurd cc) (λ ge. ge) (cases_lt 8388608 size) in
    let Own : Function → Type 0 = λ f. IsUnwound c.args.graph.now c.args.predicates.now f u.entry u.bounds u.ends u in
    let own = taken Own (slice_get c.args.graph.now.functions u.entry) c.requires.unwound in
    let Can : Function → Type 0 = λ f. CanSay f u c.args.plan.now p in
    record {
      can = given Can (slice_get c.args.graph.now.functions u.entry) own.0 own.1
          (can_say c.args.graph.now c.args.predicates.now own.0 u c.args.plan.now p own.2 c.well_formed-2.ensures own.1 c.requires.predicates small);
    }

pub returns-in-Ok-clause-accepted : goal.returns-in-Ok-clause-accepted
returns-in-Ok-clause-accepted c = λ f g own at.
    let u = c.args.unwound.now in
    let goal = read_goal c.args.plan.now.goals c.deref.result.now c.args.goal c.index-deref-place.result g c.deref.ensures c.requires.some c.requires.there c.index-deref-place.is at in
    let pattern : form c.in_ok-pattern.pattern ≡ form g.pattern = ap form (c.in_ok-pattern.ensures ∙ ap (λ (q : GoalForm). q.pattern) goal) in
    let Own : Function → Type 0 = λ f. IsUnwound c.args.graph.now c.args.predicates.now f u.entry u.bounds u.ends u in
    let it = taken Own (slice_get c.args.graph.now.functions u.entry) c.requires.unwound in
    let unwound : Own f = subst Own (same_Some it.0 f (sym it.1 ∙ own)) it.2 in
    let says = c.in-Ok.ensures.formula f own in
    exact c.args.graph.now c.args.predicates.now f u c.args.plan.now g c.in-Ok.formula says.0 c.well_formed-2.ensures own unwound
    (subst (λ p. SaysHit u.circuit says.0 u.entries c.args.plan.now p f.parameters u.bounds.answers c.in-Ok.formula) pattern says.1)

pub returns-in-Ok-clause-size : goal.returns-in-Ok-clause-size
returns-in-Ok-clause-size c = λ g at.
    let u = c.args.unwound.now in
    let goal = read_goal c.args.plan.now.goals c.deref.result.now c.args.goal c.index-deref-place.result g c.deref.ensures c.requires.some c.requires.there c.index-deref-place.is at in
    let pattern : form c.in_ok-pattern.pattern ≡ form g.pattern = ap form (c.in_ok-pattern.ensures ∙ ap (λ (q : GoalForm). q.pattern) goal) in
    let size = size_of c.args.plan.now (form c.in_ok-pattern.pattern) u.pairs in
    let small : size ≤ 8388608 = ⊎_elim (λ lt. let wrong = c.if-is_too_large.ensures.1 lt in absurd cc) (λ ge. ge) (cases_lt 8388608 size) in
    subst (λ p. size_of c.args.plan.now p u.pairs ≤ 8388608) pattern small

pub returns-in-Ok-clause-small : goal.returns-in-Ok-clause-small
returns-in-Ok-clause-small c =
    let u = c.args.unwound.now in
    let p = form c.in_ok-pattern.pattern in
    let size = size_of c.args.plan.now p u.pairs in
    let small : size ≤ 8388608 = ⊎_elim (λ lt. let wrong = c.if-is_too_large.ensures.1 lt in absurd cc) (λ ge. ge) (cases_lt 8388608 size) in
    let Own : Function → Type 0 = λ f. IsUnwound c.args.graph.now c.args.predicates.now f u.entry u.bounds u.ends u in
    let it = taken Own (slice_get c.args.graph.now.functions u.entry) c.requires.unwound in
    let says = c.in-Ok.ensures.formula it.0 it.1 in
    few_says c.args.graph.now c.args.predicates.now it.0 u c.args.plan.now p it.2 says.0 c.in-Ok.formula says.1
    (can_say c.args.graph.now c.args.predicates.now it.0 u c.args.plan.now p it.2 c.well_formed-2.ensures it.1 c.requires.predicates small)

pub returns-in-Ok-clause-worlds : goal.returns-in-Ok-clause-worlds
returns-in-Ok-clause-worlds c =
    let u = c.args.unwound.now in
    let Own : Function → Type 0 = λ f. IsUnwound c.args.graph.now c.args.predicates.now f u.entry u.bounds u.ends u in
    let it = taken Own (slice_get c.args.graph.now.functions u.entry) c.requires.unwound in
    let says = c.in-Ok.ensures.formula it.0 it.1 in
    worlds_below u.circuit says.0 c.in-Ok.formula says.1.grows.older says.1.says.worlds

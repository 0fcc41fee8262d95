use Rattle.std.proofs.Common.{sym}
use Rattle.search.specs.Sound.{all_clauses}
use Rattle.search.proofs.ChainLaws.{clause_keys, reach_inside}
use Rattle.search.proofs.conflict.lesson_of.Goals as goal

pub reach_of-reach-requires : goal.reach_of-reach-requires
reach_of-reach-requires c =
    let named = sym (rw c.len.ensures at c.in-Some.ensures) in
    let keys = clause_keys c.args.formula.now.variables _ (all_clauses c.args.formula.now c.args.learned.now) c.args.conflict c.in-Some.clause.now c.requires.small c.requires.room c.requires.sound.clauses named in
    record { over = rw c.literals.ensures.value (λ x has. let own = keys x has in (own.0, own.2)) }

pub last_decision-requires : goal.last_decision-requires
last_decision-requires c =
    let named = sym (rw c.len.ensures at c.in-Some.ensures) in
    let conflict = rw named at c.requires.conflict in
    reach_inside c.args.trail.now c.in-Some.clause.now _ ((rw c.literals.ensures.value at c.reach_of-reach.ensures) c.args.trail.now c.requires.located conflict)

pub refuting_lesson-requires-clause-inside : goal.refuting_lesson-requires-clause-inside
refuting_lesson-requires-clause-inside c =
    let named = sym (rw c.len.ensures at c.in-Some.ensures) in
    let conflict = rw named at c.requires.conflict in
    reach_inside c.args.trail.now c.in-Some.clause.now _ ((rw c.literals.ensures.value at c.reach_of-reach.ensures) c.args.trail.now c.requires.located conflict)

pub asserting_lesson-requires-clause-inside : goal.asserting_lesson-requires-clause-inside
asserting_lesson-requires-clause-inside c =
    let named = sym (rw c.len.ensures at c.in-Some.ensures) in
    let conflict = rw named at c.requires.conflict in
    reach_inside c.args.trail.now c.in-Some.clause.now _ ((rw c.literals.ensures.value at c.reach_of-reach.ensures) c.args.trail.now c.requires.located conflict)

use Rattle.std.proofs.Common.{◌≡◌, ◌∙◌, ℕ, ap}
use Rattle.std.specs.Prelude.{ℤ}
use Rattle.std.specs.Global.{Vec}
use Rattle.cnf.specs.Clauses.{has_literal}
use Rattle.cnf.specs.literal_marks.Marks.{marked}
use Rattle.cnf.specs.declared.literal_marks.places.Places.TheVariants.{ByKey}
use Rattle.search.specs.Sound.{all_clauses}
use Rattle.search.proofs.ChainLaws.{back_begins, clause_keys}
use Rattle.search.proofs.ConflictLaws.{first_falses, first_marks, lesson_refutes, refuting_clear}
use Rattle.search.proofs.conflict.refuting_lesson.Goals as goal

pub add_others-requires-clause-over : goal.add_others-requires-clause-over
add_others-requires-clause-over c =
    rw c.literals.ensures.value
    (clause_keys c.args.formula.now.variables _ (all_clauses c.args.formula.now c.args.learned.now) c.args.conflict c.args.clause.now c.requires.small c.requires.room c.requires.sound.clauses c.requires.named)

pub returns-clause-lesson : goal.returns-clause-lesson
returns-clause-lesson c =
    let n = c.args.formula.now.variables in
    let trail = c.args.trail.now in
    let clauses = all_clauses c.args.formula.now c.args.learned.now in
    let first = c.args.clause.now in
    let kept = c.requires.sound.kept in
    let added = (rw c.literals.ensures.value at c.in_ok-add_others.ensures.chain) n trail kept c.requires.located (first_falses trail first c.args.reach c.requires.reach) in
    let marks = rw c.literals.ensures.value at c.in_ok-add_others.ensures.marks in
    let is : (x : ℤ) → marked ByKey c.add_others.new.marks x ≡ has_literal first x = λ x. first_marks _ _ _ (c.requires.clear x) (marks x) in
    let begun = back_begins clauses trail first c.args.reach (marked ByKey c.add_others.new.marks) c.add_others.new.chain.steps.items c.requires.reach.falses is (ap (λ (v : Vec (ℕ × ℤ)). v.items) added.steps ∙ c.new-2.ensures.items) in
    rw c.fitted.ensures (lesson_refutes clauses trail c.args.conflict first c.in_ok-clause.clause _ _ c.requires.named (c.in_ok-go_back_whole.ensures.back first begun) c.in_ok-clause.ensures.clause c.in_ok-clause.ensures.literals)

pub returns-clause-clear : goal.returns-clause-clear
returns-clause-clear c =
    let n = c.args.formula.now.variables in
    let trail = c.args.trail.now in
    let clauses = all_clauses c.args.formula.now c.args.learned.now in
    let first = c.args.clause.now in
    let kept = c.requires.sound.kept in
    let added = (rw c.literals.ensures.value at c.in_ok-add_others.ensures.chain) n trail kept c.requires.located (first_falses trail first c.args.reach c.requires.reach) in
    let marks = rw c.literals.ensures.value at c.in_ok-add_others.ensures.marks in
    let is : (x : ℤ) → marked ByKey c.add_others.new.marks x ≡ has_literal first x = λ x. first_marks _ _ _ (c.requires.clear x) (marks x) in
    let begun = back_begins clauses trail first c.args.reach (marked ByKey c.add_others.new.marks) c.add_others.new.chain.steps.items c.requires.reach.falses is (ap (λ (v : Vec (ℕ × ℤ)). v.items) added.steps ∙ c.new-2.ensures.items) in
    refuting_clear clauses trail first _ _ (c.in_ok-go_back_whole.ensures.back first begun)

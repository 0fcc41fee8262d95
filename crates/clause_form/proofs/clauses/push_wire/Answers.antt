use Rattle.std.proofs.Common.{◌≡◌, ◌-◌, ◌++◌, pos, ap, ◌∙◌, sym, arith, rules, SFits, w32, to_z}
use Rattle.std.specs.Prelude.{Some, slice_get}
use Rattle.std.proofs.lemmas.Int.{ints, to_z-of_z}
use Rattle.circuit.specs.declared.lit.Gate.TheVariants.{And}
use Rattle.clause_form.specs.Parts.{variable_count}
use Rattle.clause_form.proofs.ClauseLaws.{gate_facts, gate_clauses_of}
use Rattle.clause_form.proofs.clauses.push_wire.Goals as goal

pub literal_of-left-requires : goal.literal_of-left-requires
literal_of-left-requires c =
    let at : slice_get c.args.circuit.now (c.args.wire - 1) ≡ Some (And c.in-And.left c.in-And.right) = c.gate.ensures.value ∙ ap Some c.in-And.is in
    let facts =
    gate_facts c.args.circuit.now c.args.variable.now (variable_count c.args.variable.now) c.requires.variables (c.args.wire - 1) c.in-Some.number c.in-And.left c.in-And.right c.requires.few c.in-Some.is at in
    facts.known_left

pub literal_of-right-requires : goal.literal_of-right-requires
literal_of-right-requires c =
    let at : slice_get c.args.circuit.now (c.args.wire - 1) ≡ Some (And c.in-And.left c.in-And.right) = c.gate.ensures.value ∙ ap Some c.in-And.is in
    let facts =
    gate_facts c.args.circuit.now c.args.variable.now (variable_count c.args.variable.now) c.requires.variables (c.args.wire - 1) c.in-Some.number c.in-And.left c.in-And.right c.requires.few c.in-Some.is at in
    facts.known_right

pub overflow_cast-number : goal.overflow_cast-number
overflow_cast-number c =
    let at : slice_get c.args.circuit.now (c.args.wire - 1) ≡ Some (And c.in-And.left c.in-And.right) = c.gate.ensures.value ∙ ap Some c.in-And.is in
    let facts =
    gate_facts c.args.circuit.now c.args.variable.now (variable_count c.args.variable.now) c.requires.variables (c.args.wire - 1) c.in-Some.number c.in-And.left c.in-And.right c.requires.few c.in-Some.is at in
    let small = facts.small in omega (arith, ints)

pub push_conjunction-requires-clause-implies_left : goal.push_conjunction-requires-clause-implies_left
push_conjunction-requires-clause-implies_left c =
    let at : slice_get c.args.circuit.now (c.args.wire - 1) ≡ Some (And c.in-And.left c.in-And.right) = c.gate.ensures.value ∙ ap Some c.in-And.is in
    let facts =
    gate_facts c.args.circuit.now c.args.variable.now (variable_count c.args.variable.now) c.requires.variables (c.args.wire - 1) c.in-Some.number c.in-And.left c.in-And.right c.requires.few c.in-Some.is at in
    let small = facts.small in
    let here : to_z w32 c.in-Some.number ≡ pos c.in-Some.number = omega (arith, ints) in
    let fits : SFits w32 c.literal_of-left.result = search rules in
    simp to_z-of_z (rw (c.literal_of-left.ensures, here) facts.implies_left)

pub push_conjunction-requires-clause-implies_right : goal.push_conjunction-requires-clause-implies_right
push_conjunction-requires-clause-implies_right c =
    let at : slice_get c.args.circuit.now (c.args.wire - 1) ≡ Some (And c.in-And.left c.in-And.right) = c.gate.ensures.value ∙ ap Some c.in-And.is in
    let facts =
    gate_facts c.args.circuit.now c.args.variable.now (variable_count c.args.variable.now) c.requires.variables (c.args.wire - 1) c.in-Some.number c.in-And.left c.in-And.right c.requires.few c.in-Some.is at in
    let small = facts.small in
    let here : to_z w32 c.in-Some.number ≡ pos c.in-Some.number = omega (arith, ints) in
    let fits : SFits w32 c.literal_of-right.result = search rules in
    simp to_z-of_z (rw (c.literal_of-right.ensures, here) facts.implies_right)

pub push_conjunction-requires-clause-implied : goal.push_conjunction-requires-clause-implied
push_conjunction-requires-clause-implied c =
    let at : slice_get c.args.circuit.now (c.args.wire - 1) ≡ Some (And c.in-And.left c.in-And.right) = c.gate.ensures.value ∙ ap Some c.in-And.is in
    let facts =
    gate_facts c.args.circuit.now c.args.variable.now (variable_count c.args.variable.now) c.requires.variables (c.args.wire - 1) c.in-Some.number c.in-And.left c.in-And.right c.requires.few c.in-Some.is at in
    let small = facts.small in
    let here : to_z w32 c.in-Some.number ≡ pos c.in-Some.number = omega (arith, ints) in
    let left : SFits w32 c.literal_of-left.result = search rules in
    let right : SFits w32 c.literal_of-right.result = search rules in
    simp to_z-of_z (rw (c.literal_of-left.ensures, c.literal_of-right.ensures, here) facts.implied)

pub returns-in_ok-push_conjunction : goal.returns-in_ok-push_conjunction
returns-in_ok-push_conjunction c =
    let at : slice_get c.args.circuit.now (c.args.wire - 1) ≡ Some (And c.in-And.left c.in-And.right) = c.gate.ensures.value ∙ ap Some c.in-And.is in
    let facts =
    gate_facts c.args.circuit.now c.args.variable.now (variable_count c.args.variable.now) c.requires.variables (c.args.wire - 1) c.in-Some.number c.in-And.left c.in-And.right c.requires.few c.in-Some.is at in
    let small = facts.small in
    let here : to_z w32 c.in-Some.number ≡ pos c.in-Some.number = omega (arith, ints) in
    let left : SFits w32 c.literal_of-left.result = search rules in
    let right : SFits w32 c.literal_of-right.result = search rules in
    let made = rw (c.literal_of-left.ensures, c.literal_of-right.ensures, here) at (simp to_z-of_z at c.in_ok-push_conjunction.ensures) in
    made
    ∙ ap (λ cs. c.args.clauses.now ++ cs)
    (sym (gate_clauses_of c.args.circuit.now c.args.variable.now (variable_count c.args.variable.now) c.requires.variables (c.args.wire - 1) c.args.wire c.in-Some.number c.in-And.left c.in-And.right (let some = c.requires.some in omega arith) c.in-Some.is
    at))

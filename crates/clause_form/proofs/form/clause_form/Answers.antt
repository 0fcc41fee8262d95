use Rattle.std.proofs.Common.{◌≡◌, ◌≤◌, ◌*◌, ◌+◌, true, length, sym, subst}
use Rattle.std.specs.List.{list_all}
use Rattle.cnf.specs.Formulas.{is_true_clause}
use Rattle.clause_form.specs.Encoding.{cone_clauses, is_over}
use Rattle.clause_form.specs.Parts.{AreVariables, HasRootVariable, variable_count}
use Rattle.clause_form.proofs.ClauseLaws as laws
use Rattle.clause_form.proofs.form.clause_form.Goals as goal

-- what is known at the end
clauses : (c : goal.In_ok-push_root) → c.push_root.new.clauses ≡ cone_clauses c.args.circuit.now c.in_ok-made.made.variable c.args.root
clauses c =
    laws.whole c.args.circuit.now c.args.root c.deref.result.now c.deref-2.result.now c.in_ok-made.made.variable c.in_ok-clauses.clauses c.push_root.new.clauses c.deref.ensures c.deref-2.ensures c.in_ok-clauses.ensures
    c.in_ok-push_root.ensures

pub clauses_of_gates-requires-clause-variables : goal.clauses_of_gates-requires-clause-variables
clauses_of_gates-requires-clause-variables c =
    let variable = c.in_ok-made.made.variable in
    let are = c.in_ok-made.ensures.variables in
    let count = laws.how_many c.args.circuit.now variable c.in_ok-made.made.count are in
    subst (λ xs. AreVariables c.args.circuit.now xs (variable_count xs)) (sym c.deref.ensures) (subst (AreVariables c.args.circuit.now variable) (sym count) are)

pub push_root-requires : goal.push_root-requires
push_root-requires c = subst (λ xs. HasRootVariable xs c.args.root) (sym c.deref-2.ensures) c.in_ok-made.ensures.root

pub returns-clause-world : goal.returns-clause-world
returns-clause-world c = laws.own_world c.args.circuit.now c.in_ok-made.made.variable c.in_ok-made.made.count c.in_ok-made.ensures.variables

pub returns-clause-sound : goal.returns-clause-sound
returns-clause-sound c = λ value world satisfies inputs.
    laws.sound c.args.circuit.now c.in_ok-made.made.variable c.in_ok-made.made.count c.in_ok-made.ensures.variables value world c.args.root (subst (λ cs. list_all (is_true_clause value) cs ≡ true) (clauses c) satisfies) inputs
    c.in_ok-made.ensures.root

pub returns-clause-determined : goal.returns-clause-determined
returns-clause-determined c = λ value world satisfies inputs.
    laws.determined c.args.circuit.now c.in_ok-made.made.variable c.in_ok-made.made.count c.in_ok-made.ensures.variables value world c.args.root (subst (λ cs. list_all (is_true_clause value) cs ≡ true) (clauses c) satisfies) inputs

pub returns-clause-assignment : goal.returns-clause-assignment
returns-clause-assignment c = laws.own_assignment c.args.circuit.now c.in_ok-made.made.variable c.in_ok-made.made.count c.in_ok-made.ensures.variables

pub returns-clause-complete : goal.returns-clause-complete
returns-clause-complete c = λ value world holds wires.
    subst (λ cs. list_all (is_true_clause value) cs ≡ true) (sym (clauses c))
    (laws.complete c.args.circuit.now c.in_ok-made.made.variable c.in_ok-made.made.count c.in_ok-made.ensures.variables value world c.args.root c.in_ok-made.ensures.root holds wires)

pub returns-clause-over : goal.returns-clause-over
returns-clause-over c =
    subst (λ cs. list_all (list_all (is_over c.in_ok-made.made.count)) cs ≡ true) (sym (clauses c))
    (laws.all_over c.args.circuit.now c.in_ok-made.made.variable c.in_ok-made.made.count c.in_ok-made.ensures.variables c.args.root c.in_ok-made.ensures.root)

pub returns-clause-few_clauses : goal.returns-clause-few_clauses
returns-clause-few_clauses c =
    subst (λ cs. length cs ≤ 3 * c.in_ok-made.made.count + 1) (sym (clauses c))
    (laws.few_clauses c.args.circuit.now c.in_ok-made.made.variable c.in_ok-made.made.count c.in_ok-made.ensures.variables c.args.root)

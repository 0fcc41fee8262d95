use Rattle.std.proofs.Common.{◌≡◌, sym, false}
use Rattle.std.specs.List.{list_all}
use Rattle.cnf.specs.Checks.{clauses_before}
use Rattle.cnf.specs.literal_marks.Marks.{marked}
use Rattle.derivation_check.proofs.LineLaws.{not_all_listed, right_by_clear, clear_by_clear}
use Rattle.derivation_check.proofs.line.is_right.Goals as goal

pub returns-then-not-all_marked-clause-right : goal.returns-then-not-all_marked-clause-right
returns-then-not-all_marked-clause-right c =
    let none : list_all (marked c.args.places.now c.mark_chain.new.marks) c.args.line.now.clause ≡ false = rw c.literals-listed.ensures.value at (sym c.if-not-all_marked.ensures) in
    (λ no. absurd cc, λ right. absurd (not_all_listed (clauses_before c.args.formula.now c.args.derivation.now c.args.before) c.args.line.now _ c.if-not-mark_chain.ensures none right))

pub returns-clause-right : goal.returns-clause-right
returns-clause-right c =
    right_by_clear (clauses_before c.args.formula.now c.args.derivation.now c.args.before) c.args.line.now (marked c.args.places.now c.mark_chain.new.marks) (marked c.args.places.now c.unmark_all.new.marks) _
    record {
      chain = c.if-not-mark_chain.ensures;
      listed = rw c.literals-listed.ensures.value at (sym c.if-not-all_marked.ensures);
      left_over = rw c.literals-listed.ensures.value at c.unmark_all.ensures;
    }
    c.is_chain_clear.ensures

pub returns-clause-clear : goal.returns-clause-clear
returns-clause-clear c =
    clear_by_clear (clauses_before c.args.formula.now c.args.derivation.now c.args.before) c.args.line.now (marked c.args.places.now c.mark_chain.new.marks) (marked c.args.places.now c.unmark_all.new.marks) _
    record {
      chain = c.if-not-mark_chain.ensures;
      listed = rw c.literals-listed.ensures.value at (sym c.if-not-all_marked.ensures);
      left_over = rw c.literals-listed.ensures.value at c.unmark_all.ensures;
    }
    c.is_chain_clear.ensures

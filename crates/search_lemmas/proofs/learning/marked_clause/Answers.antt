use Rattle.std.proofs.Common.{None, Some, ◌≡◌, length, ap, sym, ◌∙◌}
use Rattle.std.specs.Prelude.{IfSome}
use Rattle.std.specs.Option.{option_copied}
use Rattle.cnf.specs.Checks.{clauses_before, numbered}
use Rattle.search_lemmas.specs.Holding.{IsKnown}
use Rattle.search_lemmas.proofs.Lines.{marked_known}
use Rattle.search_lemmas.proofs.learning.marked_clause.Goals as goal

pub returns : goal.returns
returns c = λ gates wires known.
    let r = c.args.refutation.now in
    let earlier = clauses_before r.formula.now r.derivation.now (length r.derivation.now.lines) in
    let marked = c.is_marked.ensures c.if-not-is_marked.false in
    let found : option_copied c.clause_before.result ≡ numbered earlier c.args.number =
    c.clause_before.ensures ∙ ap (λ n. numbered (clauses_before r.formula.now r.derivation.now n) c.args.number) c.len.ensures in
    elim c.clause_before.result as (λ o. option_copied o ≡ numbered earlier c.args.number → IfSome o (λ clause. IsKnown gates wires clause.now)) [
      | None ↦ λ e. tt
      | Some b ↦ λ e. marked_known gates wires earlier c.args.marks.now c.args.number b.now known marked (sym e)
    ] found

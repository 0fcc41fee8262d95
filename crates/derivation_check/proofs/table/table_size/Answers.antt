use Rattle.std.proofs.Common.{◌≤◌, arith}
use Rattle.cnf.specs.declared.derivation.DerivationLine.{DerivationLine}
use Rattle.cnf.specs.literal_marks.Marks.{has_places}
use Rattle.cnf.specs.declared.literal_marks.places.Places.TheVariants.{ByKey}
use Rattle.derivation_check.proofs.NumbersLaws.{more_places, all_weaker}
use Rattle.derivation_check.proofs.table.table_size.Goals as goal

pub returns : goal.returns
returns c =
    let low : c.size_for_clauses.result ≤ c.max.result = omega arith in
    let high : c.size_for_lines.result ≤ c.max.result = omega arith in
    record {
      clauses = all_weaker (has_places ByKey c.size_for_clauses.result) (has_places ByKey c.max.result) c.args.formula.now.clauses (λ clause. more_places _ _ clause low) (rw c.deref.ensures at c.size_for_clauses.ensures);
      lines = all_weaker (λ line. has_places ByKey c.size_for_lines.result line.clause) (λ line. has_places ByKey c.max.result line.clause) c.args.derivation.now.lines (λ (line : DerivationLine). more_places _ _ line.clause high) (rw c.deref-2.ensures at c.size_for_lines.ensures);
    }

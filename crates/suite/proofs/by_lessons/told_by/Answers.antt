use Rattle.std.proofs.Common.{arith}
use Rattle.suite.proofs.by_lessons.told_by.Goals as goal

pub search_lowest_part-requires-clause-formula : goal.search_lowest_part-requires-clause-formula
search_lowest_part-requires-clause-formula c = c.requires.given.over c.requires.exact.exact.over

pub search_lowest_part-requires-clause-small : goal.search_lowest_part-requires-clause-small
search_lowest_part-requires-clause-small c =
    let few = c.requires.exact.few in
    let same = c.requires.given.variables in
    omega (arith, few, same)

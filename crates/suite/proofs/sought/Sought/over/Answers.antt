use Rattle.suite.proofs.sought.Sought.over.Goals as goal

pub invariant_of-result : goal.invariant_of-result
invariant_of-result c = record {
  unwound = c.requires.unwound;
  small = c.requires.small;
  pool_is = c.in_ok-pool.ensures;
  lessons_hold = c.new-2.ensures c.args.unwound.circuit;
}

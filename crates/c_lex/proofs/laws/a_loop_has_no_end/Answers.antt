use Rattle.c_lex.proofs.LoopingLaws.{no_end, loops_or_ends}
use Rattle.c_lex.proofs.laws.a_loop_has_no_end.Goals as goal

pub returns-clause-excluded : goal.returns-clause-excluded
returns-clause-excluded c = no_end

pub returns-clause-total : goal.returns-clause-total
returns-clause-total c = loops_or_ends

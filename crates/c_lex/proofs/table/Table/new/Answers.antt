use Rattle.c_lex.proofs.TableLaws.{empty_get}
use Rattle.c_lex.proofs.table.Table.new.Goals as goal

pub returns-clause-indexed : goal.returns-clause-indexed
returns-clause-indexed c = empty_get c.new-2.result _ c.new-2.ensures.empty c.new.ensures.items

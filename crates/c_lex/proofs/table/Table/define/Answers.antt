use Rattle.std.proofs.Common.{rules}
use Rattle.c_lex.proofs.TableLaws.{defined_get}
use Rattle.c_lex.proofs.table.Table.define.Goals as goal

pub returns-clause-indexed : goal.returns-clause-indexed
returns-clause-indexed c =
    defined_get c.args.self.now.indexes c.insert.new.self c.args.self.now.macros.items _ (record { name = c.args.name; list = c.args.list }) _ _ c.requires.indexed c.requires.new c.in_ok-insert.ensures.updates
    (search rules) (search rules) (search rules)

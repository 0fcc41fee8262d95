use Rattle.c_parse.proofs.OpenStatements.{name_takes_whole}
use Rattle.c_parse.proofs.open_statement.labelled.Goals as goal

pub returns-clause-shorter : goal.returns-clause-shorter
returns-clause-shorter c = name_takes_whole c.args.span c.args.name c.args.tokens.now c.in_ok-simple.rest.now c.in_ok-rest.rest.now c.in_ok-simple.simple c.in_ok-simple.ensures c.in_ok-rest.ensures

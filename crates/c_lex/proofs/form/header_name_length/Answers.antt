use Rattle.c_lex.specs.Forms.{is_header}
use Rattle.c_lex.proofs.Scans.{nothing_longest, header_some, header_none, header_other}
use Rattle.c_lex.proofs.form.header_name_length.Goals as goal

pub returns-in-empty : goal.returns-in-empty
returns-in-empty c = nothing_longest is_header c.args.text.now c.in-empty.len_below

pub returns-in-Some : goal.returns-in-Some
returns-in-Some c = header_some c.args.text.now c.in-len1-up.len_at_least c.in-Some.length c.if-first-eq60.true c.in-Some.ensures

pub returns-in-None : goal.returns-in-None
returns-in-None c = header_none c.args.text.now c.in-len1-up.len_at_least c.if-first-eq60.true c.in-None.ensures

pub returns-else-first-eq60 : goal.returns-else-first-eq60
returns-else-first-eq60 c = header_other c.args.text.now c.in-len1-up.len_at_least c.if-first-eq60.false

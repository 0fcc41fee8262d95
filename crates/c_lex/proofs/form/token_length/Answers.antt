use Rattle.c_lex.specs.Forms.{is_token}
use Rattle.c_lex.proofs.Scans.{nothing_longest, token_some, token_none}
use Rattle.c_lex.proofs.form.token_length.Goals as goal

pub returns-in-empty : goal.returns-in-empty
returns-in-empty c = nothing_longest is_token c.args.text.now c.in-empty.len_below

pub returns-in-Some : goal.returns-in-Some
returns-in-Some c = token_some c.args.text.now c.in-len1-up.len_at_least c.in-Some.length c.in-Some.ensures

pub returns-in-None : goal.returns-in-None
returns-in-None c = token_none c.args.text.now c.in-len1-up.len_at_least c.in-None.ensures

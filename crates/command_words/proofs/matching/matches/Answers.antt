use Rattle.std.proofs.Common.{◌∙◌, ◌≤◌, ◌≡◌, ap, sym, arith, length, None, true}
use Rattle.std.proofs.lemmas.List.{length-map}
use Rattle.clap.specs.Lexer.{usize_max}
use Rattle.clap.specs.Faults.{is_simple_and_free}
use Rattle.clap.specs.Simple.{app_of}
use Rattle.command_words.specs.Reading.{texts}
use Rattle.command_words.specs.declared.requests.Refused.TheVariants.{Usage}
use Rattle.command_words.proofs.Forms.{form_reads, form_simple, is_simple_of, parsed, short_none, unparsed}
use Rattle.command_words.proofs.matching.matches.Goals as goal

pub returns-then-any_short-clause-usage : goal.returns-then-any_short-clause-usage
returns-then-any_short-clause-usage c usage =
    short_none c.args.options.now (texts c.args.words.now) None (sym c.any_short.ensures ∙ c.if-any_short.true)

pub returns-in-Ok-clause-ok : goal.returns-in-Ok-clause-ok
returns-in-Ok-clause-ok c =
    let words = texts c.args.words.now in
    let app = c.in_ok-command.ensures in
    let simple : is_simple_and_free (app_of c.in_ok-command.command) ≡ true = ap is_simple_and_free app ∙ form_simple c.args.name.now c.args.options.now in
    let few : length words ≤ usize_max = rw length-map (omega arith) in
    let reads = form_reads c.args.name.now c.args.options.now words c.requires (sym c.any_short.ensures ∙ c.if-any_short.false) few in
    parsed c.args.name.now c.args.options.now words _ _ app (c.in-Ok.ensures.kinds simple) (c.in-Ok.ensures.matches (is_simple_of (app_of c.in_ok-command.command) simple)).0 _ reads

pub returns-in-Err-clause-usage : goal.returns-in-Err-clause-usage
returns-in-Err-clause-usage c usage =
    let words = texts c.args.words.now in
    let app = c.in_ok-command.ensures in
    let simple : is_simple_and_free (app_of c.in_ok-command.command) ≡ true = ap is_simple_and_free app ∙ form_simple c.args.name.now c.args.options.now in
    let few : length words ≤ usize_max = rw length-map (omega arith) in
    let reads = form_reads c.args.name.now c.args.options.now words c.requires (sym c.any_short.ensures ∙ c.if-any_short.false) few in
    let is : c.refusal.result ≡ Usage = cc in
    unparsed c.args.name.now c.args.options.now words (app_of c.in_ok-command.command) c.in-Err.error app (c.in-Err.ensures.kinds simple)
    (c.refusal.ensures is) _ reads

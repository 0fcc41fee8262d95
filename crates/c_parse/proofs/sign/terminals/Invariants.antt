use Rattle.std.proofs.Common.{◌≡◌, take, map}
use Rattle.c_parse.specs.Signs.{terminal_of}
use Rattle.c_parse.proofs.sign.terminals.Given as goal

abbrev pub invariant-loop-token : goal.invariant-loop-token
invariant-loop-token l = l.list.items ≡ map terminal_of (take l.token-index l.tokens)

use Rattle.std.proofs.Common.{◌≡◌, map, take}
use Rattle.c_parse.specs.Terminals.{terminal_of}
use Rattle.c_parse.proofs.terminals.terminals.Given as goal

abbrev pub invariant-loop-token : goal.invariant-loop-token
invariant-loop-token l = l.found.items ≡ map (terminal_of l.text) (take l.token-index l.tokens)

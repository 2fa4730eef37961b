use Rattle.std.proofs.Common.{◌≡◌, map, length}
use Rattle.c_parse.specs.Terminals.{symbol_among}
use Rattle.c_parse.proofs.terminals.symbol_among.Given as goal

abbrev pub invariant-loop-left : goal.invariant-loop-left
invariant-loop-left l =
    symbol_among (map (λ row. (row.0.now, row.1)) l.left) l.bytes ≡ symbol_among (map (λ row. (row.0.now, row.1)) l.initial.left) l.bytes

abbrev pub decreases-loop-left : goal.decreases-loop-left
decreases-loop-left l = length l.left

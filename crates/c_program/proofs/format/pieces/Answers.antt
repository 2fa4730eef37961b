use Rattle.std.proofs.Common.{sym, ◌∙◌}
use Rattle.c_program.proofs.FormatLaws.{cut_off, finished}
use Rattle.c_program.proofs.Spelling.{format_reads, read_spells}
use Rattle.c_program.proofs.format.pieces.Goals as goal

pub returns-in-Pieces-clause-spelled : goal.returns-in-Pieces-clause-spelled
returns-in-Pieces-clause-spelled c =
    read_spells c.args.format.now c.loop-left.found.items
    (finished c.args.format.now c.loop-left.left.now c.loop-left.found.items c.loop-left.before c.in_default.len_below c.in-Pieces.is c.loop-left.invariant)

pub returns-in_default-before : goal.returns-in_default-before
returns-in_default-before c =
    let none = cut_off c.args.format.now c.loop-left.left.now c.loop-left.found.items c.loop-left.before c.in_default.len_below c.in_default-before.not-Pieces c.loop-left.invariant in
    record { read = sym none; spelled = λ pieces f. let e = sym none ∙ format_reads f in cc }

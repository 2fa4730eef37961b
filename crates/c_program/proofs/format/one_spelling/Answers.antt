use Rattle.c_program.proofs.Spelling.{format_reads, read_spells, spelled_or_not}
use Rattle.c_program.proofs.format.one_spelling.Goals as goal

pub returns-clause-read : goal.returns-clause-read
returns-clause-read c = λ bytes pieces f. format_reads f

pub returns-clause-spelled : goal.returns-clause-spelled
returns-clause-spelled c = λ bytes pieces e. read_spells bytes pieces e

pub returns-clause-either : goal.returns-clause-either
returns-clause-either c = spelled_or_not

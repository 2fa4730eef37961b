use Rattle.c_program.specs.View.{pure_program}
use Rattle.c_types.proofs.Laws.{program_one}
use Rattle.c_types.proofs.meaning.text_fixes_meaning.Goals as goal

pub returns : goal.returns
returns c = λ other is. program_one c.args.text.now (pure_program c.args.program.now) other c.requires is

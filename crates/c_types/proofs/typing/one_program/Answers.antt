use Rattle.c_types.proofs.Laws.{fault_one, never_both, program_one, program_or_fault}
use Rattle.c_types.proofs.typing.one_program.Goals as goal

pub returns-clause-one_fault : goal.returns-clause-one_fault
returns-clause-one_fault c = fault_one

pub returns-clause-never_both : goal.returns-clause-never_both
returns-clause-never_both c = never_both

pub returns-clause-always_one : goal.returns-clause-always_one
returns-clause-always_one c = program_or_fault

pub returns-clause-one_program : goal.returns-clause-one_program
returns-clause-one_program c = program_one

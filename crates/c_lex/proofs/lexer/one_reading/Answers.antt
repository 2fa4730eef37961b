use Rattle.c_lex.proofs.Laws.{one_reading, fault_one}
use Rattle.c_lex.proofs.Existence.{tokens_or_fault}
use Rattle.c_lex.proofs.FaultLaws.{fault_has_place}
use Rattle.c_lex.proofs.lexer.one_reading.Goals as goal

pub returns-clause-one_list : goal.returns-clause-one_list
returns-clause-one_list c = λ text list other a b. let e = one_reading text a b in cc

pub returns-clause-one_fault : goal.returns-clause-one_fault
returns-clause-one_fault c = fault_one

pub returns-clause-never_both : goal.returns-clause-never_both
returns-clause-never_both c = λ text list fault a b. let e = one_reading text a b.1 in cc

pub returns-clause-has_place : goal.returns-clause-has_place
returns-clause-has_place c = fault_has_place

pub returns-clause-always_one : goal.returns-clause-always_one
returns-clause-always_one c = tokens_or_fault

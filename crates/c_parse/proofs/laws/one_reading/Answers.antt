use Rattle.c_grammar.proofs.Programs.{one_tree}
use Rattle.c_parse.proofs.OneReading.{never_both, one_fault, tree_or_fault}
use Rattle.c_parse.proofs.laws.one_reading.Goals as goal

pub returns-clause-one_tree : goal.returns-clause-one_tree
returns-clause-one_tree c = λ text tokens. one_tree _

pub returns-clause-one_fault : goal.returns-clause-one_fault
returns-clause-one_fault c = one_fault

pub returns-clause-never_both : goal.returns-clause-never_both
returns-clause-never_both c = never_both

pub returns-clause-always_one : goal.returns-clause-always_one
returns-clause-always_one c = tree_or_fault

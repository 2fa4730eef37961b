use Rattle.std.proofs.Common.{◌∙◌}
use Rattle.c_lex.proofs.SliceLaws.{tokens_are_slices}
use Rattle.c_parse.proofs.Parsed.{fault_is, no_fault, no_tree, only_fault, only_tree, stands_within, tree_is}
use Rattle.c_parse.proofs.parser.parse.Goals as goal

pub terminals-requires : goal.terminals-requires
terminals-requires c = tokens_are_slices _ _ c.requires.tokens

pub returns-in-Ok-clause-tree : goal.returns-in-Ok-clause-tree
returns-in-Ok-clause-tree c = tree_is _ _ _ (c.deref.ensures.value ∙ c.in_ok-terminals.ensures) _ c.in-Ok.ensures

pub returns-in-Ok-clause-only : goal.returns-in-Ok-clause-only
returns-in-Ok-clause-only c = λ tree is. only_tree _ _ _ (c.deref.ensures.value ∙ c.in_ok-terminals.ensures) _ tree c.in-Ok.ensures is

pub returns-in-Ok-clause-only_fault : goal.returns-in-Ok-clause-only_fault
returns-in-Ok-clause-only_fault c = λ first is. no_fault _ _ _ (c.deref.ensures.value ∙ c.in_ok-terminals.ensures) _ first c.in-Ok.ensures is

pub located-requires-clause-within : goal.located-requires-clause-within
located-requires-clause-within c =
    stands_within _ _ _ (c.deref.ensures.value ∙ c.in_ok-terminals.ensures) _ (tokens_are_slices _ _ c.requires.tokens) c.in-Err.ensures

pub returns-clause-only : goal.returns-clause-only
returns-clause-only c = λ tree is. no_tree _ _ _ (c.deref.ensures.value ∙ c.in_ok-terminals.ensures) _ _ tree c.in-Err.ensures c.located.ensures is

pub returns-clause-fault : goal.returns-clause-fault
returns-clause-fault c = fault_is _ _ _ (c.deref.ensures.value ∙ c.in_ok-terminals.ensures) _ _ c.in-Err.ensures c.located.ensures

pub returns-clause-only_fault : goal.returns-clause-only_fault
returns-clause-only_fault c = λ first is. only_fault _ _ _ (c.deref.ensures.value ∙ c.in_ok-terminals.ensures) _ _ first c.in-Err.ensures c.located.ensures is

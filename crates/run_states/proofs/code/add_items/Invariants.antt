use Rattle.std.proofs.Common.{◌≡◌, ◌++◌, ◌∷◌, length, pos}
use Rattle.srr_entry.specs.declared.entry.Marked.{Marked}
use Rattle.run_states.specs.Codes.{code_of_mark, codes_of}
use Rattle.run_states.proofs.code.add_items.Given as goal

abbrev pub invariant-loop-rest : goal.invariant-loop-rest
invariant-loop-rest l =
    l.code.numbers.items ++ codes_of (λ (item : Marked). pos item.index ∷ code_of_mark item.mark) l.rest ≡ l.initial.code.numbers.items ++ codes_of (λ (item : Marked). pos item.index ∷ code_of_mark item.mark) l.initial.rest

abbrev pub decreases-loop-rest : goal.decreases-loop-rest
decreases-loop-rest l = length l.rest

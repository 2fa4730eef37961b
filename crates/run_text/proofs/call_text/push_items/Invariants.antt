use Rattle.std.proofs.Common.{◌≡◌, ◌++◌, length, flat_map}
use Rattle.std.specs.Prelude.{codes}
use Rattle.mpi_call.specs.declared.reply.Item.{Item}
use Rattle.run_text.specs.CallTexts.{taken_item_text}
use Rattle.run_text.proofs.call_text.push_items.Given as goal

abbrev pub invariant-loop-rest : goal.invariant-loop-rest
invariant-loop-rest l =
    l.out ++ flat_map (λ (item : Item). codes "; " ++ taken_item_text item) l.rest ≡ l.initial.out ++ flat_map (λ (item : Item). codes "; " ++ taken_item_text item) l.initial.rest

abbrev pub decreases-loop-rest : goal.decreases-loop-rest
decreases-loop-rest l = length l.rest

-- What begins a part of a block.
use Rattle.std.proofs.Common.{◌≡◌, true, refl}
use Rattle.std.specs.Prelude.{if◌then◌else◌}
use Rattle.c_grammar.specs.declared.terminal.Symbol.{Symbol}
use Rattle.c_grammar.specs.declared.terminal.Symbol.TheVariants as w
use Rattle.c_grammar.specs.Symbols.{is_kind, starts_part, starts_stmt}

pub starts_part_is : (x : Symbol) → starts_part x ≡ (if is_kind x then true else starts_stmt x)
starts_part_is w.Int = refl
starts_part_is w.Status = refl
starts_part_is w.Request = refl
starts_part_is w.Communicator = refl
starts_part_is _ = refl

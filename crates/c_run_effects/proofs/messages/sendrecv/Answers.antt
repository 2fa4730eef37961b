use Rattle.std.proofs.Common.{rules}
use Rattle.c_run_effects.proofs.messages.sendrecv.Goals as goal

pub returns-in_err-out_count : goal.returns-in_err-out_count
returns-in_err-out_count c = search rules depth 60

pub returns-in_err-out_cells : goal.returns-in_err-out_cells
returns-in_err-out_cells c = search rules depth 60

use Rattle.std.proofs.Common.{map}
use Rattle.c_program.specs.View.{pure_function}
use Rattle.c_types.proofs.Settled.{without_main}
use Rattle.c_types.proofs.program.program.Goals as goal

pub returns-in-None : goal.returns-in-None
returns-in-None c = λ t found.
    without_main (λ all. map pure_function all.items) (λ functions main. record { functions = functions; main = main }) c.args.text.now c.args.functions c.args.main c.err.result
    c.no_main.result c.first_of.result t c.in-None.is c.err.ensures.value c.no_main.ensures c.first_of.ensures found

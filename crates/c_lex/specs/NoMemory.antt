-- Being out of memory, which has no place in the text.
use Rattle.c_lex.specs.declared.fault.SourceFault.{SourceFault}
use Rattle.c_lex.specs.declared.fault.Why.TheVariants.{NoMemory}

-- it is told at the first line and column
abbrev pub no_memory_fault : SourceFault
no_memory_fault = record { line = 1; column = 1; why = NoMemory }

-- How many members communicators have.
use Rattle.std.specs.Prelude.{◌<◌, ◌^◌, List, All, length}
use Rattle.c_program.specs.declared.state.MadeCommunicator.{MadeCommunicator}

-- each has as many members as an int can say
abbrev pub HaveIntSizes : List MadeCommunicator → Type 0
HaveIntSizes made = All (λ (known : MadeCommunicator). length known.members < 2 ^ 31) made

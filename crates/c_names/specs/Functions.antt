-- What each MPI function takes. (MPI 3.1, the C bindings.) `NULL` is a reference without cells.
use Rattle.std.specs.Prelude.{Bool, true, false, List, [], ◌∷◌}
use Rattle.c_names.specs.declared.function.MpiFunction.{MpiFunction}
use Rattle.c_names.specs.declared.function.MpiFunction.TheVariants as f
use Rattle.c_names.specs.declared.function.ArgumentKind.{ArgumentKind}
use Rattle.c_names.specs.declared.function.ArgumentKind.TheVariants.{Number, Buffer, Ints, Datatype, Operation, Communicator, NewCommunicator, Requests, Status, Statuses, ArgumentCount, ArgumentTexts, NoReference, Output}
use Rattle.c_names.specs.declared.predefined.Predefined.{Predefined}
use Rattle.c_names.specs.declared.predefined.Predefined.TheVariants as p

-- the arguments of each function, in the order of its C binding
abbrev pub arguments : MpiFunction → List ArgumentKind
arguments f.Init = ArgumentCount ∷ ArgumentTexts ∷ []
arguments f.Finalize = []
arguments f.CommRank = Communicator ∷ Ints ∷ []
arguments f.CommSize = Communicator ∷ Ints ∷ []
arguments f.GetCount = Status ∷ Datatype ∷ Ints ∷ []
arguments f.CommFree = NewCommunicator ∷ []
arguments f.Send = Buffer ∷ Number ∷ Datatype ∷ Number ∷ Number ∷ Communicator ∷ []
arguments f.Ssend = Buffer ∷ Number ∷ Datatype ∷ Number ∷ Number ∷ Communicator ∷ []
arguments f.Recv = Buffer ∷ Number ∷ Datatype ∷ Number ∷ Number ∷ Communicator ∷ Status ∷ []
arguments f.Sendrecv = Buffer ∷ Number ∷ Datatype ∷ Number ∷ Number ∷ Buffer ∷ Number ∷ Datatype ∷ Number ∷ Number ∷ Communicator ∷ Status ∷ []
arguments f.Isend = Buffer ∷ Number ∷ Datatype ∷ Number ∷ Number ∷ Communicator ∷ Requests ∷ []
arguments f.Issend = Buffer ∷ Number ∷ Datatype ∷ Number ∷ Number ∷ Communicator ∷ Requests ∷ []
arguments f.Irecv = Buffer ∷ Number ∷ Datatype ∷ Number ∷ Number ∷ Communicator ∷ Requests ∷ []
arguments f.Wait = Requests ∷ Status ∷ []
arguments f.Waitall = Number ∷ Requests ∷ Statuses ∷ []
arguments f.Waitany = Number ∷ Requests ∷ Ints ∷ Status ∷ []
arguments f.Waitsome = Number ∷ Requests ∷ Ints ∷ Ints ∷ Statuses ∷ []
arguments f.Test = Requests ∷ Ints ∷ Status ∷ []
arguments f.Testall = Number ∷ Requests ∷ Ints ∷ Statuses ∷ []
arguments f.Testany = Number ∷ Requests ∷ Ints ∷ Ints ∷ Status ∷ []
arguments f.Testsome = Number ∷ Requests ∷ Ints ∷ Ints ∷ Statuses ∷ []
arguments f.Probe = Number ∷ Number ∷ Communicator ∷ Status ∷ []
arguments f.Iprobe = Number ∷ Number ∷ Communicator ∷ Ints ∷ Status ∷ []
arguments f.Barrier = Communicator ∷ []
arguments f.Bcast = Buffer ∷ Number ∷ Datatype ∷ Number ∷ Communicator ∷ []
arguments f.Reduce = Buffer ∷ Buffer ∷ Number ∷ Datatype ∷ Operation ∷ Number ∷ Communicator ∷ []
arguments f.Allreduce = Buffer ∷ Buffer ∷ Number ∷ Datatype ∷ Operation ∷ Communicator ∷ []
arguments f.Scan = Buffer ∷ Buffer ∷ Number ∷ Datatype ∷ Operation ∷ Communicator ∷ []
arguments f.Gather = Buffer ∷ Number ∷ Datatype ∷ Buffer ∷ Number ∷ Datatype ∷ Number ∷ Communicator ∷ []
arguments f.Scatter = Buffer ∷ Number ∷ Datatype ∷ Buffer ∷ Number ∷ Datatype ∷ Number ∷ Communicator ∷ []
arguments f.Allgather = Buffer ∷ Number ∷ Datatype ∷ Buffer ∷ Number ∷ Datatype ∷ Communicator ∷ []
arguments f.Alltoall = Buffer ∷ Number ∷ Datatype ∷ Buffer ∷ Number ∷ Datatype ∷ Communicator ∷ []
arguments f.CommSplit = Communicator ∷ Number ∷ Number ∷ NewCommunicator ∷ []
arguments f.CommDup = Communicator ∷ NewCommunicator ∷ []
arguments f.Abort = Communicator ∷ Number ∷ []

-- the predefined names that may stand for an argument
abbrev pub takes_predefined : ArgumentKind → Predefined → Bool
takes_predefined Buffer p.NoReference = true
takes_predefined NoReference p.NoReference = true
takes_predefined Datatype p.Datatype = true
takes_predefined Operation (p.Operation op) = true
takes_predefined Status p.IgnoredStatus = true
takes_predefined Statuses p.IgnoredStatuses = true
takes_predefined Output p.Output = true
takes_predefined _ _ = false

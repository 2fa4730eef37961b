-- Typing of calls of MPI functions, a line for each: the typed form, or the faults. (MPI 3.1, the C bindings.) `MPI_INT` leaves no trace.
use Rattle.std.specs.Prelude.{Bool, true, false, List, [], ◌∷◌, Option, Some, None, if◌then◌else◌}
use Rattle.mpi_call.specs.declared.call.Op.{Op}
use Rattle.c_lex.specs.declared.fault.Why.TheVariants.{WrongCount}
use Rattle.c_grammar.specs.declared.terminal.Span.{Span}
use Rattle.c_grammar.specs.Tree as t
use Rattle.c_names.specs.declared.function.MpiFunction.{MpiFunction}
use Rattle.c_names.specs.declared.function.MpiFunction.TheVariants as f
use Rattle.c_names.specs.declared.kind.VariableKind.TheVariants.{Int, Status, Request, Communicator}
use Rattle.c_names.specs.declared.predefined.Predefined.TheVariants as p
use Rattle.c_program.specs.Tree as pure
use Rattle.c_program.specs.Tree.{Buffer, TypedExpr, Incoming, MpiCall, Outgoing, Reduction, Reference, SomeRequests}
use Rattle.c_scope.specs.Scopes.{Env, meaning}
use Rattle.c_scope.specs.Typing.{Typing, typed, both, five, four, onto, refused, three, unfit}
use Rattle.c_scope.specs.declared.meaning.ExprKind.TheVariants.{Of}
use Rattle.c_scope.specs.declared.meaning.Meaning.{Meaning}
use Rattle.c_scope.specs.declared.meaning.Meaning.TheVariants as m
use Rattle.c_scope.specs.declared.meaning.Entity.TheVariants as d
use Rattle.c_type_expr.specs.ExprTyping.{alone_typing, buf_typing, misfit_typing, reference_typing, value_typing}

-- ---- one argument

-- an int
abbrev pub number_typing : Env → t.Argument → Typing TypedExpr
number_typing env given = value_typing env (Of Int) given

-- a communicator
abbrev pub comm_typing : Env → t.Argument → Typing TypedExpr
comm_typing env comm = value_typing env (Of Communicator) comm

-- ints that take an answer
abbrev pub ints_typing : Env → t.Argument → Typing Reference
ints_typing env given = reference_typing env Int given

-- requests
abbrev pub requests_typing : Env → t.Argument → Typing Reference
requests_typing env given = reference_typing env Request given

-- a communicator that takes an answer
abbrev pub newcomm_typing : Env → t.Argument → Typing Reference
newcomm_typing env newcomm = reference_typing env Communicator newcomm

-- `MPI_INT`
abbrev pub datatype_meant : Span → Meaning → Typing (Unit {0})
datatype_meant name (m.Known p.Datatype) = typed tt
datatype_meant name meant = unfit name name meant

-- `MPI_INT`
abbrev pub datatype_typing : Env → t.Argument → Typing (Unit {0})
datatype_typing env (t.value (t.read (t.whole name))) = datatype_meant name (meaning env name)
datatype_typing env given = misfit_typing env given

-- one of the reduction operations
abbrev pub op_meant : Span → Meaning → Typing Op
op_meant name (m.Known (p.Operation op)) = typed op
op_meant name meant = unfit name name meant

-- the name of a reduction operation
abbrev pub op_typing : Env → t.Argument → Typing Op
op_typing env (t.value (t.read (t.whole name))) = op_meant name (meaning env name)
op_typing env given = misfit_typing env given

-- `MPI_STATUS_IGNORE`, or a status
abbrev pub status_meant : Env → Span → Meaning → Typing (Option Reference)
status_meant env name (m.Known p.IgnoredStatus) = typed None
status_meant env name meant = onto Some (alone_typing env Status name meant)

-- `MPI_STATUS_IGNORE`, or a status
abbrev pub status_typing : Env → t.Argument → Typing (Option Reference)
status_typing env (t.value (t.read (t.whole name))) = status_meant env name (meaning env name)
status_typing env given = onto Some (reference_typing env Status given)

-- `MPI_STATUSES_IGNORE`, or statuses
abbrev pub statuses_meant : Env → Span → Meaning → Typing (Option Reference)
statuses_meant env name (m.Known p.IgnoredStatuses) = typed None
statuses_meant env name meant = onto Some (alone_typing env Status name meant)

-- `MPI_STATUSES_IGNORE`, or statuses
abbrev pub statuses_typing : Env → t.Argument → Typing (Option Reference)
statuses_typing env (t.value (t.read (t.whole name))) = statuses_meant env name (meaning env name)
statuses_typing env given = onto Some (reference_typing env Status given)

-- ---- arguments that stand together

-- the ints of a message
abbrev pub buffer_typing : Env → t.Argument → t.Argument → t.Argument → Typing Buffer
buffer_typing env buf count datatype =
    three (λ cells count trace. record { cells = cells; count = count }) (buf_typing env buf) (number_typing env count) (datatype_typing env datatype)

-- what a send takes
abbrev pub outgoing_typing : Env → t.Argument → t.Argument → t.Argument → t.Argument → t.Argument → Typing Outgoing
outgoing_typing env buf count datatype dest tag =
    three (λ buffer dest tag. record { buffer = buffer; dest = dest; tag = tag })
    (buffer_typing env buf count datatype) (number_typing env dest) (number_typing env tag)

-- what a receive takes
abbrev pub incoming_typing : Env → t.Argument → t.Argument → t.Argument → t.Argument → t.Argument → Typing Incoming
incoming_typing env buf count datatype source tag =
    three (λ buffer source tag. record { buffer = buffer; source = source; tag = tag })
    (buffer_typing env buf count datatype) (number_typing env source) (number_typing env tag)

-- what the completion of some of several requests takes
abbrev pub several_typing : Env → t.Argument → t.Argument → t.Argument → t.Argument → t.Argument → Typing SomeRequests
several_typing env incount requests outcount indices statuses =
    five (λ count requests outcount indices statuses. record { count = count; requests = requests; outcount = outcount; indices = indices; statuses = statuses })
    (number_typing env incount) (requests_typing env requests) (ints_typing env outcount) (ints_typing env indices) (statuses_typing env statuses)

-- what a reduction takes
abbrev pub reduction_typing : Env → t.Argument → t.Argument → t.Argument → t.Argument → t.Argument → Typing Reduction
reduction_typing env sendbuf recvbuf count datatype op =
    five (λ send receive count trace op. record { send = send; receive = receive; count = count; op = op })
    (buf_typing env sendbuf) (buf_typing env recvbuf) (number_typing env count) (datatype_typing env datatype) (op_typing env op)

-- ---- the arguments of `MPI_Init`

-- `NULL`
abbrev pub null_meant : Span → Meaning → Typing (Unit {0})
null_meant name (m.Known p.NoReference) = typed tt
null_meant name meant = unfit name name meant

-- `NULL`
abbrev pub null_typing : Env → t.Argument → Typing (Unit {0})
null_typing env (t.value (t.read (t.whole name))) = null_meant name (meaning env name)
null_typing env given = misfit_typing env given

-- main's own int parameter after `&`
abbrev pub argc_meant : Span → Span → Meaning → Typing (Unit {0})
argc_meant mark name (m.Declared d.ArgumentCount) = typed tt
argc_meant mark name meant = unfit mark name meant

-- `&` and main's own int parameter
abbrev pub argc_typing : Env → t.Argument → Typing (Unit {0})
argc_typing env (t.address mark (t.whole name)) = argc_meant mark name (meaning env name)
argc_typing env given = misfit_typing env given

-- main's own `char` parameter after `&`
abbrev pub argv_meant : Span → Span → Meaning → Typing (Unit {0})
argv_meant mark name (m.Declared d.ArgumentTexts) = typed tt
argv_meant mark name meant = unfit mark name meant

-- `&` and main's own `char` parameter
abbrev pub argv_typing : Env → t.Argument → Typing (Unit {0})
argv_typing env (t.address mark (t.whole name)) = argv_meant mark name (meaning env name)
argv_typing env given = misfit_typing env given

-- `NULL`, or a name without a meaning, which may be it
abbrev pub is_null_meant : Meaning → Bool
is_null_meant (m.Known p.NoReference) = true
is_null_meant m.LeftOut = true
is_null_meant m.Unknown = true
is_null_meant _ = false

-- whether an argument is `NULL`, or a name without a meaning, which may be it
abbrev pub is_null : Env → t.Argument → Bool
is_null env (t.value (t.read (t.whole name))) = is_null_meant (meaning env name)
is_null env given = false

-- `NULL` twice, or main's own parameters
abbrev pub init_typing : Env → t.Argument → t.Argument → Typing MpiCall
init_typing env argc argv =
    if is_null env argc
    then both (λ first second. pure.init) (null_typing env argc) (null_typing env argv)
    else both (λ first second. pure.init) (argc_typing env argc) (argv_typing env argv)

-- ---- the calls, by the function; of a wrong number of arguments the number alone is told, at the name

-- a call of an MPI function, by its arguments in the order of the C binding; any other number of them is a fault at the name
abbrev pub mpi_typing : Env → Span → MpiFunction → List t.Argument → Typing MpiCall
mpi_typing env name f.Init (argc ∷ argv ∷ []) = init_typing env argc argv
mpi_typing env name f.Finalize [] = typed pure.finalize
mpi_typing env name f.Abort (comm ∷ errorcode ∷ []) = both pure.abort (comm_typing env comm) (number_typing env errorcode)
-- sends and receives
mpi_typing env name f.Send (buf ∷ count ∷ datatype ∷ dest ∷ tag ∷ comm ∷ []) =
    onto pure.message (both pure.send (outgoing_typing env buf count datatype dest tag) (comm_typing env comm))
mpi_typing env name f.Ssend (buf ∷ count ∷ datatype ∷ dest ∷ tag ∷ comm ∷ []) =
    onto pure.message (both pure.ssend (outgoing_typing env buf count datatype dest tag) (comm_typing env comm))
mpi_typing env name f.Recv (buf ∷ count ∷ datatype ∷ source ∷ tag ∷ comm ∷ status ∷ []) =
    onto pure.message (three pure.recv (incoming_typing env buf count datatype source tag) (comm_typing env comm) (status_typing env status))
mpi_typing env name f.Isend (buf ∷ count ∷ datatype ∷ dest ∷ tag ∷ comm ∷ request ∷ []) =
    onto pure.message (three pure.isend (outgoing_typing env buf count datatype dest tag) (comm_typing env comm) (requests_typing env request))
mpi_typing env name f.Issend (buf ∷ count ∷ datatype ∷ dest ∷ tag ∷ comm ∷ request ∷ []) =
    onto pure.message (three pure.issend (outgoing_typing env buf count datatype dest tag) (comm_typing env comm) (requests_typing env request))
mpi_typing env name f.Irecv (buf ∷ count ∷ datatype ∷ source ∷ tag ∷ comm ∷ request ∷ []) =
    onto pure.message (three pure.irecv (incoming_typing env buf count datatype source tag) (comm_typing env comm) (requests_typing env request))
mpi_typing env name f.Sendrecv
    (sendbuf ∷ sendcount ∷ sendtype ∷ dest ∷ sendtag ∷ recvbuf ∷ recvcount ∷ recvtype ∷ source ∷ recvtag ∷ comm ∷ status ∷ []) =
    onto pure.message
    (four pure.sendrecv (outgoing_typing env sendbuf sendcount sendtype dest sendtag) (incoming_typing env recvbuf recvcount recvtype source recvtag)
    (comm_typing env comm) (status_typing env status))
-- completions
mpi_typing env name f.Wait (request ∷ status ∷ []) = onto pure.completion (both pure.wait (requests_typing env request) (status_typing env status))
mpi_typing env name f.Test (request ∷ flag ∷ status ∷ []) =
    onto pure.completion (three pure.test (requests_typing env request) (ints_typing env flag) (status_typing env status))
mpi_typing env name f.Waitany (count ∷ requests ∷ index ∷ status ∷ []) =
    onto pure.completion
    (four pure.waitany (number_typing env count) (requests_typing env requests) (ints_typing env index) (status_typing env status))
mpi_typing env name f.Testany (count ∷ requests ∷ index ∷ flag ∷ status ∷ []) =
    onto pure.completion
    (five pure.testany (number_typing env count) (requests_typing env requests) (ints_typing env index) (ints_typing env flag) (status_typing env status))
mpi_typing env name f.Waitall (count ∷ requests ∷ statuses ∷ []) =
    onto pure.completion (three pure.waitall (number_typing env count) (requests_typing env requests) (statuses_typing env statuses))
mpi_typing env name f.Testall (count ∷ requests ∷ flag ∷ statuses ∷ []) =
    onto pure.completion
    (four pure.testall (number_typing env count) (requests_typing env requests) (ints_typing env flag) (statuses_typing env statuses))
mpi_typing env name f.Waitsome (incount ∷ requests ∷ outcount ∷ indices ∷ statuses ∷ []) =
    onto pure.completion (onto pure.waitsome (several_typing env incount requests outcount indices statuses))
mpi_typing env name f.Testsome (incount ∷ requests ∷ outcount ∷ indices ∷ statuses ∷ []) =
    onto pure.completion (onto pure.testsome (several_typing env incount requests outcount indices statuses))
-- probes, and what a status tells
mpi_typing env name f.Probe (source ∷ tag ∷ comm ∷ status ∷ []) =
    onto pure.probing (four pure.probe (number_typing env source) (number_typing env tag) (comm_typing env comm) (status_typing env status))
mpi_typing env name f.Iprobe (source ∷ tag ∷ comm ∷ flag ∷ status ∷ []) =
    onto pure.probing
    (five pure.iprobe (number_typing env source) (number_typing env tag) (comm_typing env comm) (ints_typing env flag) (status_typing env status))
mpi_typing env name f.GetCount (status ∷ datatype ∷ count ∷ []) =
    onto pure.probing (three (λ status trace count. pure.get_count status count) (status_typing env status) (datatype_typing env datatype) (ints_typing env count))
-- collectives
mpi_typing env name f.Barrier (comm ∷ []) = onto pure.collective (onto pure.barrier (comm_typing env comm))
mpi_typing env name f.Bcast (buffer ∷ count ∷ datatype ∷ root ∷ comm ∷ []) =
    onto pure.collective (three pure.bcast (buffer_typing env buffer count datatype) (number_typing env root) (comm_typing env comm))
mpi_typing env name f.Gather (sendbuf ∷ sendcount ∷ sendtype ∷ recvbuf ∷ recvcount ∷ recvtype ∷ root ∷ comm ∷ []) =
    onto pure.collective
    (four pure.gather (buffer_typing env sendbuf sendcount sendtype) (buffer_typing env recvbuf recvcount recvtype) (number_typing env root) (comm_typing env comm))
mpi_typing env name f.Scatter (sendbuf ∷ sendcount ∷ sendtype ∷ recvbuf ∷ recvcount ∷ recvtype ∷ root ∷ comm ∷ []) =
    onto pure.collective
    (four pure.scatter (buffer_typing env sendbuf sendcount sendtype) (buffer_typing env recvbuf recvcount recvtype) (number_typing env root) (comm_typing env comm))
mpi_typing env name f.Allgather (sendbuf ∷ sendcount ∷ sendtype ∷ recvbuf ∷ recvcount ∷ recvtype ∷ comm ∷ []) =
    onto pure.collective (three pure.allgather (buffer_typing env sendbuf sendcount sendtype) (buffer_typing env recvbuf recvcount recvtype) (comm_typing env comm))
mpi_typing env name f.Alltoall (sendbuf ∷ sendcount ∷ sendtype ∷ recvbuf ∷ recvcount ∷ recvtype ∷ comm ∷ []) =
    onto pure.collective (three pure.alltoall (buffer_typing env sendbuf sendcount sendtype) (buffer_typing env recvbuf recvcount recvtype) (comm_typing env comm))
mpi_typing env name f.Reduce (sendbuf ∷ recvbuf ∷ count ∷ datatype ∷ op ∷ root ∷ comm ∷ []) =
    onto pure.collective (three pure.reduce (reduction_typing env sendbuf recvbuf count datatype op) (number_typing env root) (comm_typing env comm))
mpi_typing env name f.Allreduce (sendbuf ∷ recvbuf ∷ count ∷ datatype ∷ op ∷ comm ∷ []) =
    onto pure.collective (both pure.allreduce (reduction_typing env sendbuf recvbuf count datatype op) (comm_typing env comm))
mpi_typing env name f.Scan (sendbuf ∷ recvbuf ∷ count ∷ datatype ∷ op ∷ comm ∷ []) =
    onto pure.collective (both pure.scan (reduction_typing env sendbuf recvbuf count datatype op) (comm_typing env comm))
-- communicators
mpi_typing env name f.CommSize (comm ∷ size ∷ []) = onto pure.communicator (both pure.comm_size (comm_typing env comm) (ints_typing env size))
mpi_typing env name f.CommRank (comm ∷ rank ∷ []) = onto pure.communicator (both pure.comm_rank (comm_typing env comm) (ints_typing env rank))
mpi_typing env name f.CommDup (comm ∷ newcomm ∷ []) = onto pure.communicator (both pure.comm_dup (comm_typing env comm) (newcomm_typing env newcomm))
mpi_typing env name f.CommSplit (comm ∷ color ∷ key ∷ newcomm ∷ []) =
    onto pure.communicator
    (four pure.comm_split (comm_typing env comm) (number_typing env color) (number_typing env key) (newcomm_typing env newcomm))
mpi_typing env name f.CommFree (comm ∷ []) = onto pure.communicator (onto pure.comm_free (newcomm_typing env comm))
mpi_typing env name function given = refused name WrongCount

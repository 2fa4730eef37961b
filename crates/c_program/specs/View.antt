-- A typed program without where it lies in memory.
use Rattle.std.specs.Prelude.{List, [], ◌∷◌, map, option_map}
use Rattle.c_names.specs.declared.operator.Operator.{Operator}
use Rattle.c_program.specs.declared.expr.TypedArgument.{TypedArgument}
use Rattle.c_program.specs.declared.expr.TypedArgument.TheVariants as argument
use Rattle.c_program.specs.declared.expr.TypedExpr.{TypedExpr}
use Rattle.c_program.specs.declared.expr.TypedExpr.TheFolds.{fold-TypedExpr, fold-TypedPlace}
use Rattle.c_program.specs.declared.expr.TypedExpr.TheOpen as o
use Rattle.c_program.specs.declared.expr.FunctionCall.{FunctionCall}
use Rattle.c_program.specs.declared.expr.TypedLink.{TypedLink}
use Rattle.c_program.specs.declared.expr.TypedPlace.{TypedPlace}
use Rattle.c_program.specs.declared.expr.Reference.{Reference}
use Rattle.c_program.specs.declared.expr.Reference.TheVariants as reference
use Rattle.c_program.specs.declared.expr.TypedRight.{TypedRight}
use Rattle.c_program.specs.declared.expr.TypedRight.TheVariants as right
use Rattle.c_program.specs.declared.mpi.Buffer.{Buffer}
use Rattle.c_program.specs.declared.mpi.CollectiveCall.{CollectiveCall}
use Rattle.c_program.specs.declared.mpi.CollectiveCall.TheVariants as collective
use Rattle.c_program.specs.declared.mpi.CommunicatorCall.{CommunicatorCall}
use Rattle.c_program.specs.declared.mpi.CommunicatorCall.TheVariants as communicator
use Rattle.c_program.specs.declared.mpi.CompletionCall.{CompletionCall}
use Rattle.c_program.specs.declared.mpi.CompletionCall.TheVariants as completion
use Rattle.c_program.specs.declared.mpi.Incoming.{Incoming}
use Rattle.c_program.specs.declared.mpi.MessageCall.{MessageCall}
use Rattle.c_program.specs.declared.mpi.MessageCall.TheVariants as message
use Rattle.c_program.specs.declared.mpi.MpiCall.{MpiCall}
use Rattle.c_program.specs.declared.mpi.MpiCall.TheVariants as mpi
use Rattle.c_program.specs.declared.mpi.Outgoing.{Outgoing}
use Rattle.c_program.specs.declared.mpi.ProbeCall.{ProbeCall}
use Rattle.c_program.specs.declared.mpi.ProbeCall.TheVariants as probe
use Rattle.c_program.specs.declared.mpi.Reduction.{Reduction}
use Rattle.c_program.specs.declared.mpi.SomeRequests.{SomeRequests}
use Rattle.c_program.specs.declared.program.CProgram.{CProgram}
use Rattle.c_program.specs.declared.program.Function.{Function}
use Rattle.c_program.specs.declared.statement.TypedDeclaration.{TypedDeclaration}
use Rattle.c_program.specs.declared.statement.TypedForStart.{TypedForStart}
use Rattle.c_program.specs.declared.statement.TypedForStart.TheVariants as start
use Rattle.c_program.specs.declared.statement.TypedInitDeclarator.{TypedInitDeclarator}
use Rattle.c_program.specs.declared.statement.TypedInitializer.{TypedInitializer}
use Rattle.c_program.specs.declared.statement.TypedInitializer.TheVariants as initial
use Rattle.c_program.specs.declared.statement.TypedPart.{TypedPart}
use Rattle.c_program.specs.declared.statement.TypedPart.TheFolds.{fold-TypedPart, fold-TypedStmt}
use Rattle.c_program.specs.declared.statement.TypedPart.TheOpen as p
use Rattle.c_program.specs.declared.statement.TypedSimple.{TypedSimple}
use Rattle.c_program.specs.declared.statement.TypedSimple.TheVariants as simple
use Rattle.c_program.specs.declared.statement.TypedStmt.{TypedStmt}
use Rattle.c_program.specs.Tree as t

-- ---- expressions

-- an operator and its operand
pub record TypedPiece : Type 0 where
  pub operator : Operator
  pub operand : t.TypedExpr

-- links from a list of pieces
abbrev pub typed_links : List TypedPiece → t.TypedLinks
typed_links [] = t.no_link
typed_links (p ∷ ps) = t.link p.operator p.operand (typed_links ps)

-- of one layer of an expression
abbrev pub pure_expr_step : o.TypedExpr-F t.TypedExpr t.TypedPlace TypedPiece → t.TypedExpr
pure_expr_step (o.Number n) = t.number n
pure_expr_step (o.Read place) = t.read place
pure_expr_step (o.Field status field) = t.field status field
pure_expr_step (o.Signed sign operand) = t.signed sign operand.value
pure_expr_step (o.Chain first links) = t.chain first.value (typed_links links.items)
pure_expr_step (o.Choice test then other) = t.choice test.value then.value other.value

-- of one layer of a place
abbrev pub pure_place_step : o.TypedPlace-F t.TypedExpr t.TypedPlace TypedPiece → t.TypedPlace
pure_place_step (o.Whole variable) = t.whole variable
pure_place_step (o.Element variable index) = t.element variable index.value

-- of one layer of a link
abbrev pub pure_link_step : o.TypedLink-F t.TypedExpr t.TypedPlace TypedPiece → TypedPiece
pure_link_step l = record { operator = l.operator; operand = l.operand }

-- of an expression
unfoldable pub pure_expr : TypedExpr → t.TypedExpr
pure_expr = fold-TypedExpr t.TypedExpr t.TypedPlace TypedPiece pure_expr_step pure_place_step pure_link_step

-- of a place
unfoldable pub pure_place : TypedPlace → t.TypedPlace
pure_place = fold-TypedPlace t.TypedExpr t.TypedPlace TypedPiece pure_expr_step pure_place_step pure_link_step

-- of a link
abbrev pub pure_link : TypedLink → TypedPiece
pure_link l = record { operator = l.operator; operand = pure_expr l.operand }

-- of links
abbrev pub pure_links : List TypedLink → t.TypedLinks
pure_links links = typed_links (map pure_link links)

-- of a reference
abbrev pub pure_reference : Reference → t.Reference
pure_reference reference.Nothing = t.nothing
pure_reference (reference.Whole variable) = t.all_of variable
pure_reference (reference.From variable index) = t.from variable (pure_expr index)

-- ---- calls of functions of the text

-- of an argument
abbrev pub pure_argument : TypedArgument → t.TypedArgument
pure_argument (argument.Value e) = t.by_value (pure_expr e)
pure_argument (argument.Reference given) = t.by_reference (pure_reference given)

-- of a call
abbrev pub pure_call : FunctionCall → t.FunctionCall
pure_call call = record { function = call.function; arguments = map pure_argument call.arguments.items }

-- of a right side
abbrev pub pure_right : TypedRight → t.TypedRight
pure_right (right.Value e) = t.value (pure_expr e)
pure_right (right.Call call) = t.called (pure_call call)

-- ---- calls of MPI functions

-- of the ints of a message
abbrev pub pure_buffer : Buffer → t.Buffer
pure_buffer buffer = record { cells = pure_reference buffer.cells; count = pure_expr buffer.count }

-- of what a send takes
abbrev pub pure_outgoing : Outgoing → t.Outgoing
pure_outgoing given = record { buffer = pure_buffer given.buffer; dest = pure_expr given.dest; tag = pure_expr given.tag }

-- of what a receive takes
abbrev pub pure_incoming : Incoming → t.Incoming
pure_incoming given = record { buffer = pure_buffer given.buffer; source = pure_expr given.source; tag = pure_expr given.tag }

-- of a send or a receive
abbrev pub pure_message : MessageCall → t.MessageCall
pure_message (message.Send given comm) = t.send (pure_outgoing given) (pure_expr comm)
pure_message (message.Ssend given comm) = t.ssend (pure_outgoing given) (pure_expr comm)
pure_message (message.Recv given comm status) = t.recv (pure_incoming given) (pure_expr comm) (option_map pure_reference status)
pure_message (message.Isend given comm request) = t.isend (pure_outgoing given) (pure_expr comm) (pure_reference request)
pure_message (message.Issend given comm request) = t.issend (pure_outgoing given) (pure_expr comm) (pure_reference request)
pure_message (message.Irecv given comm request) = t.irecv (pure_incoming given) (pure_expr comm) (pure_reference request)
pure_message (message.Sendrecv send receive comm status) =
    t.sendrecv (pure_outgoing send) (pure_incoming receive) (pure_expr comm) (option_map pure_reference status)

-- of what the completion of some of several requests takes
abbrev pub pure_several : SomeRequests → t.SomeRequests
pure_several several = record {
  count = pure_expr several.count;
  requests = pure_reference several.requests;
  outcount = pure_reference several.outcount;
  indices = pure_reference several.indices;
  statuses = option_map pure_reference several.statuses;
}

-- of a completion
abbrev pub pure_completion : CompletionCall → t.CompletionCall
pure_completion (completion.Wait request status) = t.wait (pure_reference request) (option_map pure_reference status)
pure_completion (completion.Test request flag status) = t.test (pure_reference request) (pure_reference flag) (option_map pure_reference status)
pure_completion (completion.Waitany count requests index status) =
    t.waitany (pure_expr count) (pure_reference requests) (pure_reference index) (option_map pure_reference status)
pure_completion (completion.Testany count requests index flag status) =
    t.testany (pure_expr count) (pure_reference requests) (pure_reference index) (pure_reference flag) (option_map pure_reference status)
pure_completion (completion.Waitall count requests statuses) =
    t.waitall (pure_expr count) (pure_reference requests) (option_map pure_reference statuses)
pure_completion (completion.Testall count requests flag statuses) =
    t.testall (pure_expr count) (pure_reference requests) (pure_reference flag) (option_map pure_reference statuses)
pure_completion (completion.Waitsome several) = t.waitsome (pure_several several)
pure_completion (completion.Testsome several) = t.testsome (pure_several several)

-- of a probe
abbrev pub pure_probe : ProbeCall → t.ProbeCall
pure_probe (probe.Probe source tag comm status) = t.probe (pure_expr source) (pure_expr tag) (pure_expr comm) (option_map pure_reference status)
pure_probe (probe.Iprobe source tag comm flag status) =
    t.iprobe (pure_expr source) (pure_expr tag) (pure_expr comm) (pure_reference flag) (option_map pure_reference status)
pure_probe (probe.GetCount status count) = t.get_count (option_map pure_reference status) (pure_reference count)

-- of what a reduction takes
abbrev pub pure_reduction : Reduction → t.Reduction
pure_reduction given = record {
  send = pure_reference given.send;
  receive = pure_reference given.receive;
  count = pure_expr given.count;
  op = given.op;
}

-- of a collective
abbrev pub pure_collective : CollectiveCall → t.CollectiveCall
pure_collective (collective.Barrier comm) = t.barrier (pure_expr comm)
pure_collective (collective.Bcast buffer root comm) = t.bcast (pure_buffer buffer) (pure_expr root) (pure_expr comm)
pure_collective (collective.Gather send receive root comm) = t.gather (pure_buffer send) (pure_buffer receive) (pure_expr root) (pure_expr comm)
pure_collective (collective.Scatter send receive root comm) = t.scatter (pure_buffer send) (pure_buffer receive) (pure_expr root) (pure_expr comm)
pure_collective (collective.Allgather send receive comm) = t.allgather (pure_buffer send) (pure_buffer receive) (pure_expr comm)
pure_collective (collective.Alltoall send receive comm) = t.alltoall (pure_buffer send) (pure_buffer receive) (pure_expr comm)
pure_collective (collective.Reduce given root comm) = t.reduce (pure_reduction given) (pure_expr root) (pure_expr comm)
pure_collective (collective.Allreduce given comm) = t.allreduce (pure_reduction given) (pure_expr comm)
pure_collective (collective.Scan given comm) = t.scan (pure_reduction given) (pure_expr comm)

-- of a call on communicators
abbrev pub pure_communicator : CommunicatorCall → t.CommunicatorCall
pure_communicator (communicator.Size comm size) = t.comm_size (pure_expr comm) (pure_reference size)
pure_communicator (communicator.Rank comm rank) = t.comm_rank (pure_expr comm) (pure_reference rank)
pure_communicator (communicator.Dup comm made) = t.comm_dup (pure_expr comm) (pure_reference made)
pure_communicator (communicator.Split comm color key made) = t.comm_split (pure_expr comm) (pure_expr color) (pure_expr key) (pure_reference made)
pure_communicator (communicator.Free comm) = t.comm_free (pure_reference comm)

-- of a call of an MPI function
abbrev pub pure_mpi : MpiCall → t.MpiCall
pure_mpi mpi.Init = t.init
pure_mpi mpi.Finalize = t.finalize
pure_mpi (mpi.Abort comm code) = t.abort (pure_expr comm) (pure_expr code)
pure_mpi (mpi.Message call) = t.message (pure_message call)
pure_mpi (mpi.Completion call) = t.completion (pure_completion call)
pure_mpi (mpi.Probe call) = t.probing (pure_probe call)
pure_mpi (mpi.Collective call) = t.collective (pure_collective call)
pure_mpi (mpi.Communicator call) = t.communicator (pure_communicator call)

-- ---- statements

-- of a simple statement
abbrev pub pure_simple : TypedSimple → t.TypedSimple
pure_simple (simple.Set place given) = t.set (pure_place place) (pure_right given)
pure_simple (simple.Update place operator given) = t.update (pure_place place) operator (pure_right given)
pure_simple (simple.Call call) = t.call (pure_call call)
pure_simple (simple.Mpi call) = t.mpi (pure_mpi call.value)
pure_simple (simple.Print format arguments) = t.print format.items (map pure_expr arguments.items)
pure_simple simple.Flush = t.flush

-- of how a variable begins
abbrev pub pure_initial : TypedInitializer → t.TypedInitializer
pure_initial initial.Nothing = t.no_initial
pure_initial (initial.Right given) = t.right (pure_right given)
pure_initial (initial.Values values) = t.values (map pure_expr values.items)

-- of a variable that is declared
abbrev pub pure_item : TypedInitDeclarator → t.TypedInitDeclarator
pure_item item = record { name = item.name; kind = item.kind; length = item.length; initial = pure_initial item.initial }

-- of a declaration
abbrev pub pure_declaration : TypedDeclaration → List t.TypedInitDeclarator
pure_declaration declaration = map pure_item declaration.items.items

-- of how a for begins
abbrev pub pure_start : TypedForStart → t.TypedForStart
pure_start start.Nothing = t.no_start
pure_start (start.Declaration declaration) = t.declared_start (pure_declaration declaration)
pure_start (start.Simple one) = t.simple_start (pure_simple one)

-- parts from a list of them
abbrev pub typed_parts : List t.TypedPart → t.TypedParts
typed_parts [] = t.no_part
typed_parts (p ∷ ps) = t.part p (typed_parts ps)

-- of one layer of a statement
abbrev pub pure_stmt_step : p.TypedStmt-F t.TypedPart t.TypedStmt → t.TypedStmt
pure_stmt_step (p.Block parts) = t.block (typed_parts parts.items)
pure_stmt_step p.Empty = t.empty
pure_stmt_step (p.Simple one) = t.simple (pure_simple one)
pure_stmt_step p.Break = t.break
pure_stmt_step p.Continue = t.continue
pure_stmt_step (p.Return given) = t.return (option_map pure_right given)
pure_stmt_step (p.If test then) = t.if_only (pure_expr test) then.value
pure_stmt_step (p.IfElse test then other) = t.if_else (pure_expr test) then.value other.value
pure_stmt_step (p.While test body) = t.while (pure_expr test) body.value
pure_stmt_step (p.Do body test) = t.do_while body.value (pure_expr test)
pure_stmt_step (p.For begun test step body) = t.for (pure_start begun) (option_map pure_expr test) (option_map pure_simple step) body.value

-- of one layer of a part
abbrev pub pure_part_step : p.TypedPart-F t.TypedPart t.TypedStmt → t.TypedPart
pure_part_step (p.Declaration declaration) = t.declare (pure_declaration declaration)
pure_part_step (p.Stmt inner) = t.stmt inner

-- of a statement
unfoldable pub pure_stmt : TypedStmt → t.TypedStmt
pure_stmt = fold-TypedStmt t.TypedPart t.TypedStmt pure_part_step pure_stmt_step

-- of a part of a block
unfoldable pub pure_part : TypedPart → t.TypedPart
pure_part = fold-TypedPart t.TypedPart t.TypedStmt pure_part_step pure_stmt_step

-- of the parts of a block
abbrev pub pure_parts : List TypedPart → t.TypedParts
pure_parts parts = typed_parts (map pure_part parts)

-- ---- programs

-- of a function
abbrev pub pure_function : Function → t.Function
pure_function function = record { parameters = function.parameters.items; body = pure_parts function.body.items }

-- of a program
abbrev pub pure_program : CProgram → t.Program
pure_program program = record { functions = map pure_function program.functions.items; main = program.main }

-- Typed programs may be shared among threads, and so may their parts. A search from nothing runs out of steps at what holds more than some
-- thirty expressions, so each type has its lemma, over those of the types that it holds. Above, list the lemma beside `sendable`.
use denote.Param.Send.{IsSync, sendable}
use Rattle.std.proofs.Crossing.{crosses}
use Rattle.c_program.proofs.expr.TypedExpr.TheLaws.TheKnot as expr_knot
use Rattle.c_program.proofs.expr.Field.TheSendSync as status_field
use Rattle.c_program.proofs.format.FormatPiece.TheSendSync as piece
use Rattle.c_program.proofs.statement.TypedPart.TheLaws.TheKnot as part_knot
use Rattle.c_names.proofs.operator.UnaryOperator.TheSendSync as sign
use Rattle.c_names.proofs.operator.Operator.TheSendSync as operator
use Rattle.c_names.proofs.kind.VariableKind.TheSendSync as kind
use Rattle.c_program.proofs.program.TypedParameter.TheSendSync as parameter
use Rattle.c_program.specs.contracts.expr.FunctionCall as FunctionCall
use Rattle.c_program.specs.contracts.expr.TypedExpr as TypedExpr
use Rattle.c_program.specs.contracts.expr.TypedPlace as TypedPlace
use Rattle.c_program.specs.contracts.expr.Reference as Reference
use Rattle.c_program.specs.contracts.expr.TypedRight as TypedRight
use Rattle.c_program.specs.contracts.mpi.Buffer as Buffer
use Rattle.c_program.specs.contracts.mpi.CollectiveCall as CollectiveCall
use Rattle.c_program.specs.contracts.mpi.CommunicatorCall as CommunicatorCall
use Rattle.c_program.specs.contracts.mpi.CompletionCall as CompletionCall
use Rattle.c_program.specs.contracts.mpi.Incoming as Incoming
use Rattle.c_program.specs.contracts.mpi.MessageCall as MessageCall
use Rattle.c_program.specs.contracts.mpi.MpiCall as MpiCall
use Rattle.c_program.specs.contracts.mpi.Outgoing as Outgoing
use Rattle.c_program.specs.contracts.mpi.ProbeCall as ProbeCall
use Rattle.c_program.specs.contracts.mpi.Reduction as Reduction
use Rattle.c_program.specs.contracts.mpi.SomeRequests as SomeRequests
use Rattle.c_program.specs.contracts.program.CProgram as CProgram
use Rattle.c_program.specs.contracts.program.Function as Function
use Rattle.c_program.specs.contracts.statement.TypedDeclaration as TypedDeclaration
use Rattle.c_program.specs.contracts.statement.TypedPart as TypedPart
use Rattle.c_program.specs.contracts.statement.TypedSimple as TypedSimple
use Rattle.c_program.specs.contracts.statement.TypedStmt as TypedStmt

-- ---- expressions

pub expr_field : IsSync (TypedExpr.the_field).row
expr_field = search (sign.the_field_sync, operator.the_field_sync, status_field.the_field_sync, crosses, expr_knot.crosses, sendable) depth 60 fits 20000

pub place_field : IsSync (TypedPlace.the_field).row
place_field = search (sign.the_field_sync, operator.the_field_sync, status_field.the_field_sync, crosses, expr_knot.crosses, sendable) depth 60 fits 20000

pub reference_field : IsSync (Reference.the_field).row
reference_field = search (expr_field, sendable) depth 60

pub call_field : IsSync (FunctionCall.the_field).row
call_field = search (expr_field, reference_field, crosses, sendable) depth 60

pub right_field : IsSync (TypedRight.the_field).row
right_field = search (expr_field, call_field, sendable) depth 60

-- ---- calls of MPI functions

pub buffer_field : IsSync (Buffer.the_field).row
buffer_field = search (expr_field, reference_field, sendable) depth 60

pub outgoing_field : IsSync (Outgoing.the_field).row
outgoing_field = search (expr_field, buffer_field, sendable) depth 60

pub incoming_field : IsSync (Incoming.the_field).row
incoming_field = search (expr_field, buffer_field, sendable) depth 60

pub some_field : IsSync (SomeRequests.the_field).row
some_field = search (expr_field, reference_field, sendable) depth 60

pub reduction_field : IsSync (Reduction.the_field).row
reduction_field = search (expr_field, reference_field, sendable) depth 60

pub message_field : IsSync (MessageCall.the_field).row
message_field = search (outgoing_field, incoming_field, expr_field, reference_field, sendable) depth 60

pub completion_field : IsSync (CompletionCall.the_field).row
completion_field = search (some_field, expr_field, reference_field, sendable) depth 60

pub probe_field : IsSync (ProbeCall.the_field).row
probe_field = search (expr_field, reference_field, sendable) depth 60

pub collective_field : IsSync (CollectiveCall.the_field).row
collective_field = search (buffer_field, reduction_field, expr_field, sendable) depth 60

pub communicator_field : IsSync (CommunicatorCall.the_field).row
communicator_field = search (expr_field, reference_field, sendable) depth 60

pub mpi_field : IsSync (MpiCall.the_field).row
mpi_field = search (message_field, completion_field, probe_field, collective_field, communicator_field, expr_field, sendable) depth 60

-- ---- statements and programs

pub simple_field : IsSync (TypedSimple.the_field).row
simple_field = search (mpi_field, call_field, right_field, place_field, expr_field, operator.the_field_sync, piece.the_sync, crosses, sendable) depth 60

pub declaration_field : IsSync (TypedDeclaration.the_field).row
declaration_field = search (right_field, expr_field, kind.the_field_sync, crosses, sendable) depth 60

pub part_field : IsSync (TypedPart.the_field).row
part_field = search (simple_field, declaration_field, right_field, expr_field, crosses, part_knot.crosses, sendable) depth 60 fits 20000

pub stmt_field : IsSync (TypedStmt.the_field).row
stmt_field = search (simple_field, declaration_field, right_field, expr_field, crosses, part_knot.crosses, sendable) depth 60 fits 20000

pub function_field : IsSync (Function.the_field).row
function_field = search (part_field, parameter.the_sync, crosses, sendable) depth 60

pub program_field : IsSync (CProgram.the_field).row
program_field = search (function_field, crosses, sendable) depth 60

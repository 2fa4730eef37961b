-- A suspended rank may be sent to a thread. A search from nothing runs out of steps, so each type has its lemma, over those of the types
-- that it holds. Above, list the lemma beside `sendable`.
use denote.Enum.Declared.{shape}
use denote.Param.Send.{IsSend, IsSync, enum_send, sendable, struct_send}
use denote.Struct.Declared as struct
use denote.Ref.{NamedLft}
use Rattle.std.proofs.Crossing.{crosses}
use Rattle.c_names.proofs.kind.VariableKind.TheSendSync as kind
use Rattle.c_program.proofs.Sharing.{expr_field, function_field, part_field, program_field, right_field, simple_field, stmt_field}
use Rattle.c_program.specs.contracts.statement.TypedInitDeclarator as TypedInitDeclarator
use Rattle.c_program.proofs.state.StackMark.TheSendSync as mark
use Rattle.rank_machine.proofs.frame.Called.TheSendSync as called
use Rattle.mpi_call.proofs.reply.Reply.TheSendSync as reply
use Rattle.std.proofs.option.Option.TheSendSync as option
use Rattle.c_run_replies.proofs.question.Reached.TheSendSync as reached
use Rattle.rank_machine.specs.contracts.frame.Code as Code
use Rattle.rank_machine.specs.contracts.frame.ContinuationFrame as ContinuationFrame
use Rattle.rank_machine.specs.contracts.frame.Loop as Loop
use Rattle.rank_machine.specs.contracts.going.Going as Going
use Rattle.rank_machine.specs.contracts.rank.MachineRank as MachineRank
use Rattle.rank_machine.specs.contracts.rank.MachineRank.TheInside as Inside
use Rattle.rank_machine.specs.contracts.stack.Stack as Stack
use Rattle.c_run_cells.specs.contracts.state.RankState as RankState

pub item_field : IsSync (TypedInitDeclarator.the_field).row
item_field = search (right_field, expr_field, kind.the_field_sync, crosses, sendable) depth 60

pub loop_field : (a : NamedLft) → IsSend (Loop.the_field a).row
loop_field a = search (stmt_field, simple_field, expr_field, sendable) depth 60

pub frame_field : (a : NamedLft) → IsSend (ContinuationFrame.the_field a).row
frame_field a =
    enum_send (shape (ContinuationFrame.the_type a)) (
      (search (stmt_field, sendable) depth 60, tt),
      (
        (search (part_field, sendable) depth 60, tt),
        (
          (search (item_field, sendable) depth 60, tt),
          (
            (mark.the_field_send, tt),
            (
              (loop_field a, tt),
              (
                (search (simple_field, sendable) depth 60, tt),
                ((called.the_field_send, tt), tt),
              ),
            ),
          ),
        ),
      ),
    )

pub frame_row : (a : NamedLft) → IsSend (ContinuationFrame.the_row a)
frame_row a = search (frame_field, sendable) depth 60

pub state_field : (a : NamedLft) → IsSend (RankState.the_field a).row
state_field a = search (crosses, sendable) depth 60

pub stack_field : (a : NamedLft) → IsSend (Stack.the_field a).row
stack_field a = search (frame_field, frame_row, state_field, crosses, sendable) depth 60

pub going_field : (a : NamedLft) → IsSend (Going.the_field a).row
going_field a = search (stack_field, reached.the_field_send, sendable) depth 60

pub going_row : (a : NamedLft) → IsSend (Going.the_row a)
going_row a = search (going_field, sendable) depth 60

pub code_field : (a : NamedLft) → IsSend (Code.the_field a).row
code_field a = search (function_field, crosses, sendable) depth 60

-- what a rank holds
pub inside_field : (a : NamedLft) → IsSend (Inside.the_field a).row
inside_field a =
    struct_send (struct.shape (Inside.the_type a)) (
      search (crosses, sendable) depth 60,
      (
        search (program_field, sendable) depth 60,
        (
          code_field a,
          (
            search (reply.the_send, crosses, sendable) depth 60,
            (
              search sendable depth 60,
              (option.the_field_send (Going.the_row a) (going_row a), tt),
            ),
          ),
        ),
      ),
    )

inside_row : (a : NamedLft) → IsSend (Inside.the_row a)
inside_row a = search (inside_field, sendable) depth 60

pub rank_field : (a : NamedLft) → IsSend (MachineRank.the_field a).row
rank_field a = search (inside_row, sendable) depth 60

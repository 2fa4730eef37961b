-- Typed programs as plain data: what the meaning is stated on. A Rust tree is one of these by its view.
-- The tree of the grammar has the names of the productions; what one of them means has its name with `Typed` before it, here and in Rust,
-- and the relation between the two is `IsTyped` with the rest of the name of the grammar's own relation.
use Rattle.std.specs.Prelude.{ℕ, ℤ, List, Option}
use Rattle.mpi_call.specs.declared.call.Op.{Op}
use Rattle.c_names.specs.declared.kind.VariableKind.{VariableKind}
use Rattle.c_names.specs.declared.operator.Operator.{Operator}
use Rattle.c_names.specs.declared.operator.UnaryOperator.{UnaryOperator}
use Rattle.c_program.specs.declared.expr.Field.{Field}
use Rattle.c_program.specs.declared.format.FormatPiece.{FormatPiece}
use Rattle.c_program.specs.declared.program.TypedParameter.{TypedParameter}

-- ---- expressions

mutual
  -- an expression
  pub data TypedExpr : Type 0 where
    number : ℤ → TypedExpr
    read : TypedPlace → TypedExpr
    -- a field of a status
    field : TypedPlace → Field → TypedExpr
    signed : UnaryOperator → TypedExpr → TypedExpr
    -- operands of one level, from the left on
    chain : TypedExpr → TypedLinks → TypedExpr
    choice : TypedExpr → TypedExpr → TypedExpr → TypedExpr

  -- a variable by its number, or an element of it
  pub data TypedPlace : Type 0 where
    whole : ℕ → TypedPlace
    element : ℕ → TypedExpr → TypedPlace

  -- operators and the operands behind them
  pub data TypedLinks : Type 0 where
    no_link : TypedLinks
    link : Operator → TypedExpr → TypedLinks → TypedLinks

-- a range of cells: none, all of a variable, or those from an element on
pub data Reference : Type 0 where
  nothing : Reference
  all_of : ℕ → Reference
  from : ℕ → TypedExpr → Reference

-- ---- calls of functions of the text

-- an argument
pub data TypedArgument : Type 0 where
  by_value : TypedExpr → TypedArgument
  by_reference : Reference → TypedArgument

-- a call, by the function's number
pub record FunctionCall : Type 0 where
  pub function : ℕ
  pub arguments : List TypedArgument

-- a right side
pub data TypedRight : Type 0 where
  value : TypedExpr → TypedRight
  called : FunctionCall → TypedRight

-- ---- calls of MPI functions

-- the ints of a message
pub record Buffer : Type 0 where
  pub cells : Reference
  pub count : TypedExpr

-- what a send takes
pub record Outgoing : Type 0 where
  pub buffer : Buffer
  pub dest : TypedExpr
  pub tag : TypedExpr

-- what a receive takes
pub record Incoming : Type 0 where
  pub buffer : Buffer
  pub source : TypedExpr
  pub tag : TypedExpr

-- sends and receives
pub data MessageCall : Type 0 where
  send : Outgoing → TypedExpr → MessageCall
  ssend : Outgoing → TypedExpr → MessageCall
  recv : Incoming → TypedExpr → Option Reference → MessageCall
  isend : Outgoing → TypedExpr → Reference → MessageCall
  issend : Outgoing → TypedExpr → Reference → MessageCall
  irecv : Incoming → TypedExpr → Reference → MessageCall
  sendrecv : Outgoing → Incoming → TypedExpr → Option Reference → MessageCall

-- what the completion of some of several requests takes
pub record SomeRequests : Type 0 where
  pub count : TypedExpr
  pub requests : Reference
  pub outcount : Reference
  pub indices : Reference
  pub statuses : Option Reference

-- the completion of requests
pub data CompletionCall : Type 0 where
  wait : Reference → Option Reference → CompletionCall
  test : Reference → Reference → Option Reference → CompletionCall
  waitany : TypedExpr → Reference → Reference → Option Reference → CompletionCall
  testany : TypedExpr → Reference → Reference → Reference → Option Reference → CompletionCall
  waitall : TypedExpr → Reference → Option Reference → CompletionCall
  testall : TypedExpr → Reference → Reference → Option Reference → CompletionCall
  waitsome : SomeRequests → CompletionCall
  testsome : SomeRequests → CompletionCall

-- probes, and what a status tells
pub data ProbeCall : Type 0 where
  probe : TypedExpr → TypedExpr → TypedExpr → Option Reference → ProbeCall
  iprobe : TypedExpr → TypedExpr → TypedExpr → Reference → Option Reference → ProbeCall
  get_count : Option Reference → Reference → ProbeCall

-- what a reduction takes
pub record Reduction : Type 0 where
  pub send : Reference
  pub receive : Reference
  pub count : TypedExpr
  pub op : Op

-- collective communication
pub data CollectiveCall : Type 0 where
  barrier : TypedExpr → CollectiveCall
  bcast : Buffer → TypedExpr → TypedExpr → CollectiveCall
  gather : Buffer → Buffer → TypedExpr → TypedExpr → CollectiveCall
  scatter : Buffer → Buffer → TypedExpr → TypedExpr → CollectiveCall
  allgather : Buffer → Buffer → TypedExpr → CollectiveCall
  alltoall : Buffer → Buffer → TypedExpr → CollectiveCall
  reduce : Reduction → TypedExpr → TypedExpr → CollectiveCall
  allreduce : Reduction → TypedExpr → CollectiveCall
  scan : Reduction → TypedExpr → CollectiveCall

-- communicators
pub data CommunicatorCall : Type 0 where
  comm_size : TypedExpr → Reference → CommunicatorCall
  comm_rank : TypedExpr → Reference → CommunicatorCall
  comm_dup : TypedExpr → Reference → CommunicatorCall
  comm_split : TypedExpr → TypedExpr → TypedExpr → Reference → CommunicatorCall
  comm_free : Reference → CommunicatorCall

-- a call of an MPI function
pub data MpiCall : Type 0 where
  init : MpiCall
  finalize : MpiCall
  abort : TypedExpr → TypedExpr → MpiCall
  message : MessageCall → MpiCall
  completion : CompletionCall → MpiCall
  probing : ProbeCall → MpiCall
  collective : CollectiveCall → MpiCall
  communicator : CommunicatorCall → MpiCall

-- ---- statements

-- a statement that stands before a `;`
pub data TypedSimple : Type 0 where
  set : TypedPlace → TypedRight → TypedSimple
  update : TypedPlace → Operator → TypedRight → TypedSimple
  call : FunctionCall → TypedSimple
  mpi : MpiCall → TypedSimple
  print : List FormatPiece → List TypedExpr → TypedSimple
  flush : TypedSimple

-- how a variable begins
pub data TypedInitializer : Type 0 where
  no_initial : TypedInitializer
  right : TypedRight → TypedInitializer
  values : List TypedExpr → TypedInitializer

-- a variable that is declared; an array has a length
pub record TypedInitDeclarator : Type 0 where
  pub name : List ℕ
  pub kind : VariableKind
  pub length : Option ℕ
  pub initial : TypedInitializer

-- how a for begins
pub data TypedForStart : Type 0 where
  no_start : TypedForStart
  declared_start : List TypedInitDeclarator → TypedForStart
  simple_start : TypedSimple → TypedForStart

mutual
  -- a statement
  pub data TypedStmt : Type 0 where
    block : TypedParts → TypedStmt
    empty : TypedStmt
    simple : TypedSimple → TypedStmt
    break : TypedStmt
    continue : TypedStmt
    return : Option TypedRight → TypedStmt
    if_only : TypedExpr → TypedStmt → TypedStmt
    if_else : TypedExpr → TypedStmt → TypedStmt → TypedStmt
    while : TypedExpr → TypedStmt → TypedStmt
    do_while : TypedStmt → TypedExpr → TypedStmt
    for : TypedForStart → Option TypedExpr → Option TypedSimple → TypedStmt → TypedStmt

  -- what a block holds
  pub data TypedPart : Type 0 where
    declare : List TypedInitDeclarator → TypedPart
    stmt : TypedStmt → TypedPart

  -- the parts of a block
  pub data TypedParts : Type 0 where
    no_part : TypedParts
    part : TypedPart → TypedParts → TypedParts

-- ---- programs

-- a function: its parameters are its first variables
pub record Function : Type 0 where
  pub parameters : List TypedParameter
  pub body : TypedParts

-- functions in the order of the text, and the number of main
pub record Program : Type 0 where
  pub functions : List Function
  pub main : ℕ

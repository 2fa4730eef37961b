-- Trees, one constructor for each production, with the place of each token. (ISO C, "Expressions", "Statements and blocks".)
use Rattle.std.specs.Prelude.{ℕ, List, Option}
use Rattle.c_grammar.specs.declared.terminal.Symbol.{Symbol}
use Rattle.c_grammar.specs.declared.terminal.Span.{Span}

mutual
  -- an expression
  pub data Expr : Type 0 where
    number : Span → Expr
    read : Place → Expr
    field : Place → Span → Span → Expr
    paren : Span → Expr → Span → Expr
    unary : Symbol → Span → Expr → Expr
    -- operands of one level: the first, and the others with the operators before them
    chain : ℕ → Expr → Links → Expr
    choice : Expr → Span → Expr → Span → Expr → Expr

  -- a name, or a name with an index in brackets
  pub data Place : Type 0 where
    whole : Span → Place
    cell : Span → Span → Expr → Span → Place

  -- operators and the operands after them
  pub data Links : Type 0 where
    no_link : Links
    link : Symbol → Span → Expr → Links → Links

-- things with a comma between each two
pub data CommaList (A : Type 0) : Type 0 where
  comma_list : A → List (Span × A) → CommaList A

-- an argument of a call
pub data Argument : Type 0 where
  text : Span → Argument
  address : Span → Place → Argument
  value : Expr → Argument

-- a call
pub record WrittenCall : Type 0 where
  pub name : Span
  pub opening : Span
  pub arguments : Option (CommaList Argument)
  pub closing : Span

-- a right side
pub data Right : Type 0 where
  called : WrittenCall → Right
  valued : Expr → Right

-- a statement that needs a `;`, without it
pub data Simple : Type 0 where
  assign : Place → Symbol → Span → Right → Simple
  after : Place → Symbol → Span → Simple
  before : Symbol → Span → Place → Simple
  invoke : WrittenCall → Simple

-- what a declared name begins with
pub data Initializer : Type 0 where
  begun : Span → Right → Initializer
  braced : Span → Span → CommaList Expr → Span → Initializer

-- a declared name and its initializer
pub record InitDeclarator : Type 0 where
  pub place : Place
  pub initial : Option Initializer

-- a declaration without its `;`
pub record Declaration : Type 0 where
  pub kind : Symbol
  pub at : Span
  pub items : CommaList InitDeclarator

-- how a for begins
pub data ForStart : Type 0 where
  no_start : ForStart
  declared_start : Declaration → ForStart
  simple_start : Simple → ForStart

mutual
  -- a statement
  pub data Stmt : Type 0 where
    block : Span → Parts → Span → Stmt
    empty : Span → Stmt
    simple : Simple → Span → Stmt
    break : Span → Span → Stmt
    continue : Span → Span → Stmt
    return : Span → Option Right → Span → Stmt
    if_only : Span → Span → Expr → Span → Stmt → Stmt
    if_else : Span → Span → Expr → Span → Stmt → Span → Stmt → Stmt
    while : Span → Span → Expr → Span → Stmt → Stmt
    do_while : Span → Stmt → Span → Span → Expr → Span → Span → Stmt
    for : Span → Span → ForStart → Span → Option Expr → Span → Option Simple → Span → Stmt → Stmt

  -- what a block holds
  pub data Part : Type 0 where
    declare : Declaration → Span → Part
    stmt : Stmt → Part

  -- the parts of a block
  pub data Parts : Type 0 where
    no_part : Parts
    part : Part → Parts → Parts

-- a parameter
pub data Parameter : Type 0 where
  int : Span → Option Span → Parameter
  array : Span → Option Span → Span → Option Expr → Span → Parameter
  pointer : Span → Span → Option Span → Parameter
  communicator : Span → Option Span → Parameter
  text_pointers : Span → Span → Span → Option Span → Parameter
  text_array : Span → Span → Option Span → Span → Span → Parameter

-- the parameters of a head
pub data Parameters : Type 0 where
  no_parameter : Parameters
  void : Span → Parameters
  parameters : CommaList Parameter → Parameters

-- a function's head
pub record Head : Type 0 where
  pub result : Symbol
  pub at : Span
  pub name : Span
  pub opening : Span
  pub listed : Parameters
  pub closing : Span

-- the value of a define
pub record Value : Type 0 where
  pub opens : List Span
  pub minus : Option Span
  pub number : Span
  pub closes : List Span

-- what a program holds
pub data ExternalDeclaration : Type 0 where
  define : Span → Span → Value → Span → ExternalDeclaration
  function : Head → Span → Parts → Span → ExternalDeclaration
  prototype : Head → Span → ExternalDeclaration

-- a program
abbrev pub Tree : Type 0
Tree = List ExternalDeclaration

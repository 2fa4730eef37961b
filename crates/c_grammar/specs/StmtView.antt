-- The tree of a program without where it lies in memory.
use Rattle.std.specs.Prelude.{List, [], ◌∷◌, map, option_map}
use Rattle.c_grammar.specs.declared.statement.Argument.{Argument}
use Rattle.c_grammar.specs.declared.statement.Argument.TheVariants as argument
use Rattle.c_grammar.specs.declared.statement.WrittenCall.{WrittenCall}
use Rattle.c_grammar.specs.declared.statement.Declaration.{Declaration}
use Rattle.c_grammar.specs.declared.statement.ForStart.{ForStart}
use Rattle.c_grammar.specs.declared.statement.ForStart.TheVariants as start
use Rattle.c_grammar.specs.declared.statement.Head.{Head}
use Rattle.c_grammar.specs.declared.statement.Initializer.{Initializer}
use Rattle.c_grammar.specs.declared.statement.Initializer.TheVariants as initial
use Rattle.c_grammar.specs.declared.statement.InitDeclarator.{InitDeclarator}
use Rattle.c_grammar.specs.declared.statement.CommaList.{CommaList}
use Rattle.c_grammar.specs.declared.statement.Parameter.{Parameter}
use Rattle.c_grammar.specs.declared.statement.Parameter.TheVariants as parameter
use Rattle.c_grammar.specs.declared.statement.Parameters.{Parameters}
use Rattle.c_grammar.specs.declared.statement.Parameters.TheVariants as parameters
use Rattle.c_grammar.specs.declared.statement.Part.{Part}
use Rattle.c_grammar.specs.declared.statement.Right.{Right}
use Rattle.c_grammar.specs.declared.statement.Right.TheVariants as right
use Rattle.c_grammar.specs.declared.statement.Simple.{Simple}
use Rattle.c_grammar.specs.declared.statement.Simple.TheVariants as simple
use Rattle.c_grammar.specs.declared.statement.Stmt.{Stmt}
use Rattle.c_grammar.specs.declared.statement.Part.TheFolds.{fold-Stmt, fold-Part}
use Rattle.c_grammar.specs.declared.statement.Part.TheOpen as o
use Rattle.c_grammar.specs.declared.statement.ExternalDeclaration.{ExternalDeclaration}
use Rattle.c_grammar.specs.declared.statement.ExternalDeclaration.TheVariants as external
use Rattle.c_grammar.specs.declared.statement.Tree.{Tree}
use Rattle.c_grammar.specs.declared.statement.Value.{Value}
use Rattle.c_grammar.specs.Tree as t
use Rattle.c_grammar.specs.View.{view, place_view}

-- of things with commas between them
abbrev pub comma_list_view : {A B : Type 0} → (A → B) → CommaList A → t.CommaList B
comma_list_view one list = t.comma_list (one list.first) (map (λ behind. (behind.comma, one behind.item)) list.more.items)

-- of an argument
abbrev pub argument_view : Argument → t.Argument
argument_view (argument.Text at) = t.text at
argument_view (argument.Address mark place) = t.address mark (place_view place)
argument_view (argument.Value expr) = t.value (view expr)

-- of a call
abbrev pub call_view : WrittenCall → t.WrittenCall
call_view call = record {
  name = call.name;
  opening = call.opening;
  arguments = option_map (comma_list_view argument_view) call.arguments;
  closing = call.closing;
}

-- of a right side
abbrev pub right_view : Right → t.Right
right_view (right.Call call) = t.called (call_view call)
right_view (right.Value expr) = t.valued (view expr)

-- of a simple statement
abbrev pub simple_view : Simple → t.Simple
simple_view (simple.Assign place operator at right) = t.assign (place_view place) operator at (right_view right)
simple_view (simple.After place operator at) = t.after (place_view place) operator at
simple_view (simple.Before operator at place) = t.before operator at (place_view place)
simple_view (simple.Call call) = t.invoke (call_view call)

-- of an initializer
abbrev pub initial_view : Initializer → t.Initializer
initial_view (initial.Right mark right) = t.begun mark (right_view right)
initial_view (initial.Braced mark opening values closing) = t.braced mark opening (comma_list_view view values) closing

-- of a declarator with its initializer
abbrev pub item_view : InitDeclarator → t.InitDeclarator
item_view item = record { place = place_view item.place; initial = option_map initial_view item.initial }

-- of a declaration
abbrev pub declaration_view : Declaration → t.Declaration
declaration_view one = record { kind = one.kind; at = one.at; items = comma_list_view item_view one.items }

-- of how a for begins
abbrev pub start_view : ForStart → t.ForStart
start_view start.Nothing = t.no_start
start_view (start.Declaration declaration) = t.declared_start (declaration_view declaration)
start_view (start.Simple simple) = t.simple_start (simple_view simple)

-- parts from a list of them
abbrev pub parts_from : List t.Part → t.Parts
parts_from [] = t.no_part
parts_from (p ∷ ps) = t.part p (parts_from ps)

-- of one layer of a statement
abbrev pub stmt_step : o.Stmt-F t.Part t.Stmt → t.Stmt
stmt_step (o.Block opening parts closing) = t.block opening (parts_from parts.items) closing
stmt_step (o.Empty at) = t.empty at
stmt_step (o.Simple simple end) = t.simple (simple_view simple) end
stmt_step (o.Break keyword end) = t.break keyword end
stmt_step (o.Continue keyword end) = t.continue keyword end
stmt_step (o.Return keyword value end) = t.return keyword (option_map right_view value) end
stmt_step (o.If keyword opening test closing then) = t.if_only keyword opening (view test) closing then.value
stmt_step (o.IfElse keyword opening test closing then else_keyword other) =
    t.if_else keyword opening (view test) closing then.value else_keyword other.value
stmt_step (o.While keyword opening test closing body) = t.while keyword opening (view test) closing body.value
stmt_step (o.Do keyword body while_keyword opening test closing end) =
    t.do_while keyword body.value while_keyword opening (view test) closing end
stmt_step (o.For keyword opening start start_end test test_end step closing body) =
    t.for keyword opening (start_view start) start_end (option_map view test) test_end (option_map simple_view step) closing body.value

-- of one layer of a part
abbrev pub part_step : o.Part-F t.Part t.Stmt → t.Part
part_step (o.Declaration declaration end) = t.declare (declaration_view declaration) end
part_step (o.Stmt inner) = t.stmt inner

-- of a statement
unfoldable pub stmt_view : Stmt → t.Stmt
stmt_view = fold-Stmt t.Part t.Stmt part_step stmt_step

-- of a part of a block
unfoldable pub part_view : Part → t.Part
part_view = fold-Part t.Part t.Stmt part_step stmt_step

-- of the parts of a block
abbrev pub parts_view : List Part → t.Parts
parts_view parts = parts_from (map part_view parts)

-- of a parameter
abbrev pub parameter_view : Parameter → t.Parameter
parameter_view (parameter.Int keyword name) = t.int keyword name
parameter_view (parameter.Array keyword name opening length closing) = t.array keyword name opening (option_map view length) closing
parameter_view (parameter.Pointer keyword star name) = t.pointer keyword star name
parameter_view (parameter.Communicator keyword name) = t.communicator keyword name
parameter_view (parameter.TextPointers keyword star second name) = t.text_pointers keyword star second name
parameter_view (parameter.TextArray keyword star name opening closing) = t.text_array keyword star name opening closing

-- of parameters
abbrev pub parameters_view : Parameters → t.Parameters
parameters_view parameters.Nothing = t.no_parameter
parameters_view (parameters.Void at) = t.void at
parameters_view (parameters.Listed list) = t.parameters (comma_list_view parameter_view list)

-- of a function's head
abbrev pub head_view : Head → t.Head
head_view head = record {
  result = head.result;
  at = head.at;
  name = head.name;
  opening = head.opening;
  listed = parameters_view head.parameters;
  closing = head.closing;
}

-- of the value of a define
abbrev pub value_view : Value → t.Value
value_view value = record { opens = value.opens.items; minus = value.minus; number = value.number; closes = value.closes.items }

-- of an external declaration
abbrev pub external_view : ExternalDeclaration → t.ExternalDeclaration
external_view (external.Define keyword name value end) = t.define keyword name (value_view value) end
external_view (external.Function head opening parts closing) = t.function (head_view head) opening (parts_view parts.items) closing
external_view (external.Prototype head end) = t.prototype (head_view head) end

-- a whole program
abbrev pub tree_view : Tree → t.Tree
tree_view tree = map external_view tree.externals.items

use Rattle.std.proofs.Common.{◌≡◌, ◌∙◌, ℕ, List, Ok, ap, option_map, subst}
use Rattle.std.specs.declared.alloc.AllocError.{AllocError}
use Rattle.c_grammar.specs.Tree as t
use Rattle.c_grammar.specs.StmtView.{item_view}
use Rattle.c_grammar.specs.declared.terminal.Span.{Span}
use Rattle.c_names.specs.declared.kind.VariableKind.{VariableKind}
use Rattle.c_program.specs.Tree as pure
use Rattle.c_program.specs.View.{pure_initial, pure_item}
use Rattle.c_scope.specs.Kinds.{place_first_token}
use Rattle.c_scope.specs.Scopes.{Env, declare, token_bytes, twice_faults}
use Rattle.c_scope.specs.Typing.{Typing, also, both}
use Rattle.c_scope.specs.Walks.{Gives}
use Rattle.c_scope.specs.declared.meaning.Entity.{Entity}
use Rattle.c_type_stmt.specs.Declarations.{declared_entity}
use Rattle.c_type_stmt.specs.StmtTyping.{initial_typing, item_typing, length_typing}
use Rattle.c_scope.proofs.JoinRules.{walked_pair, walked_plain}
use Rattle.c_scope.proofs.OwnFaults.{gives_told_as}
use Rattle.c_type_stmt.proofs.declaration.item_of.Goals as goal

-- a variable whose name, entity, bytes and scope are these
abbrev typed_as : Env → VariableKind → t.InitDeclarator → Env → Span → Entity → List ℕ → Typing pure.TypedInitDeclarator
typed_as env kind item now span entity bytes =
    also (twice_faults env span)
    (both (λ length initial. record { name = bytes; kind = kind; length = length; initial = initial }) (length_typing env item.place) (initial_typing now span entity item.initial))

typed_same : (env : Env) (kind : VariableKind) (item : t.InitDeclarator) (now : Env) (span : Span) (entity : Entity) (bytes : List ℕ)
    → span ≡ place_first_token item.place → entity ≡ declared_entity env kind item.place → now ≡ declare env span entity → bytes ≡ token_bytes env.text span
    → typed_as env kind item now span entity bytes ≡ item_typing env kind item
typed_same env kind item now span entity bytes s e n b =
    ap (λ one. typed_as env kind item now span entity one) b
    ∙ ap (λ after. typed_as env kind item after span entity (token_bytes env.text span)) n
    ∙ ap (λ one. typed_as env kind item (declare env span one) span one (token_bytes env.text span)) e
    ∙ ap (λ at. typed_as env kind item (declare env at (declared_entity env kind item.place)) at (declared_entity env kind item.place) (token_bytes env.text at)) s

pub returns-clause-typed : goal.returns-clause-typed
returns-clause-typed c =
    let env = c.args.scope.now in let kind = c.args.kind in let item = item_view c.args.one.now in let now = c.declare.new.self in
    let span = c.place_first_token-span.result in let entity = c.declared_entity-entity.result in
    subst (λ t. Gives c.args.best.now c.unless_told.new.best (option_map pure_item c.unless_told.result) t)
    (typed_same env kind item now span entity c.in_ok-name.name c.place_first_token-span.ensures c.declared_entity-entity.ensures c.in_ok-declare.ensures
    (c.in_ok-name.ensures ∙ c.token_bytes.ensures ∙ ap (λ text. token_bytes text span) (c.text.ensures ∙ ap (λ (one : Env). one.text) c.in_ok-declare.ensures)))
    (gives_told_as c.in_ok-found.found pure_item (twice_faults env span)
    (both (λ length initial. record { name = c.in_ok-name.name; kind = kind; length = length; initial = initial }) (length_typing env item.place) (initial_typing now span entity item.initial))
    (walked_pair _ _ _ (λ form. form) pure_initial pure_item (λ length initial. record { name = c.in_ok-name.name; kind = kind; length = length; initial = initial })
    (length_typing env item.place) (initial_typing now span entity item.initial) (Ok c.length_in-length.result) c.initial_of-initial.result c.both.result (Ok c.in_ok-found.found)
    (walked_plain AllocError _ _ c.length_in-length.result (length_typing env item.place) c.length_in-length.ensures) c.initial_of-initial.ensures c.both.ensures c.in_ok-found.ensures)
    c.want_free.ensures c.unless_told.ensures.best c.unless_told.ensures.form)

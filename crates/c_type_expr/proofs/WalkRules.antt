-- What walks over expressions give, from what the walks over their parts give.
use Rattle.std.proofs.Common.{◌≡◌, ◌∙◌, ◌+◌, ◌<◌, ◌≤◌, ℕ, ℤ, Bool, true, false, List, [], ◌∷◌, length, drop, get_or, map, Option, Some, None, option_map, refl, ap}
use Rattle.c_lex.specs.declared.fault.Why.TheVariants.{WrongType}
use Rattle.c_grammar.specs.declared.terminal.Span.{Span}
use Rattle.c_grammar.specs.declared.tree.Link as source_link
use Rattle.c_grammar.specs.View.{links_from, piece, view}
use Rattle.c_names.specs.declared.kind.VariableKind.TheVariants.{Int}
use Rattle.c_names.specs.declared.operator.Operator.{Operator}
use Rattle.c_program.specs.Tree as pure
use Rattle.c_program.specs.Tree.{TypedLinks}
use Rattle.c_program.specs.View.{TypedPiece, pure_expr, pure_link, typed_links}
use Rattle.c_program.specs.declared.expr.TypedExpr as typed_expr
use Rattle.c_program.specs.declared.expr.TypedExpr.TheVariants as te
use Rattle.c_program.specs.declared.expr.TypedLink.{TypedLink}
use Rattle.c_program.proofs.Viewed.{pure-number}
use Rattle.c_scope.specs.Constants.{operator_of}
use Rattle.c_scope.specs.Kinds.{first_token, kind_faults, kind_fits, kind_of}
use Rattle.c_scope.specs.Least.{least_fault_from, fault_unless}
use Rattle.c_scope.specs.Scopes.{Env}
use Rattle.c_scope.specs.Typing.{Typing, typed, faulty, also, both, onto}
use Rattle.c_scope.specs.Walks.{Gives, are_none, if_so}
use Rattle.c_scope.specs.declared.fault.TypingFault.{TypingFault}
use Rattle.c_scope.specs.declared.meaning.ExprKind.{ExprKind}
use Rattle.c_scope.specs.declared.meaning.ExprKind.TheVariants.{Of}
use Rattle.c_scope.proofs.Gives.{gives_also, gives_form, gives_onto, gives_unless}
use Rattle.c_scope.proofs.JoinRules.{placed}
use Rattle.c_scope.proofs.Lists.{drop_at, drop_past}
use Rattle.c_type_expr.specs.ExprTyping.{expr_typing, links_typing}
use Rattle.c_type_expr.specs.Operands.{operand_faults}

-- ---- kinds and numbers

so_map : {A B : Type 0} (f : A → B) (well : Bool) (found : Option A) → option_map f (if_so well found) ≡ if_so well (option_map f found)
so_map f true found = refl
so_map f false found = refl

-- where a kind is wanted
pub kind_rule : {A B : Type 0} (pure_form : A → B) (wanted given real : ExprKind) (at token : Span) (t : Typing B) (old mid new : Option TypingFault) (found result : Option A)
    → Gives old mid (option_map pure_form found) t → given ≡ real → at ≡ token
    → new ≡ least_fault_from mid (kind_faults wanted given at) → result ≡ if_so (kind_fits wanted given) found
    → Gives old new (option_map pure_form result) (also (kind_faults wanted real token) t)
kind_rule pure_form wanted given real at token t old mid new found result g k a n r =
    let told : new ≡ least_fault_from mid (fault_unless (kind_fits wanted real) token WrongType) =
    n ∙ ap (λ kind. least_fault_from mid (kind_faults wanted kind at)) k ∙ ap (λ one. least_fault_from mid (kind_faults wanted real one)) a
    in
    gives_form (gives_unless (kind_fits wanted real) token WrongType t g told)
    (ap (option_map pure_form) r ∙ so_map pure_form (kind_fits wanted given) found ∙ ap (λ kind. if_so (kind_fits wanted kind) (option_map pure_form found)) k)

-- a number
pub number_rule : (value number : ℤ) (old : Option TypingFault) → value ≡ number → Gives old old (Some (pure_expr (te.Number value))) (typed (pure.number number))
number_rule value number old e = record { best = refl; form = ap (λ one. Some one) (pure-number value ∙ ap pure.number e) }

-- ---- links

-- a link before others
abbrev pub before : TypedPiece → TypedLinks → TypedLinks
before one rest = pure.link one.operator one.operand rest

-- an operator and its operand, behind a left operand
abbrev pub link_typing : Env → ExprKind → Span → source_link.Link → Typing TypedPiece
link_typing env kind at link =
    onto (λ operand. record { operator = operator_of link.operator; operand = operand })
    (also (operand_faults link.operator kind at (kind_of env (view link.operand)) (first_token (view link.operand))) (expr_typing env (view link.operand)))

both_onto : {A B C D : Type 0} (form : B → C → D) (g : A → B) (s : Typing A) (t : Typing C) → both (λ x y. form (g x) y) s t ≡ both form (onto g s) t
both_onto form g (typed a) t = refl
both_onto form g (faulty one others) t = refl

-- what is left of links is one and the others
pub links_left : (env : Env) (kind : ExprKind) (at : Span) (links : List source_link.Link) (i : ℕ) (link : source_link.Link) → i < length links → link ≡ get_or links i link
    → links_typing env kind at (links_from (map piece (drop i links)))
    ≡ both before (link_typing env kind at link) (links_typing env (Of Int) at (links_from (map piece (drop (i + 1) links))))
links_left env kind at links i link lt is =
    ap (λ left. links_typing env kind at (links_from (map piece left))) (drop_at links i link lt is)
    ∙ both_onto before (λ operand. record { operator = operator_of link.operator; operand = operand })
    (also (operand_faults link.operator kind at (kind_of env (view link.operand)) (first_token (view link.operand))) (expr_typing env (view link.operand)))
    (links_typing env (Of Int) at (links_from (map piece (drop (i + 1) links))))

pub no_links_left : (env : Env) (kind : ExprKind) (at : Span) (links : List source_link.Link) (i : ℕ) → length links ≤ i
    → links_typing env kind at (links_from (map piece (drop i links))) ≡ typed pure.no_link
no_links_left env kind at links i past = ap (λ left. links_typing env kind at (links_from (map piece left))) (drop_past links i past)

pub links_placed : (links : List TypedPiece) → placed before links pure.no_link ≡ typed_links links
links_placed [] = refl
links_placed (one ∷ more) = ap (pure.link one.operator one.operand) (links_placed more)

linked_forms : (operator : Operator) (well : Bool) (operand : Option typed_expr.TypedExpr)
    → option_map {U = TypedPiece} (λ one. record { operator = operator; operand = pure_expr one }) (if_so well operand)
    ≡ option_map (λ one. record { operator = operator; operand = one }) (if_so well (option_map pure_expr operand))
linked_forms operator true None = refl
linked_forms operator true (Some operand) = refl
linked_forms operator false operand = refl

pub link_rule : (env : Env) (kind : ExprKind) (at : Span) (link : source_link.Link) (old mid new : Option TypingFault) (found fit : Option typed_expr.TypedExpr) (result : Option TypedLink)
    → Gives old mid (option_map pure_expr found) (expr_typing env (view link.operand))
    → new ≡ least_fault_from mid (operand_faults link.operator kind at (kind_of env (view link.operand)) (first_token (view link.operand)))
    → fit ≡ if_so (are_none (operand_faults link.operator kind at (kind_of env (view link.operand)) (first_token (view link.operand)))) found
    → option_map pure_link result ≡ option_map (λ one. record { operator = operator_of link.operator; operand = pure_expr one }) fit
    → Gives old new (option_map pure_link result) (link_typing env kind at link)
link_rule env kind at link old mid new found fit result g n w r =
    let pair = operand_faults link.operator kind at (kind_of env (view link.operand)) (first_token (view link.operand)) in
    gives_form
    (gives_onto (λ operand. record { operator = operator_of link.operator; operand = operand }) (also pair (expr_typing env (view link.operand)))
    (gives_also pair (expr_typing env (view link.operand)) g n))
    (r ∙ ap (option_map (λ one. record { operator = operator_of link.operator; operand = pure_expr one })) w ∙ linked_forms (operator_of link.operator) (are_none pair) found)

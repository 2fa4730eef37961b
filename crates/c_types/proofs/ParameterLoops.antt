-- One parameter more.
use Rattle.std.proofs.Common.{◌≡◌, ℕ, ◌+◌, ◌<◌, ◌≤◌, ◌++◌, Bool, false, List, [], ◌∷◌, length, drop, get_or, map, Option, Some, None, option_map, refl, sym, ◌∙◌, ap, append_assoc, subst}
use Rattle.std.proofs.lemmas.List.{append-nil}
use Rattle.c_grammar.specs.Tree as t
use Rattle.c_grammar.specs.declared.statement.AfterComma.{AfterComma}
use Rattle.c_grammar.specs.declared.statement.Parameter.{Parameter}
use Rattle.c_grammar.specs.declared.terminal.Span.{Span}
use Rattle.c_grammar.specs.declared.statement.CommaList.{CommaList}
use Rattle.c_grammar.specs.declared.statement.Parameters.{Parameters}
use Rattle.c_grammar.specs.declared.statement.Parameters.TheVariants as s
use Rattle.c_grammar.specs.StmtView.{parameter_view, parameters_view}
use Rattle.c_scope.specs.Signatures.{parameters_listed}
use Rattle.c_program.specs.declared.program.ParameterKind.{ParameterKind}
use Rattle.c_program.specs.declared.program.TypedParameter.{TypedParameter}
use Rattle.c_scope.specs.Least.{least_fault_from}
use Rattle.c_scope.specs.Scopes.{Env, token_bytes, twice_faults}
use Rattle.c_scope.specs.Typing.{Typing, typed}
use Rattle.c_scope.specs.Walks.{Gives, kept_form, merged, unless_fault, unless_faulty}
use Rattle.c_scope.specs.declared.fault.TypingFault.{TypingFault}
use Rattle.c_scope.proofs.Gives.{gives_form}
use Rattle.c_scope.proofs.Least.{least_from_append}
use Rattle.c_scope.proofs.Lists.{drop_at, drop_past}
use Rattle.c_scope.proofs.Walked.{both as both_faults}
use Rattle.c_scope.proofs.OwnFaults.{gives_told}
use Rattle.c_types.specs.ProgramTyping.{named_typing, parameter_typing, parameters_typing}
use Rattle.c_types.specs.Programs.{after_parameter, after_parameters, parameter_faults, prototype_faults}
use Rattle.c_types.proofs.Walks.{SoFar, so_far_first, so_far_last, so_far_next}

-- parameters behind a first one
abbrev pub behind_first : List (AfterComma Parameter) → List t.Parameter
behind_first more = map (λ (behind : Span × t.Parameter). behind.1) (map (λ behind. (behind.comma, parameter_view behind.item)) more)

pub behind_next : (more : List (AfterComma Parameter)) (i : ℕ) (one : AfterComma Parameter) → i < length more → one ≡ get_or more i one
    → behind_first (drop i more) ≡ parameter_view one.item ∷ behind_first (drop (i + 1) more)
behind_next more i one h e = ap behind_first (drop_at more i one h e)

pub prototype_next : (env : Env) (main : Bool) (best : Option TypingFault) (more : List (AfterComma Parameter)) (i : ℕ) (one : AfterComma Parameter)
    → i < length more → one ≡ get_or more i one
    → least_fault_from best (prototype_faults env main (behind_first (drop i more)))
    ≡ least_fault_from (least_fault_from best (parameter_faults env main (parameter_view one.item))) (prototype_faults env main (behind_first (drop (i + 1) more)))
prototype_next env main best more i one h e =
    ap (λ left. least_fault_from best (prototype_faults env main left)) (behind_next more i one h e)
    ∙ least_from_append best (parameter_faults env main (parameter_view one.item)) (prototype_faults env main (behind_first (drop (i + 1) more)))

pub prototype_end : (old mid best : Option TypingFault) (env : Env) (main : Bool) (list : CommaList Parameter) (parameters : Parameters) (items : List (AfterComma Parameter)) (n : ℕ)
    → parameters ≡ s.Listed list → items ≡ list.more.items → length items ≤ n → mid ≡ least_fault_from old (parameter_faults env main (parameter_view list.first))
    → least_fault_from best (prototype_faults env main (behind_first (drop n items))) ≡ least_fault_from mid (prototype_faults env main (behind_first items))
    → best ≡ least_fault_from old (prototype_faults env main (parameters_listed (parameters_view parameters)))
prototype_end old mid best env main list parameters items n is more h first i =
    sym (ap (λ left. least_fault_from best (prototype_faults env main (behind_first left))) (drop_past items n h)) ∙ i
    ∙ both_faults old mid (least_fault_from mid (prototype_faults env main (behind_first items))) (parameter_faults env main (parameter_view list.first)) (prototype_faults env main (behind_first items)) first refl
    ∙ ap (λ left. least_fault_from old (parameter_faults env main (parameter_view list.first) ++ prototype_faults env main (behind_first left))) more
    ∙ ap (λ one. least_fault_from old (prototype_faults env main (parameters_listed (parameters_view one)))) (sym is)

pub scope_next : (env next all : Env) (main : Bool) (more : List (AfterComma Parameter)) (i : ℕ) (one : AfterComma Parameter) → i < length more → one ≡ get_or more i one
    → next ≡ after_parameter env main (parameter_view one.item) → after_parameters env main (behind_first (drop i more)) ≡ all
    → after_parameters next main (behind_first (drop (i + 1) more)) ≡ all
scope_next env next all main more i one h e n before =
    ap (λ one. after_parameters one main (behind_first (drop (i + 1) more))) n
    ∙ sym (ap (λ left. after_parameters env main left) (behind_next more i one h e)) ∙ before

-- parameters so far, and one more
abbrev pub TypedSoFar : Option TypingFault → Option TypingFault → Option (List TypedParameter) → Typing (List TypedParameter) → Typing (List TypedParameter) → Type 0
TypedSoFar old best forms left whole = SoFar ◌++◌ old best forms left whole

pub typed_next : {old best new : Option TypingFault} (env next : Env) (main : Bool) (left others : List t.Parameter) (one : t.Parameter)
    (forms : Option (List TypedParameter)) {more : Option (List TypedParameter)} {found : Option TypedParameter} (whole : Typing (List TypedParameter))
    → left ≡ one ∷ others → next ≡ after_parameter env main one → TypedSoFar old best forms (parameters_typing env main left) whole
    → Gives best new found (parameter_typing env main one) → more ≡ kept_form forms found → TypedSoFar old new more (parameters_typing next main others) whole
typed_next {old} {best} {new} env next main left others one forms {more} {found} whole l n so_far g k =
    subst (λ scope. TypedSoFar old new more (parameters_typing scope main others) whole) (sym n)
    (so_far_next (λ all last. all ++ last ∷ []) (λ first all. first ∷ all) ◌++◌ (λ all last more. append_assoc all (last ∷ []) more) forms (parameter_typing env main one)
    (parameters_typing (after_parameter env main one) main others) whole
    (subst (λ parameters. TypedSoFar old best forms (parameters_typing env main parameters) whole) l so_far) g k)

-- the first one
pub typed_first : {old new : Option TypingFault} {more : Option (List TypedParameter)} {found : Option TypedParameter} (env next : Env) (main : Bool) (one : t.Parameter)
    (others all : List t.Parameter) (none : List TypedParameter) → none ≡ [] → others ≡ all → next ≡ after_parameter env main one → Gives old new found (parameter_typing env main one)
    → more ≡ kept_form (unless_faulty false none) found → TypedSoFar old new more (parameters_typing next main others) (parameters_typing env main (one ∷ all))
typed_first {old} {new} {more} {found} env next main one others all none z o n g k =
    let whole = parameters_typing env main (one ∷ all) in
    typed_next env next main (one ∷ all) others one (Some []) whole (ap (λ left. one ∷ left) (sym o)) n (so_far_first ◌++◌ [] (λ all. refl) old whole) g
    (k ∙ ap (λ forms. kept_form (Some forms) found) z)

pub typed_last : {old best : Option TypingFault} {forms : Option (List TypedParameter)} (env : Env) (main : Bool) (items : List (AfterComma Parameter)) (n : ℕ) (so_far : Option (List TypedParameter))
    (whole : Typing (List TypedParameter)) → length items ≤ n → TypedSoFar old best so_far (parameters_typing env main (behind_first (drop n items))) whole → forms ≡ so_far
    → Gives old best forms whole
typed_last {old} {best} {forms} env main items n so_far whole h given e =
    gives_form (so_far_last ◌++◌ so_far [] whole (subst (λ left. TypedSoFar old best so_far (parameters_typing env main (behind_first left)) whole) (drop_past items n h) given))
    (e ∙ sym (all_there so_far))
  where
    all_there : (forms : Option (List TypedParameter)) → option_map (λ all. all ++ []) forms ≡ forms
    all_there None = refl
    all_there (Some all) = ap (λ one. Some one) (append-nil all)

-- ---- one parameter

pub named_told : {old new own : Option TypingFault} {found : Option TypedParameter} (env : Env) (at : Span) (kind : ParameterKind) (name : Option Span) (span : Span) (form : TypedParameter)
    → Some span ≡ name → form ≡ record { name = token_bytes env.text span; kind = kind } → own ≡ least_fault_from None (twice_faults env span) → new ≡ merged old own
    → found ≡ unless_fault own (Some form) → Gives old new found (named_typing env at kind name)
named_told {old} {new} {own} {found} env at kind name span form s f o n e =
    subst (λ one. Gives old new found (named_typing env at kind one)) s
    (gives_told (twice_faults env span) (typed (record { name = token_bytes env.text span; kind = kind })) (record { best = refl; form = ap (λ one. Some one) f }) o n e)

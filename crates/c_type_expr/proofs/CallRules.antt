-- The arguments between the commas of a call, one after another.
use Rattle.std.proofs.Common.{◌≡◌, ◌∙◌, ◌++◌, ◌+◌, ◌<◌, ◌≤◌, ℕ, Bool, true, false, if◌then◌else◌, Option, Some, None, option_map, Bor, List, [], ◌∷◌, length, drop, get_or, map, refl, sym, ap, arith, take, ◌-◌, append_assoc, append-nil}
use Rattle.std.proofs.lemmas.List.{map-append, take_all}
use Rattle.c_grammar.specs.declared.statement.AfterComma.{AfterComma}
use Rattle.c_grammar.specs.declared.statement.Argument.{Argument}
use Rattle.c_grammar.specs.declared.statement.CommaList.{CommaList}
use Rattle.c_grammar.specs.declared.terminal.Span.{Span}
use Rattle.c_grammar.specs.StmtView.{argument_view, comma_list_view}
use Rattle.c_grammar.specs.Tree as t
use Rattle.c_scope.proofs.Lists.{drop_at, drop_past}
use Rattle.c_scope.specs.Signatures.{listed}
use Rattle.c_scope.specs.Typing.{Typing, behind, refused}
use Rattle.c_scope.specs.Walks.{Gives, if_both}
use Rattle.c_scope.specs.declared.fault.TypingFault.{TypingFault}
use Rattle.c_scope.proofs.Gives.{gives_both, gives_form}
use Rattle.c_lex.specs.declared.fault.Why.{Why}

-- what stands behind commas
abbrev pub behind_commas : List (AfterComma Argument) → List t.Argument
behind_commas more = map (λ (behind : AfterComma Argument). argument_view behind.item) more

-- what references lead to
abbrev pub referred : List (Bor Argument) → List t.Argument
referred given = map (λ (one : Bor Argument). argument_view one.now) given

pub arguments_first : (none now : List (Bor Argument)) (one : Bor Argument) (more : List (AfterComma Argument)) → none ≡ [] → now ≡ none ++ one ∷ []
    → referred now ++ behind_commas more ≡ argument_view one.now ∷ behind_commas more
arguments_first none now one more e pushed = ap (λ l. referred l ++ behind_commas more) (pushed ∙ ap (λ l. l ++ one ∷ []) e)

pub arguments_more : (given : List (Bor Argument)) (more : List (AfterComma Argument)) (i : ℕ) (one : Bor Argument) (behind : AfterComma Argument) (now : List (Bor Argument)) (whole : List t.Argument)
    → i < length more → behind ≡ get_or more i behind → argument_view one.now ≡ argument_view behind.item → now ≡ given ++ one ∷ []
    → referred given ++ behind_commas (drop i more) ≡ whole → referred now ++ behind_commas (drop (i + 1) more) ≡ whole
arguments_more given more i one behind now whole lt is same pushed h =
    ap (λ l. referred l ++ behind_commas (drop (i + 1) more)) pushed
    ∙ ap (λ l. l ++ behind_commas (drop (i + 1) more)) (map-append (λ (one : Bor Argument). argument_view one.now) given (one ∷ []))
    ∙ append_assoc (referred given) (argument_view one.now ∷ []) (behind_commas (drop (i + 1) more))
    ∙ ap (λ x. referred given ++ x ∷ behind_commas (drop (i + 1) more)) same
    ∙ ap (λ l. referred given ++ behind_commas l) (sym (drop_at more i behind lt is))
    ∙ h

more_viewed : (more : List (AfterComma Argument)) → behind_commas more ≡ map (λ (behind : Span × t.Argument). behind.1) (map (λ (behind : AfterComma Argument). (behind.comma, argument_view behind.item)) more)
more_viewed [] = refl
more_viewed (b ∷ bs) = ap (λ xs. argument_view b.item ∷ xs) (more_viewed bs)

pub arguments_all : (given : List (Bor Argument)) (list : CommaList Argument) (more : List (AfterComma Argument)) (i : ℕ) → length more ≤ i → more ≡ list.more.items
    → referred given ++ behind_commas (drop i more) ≡ argument_view list.first ∷ behind_commas more → referred given ≡ listed (comma_list_view argument_view list)
arguments_all given list more i past are h =
    sym (append-nil (referred given)) ∙ ap (λ l. referred given ++ behind_commas l) (sym (drop_past more i past)) ∙ h
    ∙ ap (λ l. argument_view list.first ∷ l) (ap behind_commas are ∙ more_viewed list.more.items)

-- ---- calls that are no values

none_behind : {A B : Type 0} (a : Option A) (b : Option B) → b ≡ None → b ≡ if_both (λ x y. y) a b
none_behind a b e = e ∙ sym (ap (λ one. if_both (λ x y. y) a one) e ∙ no_second a)
  where
    no_second : {A B : Type 0} (a : Option A) → if_both {B = B} (λ x y. y) a None ≡ None
    no_second None = refl
    no_second (Some x) = refl

-- what a walk gave, and a fault behind it
pub behind_refused : {A B T : Type 0} (g : T → B) (s : Typing A) (at : Span) (why : Why) (old mid new : Option TypingFault) (found : Option A) (none : Option T)
    → Gives old mid found s → Gives mid new none (refused at why) → Gives old new (option_map g none) (behind s (refused at why))
behind_refused g s at why old mid new found none h k =
    gives_form (gives_both (λ x y. y) s (refused at why) h (record { best = k.best; form = ap (option_map g) k.form }))
    (none_behind found (option_map g none) (ap (option_map g) k.form))

pub else_given : {T : Type 0} (P : T → Type 0) (b c : Bool) (x y : T) → c ≡ b → c ≡ false → P y → P (if b then x else y)
else_given P b c x y e f p = rw (sym e, f) p

pub then_given : {T : Type 0} (P : T → Type 0) (b c : Bool) (x y : T) → c ≡ b → c ≡ true → P x → P (if b then x else y)
then_given P b c x y e f p = rw (sym e, f) p

-- ---- a first argument and the others

-- a list by its first one and a slice of the others
pub first_and_others : (given : List (Bor Argument)) (first : Bor Argument) → 1 ≤ length given → first ≡ get_or given 0 first → given ≡ first ∷ take (length given - 1) (drop 1 given)
first_and_others [] first h e = absurd (omega (arith, h))
first_and_others (one ∷ others) first h e =
    let same : length (one ∷ others) - 1 ≡ length others = omega arith in
    ap (λ x. x ∷ others) (sym e) ∙ ap (λ l. first ∷ l) (sym (take_all (length others) others (omega arith))) ∙ ap (λ n. first ∷ take n others) (sym same)

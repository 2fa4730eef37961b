-- Laws of the names and forms of the commands.
use Rattle.std.proofs.Common.{◌≡◌, ◌≢◌, ◌≤◌, ◌-◌, ◌∙◌, ap, arith, refl, sym, true, false, Bool, cond, Option, Some, None, List, [], ◌∷◌, drop, find, fold, get_or, length, map, slice_get, take, Bor}
use Rattle.std.proofs.Math.Seq.{take-length}
use Rattle.std.specs.Prelude.{MatchOption, option_map}
use Rattle.std.specs.Str.{bytes_eq}
use Rattle.std.proofs.lemmas.Option.{slice_get-map}
use Rattle.std.proofs.lemmas.Slice.Eq.{bytes_eq-Decides}
use Rattle.clap.specs.Words.{AddsArg, App, Row, Text, app_of, fault_of, is_simple_and_free, matches_of, new_app, rule_of, with_rule}
use Rattle.clap.specs.declared.builder.arg.Arg.{Arg}
use Rattle.clap.specs.declared.builder.command.Command.{Command as Form}
use Rattle.clap.proofs.OnLiterals.{clap_on_literals}
use Rattle.wiz_words.specs.declared.command.Command.{Command}
use Rattle.wiz_words.specs.declared.command.Verb.{Verb}
use Rattle.wiz_words.specs.declared.command.Verb.TheVariants.{Record, Check, Races, Advise, Demo, Replay, Show, Stats, Convert, Refine, Join, Diff, Waits, Picture, Watch, At, Where, Explore}
use Rattle.wiz_words.specs.declared.forms.Form.{Form as FormRow}
use Rattle.wiz_words.specs.declared.forms.FormPart.{FormPart}
use Rattle.wiz_words.specs.Forms.{IsForm, form_of, verb_name, rule_by, verb_named, verbs}
use Rattle.wiz_words.specs.Texts.{texts, with_texts}
use Rattle.wiz_words.specs.Words.{AskFor, AskForNothing, IsCommandIn, verb_of}

-- the first part is added to a form, and the others are left
pub one_more : (whole : App) (form more : Form) (argument : Arg) (parts : List FormPart) (other : FormPart) → 1 ≤ length parts
    → rule_of argument ≡ rule_by (get_or parts 0 other) → AddsArg form argument more → argument.global ≡ false → fold with_rule (app_of form) (map rule_by parts) ≡ whole
    → fold with_rule (app_of more) (map rule_by (take (length parts - 1) (drop 1 parts))) ≡ whole
one_more whole form more argument [] other some rule adds local so_far = absurd (omega arith)
one_more whole form more argument (first ∷ after) other some rule adds local so_far =
    let less : length (first ∷ after) - 1 ≡ length after = omega arith in
    rw (less, take-length after, adds.shape local, rule) so_far

-- the form that is made of a row is that of its command
pub form_is : (app : App) (form : FormRow) → IsForm form → app ≡ fold with_rule (new_app form.name.now) (map rule_by form.parts.now) → app ≡ form_of form.verb
form_is app form is made = rw (made, is.name_is, is.rules_are) refl

-- clap's exact reading covers each form
pub form_is_simple : (verb : Verb) → is_simple_and_free (form_of verb) ≡ true
unfolding clap_on_literals
form_is_simple Record = refl
form_is_simple Check = refl
form_is_simple Races = refl
form_is_simple Advise = refl
form_is_simple Demo = refl
form_is_simple Replay = refl
form_is_simple Show = refl
form_is_simple Stats = refl
form_is_simple Convert = refl
form_is_simple Refine = refl
form_is_simple Join = refl
form_is_simple Diff = refl
form_is_simple Waits = refl
form_is_simple Picture = refl
form_is_simple Watch = refl
form_is_simple At = refl
form_is_simple Where = refl
form_is_simple Explore = refl

-- each command is that of its name
verb_of_name : (verb : Verb) → verb_named (verb_name verb) ≡ Some verb
verb_of_name Record = refl
verb_of_name Check = refl
verb_of_name Races = refl
verb_of_name Advise = refl
verb_of_name Demo = refl
verb_of_name Replay = refl
verb_of_name Show = refl
verb_of_name Stats = refl
verb_of_name Convert = refl
verb_of_name Refine = refl
verb_of_name Join = refl
verb_of_name Diff = refl
verb_of_name Waits = refl
verb_of_name Picture = refl
verb_of_name Watch = refl
verb_of_name At = refl
verb_of_name Where = refl
verb_of_name Explore = refl

pub some_is : {A : Type 0} (a b : A) → Some a ≡ Some b → a ≡ b
some_is a b h = cc

-- what is found passes the test
found_passes : {A : Type 0} (test : A → Bool) (xs : List A) (x : A) → find test xs ≡ Some x → test x ≡ true
found_passes test [] x found = absurd (cc)
found_passes test (y ∷ ys) x found = go (test y) refl found (found_passes test ys x)
  where
    go : (b : Bool) → test y ≡ b → cond b (Some y) (find test ys) ≡ Some x → (find test ys ≡ Some x → test x ≡ true) → test x ≡ true
    go true is here later = sym (ap test (some_is y x here)) ∙ is
    go false is here later = later here

name_is : (name : Text) (verb : Verb) → verb_named name ≡ Some verb → name ≡ verb_name verb
name_is name verb found = (bytes_eq-Decides name (verb_name verb)).0 (found_passes (λ (v : Verb). bytes_eq name (verb_name v)) verbs verb found)

one_verb : (a b : Verb) → verb_name a ≡ verb_name b → a ≡ b
one_verb a b same = some_is a b (sym (verb_of_name a) ∙ (ap verb_named same ∙ verb_of_name b))

-- the arguments begin with the name of this command
abbrev pub BeginWith : List Text → Verb → Type 0
BeginWith words verb = slice_get words 0 ≡ Some (verb_name verb)

first_text : (words : List (Bor Text)) (name : Bor Text) → Some name ≡ slice_get words 0 → slice_get (texts words) 0 ≡ Some name.now
first_text words name first = slice_get-map (λ (word : Bor Text). word.now) words 0 ∙ ap (option_map (λ (word : Bor Text). word.now)) (sym first)

pub begin_with : (words : List (Bor Text)) (name : Bor Text) (verb : Verb) → Some name ≡ slice_get words 0 → Some verb ≡ verb_named name.now
    → BeginWith (texts words) verb
begin_with words name verb first found = first_text words name first ∙ ap Some (name_is name.now verb (sym found))

-- what such arguments ask for is this command
pub verb_is : (words : List Text) (command : Command Text) (verb : Verb) → AskFor words command → BeginWith words verb → verb_of command ≡ verb
verb_is words command verb asks begin = one_verb (verb_of command) verb (some_is _ _ (sym asks.begin ∙ begin))

-- arguments whose first names no command ask for nothing
pub unnamed : (words : List (Bor Text)) (name : Bor Text) → Some name ≡ slice_get words 0 → None ≡ verb_named name.now → AskForNothing (texts words)
unnamed words name first none command asks =
    let same : name.now ≡ verb_name (verb_of command) = some_is _ _ (sym (first_text words name first) ∙ asks.begin) in
    let found : None ≡ Some (verb_of command) = none ∙ (ap verb_named same ∙ verb_of_name (verb_of command)) in
    absurd (cc)

-- arguments that the form refuses ask for nothing
pub refused : (words : List Text) (verb : Verb) (form : App) → BeginWith words verb → form ≡ form_of verb → fault_of form words ≢ [] → AskForNothing words
refused words verb form begin is faults command asks =
    let same = verb_is words command verb asks begin in
    faults (ap (λ (f : App). fault_of f words) (is ∙ ap form_of (sym same)) ∙ asks.accepted)

-- and others ask for what the values say
pub asked_by : (words : List Text) (verb : Verb) (form : App) (given : List Row) (found : Option (Command (Bor Text))) → BeginWith words verb → form ≡ form_of verb
    → fault_of form words ≡ [] → given ≡ matches_of form words
    → IsCommandIn given verb found
    → MatchOption found (AskForNothing words) (λ command. AskFor words (with_texts command))
asked_by words verb form given None begin is accepted given_is said = λ command asks.
    let same = verb_is words command verb asks begin in
    said command same (rw (given_is, is, ← same) asks.says)
asked_by words verb form given (Some command) begin is accepted given_is said = record {
  begin = rw said.0 begin;
  accepted = rw (said.0, ← is) accepted;
  says = rw (said.0, ← is, ← given_is) said.1;
}

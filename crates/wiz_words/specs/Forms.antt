-- The commands by name, and the arguments of each, in the terms of clap.
use Rattle.std.specs.Prelude.{◌≡◌, List, [], ◌∷◌, ◌++◌, Option, Some, true, codes, find, fold, map}
use Rattle.std.specs.Str.{bytes_eq}
use Rattle.clap.specs.Words.{App, Rule, Text, new_app, new_rule, with_rule}
use Rattle.clap.specs.declared.builder.action.ArgAction.TheVariants.{SetTrue}
use Rattle.wiz_words.specs.declared.command.Verb.{Verb}
use Rattle.wiz_words.specs.declared.command.Verb.TheVariants.{Record, Check, Races, Advise, Demo, Replay, Show, Stats, Convert, Refine, Join, Diff, Waits, Picture, Watch, At, Where, Explore}
use Rattle.wiz_words.specs.declared.forms.Form.{Form}
use Rattle.wiz_words.specs.declared.forms.FormPart.{FormPart}
use Rattle.wiz_words.specs.declared.forms.FormPart.TheVariants.{Positional, Valued, Flag}

-- the first word of each command
abbrev pub verb_name : Verb → Text
verb_name Record = codes "record"
verb_name Check = codes "check"
verb_name Races = codes "races"
verb_name Advise = codes "advise"
verb_name Demo = codes "demo"
verb_name Replay = codes "replay"
verb_name Show = codes "show"
verb_name Stats = codes "stats"
verb_name Convert = codes "convert"
verb_name Refine = codes "refine"
verb_name Join = codes "join"
verb_name Diff = codes "diff"
verb_name Waits = codes "waits"
verb_name Picture = codes "picture"
verb_name Watch = codes "watch"
verb_name At = codes "at"
verb_name Where = codes "where"
verb_name Explore = codes "explore"

-- the commands, in the order in which help lists them
abbrev pub verbs : List Verb
verbs = Record ∷ Check ∷ Races ∷ Advise ∷ Demo ∷ Replay ∷ Show ∷ Stats ∷ Convert ∷ Refine ∷ Join ∷ Diff ∷ Waits ∷ Picture ∷ Watch ∷ At ∷ Where ∷ Explore ∷ []

-- the command of a name
abbrev pub verb_named : Text → Option Verb
verb_named name = find (λ verb. bytes_eq name (verb_name verb)) verbs

-- a value that has to be there, by its place
abbrev pub positional : Text → Rule
positional name = record (new_rule name) { required = true }

-- `--name VALUE` or `--name=VALUE`
abbrev pub option : Text → Rule
option name = record (new_rule name) { long = Some name }

-- `--name`
abbrev pub flag : Text → Rule
flag name = record (new_rule name) { long = Some name; action = Some SetTrue }

-- the rule of a part of a form
abbrev pub rule_by : FormPart → Rule
rule_by (Positional name) = positional name.now
rule_by (Valued name) = option name.now
rule_by (Flag name) = flag name.now

-- the arguments of a command that records a run and tells of it
abbrev pub arguments_of_run : List Rule
arguments_of_run = positional (codes "PROGRAM") ∷ positional (codes "PLAN") ∷ option (codes "order") ∷ flag (codes "serial") ∷ []

-- the arguments of each command, those by place in their order
abbrev pub verb_arguments : Verb → List Rule
verb_arguments Record =
    positional (codes "PROGRAM") ∷ positional (codes "PLAN") ∷ positional (codes "PREFIX") ∷ option (codes "order") ∷ flag (codes "serial") ∷ []
verb_arguments Check = positional (codes "PROGRAM") ∷ positional (codes "PLAN") ∷ flag (codes "serial") ∷ []
verb_arguments Races = arguments_of_run ++ option (codes "orders") ∷ []
verb_arguments Advise =
    positional (codes "PROGRAM") ∷ positional (codes "PLAN") ∷ positional (codes "K") ∷ option (codes "order") ∷ flag (codes "serial") ∷ []
verb_arguments Demo = positional (codes "SEED") ∷ positional (codes "ROUNDS") ∷ []
verb_arguments Replay = positional (codes "LOG") ∷ option (codes "program") ∷ option (codes "break") ∷ flag (codes "serial") ∷ []
verb_arguments Show = positional (codes "LOG") ∷ []
verb_arguments Stats = positional (codes "LOG") ∷ []
verb_arguments Convert = positional (codes "LOG") ∷ positional (codes "FILE") ∷ flag (codes "text") ∷ []
verb_arguments Refine = positional (codes "LOG") ∷ positional (codes "PLAN") ∷ positional (codes "PREFIX") ∷ []
verb_arguments Join = positional (codes "LOG") ∷ positional (codes "OTHER") ∷ positional (codes "FILE") ∷ []
verb_arguments Diff = positional (codes "LOG") ∷ positional (codes "OTHER") ∷ []
verb_arguments Waits = arguments_of_run
verb_arguments Picture =
    positional (codes "PROGRAM") ∷ positional (codes "PLAN") ∷ positional (codes "FILE") ∷ option (codes "order") ∷ flag (codes "trace") ∷ flag (codes "serial") ∷ []
verb_arguments Watch =
    positional (codes "LOG") ∷ positional (codes "RANK") ∷ positional (codes "NAME") ∷ option (codes "program") ∷ flag (codes "serial") ∷ []
verb_arguments At = positional (codes "LOG") ∷ positional (codes "break") ∷ option (codes "program") ∷ flag (codes "serial") ∷ []
verb_arguments Where = positional (codes "LOG") ∷ positional (codes "MESSAGE") ∷ option (codes "program") ∷ flag (codes "serial") ∷ []
verb_arguments Explore =
    positional (codes "PROGRAM") ∷ positional (codes "PLAN") ∷ positional (codes "PREFIX") ∷ option (codes "most") ∷ option (codes "polls") ∷ option (codes "under") ∷ []

-- the clap command that reads the arguments of a command: its name and its arguments, and no other setting
abbrev pub form_of : Verb → App
form_of verb = fold with_rule (new_app (verb_name verb)) (verb_arguments verb)

-- a row of the table of forms: it has the name of its command, and a part for each of its arguments
pub record IsForm (form : Form) : Type 0 where
  pub name_is : form.name.now ≡ verb_name form.verb
  pub rules_are : map rule_by form.parts.now ≡ verb_arguments form.verb

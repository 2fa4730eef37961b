-- The arguments of the commands.
use Rattle.std.specs.Prelude.{◌≡◌, ◌&&◌, List, [], Bool, false, true, not, is_some, Option, Some, None, codes, slice_get}
use Rattle.std.specs.Borrow.{Bor}
use Rattle.clap.specs.Words.{Row, Text, fault_of, matches_of}
use Rattle.wiz_words.specs.declared.command.Command.{Command}
use Rattle.wiz_words.specs.declared.command.Command.TheVariants.{Record, Check, Races, Advise, Demo, Replay, Show, Stats, Convert, Refine, Join, Diff, Waits, Picture, Watch, At, Where, Explore}
use Rattle.wiz_words.specs.declared.command.ReplayWords.{ReplayWords}
use Rattle.wiz_words.specs.declared.command.RunWords.{RunWords}
use Rattle.wiz_words.specs.declared.command.Verb.{Verb}
use Rattle.wiz_words.specs.declared.command.Verb.TheVariants as verb
use Rattle.wiz_words.specs.Forms.{form_of, verb_name}
use Rattle.wiz_words.specs.declared.limits.TheConstants.{FEWEST_POLLS, FEWEST_RANKS, FEWEST_ROUNDS, FEWEST_STATES, GREATEST_RANK, GREATEST_SEED, MOST_POLLS, MOST_ROUNDS, MOST_STATES, USUAL_POLLS, USUAL_STATES}
use Rattle.mpi_call.specs.declared.limits.TheConstants.{MOST_RANKS}
use Rattle.wiz_words.specs.Texts.{with_texts}
use Rattle.wiz_words.specs.Values.{IsBreakpoint, IsNameIn, IsNumberIn, IsNumberOr, flag_in, value_in}

-- the name of a command
abbrev pub verb_of : {T : Type 0} → Command T → Verb
verb_of (Record run prefix) = verb.Record
verb_of (Check run) = verb.Check
verb_of (Races run orders) = verb.Races
verb_of (Advise run most) = verb.Advise
verb_of (Demo seed rounds) = verb.Demo
verb_of (Replay replay) = verb.Replay
verb_of (Show log) = verb.Show
verb_of (Stats log) = verb.Stats
verb_of (Convert log file is_text) = verb.Convert
verb_of (Refine log plan prefix) = verb.Refine
verb_of (Join one other file) = verb.Join
verb_of (Diff one other) = verb.Diff
verb_of (Waits run) = verb.Waits
verb_of (Picture run file is_trace) = verb.Picture
verb_of (Watch replay rank name) = verb.Watch
verb_of (At replay) = verb.At
verb_of (Where replay source start) = verb.Where
verb_of (Explore run prefix most polls) = verb.Explore

-- what is given are the arguments of a run with that file for its order; an order and `--serial` exclude each other
pub record AreRunWords (given : List Row) (file : Option Text) (run : RunWords Text) : Type 0 where
  pub program : value_in given (codes "PROGRAM") ≡ Some run.program
  pub plan : value_in given (codes "PLAN") ≡ Some run.plan
  pub order : run.order ≡ file
  pub is_serial : run.is_serial ≡ flag_in given (codes "serial")
  pub not_both : (is_some run.order && run.is_serial) ≡ false

-- what is given are the arguments of a search, which is on one thread: the file of a search's first turns is its order
pub record AreSearchWords (given : List Row) (run : RunWords Text) : Type 0 where
  pub program : value_in given (codes "PROGRAM") ≡ Some run.program
  pub plan : value_in given (codes "PLAN") ≡ Some run.plan
  pub order : run.order ≡ value_in given (codes "under")
  pub is_serial : run.is_serial ≡ true

-- what is given are the arguments of a replay
pub record AreReplayWords (given : List Row) (replay : ReplayWords Text) : Type 0 where
  pub log : value_in given (codes "LOG") ≡ Some replay.log
  pub program : replay.program ≡ value_in given (codes "program")
  pub stop : IsBreakpoint (value_in given (codes "break")) replay.stop
  pub is_serial : replay.is_serial ≡ flag_in given (codes "serial")

-- what is given are the arguments of a command; the run of a check has no order
abbrev pub AreWordsOf : List Row → Command Text → Type 0
AreWordsOf given (Record run prefix) = AreRunWords given (value_in given (codes "order")) run × (value_in given (codes "PREFIX") ≡ Some prefix)
AreWordsOf given (Check run) = AreRunWords given None run
AreWordsOf given (Races run orders) =
    AreRunWords given (value_in given (codes "order")) run × (orders ≡ value_in given (codes "orders"))
AreWordsOf given (Advise run most) =
    AreRunWords given (value_in given (codes "order")) run × IsNumberIn given (codes "K") FEWEST_RANKS MOST_RANKS most
AreWordsOf given (Demo seed rounds) =
    IsNumberIn given (codes "SEED") 0 GREATEST_SEED seed × IsNumberIn given (codes "ROUNDS") FEWEST_ROUNDS MOST_ROUNDS rounds
AreWordsOf given (Replay replay) = AreReplayWords given replay
AreWordsOf given (Show log) = value_in given (codes "LOG") ≡ Some log
AreWordsOf given (Stats log) = value_in given (codes "LOG") ≡ Some log
AreWordsOf given (Convert log file is_text) =
    (value_in given (codes "LOG") ≡ Some log) × (value_in given (codes "FILE") ≡ Some file) × (is_text ≡ flag_in given (codes "text"))
AreWordsOf given (Refine log plan prefix) =
    (value_in given (codes "LOG") ≡ Some log) × (value_in given (codes "PLAN") ≡ Some plan) × (value_in given (codes "PREFIX") ≡ Some prefix)
AreWordsOf given (Join one other file) =
    (value_in given (codes "LOG") ≡ Some one) × (value_in given (codes "OTHER") ≡ Some other) × (value_in given (codes "FILE") ≡ Some file)
AreWordsOf given (Diff one other) = (value_in given (codes "LOG") ≡ Some one) × (value_in given (codes "OTHER") ≡ Some other)
AreWordsOf given (Waits run) = AreRunWords given (value_in given (codes "order")) run
AreWordsOf given (Picture run file is_trace) =
    AreRunWords given (value_in given (codes "order")) run × (value_in given (codes "FILE") ≡ Some file) × (is_trace ≡ flag_in given (codes "trace"))
AreWordsOf given (Watch replay rank name) =
    AreReplayWords given replay × IsNumberIn given (codes "RANK") 0 GREATEST_RANK rank × (value_in given (codes "NAME") ≡ Some name)
AreWordsOf given (At replay) = AreReplayWords given replay
AreWordsOf given (Where replay source start) = AreReplayWords given replay × IsNameIn given (codes "MESSAGE") (source, start)
AreWordsOf given (Explore run prefix most polls) =
    AreSearchWords given run × (value_in given (codes "PREFIX") ≡ Some prefix)
    × IsNumberOr given (codes "most") FEWEST_STATES MOST_STATES USUAL_STATES most
    × IsNumberOr given (codes "polls") FEWEST_POLLS MOST_POLLS USUAL_POLLS polls

-- what was found is the command of this name with the arguments that are given; nothing, where they are out of form
abbrev pub IsCommandIn : List Row → Verb → Option (Command (Bor Text)) → Type 0
IsCommandIn given name None = (command : Command Text) → verb_of command ≡ name → AreWordsOf given command → ⊥
IsCommandIn given name (Some command) = (verb_of (with_texts command) ≡ name) × AreWordsOf given (with_texts command)

-- the arguments ask for a command: the first is its name, clap takes the others by its form, and finds the arguments of this command
pub record AskFor (words : List Text) (command : Command Text) : Type 0 where
  pub begin : slice_get words 0 ≡ Some (verb_name (verb_of command))
  pub accepted : fault_of (form_of (verb_of command)) words ≡ []
  pub says : AreWordsOf (matches_of (form_of (verb_of command)) words) command

-- the arguments are in no command's form
abbrev pub AskForNothing : List Text → Type 0
AskForNothing words = (command : Command Text) → AskFor words command → ⊥

-- no arguments ask for two commands
abbrev pub AskForOneThing : Type 0
AskForOneThing = (words : List Text) (one other : Command Text) → AskFor words one → AskFor words other → one ≡ other

-- a run on threads: with neither an order nor `--serial`
abbrev pub is_threaded_run : {T : Type 0} → RunWords T → Bool
is_threaded_run run = not run.is_serial && not (is_some run.order)

-- a command that asks for threads
abbrev pub is_threaded : {T : Type 0} → Command T → Bool
is_threaded (Record run prefix) = is_threaded_run run
is_threaded (Check run) = is_threaded_run run
is_threaded (Races run orders) = is_threaded_run run
is_threaded (Advise run most) = is_threaded_run run
is_threaded (Demo seed rounds) = false
is_threaded (Replay replay) = not replay.is_serial
is_threaded (Show log) = false
is_threaded (Stats log) = false
is_threaded (Convert log file is_text) = false
is_threaded (Refine log plan prefix) = false
is_threaded (Join one other file) = false
is_threaded (Diff one other) = false
is_threaded (Waits run) = is_threaded_run run
is_threaded (Picture run file is_trace) = is_threaded_run run
is_threaded (Watch replay rank name) = false
is_threaded (At replay) = false
is_threaded (Where replay source start) = false
is_threaded (Explore run prefix most polls) = false

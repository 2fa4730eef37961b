-- Arguments that ask for threads, where there are none.
use Rattle.std.proofs.Common.{◌≡◌, ◌∙◌, ap, inl, refl, sym, Bool, Bor, Err, List, Option, Some, None, false, is_some, true}
use Rattle.std.specs.Prelude.{◌&&◌, not, option_map}
use Rattle.clap.specs.Words.{Text}
use Rattle.wiz_words.specs.declared.command.Command.{Command}
use Rattle.wiz_words.specs.declared.command.Command.TheVariants.{Record, Check, Races, Advise, Demo, Replay, Show, Stats, Convert, Refine, Join, Diff, Waits, Picture, Watch, At, Where, Explore}
use Rattle.wiz_words.specs.declared.command.RunWords.{RunWords}
use Rattle.wiz_words.specs.Texts.{run_with_texts, with_texts}
use Rattle.wiz_words.specs.Words.{AskFor, AskForOneThing, is_threaded, is_threaded_run}
use Rattle.wiz_tool.specs.declared.failure.Failure.{Failure}
use Rattle.wiz_tool.specs.Environment.{Environment, around_of}
use Rattle.wiz_tool.specs.Inputs.{Refused}
use Rattle.wiz_tool.specs.Outcomes.{TaskOutcome}
use Rattle.wiz_tool.specs.inside.Told.{IsFailureBy}
use Rattle.wiz_cli.specs.Commands.{AskForSerially, task_of}
use Rattle.wiz_task.specs.Tasks.{IsDoneFor}
use Rattle.wiz_cli.specs.inside.Ends.{EndsWords, IsRefusedForWords, refused_words}
use Rattle.wiz_task.proofs.EndLemmas.{failed}
use Rattle.wiz_task.proofs.InputLemmas.{weaken}

is_some-texts : (order : Option (Bor Text)) → is_some (option_map (λ (text : Bor Text). text.now) order) ≡ is_some order
is_some-texts None = refl
is_some-texts (Some order) = refl

run_is_threaded-texts : (run : RunWords (Bor Text)) → is_threaded_run (run_with_texts run) ≡ is_threaded_run run
run_is_threaded-texts run = ap (λ (ordered : Bool). not run.is_serial && not ordered) (is_some-texts run.order)

-- with its texts in place of what borrows them a command asks for threads as before
pub is_threaded-with_texts : (command : Command (Bor Text)) → is_threaded (with_texts command) ≡ is_threaded command
is_threaded-with_texts (Record run prefix) = run_is_threaded-texts run
is_threaded-with_texts (Check run) = run_is_threaded-texts run
is_threaded-with_texts (Races run orders) = run_is_threaded-texts run
is_threaded-with_texts (Advise run most) = run_is_threaded-texts run
is_threaded-with_texts (Demo seed rounds) = refl
is_threaded-with_texts (Replay replay) = refl
is_threaded-with_texts (Show log) = refl
is_threaded-with_texts (Stats log) = refl
is_threaded-with_texts (Convert log file is_text) = refl
is_threaded-with_texts (Refine log plan prefix) = refl
is_threaded-with_texts (Join one other file) = refl
is_threaded-with_texts (Diff one other) = refl
is_threaded-with_texts (Waits run) = run_is_threaded-texts run
is_threaded-with_texts (Picture run file is_trace) = run_is_threaded-texts run
is_threaded-with_texts (Watch replay rank name) = refl
is_threaded-with_texts (At replay) = refl
is_threaded-with_texts (Where replay source start) = refl
is_threaded-with_texts (Explore run prefix most polls) = refl

-- arguments that ask for threads ask for nothing without them
none_serially : (words : List Text) (command : Command Text) → AskForOneThing → AskFor words command → is_threaded command ≡ true
    → (other : Command Text) → AskForSerially words other → ⊥
none_serially words command one asks threaded other too =
    let same : other ≡ command = one words other command too.0 asks in
    let bad : true ≡ false = sym threaded ∙ (rw same at too.1) in
    absurd (cc)

-- so they are refused
pub refused_serially : (words : List Text) (command : Command Text) (before : Environment) (failure : Failure) → AskForOneThing → AskFor words command
    → is_threaded command ≡ true → IsFailureBy (λ refused. refused ≡ refused_words) failure → EndsWords AskForSerially words (around_of before before) (Err failure)
refused_serially words command before failure one asks threaded is =
    failed (IsRefusedForWords AskForSerially words before before)
    (λ (outcome : TaskOutcome). (other : Command Text) × AskForSerially words other × IsDoneFor (task_of other) before outcome) before before failure
    (record { files = refl; out = refl })
    (weaken (λ (refused : Refused). refused ≡ refused_words) (IsRefusedForWords AskForSerially words before before)
    (λ refused same. inl (λ other too. none_serially words command one asks threaded other too, same)) failure is)

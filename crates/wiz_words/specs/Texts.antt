-- The texts that code borrows.
use Rattle.std.specs.Prelude.{List, map}
use Rattle.std.specs.Borrow.{Bor}
use Rattle.std.specs.Option.{option_map}
use Rattle.clap.specs.Words.{Text}
use Rattle.wiz_words.specs.declared.command.Command.{Command}
use Rattle.wiz_words.specs.declared.command.Command.TheVariants.{Record, Check, Races, Advise, Demo, Replay, Show, Stats, Convert, Refine, Join, Diff, Waits, Picture, Watch, At, Where, Explore}
use Rattle.wiz_words.specs.declared.command.ReplayWords.{ReplayWords}
use Rattle.wiz_words.specs.declared.command.RunWords.{RunWords}

-- the texts of arguments
abbrev pub texts : List (Bor Text) → List Text
texts words = map (λ word. word.now) words

-- the arguments of a run, with the texts that code borrows
abbrev pub run_with_texts : RunWords (Bor Text) → RunWords Text
run_with_texts run = record { program = run.program.now; plan = run.plan.now; order = option_map (λ text. text.now) run.order; is_serial = run.is_serial }

-- the arguments of a replay, with the texts that code borrows
abbrev pub replay_with_texts : ReplayWords (Bor Text) → ReplayWords Text
replay_with_texts replay = record { log = replay.log.now; program = option_map (λ text. text.now) replay.program; stop = replay.stop; is_serial = replay.is_serial }

-- a command with its texts in place of what borrows them
abbrev pub with_texts : Command (Bor Text) → Command Text
with_texts (Record run prefix) = Record (run_with_texts run) prefix.now
with_texts (Check run) = Check (run_with_texts run)
with_texts (Races run orders) = Races (run_with_texts run) (option_map (λ text. text.now) orders)
with_texts (Advise run most) = Advise (run_with_texts run) most
with_texts (Demo seed rounds) = Demo seed rounds
with_texts (Replay replay) = Replay (replay_with_texts replay)
with_texts (Show log) = Show log.now
with_texts (Stats log) = Stats log.now
with_texts (Convert log file is_text) = Convert log.now file.now is_text
with_texts (Refine log plan prefix) = Refine log.now plan.now prefix.now
with_texts (Join one other file) = Join one.now other.now file.now
with_texts (Diff one other) = Diff one.now other.now
with_texts (Waits run) = Waits (run_with_texts run)
with_texts (Picture run file is_trace) = Picture (run_with_texts run) file.now is_trace
with_texts (Watch replay rank name) = Watch (replay_with_texts replay) rank name.now
with_texts (At replay) = At (replay_with_texts replay)
with_texts (Where replay source start) = Where (replay_with_texts replay) source start
with_texts (Explore run prefix most polls) = Explore (run_with_texts run) prefix.now most polls

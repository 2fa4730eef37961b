-- A replay beside a run with its log: no rank has diverged, and all is done.
use Rattle.std.proofs.Common.{◌≡◌, ◌⊎◌, inl, inr, ap, refl, ℕ, zero, suc, List, [], ◌∷◌, Bool, true, false, not, ◌&&◌, if◌then◌else◌, All, arith}
use Rattle.std.specs.List.{Contains, list_any}
use Rattle.std.proofs.lemmas.List.Elements.{All-head, All-tail}
use Rattle.c_program.specs.Tree.{Program}
use Rattle.c_program.specs.Program.{next_of}
use Rattle.c_types.specs.Checks.{IsProgramOf}
use Rattle.replay_model.specs.declared.replayed.Replayed.{Replayed}
use Rattle.replay_model.specs.declared.replayed.Stand.{Stand}
use Rattle.replay_model.specs.declared.replayed.Stand.TheVariants.{Ended, LogEnded, AtBreak, Diverged as HasDiverged, Starved as IsStarved}
use Rattle.replay_model.specs.declared.step.Missing.{Missing}
use Rattle.replay_model.specs.Laws.{HasNotDiverged, IsRunWith}
use Rattle.replay_model.specs.Replays.{Breakpoint}
use Rattle.run_model.specs.declared.event.Event.{Event}
use Rattle.run_model.specs.declared.lists.Variable.{Variable}
use Rattle.srr_entry.specs.declared.log.Log.{Log}
use Rattle.srr_log2.proofs.FormatLaws.{one_log}
use Rattle.wiz_tool.specs.declared.status.Status.TheVariants.{Done, Starved}
use Rattle.wiz_logs.specs.Logs.{AreLogsOf, IsLogOf, asked_program}
use Rattle.wiz_task.specs.Replayings.{IsReplayOf}
use Rattle.wiz_tool.specs.Statuses.{is_at_break, is_diverged, is_starved, status_number, of_stands}

-- ---- stands beside a run

none_diverged : (ends : List Stand) → All HasNotDiverged ends → list_any is_diverged ends ≡ false
none_diverged [] all = refl
none_diverged (Ended ∷ ends) all = none_diverged ends (All-tail HasNotDiverged Ended ends all)
none_diverged (LogEnded ∷ ends) all = none_diverged ends (All-tail HasNotDiverged LogEnded ends all)
none_diverged (AtBreak variables ∷ ends) all = none_diverged ends (All-tail HasNotDiverged (AtBreak variables) ends all)
none_diverged (HasDiverged divergence ∷ ends) all = absurd (All-head HasNotDiverged (HasDiverged divergence) ends all divergence refl)
none_diverged (IsStarved missing ∷ ends) all = none_diverged ends (All-tail HasNotDiverged (IsStarved missing) ends all)

behind : (stand : Stand) (ends : List Stand) (other : Stand) → Contains ends other → Contains (stand ∷ ends) other
behind stand ends other (k, below, is) = (suc k, omega (arith, below), is)

starved_or_none : (ends : List Stand) → (list_any is_starved ends ≡ false) ⊎ ((missing : Missing) × Contains ends (IsStarved missing))
starved_or_none [] = inl refl
starved_or_none (Ended ∷ ends) = elim (starved_or_none ends) [ inl none ↦ inl none | inr some ↦ inr (some.0, behind Ended ends _ some.1) ]
starved_or_none (LogEnded ∷ ends) = elim (starved_or_none ends) [ inl none ↦ inl none | inr some ↦ inr (some.0, behind LogEnded ends _ some.1) ]
starved_or_none (AtBreak variables ∷ ends) = elim (starved_or_none ends) [ inl none ↦ inl none | inr some ↦ inr (some.0, behind (AtBreak variables) ends _ some.1) ]
starved_or_none (HasDiverged divergence ∷ ends) = elim (starved_or_none ends) [ inl none ↦ inl none | inr some ↦ inr (some.0, behind (HasDiverged divergence) ends _ some.1) ]
starved_or_none (IsStarved missing ∷ ends) = inr (missing, (zero, omega arith, refl))

one_at_break : (ends : List Stand) (variables : List Variable) → Contains ends (AtBreak variables) → list_any is_at_break ends ≡ true
one_at_break [] variables (k, below, is) = absurd (omega (arith, below))
one_at_break (stand ∷ ends) variables (zero, below, is) = rw is refl
one_at_break (Ended ∷ ends) variables (suc k, below, is) = one_at_break ends variables (k, omega (arith, below), is)
one_at_break (LogEnded ∷ ends) variables (suc k, below, is) = one_at_break ends variables (k, omega (arith, below), is)
one_at_break (AtBreak other ∷ ends) variables (suc k, below, is) = refl
one_at_break (HasDiverged divergence ∷ ends) variables (suc k, below, is) = one_at_break ends variables (k, omega (arith, below), is)
one_at_break (IsStarved missing ∷ ends) variables (suc k, below, is) = one_at_break ends variables (k, omega (arith, below), is)

-- no rank diverged, and one is starved only where another is at its breakpoint
pub stands_are_done : (ends : List Stand) → All HasNotDiverged ends
    → ((missing : Missing) → Contains ends (IsStarved missing) → (variables : List Variable) × Contains ends (AtBreak variables))
    → of_stands ends ≡ Done
stands_are_done ends agrees starved = rw (none_diverged ends agrees) (elim (starved_or_none ends) [
  | inl none ↦ rw none refl
  | inr some ↦ let at = starved some.0 some.1 in rw (one_at_break ends at.0 at.1) (either (list_any is_starved ends))
])
  where
    either : (b : Bool) → (if b && not true then Starved else Done) ≡ Done
    either true = refl
    either false = refl

-- ---- what is replayed

pub one_log_of : (texts : List (List ℕ)) (log other : Log) → IsLogOf texts log → IsLogOf texts other → log ≡ other
one_log_of [] log other is too = absurd is
one_log_of (bytes ∷ more) log other is too = one_log bytes log other is too

pub two_logs_of : (texts : List (List ℕ)) (first second one other : Log) → AreLogsOf texts first second → AreLogsOf texts one other
    → (first ≡ one) × (second ≡ other)
two_logs_of [] first second one other are too = absurd are
two_logs_of (bytes ∷ []) first second one other are too = absurd are
two_logs_of (bytes ∷ others ∷ more) first second one other are too = (one_log bytes first one are.0 too.0, one_log others second other are.1 too.1)

-- beside a run with the log, a replay's stands are done
pub done_beside : (text : List ℕ) (log : Log) (stop : Breakpoint) (replayed : Replayed) (program : Program) (run : List Event) → IsReplayOf text log stop replayed
    → IsProgramOf text program → IsRunWith (next_of program) log run → of_stands replayed.ends ≡ Done
done_beside text log stop replayed program run is is_program with =
    let of = (is.shows program is_program).runs run with in
    stands_are_done replayed.ends of.agrees of.starved

pub replay_is_done : (stop : Breakpoint) (texts : List (List ℕ)) (held : Log) (replayed : Replayed) (log : Log) (program : Program) (run : List Event)
    → IsLogOf texts held → IsLogOf texts log → IsReplayOf (asked_program texts held) held stop replayed
    → IsProgramOf (asked_program texts log) program → IsRunWith (next_of program) log run → status_number (of_stands replayed.ends) ≡ status_number Done
replay_is_done stop texts held replayed log program run is_held is_log is is_program with =
    let same : log ≡ held = one_log_of texts log held is_log is_held in
    ap status_number (done_beside (asked_program texts held) held stop replayed program run is (rw same at is_program) (rw same at with))

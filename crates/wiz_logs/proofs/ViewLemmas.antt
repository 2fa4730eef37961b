-- What is asked of a replay.
use Rattle.std.proofs.Common.{◌≡◌, ◌∙◌, ◌++◌, ◌-◌, ◌==◌, ◌≤◌, ℕ, Bool, List, [], ◌∷◌, None, ap, append_assoc, arith, drop, flat_map, get_or, if◌then◌else◌, length, refl, slice_index, subst, sym, take, true, false}
use Rattle.std.proofs.lemmas.Bool.{eq-eqb, or_left, or_right}
use Rattle.std.proofs.Math.Seq.{take-length}
use Rattle.c_program.specs.Tree.{Program}
use Rattle.c_program.specs.Program.{next_of, variables_of}
use Rattle.c_program.specs.laws.ProgramLaws.{asks_in_bounds, enters_in_form}
use Rattle.c_types.specs.Checks.{IsProgramOf}
use Rattle.mpi_call.specs.Members.{is_member}
use Rattle.replay_model.specs.declared.replayed.Replayed.{Replayed}
use Rattle.replay_model.specs.declared.replayed.Stand.{Stand}
use Rattle.replay_model.specs.Laws.{IsRunWith}
use Rattle.replay_model.specs.Replays.{Breakpoint}
use Rattle.replay_views.specs.declared.changes.Change.{Change}
use Rattle.replay_views.specs.declared.snapshot.Snapshot.{Snapshot}
use Rattle.replay_views.specs.Cuts.{IsStepBack, ReplaysStepBack}
use Rattle.replay_views.specs.Places.{MessagePlace, places_in_view}
use Rattle.replay_views.specs.Snapshots.{snapshot_of, snapshots_of}
use Rattle.replay_views.specs.Watching.{Variables, changes_of, values_after}
use Rattle.run_model.specs.declared.event.Event.{Event}
use Rattle.run_model.specs.Views.{Next, View as Seen, view_of}
use Rattle.srr_entry.specs.declared.log.Log.{Log}
use Rattle.srr_replay.specs.Rounds.{IsReplayable}
use Rattle.srr_replay.proofs.ReplaysLemmas.{Came-Replays}
use Rattle.wiz_logs.specs.declared.replaying.subject.Subject.{Subject}
use Rattle.wiz_logs.specs.declared.viewing.ask.ReplayView.{ReplayView}
use Rattle.wiz_logs.specs.declared.viewing.ask.ReplayView.TheVariants.{Changes, Places, Snapshots}
use Rattle.wiz_logs.specs.inside.Replaying.{IsSubjectOf, used_text}
use Rattle.wiz_logs.specs.inside.Viewing.{HaveCome}
use Rattle.wiz_task.specs.Tasks.{IsDoneFor}
use Rattle.wiz_logs.specs.Logs.{replay_inputs, view_task}
use Rattle.wiz_logs.proofs.BesideRuns.{done_beside}
use Rattle.wiz_task.specs.Replayings.{IsReplayOf}
use Rattle.wiz_logs.specs.Views.{TellsView, changes_in, done_view_outcome, reported_text, view_outcome, view_outcome_by}
use Rattle.wiz_tool.specs.declared.report.Done.{Done as Told}
use Rattle.wiz_tool.specs.declared.status.Status.{Status}
use Rattle.wiz_tool.specs.declared.status.Status.TheVariants as s
use Rattle.wiz_tool.specs.Environment.{Environment}
use Rattle.wiz_tool.specs.Inputs.{AreHeld}
use Rattle.wiz_tool.specs.Outcomes.{TaskOutcome}
use Rattle.wiz_tool.specs.Statuses.{of_stands}
use Rattle.wiz_tool.specs.inside.Told.{outcome_written}
use Rattle.wiz_trace.specs.AtTexts.{snapshots_text}
use Rattle.wiz_trace.specs.TraceTexts.{trace_text}
use Rattle.wiz_trace.specs.WatchTexts.{watch_text}
use Rattle.wiz_trace.specs.WhereTexts.{where_text}
use Rattle.wiz_words.specs.declared.command.ReplayWords.{ReplayWords}

-- ---- the status of what is told

status_by : (status : Status) (text : List ℕ) (replayed : Replayed) → (view_outcome_by status text replayed).status ≡ status
status_by s.Done text replayed = refl
status_by s.Words text replayed = refl
status_by s.NoFile text replayed = refl
status_by s.Unread text replayed = refl
status_by s.Unwritten text replayed = refl
status_by s.Program text replayed = refl
status_by s.Plan text replayed = refl
status_by s.Halted text replayed = refl
status_by s.Log text replayed = refl
status_by s.Diverged text replayed = refl
status_by s.Starved text replayed = refl
status_by s.OutOfMemory text replayed = refl
status_by s.TooLong text replayed = refl
status_by s.Groups text replayed = refl
status_by s.TooMany text replayed = refl
status_by s.Parted text replayed = refl
status_by s.Incomplete text replayed = refl

pub view_status : (replayed : Replayed) (text : List ℕ) (outcome : TaskOutcome) → outcome ≡ view_outcome text replayed → outcome.status ≡ of_stands replayed.ends
view_status replayed text outcome is = ap (λ (o : TaskOutcome). o.status) is ∙ status_by (of_stands replayed.ends) text replayed

not_done : (status : Status) (text : List ℕ) (replayed : Replayed) → (status ≡ s.Done → ⊥)
    → view_outcome_by status text replayed ≡ record { files = []; text = trace_text replayed; status = status; run = None; replays = replayed ∷ [] }
not_done s.Done text replayed apart = absurd (apart refl)
not_done s.Words text replayed apart = refl
not_done s.NoFile text replayed apart = refl
not_done s.Unread text replayed apart = refl
not_done s.Unwritten text replayed apart = refl
not_done s.Program text replayed apart = refl
not_done s.Plan text replayed apart = refl
not_done s.Halted text replayed apart = refl
not_done s.Log text replayed apart = refl
not_done s.Diverged text replayed apart = refl
not_done s.Starved text replayed apart = refl
not_done s.OutOfMemory text replayed apart = refl
not_done s.TooLong text replayed apart = refl
not_done s.Groups text replayed apart = refl
not_done s.TooMany text replayed apart = refl
not_done s.Parted text replayed apart = refl
not_done s.Incomplete text replayed apart = refl

-- what is asked is told where the replay is done
pub asked_is : (replayed : Replayed) (whole text : List ℕ) (both : Status) (done : Told) → both ≡ s.Done → both ≡ of_stands replayed.ends → text ≡ whole
    → done ≡ record { text = text; status = s.Done; run = None; replays = replayed ∷ [] } → outcome_written [] done ≡ view_outcome whole replayed
asked_is replayed whole text both done is_done is_both text_is done_is =
    let stands : of_stands replayed.ends ≡ s.Done = sym is_both ∙ is_done in
    rw (done_is, text_is, stands) refl

-- and else its trace
pub trace_is : (replayed : Replayed) (whole text : List ℕ) (status : Status) (done : Told) → (status ≡ s.Done → ⊥) → status ≡ of_stands replayed.ends
    → text ≡ trace_text replayed → done ≡ record { text = text; status = status; run = None; replays = replayed ∷ [] }
    → outcome_written [] done ≡ view_outcome whole replayed
trace_is replayed whole text status done apart is text_is done_is =
    let stands : of_stands replayed.ends ≡ status = sym is in
    let told = not_done status whole replayed apart in
    rw (done_is, text_is, stands, told) refl

-- ---- what is told of the same

-- the ranks of a group have seen the same
abbrev pub HaveSeenTheSame : List ℕ → (ℕ → Seen) → (ℕ → Seen) → Type 0
HaveSeenTheSame group one other = (rank : ℕ) → is_member group rank ≡ true → one rank ≡ other rank

first_the_same : (rank : ℕ) (group : List ℕ) (one other : ℕ → Seen) → HaveSeenTheSame (rank ∷ group) one other → one rank ≡ other rank
first_the_same rank group one other same = same rank (or_left (rank == rank) (is_member group rank) (eq-eqb rank rank refl))

later_the_same : (rank : ℕ) (group : List ℕ) (one other : ℕ → Seen) → HaveSeenTheSame (rank ∷ group) one other → HaveSeenTheSame group one other
later_the_same rank group one other same = λ later there. same later (or_right (rank == later) (is_member group later) there)

-- a list of what each rank of a group has seen, rank by rank
each_alike : {A : Type 0} (f : ℕ → Seen → List A) (group : List ℕ) (one other : ℕ → Seen) → HaveSeenTheSame group one other
    → flat_map (λ rank. f rank (one rank)) group ≡ flat_map (λ rank. f rank (other rank)) group
each_alike f [] one other same = refl
each_alike {A} f (rank ∷ group) one other same =
    ap (λ (view : Seen). f rank view ++ flat_map (λ rank. f rank (one rank)) group) (first_the_same rank group one other same)
    ∙ ap (λ (l : List A). f rank (other rank) ++ l) (each_alike f group one other (later_the_same rank group one other same))

snapshots_alike : (next : Next) (variables : Variables) (n : ℕ) (events others : List Event) (group : List ℕ) (stands : List Stand)
    → HaveSeenTheSame group (view_of events) (view_of others)
    → snapshots_of next variables n events group stands ≡ snapshots_of next variables n others group stands
snapshots_alike next variables n events others [] stands same = refl
snapshots_alike next variables n events others (rank ∷ group) [] same = refl
snapshots_alike next variables n events others (rank ∷ group) (stand ∷ stands) same =
    ap (λ (view : Seen). snapshot_of next variables n rank view stand ∷ snapshots_of next variables n events group stands)
    (first_the_same rank group (view_of events) (view_of others) same)
    ∙ ap (λ (l : List Snapshot). snapshot_of next variables n rank (view_of others rank) stand ∷ l)
    (snapshots_alike next variables n events others group stands (later_the_same rank group (view_of events) (view_of others) same))

changes_alike : (program : Program) (log : Log) (rank : ℕ) (name : List ℕ) (one other : ℕ → Seen) → HaveSeenTheSame log.group one other
    → changes_in program log rank name (one rank) ≡ changes_in program log rank name (other rank)
changes_alike program log rank name one other same = go (is_member log.group rank) (same rank)
  where
    F : Seen → List Change
    F = changes_of (values_after (next_of program) (variables_of program) log.ranks rank name)

    go : (member : Bool) → (member ≡ true → one rank ≡ other rank) → (if member then F (one rank) else []) ≡ (if member then F (other rank) else [])
    go true same = ap F (same refl)
    go false same = refl

told_alike : (program : Program) (log : Log) (view : ReplayView (List ℕ)) (events others : List Event) (ends : List Stand)
    → HaveSeenTheSame log.group (view_of events) (view_of others) → reported_text program log view events ends ≡ reported_text program log view others ends
told_alike program log (Changes rank name) events others ends same =
    ap (λ (changes : List Change). watch_text rank name changes) (changes_alike program log rank name (view_of events) (view_of others) same)
told_alike program log Snapshots events others ends same =
    ap (λ (snapshots : List Snapshot). snapshots_text snapshots) (snapshots_alike (next_of program) (variables_of program) log.ranks events others log.group ends same)
told_alike program log (Places name) events others ends same =
    ap (λ (places : List MessagePlace). where_text name log.group places) (each_alike (places_in_view name) log.group (view_of events) (view_of others) same)

-- ---- what is done

pub tells : (text : List ℕ) (log : Log) (stop : Breakpoint) (view : ReplayView (List ℕ)) (program : Program) (replayed : Replayed) (outcome : TaskOutcome)
    → IsProgramOf text program → IsReplayOf text log stop replayed → ((other : Program) → IsProgramOf text other → program ≡ other)
    → ((n : ℕ) (group : List ℕ) (V : ℕ → Seen) → IsStepBack n group V)
    → ((run : List Event) → IsRunWith (next_of program) log run → ReplaysStepBack (next_of program) log run)
    → outcome ≡ view_outcome (reported_text program log view replayed.events.events replayed.ends) replayed → TellsView text log stop view outcome
tells text log stop view program replayed outcome is_program replay means law steps is =
    let is_outcome : (other : Program) → IsProgramOf text other → outcome ≡ view_outcome (reported_text other log view replayed.events.events replayed.ends) replayed =
    λ other is_other.
    is ∙ ap (λ (one : Program). view_outcome (reported_text one log view replayed.events.events replayed.ends) replayed) (means other is_other) in
    record {
      replayed = replayed;
      replay = replay;
      is_outcome = is_outcome;
      of_runs = λ whole other run is_other with.
          let seen = ((replay.shows other is_other).runs run with).views whole in
          is_outcome other is_other
          ∙ ap (λ (status : Status). view_outcome_by status (reported_text other log view replayed.events.events replayed.ends) replayed)
          (done_beside text log stop replayed other run replay is_other with)
          ∙ ap (λ (told : List ℕ). done_view_outcome told replayed) (told_alike other log view replayed.events.events run replayed.ends seen);
      back = λ run. law log.ranks log.group (view_of run);
      steps = λ other run is_other with.
          subst (λ (one : Program). (run : List Event) → IsRunWith (next_of one) log run → ReplaysStepBack (next_of one) log run) (means other is_other) steps run with;
    }

-- the ranks of a replay got replies in shape alone
pub have_come : (text : List ℕ) (log : Log) (stop : Breakpoint) (program : Program) (replayed : Replayed) → IsReplayable log → IsProgramOf text program
    → IsReplayOf text log stop replayed → HaveCome (next_of program) log.ranks replayed.events.events
have_come text log stop program replayed fine is of =
    let came = Came-Replays (next_of program) log stop replayed.events.events (record { enters = enters_in_form program; bounds = asks_in_bounds program }) fine
    (of.shows program is).whole.replays in
    came.views

pub view_done : (replay : ReplayWords (List ℕ)) (view : ReplayView (List ℕ)) (before : Environment) (texts : List (List ℕ)) (subject : Subject) (outcome : TaskOutcome)
    → AreHeld before.store.files (replay_inputs replay) texts → IsSubjectOf texts subject
    → TellsView (used_text subject.log subject.text) subject.log replay.stop view outcome → IsDoneFor (view_task replay view) before outcome
view_done replay view before texts subject outcome held of told = (texts, held, (subject.log, of.is_log, rw of.is_text at told))

-- ---- where ranks stand, one after the other

pub snapshots_more : (next : Next) (variables : Variables) (n : ℕ) (events : List Event) (group : List ℕ) (stands : List Stand) (rank : ℕ) (stand : Stand) (before mid after : List Snapshot) (found : Snapshot)
    → 1 ≤ length group → 1 ≤ length stands → rank ≡ slice_index group 0 → stand ≡ get_or stands 0 stand
    → found ≡ snapshot_of next variables n rank (view_of events rank) stand → mid ≡ before ++ found ∷ []
    → after ≡ mid ++ snapshots_of next variables n events (take (length group - 1) (drop 1 group)) (take (length stands - 1) (drop 1 stands))
    → after ≡ before ++ snapshots_of next variables n events group stands
snapshots_more next variables n events [] stands rank stand before mid after found some _ _ _ _ _ _ = absurd (omega (arith, some))
snapshots_more next variables n events (r ∷ group) [] rank stand before mid after found _ some _ _ _ _ _ = absurd (omega (arith, some))
snapshots_more next variables n events (r ∷ group) (s ∷ stands) rank stand before mid after found _ _ rank_is stand_is found_is mid_is after_is =
    let count : length (r ∷ group) - 1 ≡ length group = omega arith in
    let counted : length (s ∷ stands) - 1 ≡ length stands = omega arith in
    let ranks : take (length (r ∷ group) - 1) (drop 1 (r ∷ group)) ≡ group = rw count (take-length group) in
    let others : take (length (s ∷ stands) - 1) (drop 1 (s ∷ stands)) ≡ stands = rw counted (take-length stands) in
    let here : found ≡ snapshot_of next variables n r (view_of events r) s = rw (rank_is, stand_is) at found_is in
    let later : List Snapshot = snapshots_of next variables n events group stands in
    rw (ranks, others) at after_is
    ∙ (ap (λ (l : List Snapshot). l ++ later) mid_is ∙ (append_assoc before (found ∷ []) later ∙ ap (λ (f : Snapshot). before ++ f ∷ later) here))

-- What a search of what is run found.
use Rattle.std.proofs.Common.{◌≡◌, ◌<◌, ◌+◌, ◌∙◌, ◌++◌, ◌∷◌, ◌||◌, ℕ, Bool, Result, Ok, Err, IfOk, subst, List, [], None, Some, All, slice_get, suc, take, zero, true, false, inl, inr, ap, arith, refl, sym, if◌then◌else◌}
use Rattle.std.specs.List.{AllByRecursion, AllZip, list_any}
use Rattle.std.specs.declared.alloc.AllocError.{AllocError}
use Rattle.std.proofs.lemmas.List.Elements.{All-head, All-tail}
use Rattle.c_program.specs.View.{pure_program}
use Rattle.c_program.specs.Program.{next_of, output_of}
use Rattle.explanation_text.proofs.OrderLaws.{IsOrderText-turns}
use Rattle.explanation_text.specs.WaitsTexts.{waiting_text}
use Rattle.explore.specs.declared.found.Explored.{Explored}
use Rattle.explore.specs.declared.found.FoundOutcome.{FoundOutcome}
use Rattle.explore.specs.Explored.{AreTurnsOf, IsExplored, IsListed, events_of_turns}
use Rattle.explore_text.specs.ExploreTexts.{explore_text}
use Rattle.group_plan.specs.Plans.{number_of_ranks}
use Rattle.mpi_call.specs.declared.call.Halt.TheVariants.{Aborted, Trapped, Truncated, Mismatched, BadRequest, Limit, Stuck}
use Rattle.mpi_call.specs.Lists.{IsIn}
use Rattle.picked_runs.specs.declared.turn.Turn.{Turn}
use Rattle.picked_runs.specs.Turns.{IsPickOf, IsRunByTurns, IsTurnOf}
use Rattle.replay_model.specs.declared.replayed.Replayed.{Replayed}
use Rattle.run_model.specs.declared.ending.Ending.{Ending}
use Rattle.run_model.specs.declared.ending.Ending.TheVariants.{Finished, Halted as WasHalted}
use Rattle.run_model.specs.declared.event.Event.{Event}
use Rattle.run_model.specs.Endings.{ending_of}
use Rattle.run_model.specs.Views.{Next}
use Rattle.srr_entry.specs.Outputs.{Output}
use Rattle.run_states.specs.Outcomes.{IsWholeRun, RunOutcome, reported_ending, outcome_of_run}
use Rattle.wait_graph.specs.declared.graph.Graph.{Graph}
use Rattle.wait_graph.specs.Graph.{graph_of}
use Rattle.wiz_searches.specs.declared.exploring.make.Searched.{Searched}
use Rattle.wiz_task.specs.declared.ready.Ready.{Ready}
use Rattle.wiz_task.specs.Tasks.{IsDoneFor}
use Rattle.wiz_runs.specs.Runs.{run_inputs, run_texts}
use Rattle.wiz_searches.specs.Explorations.{IsReadBack, IsWaiting, is_exploration_complete, is_halted, of_search, search_files, search_outcome, search_task, waits_of}
use Rattle.wiz_searches.specs.inside.Exploring.{IsFoundOf, IsSearchOf}
use Rattle.wiz_task.specs.inside.Recording.{IsReadyToRecord}
use Rattle.wiz_runs.proofs.RaceFiles.{split_at}
use Rattle.wiz_tool.specs.declared.report.Done.{Done as ToTell}
use Rattle.wiz_tool.specs.declared.status.Status.{Status}
use Rattle.wiz_tool.specs.declared.status.Status.TheVariants.{Done, Halted, Incomplete}
use Rattle.wiz_tool.specs.Environment.{Environment}
use Rattle.wiz_tool.specs.Inputs.{AreHeld}
use Rattle.wiz_tool.specs.inside.Told.{outcome_written as outcome_told}
use Rattle.wiz_tool.specs.Statuses.{status_number}
use Rattle.wiz_words.specs.declared.command.RunWords.{RunWords}

-- ---- what is found

-- such turns, one by one
each_turn : (n : ℕ) (turns : List Turn) → All (λ (turn : Turn). turn.rank < n) turns → All (λ (turn : Turn). IsPickOf n turn.pick) turns
    → AllByRecursion (IsTurnOf n) turns
each_turn n [] ranks picks = tt
each_turn n (turn ∷ turns) ranks picks = (
  (All-head (λ (t : Turn). t.rank < n) turn turns ranks, All-head (λ (t : Turn). IsPickOf n t.pick) turn turns picks),
  each_turn n turns (All-tail (λ (t : Turn). t.rank < n) turn turns ranks) (All-tail (λ (t : Turn). IsPickOf n t.pick) turn turns picks),
)

-- they are read back
read_back : (n : ℕ) (turns : List Turn) → AreTurnsOf n turns → IsReadBack n turns
read_back n turns are = IsOrderText-turns n turns (each_turn n turns are.ranks are.picks)

-- each outcome that is listed is that of a recording
pub found_of : (ready : Ready) (polls : ℕ) (explored : Explored)
    → IsExplored (next_of (pure_program ready.program)) (output_of (pure_program ready.program)) (number_of_ranks ready.plan) polls ready.turns explored
    → (found : FoundOutcome) → IsIn found explored.found → IsFoundOf ready found
found_of ready polls explored is found there =
    let sound = is.sound found there in
    record {
      run = events_of_turns (next_of (pure_program ready.program)) (number_of_ranks ready.plan) ready.turns ++ sound.more;
      taken = sound.taken;
      ranks = sound.turns.ranks;
    }

-- one more pair
pub zip_more : {A B : Type 0} (R : A → B → Type 0) (xs : List A) (ys : List B) (x : A) (y : B) → AllZip R xs ys → R x y → AllZip R (xs ++ x ∷ []) (ys ++ y ∷ [])
zip_more R [] [] x y all r = (r, tt)
zip_more R [] (z ∷ ys) x y all r = absurd all
zip_more R (z ∷ xs) [] x y all r = absurd all
zip_more R (z ∷ xs) (w ∷ ys) x y all r = (all.0, zip_more R xs ys x y all.1 r)

-- one that stands in a list
pub one_in : {A : Type 0} (xs : List A) (k : ℕ) (x : A) → slice_get xs k ≡ Some x → IsIn x xs
one_in [] k x there = absurd (cc)
one_in (y ∷ xs) zero x there = (let same : y ≡ x = cc in inl same)
one_in (y ∷ xs) (suc k) x there = inr (one_in xs k x there)

pub zip_next : {A B : Type 0} (R : A → B → Type 0) (xs : List A) (ys : List B) (k : ℕ) (x : A) (y : B) → slice_get xs k ≡ Some x
    → AllZip R (take k xs) ys → R x y → AllZip R (take (k + 1) xs) (ys ++ y ∷ [])
zip_next {A} R xs ys k x y there all r =
    let F : List A → Type 0 = λ l. AllZip R l (ys ++ y ∷ []) in
    let more : k + 1 ≡ suc k = omega arith in
    subst F (sym (ap (λ n. take n xs) more ∙ (split_at xs k x there).0)) (zip_more R (take k xs) ys x y all r)

-- nobody waits where the run is not stuck
pub none_waits : (n : ℕ) (run : List Event) (ending : Ending) → (ending ≡ WasHalted Stuck → ⊥) → waits_of n run ending ≡ []
none_waits n run Finished apart = refl
none_waits n run (WasHalted (Aborted rank code)) apart = refl
none_waits n run (WasHalted (Trapped rank fault)) apart = refl
none_waits n run (WasHalted (Truncated rank start)) apart = refl
none_waits n run (WasHalted (Mismatched rank)) apart = refl
none_waits n run (WasHalted (BadRequest rank start)) apart = refl
none_waits n run (WasHalted Limit) apart = refl
none_waits n run (WasHalted Stuck) apart = absurd (apart refl)

-- what is found is said of what is run
pub explored_at : (ready : Ready) (polls n : ℕ) (turns : List Turn) (explored : Explored) → n ≡ number_of_ranks ready.plan → turns ≡ ready.turns
    → IsExplored (next_of (pure_program ready.program)) (output_of (pure_program ready.program)) n polls turns explored
    → IsExplored (next_of (pure_program ready.program)) (output_of (pure_program ready.program)) (number_of_ranks ready.plan) polls ready.turns explored
explored_at ready polls n turns explored many same is =
    let F : ℕ → Type 0 = λ k. IsExplored (next_of (pure_program ready.program)) (output_of (pure_program ready.program)) k polls turns explored in
    let G : List Turn → Type 0 = λ t. IsExplored (next_of (pure_program ready.program)) (output_of (pure_program ready.program)) (number_of_ranks ready.plan) polls t explored in
    subst G same (subst F many is)

-- the text of who waits in the run of a recording
pub waits_told : (n ranks : ℕ) (run : List Event) (graph : Graph) (text : List ℕ) → ranks ≡ n → graph ≡ graph_of ranks run → text ≡ waiting_text ranks run graph
    → text ≡ waits_of n run (WasHalted Stuck)
waits_told n ranks run graph text many graph_is text_is = rw (text_is, graph_is, many) refl

pub stuck_waits : (next : Next) (n : ℕ) (found : FoundOutcome) (result : Result (List ℕ) AllocError) → found.outcome.ending ≡ WasHalted Stuck
    → IfOk result (λ text. (run : List Event) × IsRunByTurns next n found.turns run × (text ≡ waits_of n run (WasHalted Stuck))) → IfOk result (IsWaiting next n found)
stuck_waits next n found (Ok text) is (run, taken, text_is) = record { run = run; taken = taken; text_is = rw is text_is }
stuck_waits next n found (Err error) is told = told

pub nobody_waits : (ready : Ready) (found : FoundOutcome) → IsFoundOf ready found → (found.outcome.ending ≡ WasHalted Stuck → ⊥)
    → IsWaiting (next_of (pure_program ready.program)) (number_of_ranks ready.plan) found []
nobody_waits ready found is apart =
    record { run = is.run; taken = is.taken; text_is = sym (none_waits (number_of_ranks ready.plan) is.run found.outcome.ending apart) }

-- ---- its status

-- with 0 no outcome was halted, no state is left and no rank was held back
done_of : (halted whole : Bool) → (if halted then Halted else if whole then Done else Incomplete) ≡ Done → (halted ≡ false) × (whole ≡ true)
done_of true whole is = (let no : 7 ≡ 0 = ap status_number is in absurd (omega (arith, no)))
done_of false true is = (refl, refl)
done_of false false is = (let no : 16 ≡ 0 = ap status_number is in absurd (omega (arith, no)))

all_looked_at : (left : List (List Turn)) (polled : Bool) → is_exploration_complete left polled ≡ true → (left ≡ []) × (polled ≡ false)
all_looked_at [] false whole = (refl, refl)
all_looked_at [] true whole = absurd (cc)
all_looked_at (turns ∷ left) polled whole = absurd (cc)

either_false : (a b : Bool) → (a || b) ≡ false → (a ≡ false) × (b ≡ false)
either_false true b none = absurd (cc)
either_false false b none = (refl, none)

none_in : (test : FoundOutcome → Bool) (listed : List FoundOutcome) (found : FoundOutcome) → list_any test listed ≡ false → IsIn found listed → test found ≡ false
none_in test [] found none there = absurd there
none_in test (one ∷ listed) found none (inl same) = ap test (sym same) ∙ (either_false (test one) (list_any test listed) none).0
none_in test (one ∷ listed) found none (inr later) = none_in test listed found (either_false (test one) (list_any test listed) none).1 later

finished_told : (ending : Ending) → is_halted (reported_ending ending) ≡ false → ending ≡ Finished
finished_told Finished free = refl
finished_told (WasHalted (Aborted rank code)) free = absurd (cc)
finished_told (WasHalted (Trapped rank fault)) free = absurd (cc)
finished_told (WasHalted (Truncated rank start)) free = absurd (cc)
finished_told (WasHalted (Mismatched rank)) free = absurd (cc)
finished_told (WasHalted (BadRequest rank start)) free = absurd (cc)
finished_told (WasHalted Limit) free = absurd (cc)
finished_told (WasHalted Stuck) free = absurd (cc)

-- so no whole run is halted
all_finish : (next : Next) (output : Output) (n polls : ℕ) (turns : List Turn) (explored : Explored) → IsExplored next output n polls turns explored
    → of_search explored ≡ Done → (more : List Event) → IsWholeRun next n (events_of_turns next n turns ++ more) → ending_of (events_of_turns next n turns ++ more) ≡ Finished
all_finish next output n polls turns explored is done more whole =
    let halts : FoundOutcome → Bool = λ found. is_halted found.outcome.ending in
    let parts = done_of (list_any halts explored.found) (is_exploration_complete explored.left explored.polled) done in
    let looked = all_looked_at explored.left explored.polled parts.1 in
    let listed : IsListed explored.found (outcome_of_run output n (events_of_turns next n turns ++ more)) = is.complete looked.0 looked.1 more whole in
    let same : listed.0.outcome.ending ≡ reported_ending (ending_of (events_of_turns next n turns ++ more)) = ap (λ (o : RunOutcome). o.ending) listed.2 in
    finished_told (ending_of (events_of_turns next n turns ++ more)) (ap is_halted (sym same) ∙ none_in halts explored.found listed.0 parts.0 listed.1)

-- ---- what is done

pub explore_done : (run : RunWords (List ℕ)) (prefix : List ℕ) (most polls : ℕ) (before : Environment) (texts : List (List ℕ)) (ready : Ready) (searched : Searched)
    → AreHeld before.store.files (run_inputs run) texts → IsReadyToRecord (run_texts texts) ready → IsSearchOf ready polls searched
    → IsDoneFor (search_task run prefix most polls) before (search_outcome prefix most polls searched.explored searched.waits)
explore_done run prefix most polls before texts ready searched held is of =
    let n : ℕ = number_of_ranks ready.plan in (
      texts,
      held,
      record {
        program = (pure_program ready.program);
        groups = ready.plan;
        turns = ready.turns;
        explored = searched.explored;
        waits = searched.waits;
        prepared = is.prepared;
        is_explored = of.is_explored;
        are_waiting = of.are_waiting;
        found_back = λ found there. read_back n found.turns (of.is_explored.sound found there).turns;
        left_back = λ left there. read_back n left (of.is_explored.left left there);
        is_outcome = refl;
        finishes = λ done more whole. all_finish (next_of (pure_program ready.program)) (output_of (pure_program ready.program)) n polls ready.turns searched.explored of.is_explored done more whole;
      },
    )

-- what is told when the order files are written
pub search_is_told : (prefix : List ℕ) (most polls : ℕ) (explored : Explored) (waits : List (List ℕ)) (done : ToTell) (text : List ℕ) (status : Status) (replays : List Replayed)
    → done ≡ record { text = text; status = status; run = None; replays = replays } → text ≡ explore_text most polls explored waits → status ≡ of_search explored → replays ≡ []
    → outcome_told (search_files prefix explored) done ≡ search_outcome prefix most polls explored waits
search_is_told prefix most polls explored waits done text status replays done_is text_is status_is none =
    rw (done_is, text_is, status_is, none) refl

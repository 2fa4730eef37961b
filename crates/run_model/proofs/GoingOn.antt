-- The machine's event for a rank's next call is one of a run.
use Rattle.std.proofs.Common.{◌≡◌, if◌then◌else◌, ◌++◌, ◌∷◌, Bool, List, None, Option, Some, [], true, false, refl, ℕ}
use Rattle.mpi_call.specs.declared.call.Call.{Call}
use Rattle.mpi_call.specs.declared.reply.Reply.{Reply}
use Rattle.run_model.specs.declared.event.Event.{Event}
use Rattle.run_model.specs.Choice.{choice}
use Rattle.run_model.specs.Chosen.{IsChosen, IsChosenEvent, chosen_event, chosen_reply}
use Rattle.run_model.specs.Lists.{Along}
use Rattle.run_model.specs.MachineLaws.{StaysMatched}
use Rattle.run_model.specs.Numbers.{communicators_of}
use Rattle.run_model.specs.Run.{AreNumbered, HasMate, IsPromptEvent, IsPromptRun}
use Rattle.run_model.specs.Views.{Next, is_start, view_of}
use Rattle.run_model.proofs.AllEntered.{AllListed, all_made, listed_more}
use Rattle.run_model.proofs.Along.{Along-keeps, Along-snoc}
use Rattle.run_model.proofs.Choosing.{choice_some}
use Rattle.run_model.proofs.ChosenAnswers.{reply_allowed}
use Rattle.run_model.proofs.Numbered.{AllNumbered, are_numbered, numbers_more}
use Rattle.run_model.proofs.Prompt.{kept_all, kept_prompt}
use Rattle.run_model.proofs.RunLaws.{Lawful}

mate_by : (before : List Event) (rank : ℕ) (call : Call) (reply : Reply) (starts : Bool) (found : Option ℕ)
    → is_start (call, reply) ≡ starts → choice before rank call ≡ found
    → HasMate before (record { rank = rank; call = call; reply = reply; mate = if starts then found else None; met = [] })
mate_by before rank call reply false found t e = tt
mate_by before rank call reply true None t e = tt
mate_by before rank call reply true (Some at) t e =
    let o = (choice_some before rank call at e).chosen in
    (o.name, o.there, o.free, t)

has_mate : (n : ℕ) (before : List Event) (rank : ℕ) (call : Call) → HasMate before (chosen_event n before rank call)
has_mate n before rank call =
    mate_by before rank call (chosen_reply n before rank call) (is_start (call, chosen_reply n before rank call)) (choice before rank call) refl refl

-- what each run of the machine keeps
record Known (next : Next) (n : ℕ) (events : List Event) : Type 0 where
  run : IsPromptRun next n events
  listed : AllListed n events
  numbered : AllNumbered (communicators_of n events) (view_of events)

abbrev IsStep : Next → ℕ → List Event → Event → Type 0
IsStep next n before event = IsPromptEvent next n before event × IsChosenEvent n before event

run_more : (next : Next) (n : ℕ) (before : List Event) (event : Event) → IsPromptRun next n before → IsPromptEvent next n before event → IsPromptRun next n (before ++ event ∷ [])
run_more next n before event run step = record { some = run.some; few = run.few; along = Along-snoc (IsPromptEvent next n) [] before event run.along step }

known_more : (next : Next) (n : ℕ) → Lawful next → (before : List Event) (event : Event) → Known next n before → IsStep next n before event
    → Known next n (before ++ event ∷ [])
known_more next n lawful before event known step =
    let kept = kept_prompt next n before lawful known.run in
    let run = run_more next n before event known.run step.0 in
    record {
      run = run;
      listed = listed_more next n before event (kept_all next n (before ++ event ∷ []) (kept_prompt next n (before ++ event ∷ []) lawful run)) known.listed;
      numbered = numbers_more n before event step.1 (all_made n before kept.instances.same known.listed) known.numbered;
    }

both_along : (next : Next) (n : ℕ) (before events : List Event) → Along (IsPromptEvent next n) before events → Along (IsChosenEvent n) before events
    → Along (IsStep next n) before events
both_along next n before [] run chosen = tt
both_along next n before (event ∷ events) run chosen = ((run.0, chosen.0), both_along next n (before ++ event ∷ []) events run.1 chosen.1)

known_run : (next : Next) (n : ℕ) (events : List Event) → Lawful next → IsChosen next n events → Known next n events
known_run next n events lawful chosen =
    Along-keeps (IsStep next n) (Known next n) (known_more next n lawful) [] events
    (record {
      run = record { some = chosen.run.some; few = chosen.run.few; along = tt };
      listed = λ m comm instance one members inputs at. absurd (cc);
      numbered = λ r c k there. absurd there;
    })
    (both_along next n [] events chosen.run.along chosen.along)

pub goes_on : (next : Next) (n : ℕ) → Lawful next → StaysMatched next n
goes_on next n lawful before rank call chosen below asked goes matched =
    let kept = kept_prompt next n before lawful chosen.run in
    let known = known_run next n before lawful chosen in
    let event : Event = chosen_event n before rank call in
    let numbered : AreNumbered (view_of (before ++ event ∷ [])) =
    are_numbered (communicators_of n (before ++ event ∷ [])) (view_of (before ++ event ∷ []))
    (numbers_more n before event refl (all_made n before kept.instances.same known.listed) known.numbered) in
    let step : IsPromptEvent next n before event = record {
      rank = below;
      call = asked;
      reply = reply_allowed next n before rank call kept.matched kept.below goes;
      mate = has_mate n before rank call;
      alone = refl;
      matched = matched;
      numbered = numbered;
    } in
    record {
      run = run_more next n before event chosen.run step;
      along = Along-snoc (IsChosenEvent n) [] before event chosen.along refl;
    }

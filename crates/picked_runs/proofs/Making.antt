-- Every run is made by what it picked.
use Rattle.std.proofs.Common.{◌≡◌, ◌∙◌, ◌++◌, ◌∷◌, ◌&&◌, ℕ, List, [], Option, Some, None, Bool, true, false, inl, inr, is_some, not, refl, ap, sym, subst}
use Rattle.mpi_call.specs.declared.call.Call.{Call}
use Rattle.mpi_call.specs.declared.call.Halt.{Halt}
use Rattle.mpi_call.specs.declared.reply.Reply.{Reply}
use Rattle.mpi_call.specs.declared.reply.Reply.TheVariants.{Stopped}
use Rattle.mpi_call.specs.Calls.{is_starting}
use Rattle.run_model.specs.declared.event.Event.{Event}
use Rattle.run_model.specs.Allowed.{IsAllowedBy, IsStuck}
use Rattle.run_model.specs.Chosen.{halt_or}
use Rattle.run_model.specs.Due.{due}
use Rattle.run_model.specs.Lists.{Along}
use Rattle.run_model.specs.Pairs.{IsAllMatched, Name}
use Rattle.run_model.specs.Run.{IsPromptEvent}
use Rattle.run_model.specs.Views.{Next, is_start, moment_of, view_of}
use Rattle.run_model.proofs.Prompt.{none_waits}
use Rattle.run_model.proofs.Origins.{AllBelow, AllBelow-more}
use Rattle.run_model.proofs.Views.{option_cases, test_cases}
use Rattle.picked_runs.specs.declared.turn.Pick.{Pick}
use Rattle.picked_runs.specs.declared.turn.Pick.TheVariants.{First, Sender, Index}
use Rattle.picked_runs.specs.Picks.{has_pick, is_offered, picked_answer, picked_choice, picked_event, picked_mate, picked_reply}
use Rattle.picked_runs.specs.Picked.{ArePicked, IsPickedEvent}
use Rattle.picked_runs.specs.Made.{pick_by, pick_of, pick_unless, picks_from}
use Rattle.picked_runs.specs.Numbering.{IsNumberedInOrder}
use Rattle.picked_runs.specs.PickLaws.{EveryRunIsPicked}
use Rattle.picked_runs.proofs.Answers.{answer_picked}
use Rattle.picked_runs.proofs.Mates.{mate_idle, mate_picked}

abbrev pub event_with : ℕ → Call → Reply → Option ℕ → Event
event_with rank call reply mate = record { rank = rank; call = call; reply = reply; mate = mate; met = [] }

-- an event after which nothing meets
pub whole : (event : Event) → event.met ≡ [] → event ≡ event_with event.rank event.call event.reply event.mate
whole event alone = ap (λ (l : List (Name × Name)). record { rank = event.rank; call = event.call; reply = event.reply; mate = event.mate; met = l }) alone

-- an event with the reply and the mate of what it picks is the picked event
pub event_is : (n : ℕ) (before : List Event) (rank : ℕ) (call : Call) (pick : Pick) (reply : Reply) (mate : Option ℕ) → picked_reply n before rank call pick ≡ reply
    → picked_mate before rank call reply pick ≡ mate → picked_event n before rank call pick ≡ event_with rank call reply mate
event_is n before rank call pick reply mate r m =
    ap (λ x. event_with rank call x (picked_mate before rank call x pick)) r ∙ ap (λ x. event_with rank call reply x) m

mate_by : (before : List Event) (event : Event) (pick : Pick) → (is_start (event.call, event.reply) ≡ true → event.mate ≡ picked_choice before event.rank event.call pick)
    → (is_start (event.call, event.reply) ≡ false → event.mate ≡ None) → picked_mate before event.rank event.call event.reply pick ≡ event.mate
mate_by before event pick starts idle =
    elim (test_cases (is_start (event.call, event.reply))) [
      | inl t ↦ rw t (sym (starts t))
      | inr t ↦ rw t (sym (idle t))
    ]

both : (a b : Bool) → a ≡ true → b ≡ true → (a && b) ≡ true
both true b p q = q
both false b p q = absurd (cc)

pub has_it : (n : ℕ) (before : List Event) (me : ℕ) (call : Call) (pick : Pick) → due n before me (view_of before me) call ≡ None
    → is_offered n before me (view_of before me) call pick ≡ true → has_pick n before me call pick ≡ true
has_it n before me call First none offered = refl
has_it n before me call (Sender sender) none offered =
    both (not (is_some (due n before me (view_of before me) call))) (is_offered n before me (view_of before me) call (Sender sender)) (ap (λ (o : Option Halt). not (is_some o)) none) offered
has_it n before me call (Index index) none offered =
    both (not (is_some (due n before me (view_of before me) call))) (is_offered n before me (view_of before me) call (Index index)) (ap (λ (o : Option Halt). not (is_some o)) none) offered

and_no : (b : Bool) → (b && false) ≡ false
and_no true = refl
and_no false = refl

-- where a halt is due
halt_picked : (n : ℕ) (before : List Event) (event : Event) (halt : Halt) → due n before event.rank (view_of before event.rank) event.call ≡ Some halt
    → event.reply ≡ Stopped halt → event.mate ≡ None → event.met ≡ [] → IsPickedEvent n before event First
halt_picked n before event halt h reply mate alone =
    let own = view_of before event.rank in
    let r : picked_reply n before event.rank event.call First ≡ event.reply =
    ap (λ o. halt_or o (picked_answer n before event.rank own event.call First)) h ∙ sym reply in
    let idle : is_start (event.call, event.reply) ≡ false = rw reply (and_no (is_starting event.call)) in
    let m : picked_mate before event.rank event.call event.reply First ≡ event.mate = rw idle (sym mate) in
    record { offered = refl; event_is = whole event alone ∙ sym (event_is n before event.rank event.call First event.reply event.mate r m) }

pub event_picked : (next : Next) (n : ℕ) (before : List Event) (event : Event) → IsAllMatched before → AllBelow n before → IsPromptEvent next n before event
    → IsNumberedInOrder n before event → IsPickedEvent n before event (pick_of n before event)
event_picked next n before event matched all step ordered =
    let own = view_of before event.rank in
    let call : Call = event.call in
    let reply : Reply = event.reply in
    let P : Pick = pick_by before call reply event.mate in
    let F : Option Halt → Type 0 = λ o. IsAllowedBy o (IsStuck next n before) (moment_of n before event.rank own) call reply in
    let G : Option Halt → Type 0 = λ o. IsPickedEvent n before event (pick_unless o P) in
    elim (option_cases (due n before event.rank own call)) [
      | inl some ↦
          let stopped : reply ≡ Stopped some.0 = subst F some.1 step.reply in
          let idle : is_start (call, reply) ≡ false = rw stopped (and_no (is_starting call)) in
          subst G (sym some.1) (halt_picked n before event some.0 some.1 stopped (mate_idle before event step.mate idle) step.alone)
      | inr none ↦
          let p = answer_picked (IsStuck next n before) n before event.rank call reply event.mate all (subst F none step.reply) ordered (mate_picked next n before event matched step) in
          let r : picked_reply n before event.rank call P ≡ reply = ap (λ o. halt_or o (picked_answer n before event.rank own call P)) none ∙ sym p.reply_is in
          let m : picked_mate before event.rank call reply P ≡ event.mate = mate_by before event P (mate_picked next n before event matched step) (mate_idle before event step.mate) in
          subst G (sym none) (record {
            offered = has_it n before event.rank call P none p.offered;
            event_is = whole event step.alone ∙ sym (event_is n before event.rank call P reply event.mate r m);
          })
    ]

all_picked : (next : Next) (n : ℕ) (before events : List Event) → IsAllMatched before → AllBelow n before → Along (IsPromptEvent next n) before events
    → Along (IsNumberedInOrder n) before events → ArePicked n before (picks_from n before events) events
all_picked next n before [] matched all run ordered = tt
all_picked next n before (event ∷ events) matched all run ordered = (
  event_picked next n before event matched all run.0 ordered.0,
  all_picked next n (before ++ event ∷ []) events run.0.matched (AllBelow-more n before event all run.0.rank) run.1 ordered.1,
)

pub every_run_is_picked : (next : Next) (n : ℕ) → EveryRunIsPicked next n
every_run_is_picked next n run is ordered =
    record { run = is; along = all_picked next n [] run none_waits (record { empty = λ rank above. refl }) is.along ordered }

-- The matcher after an event of a run, which is paired as the run did.
use Rattle.std.proofs.Common.{◌≡◌, ◌≤◌, ◌∙◌, ◌&&◌, ◌++◌, ◌∷◌, ℕ, List, [], Option, Some, None, Bool, true, false, is_some, not, ap, refl, subst, sym, slice_get, take}
use Rattle.std.proofs.lemmas.Bool.{and_parts}
use Rattle.mpi_call.specs.declared.call.Call.{Call}
use Rattle.mpi_call.specs.declared.call.Call.TheVariants.{Send, Post, Enter}
use Rattle.mpi_call.specs.declared.call.Halt.{Halt}
use Rattle.mpi_call.specs.declared.reply.Reply.{Reply}
use Rattle.mpi_call.specs.declared.reply.Reply.TheVariants.{Done, NotYet, Took, Peeked, Stopped}
use Rattle.mpi_call.specs.Calls.{is_send, is_starting}
use Rattle.run_model.specs.declared.event.Event.{Event}
use Rattle.run_model.specs.Chosen.{halt_or}
use Rattle.run_model.specs.Choice.{choice}
use Rattle.run_model.specs.Due.{due}
use Rattle.run_model.specs.Pairs.{Name, name_at}
use Rattle.run_model.specs.Views.{is_done, is_start, view_of, rank_of_event}
use Rattle.run_model.proofs.Choosing.{IsOpenAt, choice_is, choice_is_none, choice_some}
use Rattle.run_model.proofs.Positions.{name_parts}
use Rattle.match_core.specs.declared.start.UnpairedStart.{UnpairedStart}
use Rattle.match_core.specs.Histories.{IsChoice, IsNoMessageStart, KnowsUnpaired, KnowsMore, KnowsPicked, SuitsAt, new_start_event}
use Rattle.match_core.specs.Starts.{is_message, is_post}
use Rattle.picked_runs.specs.declared.turn.Pick.{Pick}
use Rattle.picked_runs.specs.declared.turn.Pick.TheVariants.{First, Sender, Index}
use Rattle.picked_runs.specs.Picks.{call_from, has_pick, is_offered, looks, picked_answer, picked_choice, picked_mate}
use Rattle.picked_runs.specs.Picked.{IsPickedEvent}
use Rattle.picked_runs.proofs.Narrowing.{suits_back, suits_on}
use Rattle.other_picks.specs.inside.Known.{IsEventOf}

-- ---- the matcher's choice is the machine's

suits_open : (events : List Event) (rank : ℕ) (call : Call) (at : ℕ) → SuitsAt events rank call at → IsOpenAt events rank call at
suits_open events rank call at f =
    record { name = f.name; start = f.start; there = f.unpaired.there; made = f.unpaired.made; free = f.unpaired.free; suited = f.fit }

open_suits : (events : List Event) (rank : ℕ) (call : Call) (at : ℕ) → IsOpenAt events rank call at → SuitsAt events rank call at
open_suits events rank call at o =
    record { name = o.name; start = o.start; unpaired = record { there = o.there; made = o.made; free = o.free }; fit = o.suited }

pub choice_same : (events : List Event) (rank : ℕ) (call : Call) (mate : Option ℕ) → IsChoice events rank call mate → choice events rank call ≡ mate
choice_same events rank call None none = choice_is_none events rank call (λ at o. none at (open_suits events rank call at o))
choice_same events rank call (Some at) one =
    choice_is events rank call at (record { chosen = suits_open events rank call at one.0; first = λ other o. one.1 other (open_suits events rank call other o) })

-- ---- an event of a run

done_is : (reply : Reply) → is_done reply ≡ true → reply ≡ Done
done_is Done h = refl
done_is NotYet h = absurd (cc)
done_is (Took items) h = absurd (cc)
done_is (Peeked source start tag count) h = absurd (cc)
done_is (Stopped halt) h = absurd (cc)

no_halt : (halt : Option Halt) (reply : Reply) → halt_or halt reply ≡ Done → halt ≡ None
no_halt (Some halt) reply h = absurd (cc)
no_halt None reply h = refl

-- where a call is answered Done no halt is due
pub none_due : (n : ℕ) (before : List Event) (event : Event) (pick : Pick) → IsPickedEvent n before event pick → event.reply ≡ Done
    → due n before event.rank (view_of before event.rank) event.call ≡ None
none_due n before event pick is done =
    no_halt (due n before event.rank (view_of before event.rank) event.call) (picked_answer n before event.rank (view_of before event.rank) event.call pick)
    (sym (ap (λ (e : Event). e.reply) is.event_is) ∙ done)

mate_is : (n : ℕ) (before : List Event) (event : Event) (pick : Pick) → IsPickedEvent n before event pick
    → event.mate ≡ picked_mate before event.rank event.call event.reply pick
mate_is n before event pick is =
    ap (λ (e : Event). e.mate) is.event_is
    ∙ ap (λ r. picked_mate before event.rank event.call r pick) (sym (ap (λ (e : Event). e.reply) is.event_is))

start_mate : (n : ℕ) (before : List Event) (event : Event) (pick : Pick) → IsPickedEvent n before event pick → is_start (event.call, event.reply) ≡ true
    → event.mate ≡ picked_choice before event.rank event.call pick
start_mate n before event pick is start =
    let F : picked_mate before event.rank event.call event.reply pick ≡ picked_choice before event.rank event.call pick = rw start in
    mate_is n before event pick is ∙ F

pub idle_mate : (n : ℕ) (before : List Event) (event : Event) (pick : Pick) → IsPickedEvent n before event pick → is_start (event.call, event.reply) ≡ false
    → event.mate ≡ None
idle_mate n before event pick is idle =
    let F : picked_mate before event.rank event.call event.reply pick ≡ None = rw idle in
    mate_is n before event pick is ∙ F

pub start_done : (event : Event) → is_start (event.call, event.reply) ≡ true → event.reply ≡ Done
start_done event start = done_is event.reply (and_parts (is_starting event.call) (is_done event.reply) start).1

-- a start with its own mate is the event
abbrev event_with : Event → Reply → Option ℕ → Event
event_with event reply mate = record { rank = event.rank; call = event.call; reply = reply; mate = mate; met = [] }

-- nothing meets after an event that a pick makes
pub none_met : (n : ℕ) (before : List Event) (event : Event) → IsEventOf n before event → event.met ≡ []
none_met n before event is = ap (λ (e : Event). e.met) is.picked.event_is

-- ---- events that start no message

other_starts : (call : Call) → is_starting call ≡ true → is_message call ≡ false → (before : List Event) (rank : ℕ) (pick : Pick) → picked_choice before rank call pick ≡ None
other_starts (Enter comm kind root op count ints) starting apart before rank First =
    choice_is_none before rank (Enter comm kind root op count ints) (λ at o. (let no : false ≡ true = o.suited in cc))
other_starts (Enter comm kind root op count ints) starting apart before rank (Sender sender) =
    choice_is_none before rank (Enter comm kind root op count ints) (λ at o. (let no : false ≡ true = o.suited in cc))
other_starts (Enter comm kind root op count ints) starting apart before rank (Index index) =
    choice_is_none before rank (Enter comm kind root op count ints) (λ at o. (let no : false ≡ true = o.suited in cc))
other_starts call starting apart before rank pick = absurd (cc)

and_no : (b : Bool) → (b && false) ≡ false
and_no true = refl
and_no false = refl

-- neither a Send nor a Post
pub no_message : (call : Call) → is_send call ≡ false → is_post call ≡ false → is_message call ≡ false
no_message (Send comm dest tag ints sync) send post = send
no_message (Post comm source tag room) send post = post
no_message call send post = refl

-- no start
pub idle_other : (n : ℕ) (before : List Event) (event : Event) → IsEventOf n before event → is_start (event.call, event.reply) ≡ false
    → (is_message event.call && is_done event.reply) ≡ false → IsNoMessageStart event
idle_other n before event is idle no_message = record { other = no_message; alone = idle_mate n before event is.pick is.picked idle; none_met = none_met n before event is }

-- a start of no message
pub enter_other : (n : ℕ) (before : List Event) (event : Event) → IsEventOf n before event → is_start (event.call, event.reply) ≡ true → is_message event.call ≡ false
    → IsNoMessageStart event
enter_other n before event is start apart = record {
  other = rw apart;
  alone = start_mate n before event is.pick is.picked start
      ∙ other_starts event.call (and_parts (is_starting event.call) (is_done event.reply) start).0 apart before event.rank is.pick;
  none_met = none_met n before event is;
}

message_idle : (call : Call) (reply : Reply) → is_start (call, reply) ≡ false → (is_message call && is_done reply) ≡ false
message_idle (Send comm dest tag ints sync) reply idle = idle
message_idle (Post comm source tag room) reply idle = idle
message_idle call reply idle = refl

pub not_start : (n : ℕ) (before : List Event) (event : Event) → IsEventOf n before event → is_start (event.call, event.reply) ≡ false → IsNoMessageStart event
not_start n before event is idle = idle_other n before event is idle (message_idle event.call event.reply idle)

-- ---- sends

send_choice : (before : List Event) (rank : ℕ) (call : Call) (pick : Pick) → is_send call ≡ true → picked_choice before rank call pick ≡ choice before rank call
send_choice before rank (Send comm dest tag ints sync) First h = refl
send_choice before rank (Send comm dest tag ints sync) (Sender sender) h = refl
send_choice before rank (Send comm dest tag ints sync) (Index index) h = refl
send_choice before rank call pick h = absurd (cc)

-- what is known with a start's choice is known with the event, whose mate is that choice
known_with : (before : List Event) (event : Event) (mate : Option ℕ) (starts : List UnpairedStart) → event.reply ≡ Done → event.met ≡ [] → event.mate ≡ mate
    → KnowsUnpaired (before ++ new_start_event event.rank event.call mate ∷ []) starts → KnowsUnpaired (before ++ event ∷ []) starts
known_with before event mate starts done alone same knows =
    let with_mate : new_start_event event.rank event.call mate ≡ new_start_event event.rank event.call event.mate = ap (new_start_event event.rank event.call) (sym same) in
    let with_reply : event_with event Done event.mate ≡ event_with event event.reply event.mate = ap (λ r. event_with event r event.mate) (sym done) in
    let with_none : event_with event event.reply event.mate ≡ event = ap (λ (l : List (Name × Name)). record { rank = event.rank; call = event.call; reply = event.reply; mate = event.mate; met = l }) (sym alone) in
    let is : new_start_event event.rank event.call mate ≡ event = with_mate ∙ (with_reply ∙ with_none) in
    let F : Event → Type 0 = λ e. KnowsUnpaired (before ++ e ∷ []) starts in
    subst F is knows

pub known_send : (n : ℕ) (before : List Event) (event : Event) (mate : Option ℕ) (starts : List UnpairedStart) → IsEventOf n before event → is_start (event.call, event.reply) ≡ true
    → is_send event.call ≡ true → KnowsMore before (new_start_event event.rank event.call mate) starts → KnowsUnpaired (before ++ event ∷ []) starts
known_send n before event mate starts is start send more =
    known_with before event mate starts (start_done event start) (none_met n before event is)
    (start_mate n before event is.pick is.picked start ∙ (send_choice before event.rank event.call is.pick send ∙ choice_same before event.rank event.call mate more.choice))
    more.knows

-- ---- receives

post_none : (n : ℕ) (before : List Event) (rank : ℕ) (call : Call) (pick : Pick) → is_post call ≡ true → has_pick n before rank call pick ≡ true
    → picked_choice before rank call pick ≡ None → choice before rank call ≡ None
post_none n before rank (Post comm source tag room) First post offered none = none
post_none n before rank (Post comm source tag room) (Sender sender) post offered none =
    let call : Call = Post comm source tag room in
    let parts = and_parts (not (is_some (due n before rank (view_of before rank) call))) (is_offered n before rank (view_of before rank) call (Sender sender)) offered in
    let there : is_some (picked_choice before rank call (Sender sender)) ≡ true = parts.1 in
    let no : false ≡ true = sym (ap is_some none) ∙ there in
    absurd (cc)
post_none n before rank (Post comm source tag room) (Index index) post offered none =
    let call : Call = Post comm source tag room in
    let parts = and_parts (not (is_some (due n before rank (view_of before rank) call))) (is_offered n before rank (view_of before rank) call (Index index)) offered in
    let no : false ≡ true = parts.1 in
    absurd (cc)
post_none n before rank call pick post offered none = absurd (cc)

-- a receive without a mate
pub known_post : (n : ℕ) (before : List Event) (event : Event) (mate : Option ℕ) (starts : List UnpairedStart) → IsEventOf n before event → is_start (event.call, event.reply) ≡ true
    → is_post event.call ≡ true → event.mate ≡ None → KnowsMore before (new_start_event event.rank event.call mate) starts → KnowsUnpaired (before ++ event ∷ []) starts
known_post n before event mate starts is start post alone more =
    let picked : picked_choice before event.rank event.call is.pick ≡ None = sym (start_mate n before event is.pick is.picked start) ∙ alone in
    known_with before event mate starts (start_done event start) (none_met n before event is)
    (alone ∙ (sym (post_none n before event.rank event.call is.pick post is.picked.offered picked) ∙ choice_same before event.rank event.call mate more.choice))
    more.knows

-- the rank of the start at a position
pub owner_is : (before : List Event) (at : ℕ) (name : Name) → name_at before at ≡ Some name → name.0 ≡ rank_of_event (slice_get before at)
owner_is before at name there =
    let p = name_parts (take at before) (slice_get before at) name there in
    sym (ap (λ (x : Name). x.0) p.name_is) ∙ sym (ap rank_of_event p.there)

pub post_looks : (call : Call) → is_post call ≡ true → looks call ≡ true
post_looks (Post comm source tag room) h = refl
post_looks call h = absurd (cc)

-- the open start at a position is the first of its rank that the call suits
record IsFirst (before : List Event) (rank : ℕ) (call : Call) (at : ℕ) : Type 0 where
  is_open : IsOpenAt before rank call at
  first : (other : ℕ) (o : IsOpenAt before rank call other) → o.name.0 ≡ is_open.name.0 → at ≤ other

narrow : (before : List Event) (rank sender : ℕ) (call : Call) (at : ℕ) (o : IsOpenAt before rank call at) → o.name.0 ≡ sender
    → IsOpenAt before rank (call_from sender call) at
narrow before rank sender call at o same =
    record { name = o.name; start = o.start; there = o.there; made = o.made; free = o.free; suited = suits_on rank sender call o.name.0 o.start o.suited same }

pub widen : (before : List Event) (rank sender : ℕ) (call : Call) (at : ℕ) → looks call ≡ true → IsOpenAt before rank (call_from sender call) at
    → (o : IsOpenAt before rank call at) × (o.name.0 ≡ sender)
widen before rank sender call at h o =
    let back = suits_back rank sender call o.name.0 o.start h o.suited in
    (record { name = o.name; start = o.start; there = o.there; made = o.made; free = o.free; suited = back.0 }, back.1)

first_of : (before : List Event) (rank : ℕ) (call : Call) (pick : Pick) (at : ℕ) → looks call ≡ true → picked_choice before rank call pick ≡ Some at
    → IsFirst before rank call at
first_of before rank call First at h found =
    let c = choice_some before rank call at found in
    record { is_open = c.chosen; first = λ other o same. c.first other o }
first_of before rank call (Index index) at h found =
    let c = choice_some before rank call at found in
    record { is_open = c.chosen; first = λ other o same. c.first other o }
first_of before rank call (Sender sender) at h found =
    let c = choice_some before rank (call_from sender call) at found in
    let wide = widen before rank sender call at h c.chosen in
    record { is_open = wide.0; first = λ other o same. c.first other (narrow before rank sender call other o (same ∙ wide.1)) }

-- so it is the choice among the messages of its sender
sender_choice : (before : List Event) (rank : ℕ) (call : Call) (at : ℕ) → looks call ≡ true → IsFirst before rank call at
    → choice before rank (call_from (rank_of_event (slice_get before at)) call) ≡ Some at
sender_choice before rank call at h f =
    let sender : ℕ = rank_of_event (slice_get before at) in
    let own : f.is_open.name.0 ≡ sender = owner_is before at f.is_open.name f.is_open.there in
    choice_is before rank (call_from sender call) at (record {
      chosen = narrow before rank sender call at f.is_open own;
      first = λ other o. (let wide = widen before rank sender call other h o in f.first other wide.0 (wide.1 ∙ sym own));
    })

-- a receive with a mate
pub known_paired : (n : ℕ) (before : List Event) (event : Event) (at : ℕ) (found : Option ℕ) (starts : List UnpairedStart) → IsEventOf n before event
    → is_start (event.call, event.reply) ≡ true → is_post event.call ≡ true → event.mate ≡ Some at
    → KnowsPicked before event.rank event.call (rank_of_event (slice_get before at)) starts found → KnowsUnpaired (before ++ event ∷ []) starts
known_paired n before event at None starts is start post mate knows =
    let looked = post_looks event.call post in
    let picked = sym (start_mate n before event is.pick is.picked start) ∙ mate in
    let one = sender_choice before event.rank event.call at looked (first_of before event.rank event.call is.pick at looked picked) in
    let none = choice_same before event.rank (call_from (rank_of_event (slice_get before at)) event.call) None knows.0 in
    let no : Some at ≡ None = sym one ∙ none in
    absurd (cc)
known_paired n before event at (Some other) starts is start post mate knows =
    let looked = post_looks event.call post in
    let picked = sym (start_mate n before event is.pick is.picked start) ∙ mate in
    let one = sender_choice before event.rank event.call at looked (first_of before event.rank event.call is.pick at looked picked) in
    let found = choice_same before event.rank (call_from (rank_of_event (slice_get before at)) event.call) (Some other) knows.choice in
    known_with before event (Some other) starts (start_done event start) (none_met n before event is) (mate ∙ (sym one ∙ found)) knows.knows

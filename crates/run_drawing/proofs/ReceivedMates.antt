-- Where a message was received, the views tell its mate.
use Rattle.std.proofs.Common.{◌≡◌, ℕ, ℤ, List, Some, ap, sym, ◌∙◌, slice_get, slice_index, subst, take}
use Rattle.mpi_call.specs.declared.call.Call.{Call}
use Rattle.mpi_call.specs.declared.reply.Got.{Got}
use Rattle.mpi_call.specs.declared.reply.Got.TheVariants.{Message as GotMessage}
use Rattle.mpi_call.specs.declared.reply.Item.{Item}
use Rattle.mpi_call.specs.declared.reply.Reply.TheVariants.{Took}
use Rattle.mpi_call.specs.Calls.{listed_by}
use Rattle.mpi_call.specs.Lists.{IsIn}
use Rattle.run_model.specs.declared.event.Event.{Event}
use Rattle.run_model.specs.Pairs.{Name, pairs_of, partner_of}
use Rattle.run_model.specs.Run.{IsRun}
use Rattle.run_model.specs.Views.{Next}
use Rattle.run_model.proofs.Taken.{event_there}
use Rattle.run_drawing.specs.Laws.{SameMates}
use Rattle.run_drawing.proofs.Grounds.{IsCompleted, from_partner, item_completed}
use Rattle.run_drawing.proofs.Mates.{run_mates}
use Rattle.run_drawing.proofs.Twins.{in_get, said, twin_there}
use Rattle.run_drawing.proofs.TwinRuns.{partner_later, whole_agree}

-- the partner of a Send whose message an item gives
receiver_of : (next : Next) (n : ℕ) (events : List Event) (at : ℕ) (event : Event) (items : List Item) (item : Item) (rank start tag : ℕ) (ints : List ℤ) → IsRun next n events
    → slice_get events at ≡ Some event → event.reply ≡ Took items → IsIn item items → item.got ≡ GotMessage rank start tag ints
    → partner_of (pairs_of events) (rank, start) ≡ Some (event.rank, slice_index (listed_by event.call) item.index)
receiver_of next n events at event items item rank start tag ints run there took among gives =
    let me : ℕ = event.rank in
    let number : ℕ = slice_index (listed_by event.call) item.index in
    let G : Got → Type 0 = λ g. IsCompleted n (take at events) me number g in
    let completed = subst G gives (item_completed next n (take at events) event items item (event_there next n events at event run there) took among) in
    let paired = partner_later events at (me, number) (rank, start) (from_partner n (take at events) me number rank start tag ints completed).paired in
    (run_mates next n events run).matched.one_partner (me, number) (rank, start) paired

pub same_mates : (next : Next) → SameMates next
same_mates next n one other first second views received rank start awaited =
    let is = received rank start awaited in
    let place = in_get one is.event is.among in
    let twin = twin_there one other place.0 is.event (views is.event.rank) place.1 in
    let both = said one other place.0 twin.0 (whole_agree one other views) twin.1 in
    let events : Some both.event ≡ Some is.event = sym both.there ∙ place.1 in
    let same : both.event ≡ is.event = cc in
    let name : ℕ → Call → Name = λ r c. (r, slice_index (listed_by c) is.item.index) in
    let ranks : both.twin.rank ≡ is.event.rank = both.rank_is ∙ ap (λ (e : Event). e.rank) same in
    let calls : both.twin.call ≡ is.event.call = both.call_is ∙ ap (λ (e : Event). e.call) same in
    let took : both.twin.reply ≡ Took is.items = both.reply_is ∙ (ap (λ (e : Event). e.reply) same ∙ is.reply) in
    let names : name both.twin.rank both.twin.call ≡ name is.event.rank is.event.call = ap (λ r. name r both.twin.call) ranks ∙ ap (name is.event.rank) calls in
    let here = receiver_of next n one place.0 is.event is.items is.item rank start is.tag is.ints first place.1 is.reply is.listed is.gives in
    let there = receiver_of next n other twin.0 both.twin is.items is.item rank start is.tag is.ints second both.twin_there took is.listed is.gives in
    here ∙ (ap (λ (x : Name). Some x) (sym names) ∙ sym there)

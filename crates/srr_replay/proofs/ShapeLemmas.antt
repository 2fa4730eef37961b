-- A reply that an entry represents has the shape of its call.
use Rattle.std.proofs.Common.{◌&&◌, ◌||◌, ◌<◌, ◌==◌, ◌∙◌, ◌∷◌, ◌≡◌, Bool, Err, List, None, Ok, Option, Result, Some, [], ap, false, get_or, inl, inr, length, map, nat_le, not, refl, slice_get, slice_index, sym, true, ℕ, ℤ}
use Rattle.std.proofs.lemmas.Bool.{and_parts, eq-eqb}
use Rattle.std.proofs.lemmas.List.{length-map}
use Rattle.std.specs.List.{list_all}
use Rattle.mpi_call.specs.declared.call.Call.{Call}
use Rattle.mpi_call.specs.declared.call.Call.TheVariants.{End, Enter, Peek, Post, Send, Take}
use Rattle.mpi_call.specs.declared.call.Kind.TheVariants.{Dup}
use Rattle.mpi_call.specs.declared.call.Source.{Source}
use Rattle.mpi_call.specs.declared.call.Source.TheVariants.{Any, From, Null}
use Rattle.mpi_call.specs.declared.call.Tag.{Tag}
use Rattle.mpi_call.specs.declared.call.TakeMode.{TakeMode}
use Rattle.mpi_call.specs.declared.reply.Got.{Got}
use Rattle.mpi_call.specs.declared.reply.Got.TheVariants.{Joined, Made, Message, Nothing, Sent}
use Rattle.mpi_call.specs.declared.reply.Item.{Item}
use Rattle.mpi_call.specs.declared.reply.Reply.{Reply}
use Rattle.mpi_call.specs.declared.reply.Reply.TheVariants.{Done, NotYet, Peeked, Stopped, Took as ReplyTook}
use Rattle.mpi_call.specs.Acceptance.{accepts, tag_agrees}
use Rattle.mpi_call.specs.Calls.{comm_of, ints_of, is_enter, makes}
use Rattle.mpi_call.specs.Collectives.{is_distinct, is_member, is_uncoloured, members_made, needs, place_of, result_length, result_of}
use Rattle.mpi_call.specs.Results.{input_of}
use Rattle.mpi_call.proofs.MemberLemmas.{at_place_of, place_of-within}
use Rattle.mpi_call.proofs.NeedsLemmas.{needs-me}
use Rattle.mpi_call.proofs.ResultLemmas.{length-result_of}
use Rattle.run_model.specs.declared.event.Event.{Event}
use Rattle.run_model.specs.Communicators.{Entered, enter_at, instance_of, known_first, members_for_rank}
use Rattle.run_model.specs.Forms.{AreInOrder, AreMembers}
use Rattle.run_model.specs.Inputs.{inputs_of}
use Rattle.run_model.specs.Lists.{are_below, same_ranks}
use Rattle.run_model.specs.Shape.{are_members, can_take, got_fits, gots_fit, has_count, has_shape, is_dup, is_sized, rise_within}
use Rattle.run_model.specs.Views.{View, start_at, view_of}
use Rattle.run_model.proofs.MemberLists.{AreMembers-made, same_ranks-refl}
use Rattle.run_model.proofs.Enters.{own_at}
use Rattle.run_model.proofs.Instances.{gather-at, on_own}
use Rattle.run_model.proofs.Views.{test_cases}
use Rattle.srr_entry.specs.declared.entry.Entry.{Entry}
use Rattle.srr_entry.specs.declared.entry.Entry.TheVariants.{Ended, Entered as EntryEntered, NotYet as EntryNotYet, PeekedInside, PeekedOutside, Posted, Sent as EntrySent, Stopped as EntryStopped, Took}
use Rattle.srr_entry.specs.declared.entry.Mark.{Mark}
use Rattle.srr_entry.specs.declared.entry.Mark.TheVariants.{Inner, Inside, Made as MarkMade, MadeOutside, Nothing as MarkNothing, Outer, Outside, Sent as MarkSent}
use Rattle.srr_entry.specs.declared.entry.Marked.{Marked}
use Rattle.srr_entry.specs.declared.log.Log.{Log}
use Rattle.srr_entry.specs.Entries.{entries_for, is_inner}
use Rattle.replay_model.specs.declared.step.Found.{Found}
use Rattle.replay_model.specs.declared.step.Missing.{Missing}
use Rattle.replay_model.specs.declared.step.Step.TheVariants.{Replied}
use Rattle.replay_model.specs.Breaks.{break_inner, break_mark, break_marks, break_send, broken, send_fits}
use Rattle.srr_replay.specs.inside.Collectives.{IsCollective}
use Rattle.replay_model.specs.Filling.{absent_of, as_took, asker_of, fill_inner, fill_made, fill_mark, fill_marks, filled_message, filled_reply, joined_result, made_new, peeked_from, push_item}
use Rattle.replay_model.specs.Fits.{entry_fits, mark_fits, marks_fit}
use Rattle.replay_model.specs.Replays.{Breakpoint, replay_answer, entry_answer, is_break, judged}
use Rattle.srr_replay.proofs.CollectiveLemmas.{form_of, inputs_are, or_none-first, or_none-rest}
use Rattle.srr_replay.proofs.LogLemmas.{both}
use Rattle.srr_replay.proofs.MissingMarks.{enter_for-made}
use Rattle.replay_model.proofs.ShapedFits.{not_true, uncoloured_inner}

-- a Send that a receive accepts within its room gives what has the receive's shape
message_shaped : (n : ℕ) (group : List ℕ) (own : View) (me source start : ℕ) (taker : Option Call) (c dest tag : ℕ) (ints : List ℤ) (sync : Bool) → mark_fits n group me own taker (Inside source start) ≡ true → send_fits me source taker (Send c dest tag ints sync) ≡ true → got_fits n me own taker (Message source start tag ints) ≡ true
message_shaped n group own me source start None c dest tag ints sync marked sent = absurd (cc)
message_shaped n group own me source start (Some (Post comm Any wanted room)) c dest tag ints sync marked sent =
    let parts = both (accepts me comm Any wanted source (Send c dest tag ints sync)) (nat_le (length ints) room) sent in
    let on_comm = both (c == comm) ((dest == me) && (true && tag_agrees wanted tag)) parts.0 in
    let to_me = both (dest == me) (true && tag_agrees wanted tag) on_comm.1 in
    rw (to_me.1, parts.1) refl
message_shaped n group own me source start (Some (Post comm (From rank) wanted room)) c dest tag ints sync marked sent =
    let parts = both (accepts me comm (From rank) wanted source (Send c dest tag ints sync)) (nat_le (length ints) room) sent in
    let on_comm = both (c == comm) ((dest == me) && ((rank == source) && tag_agrees wanted tag)) parts.0 in
    let to_me = both (dest == me) ((rank == source) && tag_agrees wanted tag) on_comm.1 in
    let agrees = both (rank == source) (tag_agrees wanted tag) to_me.1 in
    rw (agrees.0, agrees.1, parts.1) refl
message_shaped n group own me source start (Some (Post comm Null wanted room)) c dest tag ints sync marked sent = absurd (cc)
message_shaped n group own me source start (Some call) c dest tag ints sync marked sent = absurd (cc)

is_send : Call → Bool
is_send (Send comm dest tag ints sync) = true
is_send call = false

-- a start that is no Send fits no receive
send_fits-other : (me source : ℕ) (taker : Option Call) (call : Call) → is_send call ≡ false → send_fits me source taker call ≡ false
unfolding is_send
send_fits-other me source None call h = refl
send_fits-other me source (Some (Post comm from tag room)) (Send c dest t ints sync) h = absurd (cc)
send_fits-other me source (Some (Post comm from tag room)) call h = refl
send_fits-other me source (Some (Peek comm from tag wait)) (Send c dest t ints sync) h = absurd (cc)
send_fits-other me source (Some (Peek comm from tag wait)) call h = refl
send_fits-other me source (Some taker) call h = refl

-- what an entry of completed starts asks of the call
pub record TakeFits (n : ℕ) (group : List ℕ) (me : ℕ) (own : View) (starts : List ℕ) (mode : TakeMode) (marks : List Marked) : Type 0 where
  pub count : has_count mode (length starts) (length marks) ≡ true
  pub indices : rise_within 0 (length starts) (map (λ (marked : Marked). marked.index) marks) ≡ true
  pub open_starts : list_all (λ k. can_take own k) starts ≡ true
  pub marks_are : marks_fit n group me own starts marks ≡ true

pub TakeFits-fits : (n : ℕ) (group : List ℕ) (me : ℕ) (own : View) (starts : List ℕ) (mode : TakeMode) (marks : List Marked) → entry_fits n group me own (Take starts mode) (Took marks) ≡ true → TakeFits n group me own starts mode marks
unfolding entry_fits
TakeFits-fits n group me own starts mode marks h =
    let one = both (has_count mode (length starts) (length marks)) _ h in
    let two = both (rise_within 0 (length starts) (map (λ (marked : Marked). marked.index) marks)) _ one.1 in
    let three = both (list_all (λ k. can_take own k) starts) (marks_fit n group me own starts marks) two.1 in
    record { count = one.0; indices = two.0; open_starts = three.0; marks_are = three.1 }

-- a mark of a message from inside gives what has the receive's shape
sent_shaped : (n : ℕ) (group : List ℕ) (own : View) (me source start : ℕ) (taker sent : Option Call) (got : Got) → mark_fits n group me own taker (Inside source start) ≡ true → filled_message source start sent ≡ Ok got → break_send me source start taker sent ≡ None → got_fits n me own taker got ≡ true
unfolding is_send
sent_shaped n group own me source start taker None got fit made h = absurd (cc)
sent_shaped n group own me source start taker (Some (Send c dest tag ints sync)) got fit made h =
    elim (test_cases (send_fits me source taker (Send c dest tag ints sync))) [
      | inl t ↦ (
          let same : Message source start tag ints ≡ got = cc in
          rw (← same) (message_shaped n group own me source start taker c dest tag ints sync fit t))
      | inr t ↦ (let told = rw t at h in absurd (cc))
    ]
sent_shaped n group own me source start taker (Some call) got fit made h =
    let told = rw (send_fits-other me source taker call refl) at h in
    absurd (cc)

-- what the rank itself entered is among the inputs of its collective
own_input : (n : ℕ) (events : List Event) (rank k : ℕ) (enter : Call) (inputs : List (List ℤ)) → IsCollective n events rank k enter → inputs_of n (view_of events) rank (view_of events rank) k enter ≡ Ok inputs → input_of (members_for_rank n (view_of events rank) (comm_of enter)) inputs rank ≡ ints_of enter
own_input n events rank k enter inputs is gathered =
    let own : View = view_of events rank in
    let C : ℕ = comm_of enter in
    let M : List ℕ = members_for_rank n own C in
    let find : ℕ → Option Entered = λ m. enter_at n (view_of events m) C (instance_of own k C) in
    let form = form_of n events rank k enter is in
    let mine = own_at C 0 (known_first n C) own k enter is.start (on_own enter is.is) in
    let there : get_or M (place_of M rank) 0 ≡ rank = at_place_of M rank form.members.has_me in
    let need : needs enter M rank (get_or M (place_of M rank) 0) ≡ true = rw there (needs-me enter M rank is.is) in
    let found = gather-at (needs enter M rank) find M inputs (place_of M rank) gathered (place_of-within M rank form.members.has_me) need in
    let some : Some found.0 ≡ Some mine.0 = sym found.1 ∙ rw there mine.1 in
    let same : found.0 ≡ mine.0 = cc in
    found.2 ∙ (ap (λ (x : Entered). ints_of x.call) same ∙ ap ints_of mine.2)

-- a result has the length of the table
joined_shaped : (n : ℕ) (events : List Event) (rank k : ℕ) (enter : Call) (inputs : List (List ℤ)) → IsCollective n events rank k enter → inputs_of n (view_of events) rank (view_of events rank) k enter ≡ Ok inputs → is_sized n rank (view_of events rank) enter (result_of enter (members_for_rank n (view_of events rank) (comm_of enter)) inputs rank) ≡ true
joined_shaped n events rank k enter inputs is gathered =
    let M : List ℕ = members_for_rank n (view_of events rank) (comm_of enter) in
    let form = form_of n events rank k enter is in
    eq-eqb (length (result_of enter M inputs rank)) (result_length enter M rank)
    (length-result_of enter M inputs rank form.form form.members.has_me (inputs_are n events rank k enter inputs is gathered))

-- a new communicator has members for the rank
made_members : (n : ℕ) (events : List Event) (rank k : ℕ) (enter : Call) (inputs : List (List ℤ)) → IsCollective n events rank k enter → makes enter ≡ true → is_uncoloured enter ≡ false → inputs_of n (view_of events) rank (view_of events rank) k enter ≡ Ok inputs → AreMembers n rank (members_made enter (members_for_rank n (view_of events rank) (comm_of enter)) inputs rank)
made_members n events rank k enter inputs is making coloured gathered =
    AreMembers-made n rank enter (members_for_rank n (view_of events rank) (comm_of enter)) inputs making coloured (form_of n events rank k enter is).members (own_input n events rank k enter inputs is gathered)

-- a Dup gives the old members
dup_same : (enter : Call) (members : List ℕ) (inputs : List (List ℤ)) (me : ℕ) → is_dup enter ≡ true → same_ranks members (members_made enter members inputs me) ≡ true
dup_same (Enter comm Dup root op count ints) members inputs me h = same_ranks-refl members
dup_same (Enter comm kind root op count ints) members inputs me h = absurd (cc)
dup_same call members inputs me h = absurd (cc)

not_or : (b c : Bool) → (b ≡ true → c ≡ true) → (not b || c) ≡ true
not_or true c h = h refl
not_or false c h = refl

made_are : (n : ℕ) (events : List Event) (rank k : ℕ) (enter : Call) (inputs : List (List ℤ)) → IsCollective n events rank k enter → makes enter ≡ true → is_uncoloured enter ≡ false → inputs_of n (view_of events) rank (view_of events rank) k enter ≡ Ok inputs → are_members n rank enter (members_for_rank n (view_of events rank) (comm_of enter)) (members_made enter (members_for_rank n (view_of events rank) (comm_of enter)) inputs rank) ≡ true
made_are n events rank k enter inputs is making coloured gathered =
    let M : List ℕ = members_for_rank n (view_of events rank) (comm_of enter) in
    let are = made_members n events rank k enter inputs is making coloured gathered in
    let dup = not_or (is_dup enter) (same_ranks M (members_made enter M inputs rank)) (dup_same enter M inputs rank) in
    rw (are.below, are.distinct, are.has_me, dup) refl

-- members of a new communicator with a number above 0 fit their Enter
made_shape : (n : ℕ) (own : View) (me : ℕ) (enter : Call) (comm : ℕ) (members : List ℕ) → makes enter ≡ true → is_uncoloured enter ≡ false → (comm == 0) ≡ false → is_member members me ≡ true → are_members n me enter (members_for_rank n own (comm_of enter)) members ≡ true → got_fits n me own (Some enter) (Made comm members) ≡ true
made_shape n own me (Enter c kind root op count ints) comm [] making coloured real member are = absurd (cc)
made_shape n own me (Enter c kind root op count ints) comm (m ∷ members) making coloured real member are = rw (making, coloured, real, are) refl
made_shape n own me call comm members making coloured real member are = absurd (cc)

none_shape : (n : ℕ) (own : View) (me : ℕ) (enter : Call) → makes enter ≡ true → is_uncoloured enter ≡ true → got_fits n me own (Some enter) (Made 0 []) ≡ true
none_shape n own me (Enter c kind root op count ints) making un = rw (making, un) refl
none_shape n own me call making un = absurd (cc)

joined_shape : (n : ℕ) (own : View) (me : ℕ) (enter : Call) (ints : List ℤ) → is_enter enter ≡ true → makes enter ≡ false → is_sized n me own enter ints ≡ true → got_fits n me own (Some enter) (Joined ints) ≡ true
joined_shape n own me (Enter c kind root op count entered) ints is making sized = rw (making, sized) refl
joined_shape n own me call ints is making sized = absurd (cc)

-- what a collective's mark asks of its start
inner_parts : (n : ℕ) (group : List ℕ) (me : ℕ) (own : View) (call : Call) → mark_fits n group me own (Some call) Inner ≡ true → (is_enter call ≡ true) × (makes call ≡ false)
inner_parts n group me own (Enter c kind root op count ints) fit =
    let parts = and_parts (not (makes (Enter c kind root op count ints))) _ fit in
    (refl, not_true (makes (Enter c kind root op count ints)) parts.0)
inner_parts n group me own (Post on Any wanted room) fit = absurd (cc)
inner_parts n group me own (Post on (From from) wanted room) fit = absurd (cc)
inner_parts n group me own (Post on Null wanted room) fit = absurd (cc)
inner_parts n group me own call fit = absurd (cc)

outer_shape : (n : ℕ) (group : List ℕ) (me : ℕ) (own : View) (call : Call) (ints : List ℤ) → mark_fits n group me own (Some call) (Outer ints) ≡ true → got_fits n me own (Some call) (Joined ints) ≡ true
outer_shape n group me own (Enter c kind root op count entered) ints fit =
    let enter : Call = Enter c kind root op count entered in
    let one = and_parts (not (makes enter)) _ fit in
    let two = and_parts (not (is_inner n group me own (Some enter))) (is_sized n me own enter ints) one.1 in
    rw (one.0, two.1) refl
outer_shape n group me own (Post on Any wanted room) ints fit = absurd (cc)
outer_shape n group me own (Post on (From from) wanted room) ints fit = absurd (cc)
outer_shape n group me own (Post on Null wanted room) ints fit = absurd (cc)
outer_shape n group me own call ints fit = absurd (cc)

pub record MadeParts (n : ℕ) (group : List ℕ) (me : ℕ) (own : View) (call : Call) (comm : ℕ) : Type 0 where
  pub making : makes call ≡ true
  pub none : (comm == 0) ≡ true → is_uncoloured call ≡ true
  pub some : (comm == 0) ≡ false → is_uncoloured call ≡ false

made_parts : (n : ℕ) (group : List ℕ) (me : ℕ) (own : View) (call : Call) (comm : ℕ) → mark_fits n group me own (Some call) (MarkMade comm) ≡ true → MadeParts n group me own call comm
made_parts n group me own (Enter c kind root op count ints) comm fit =
    let enter : Call = Enter c kind root op count ints in
    let one = and_parts (makes enter) _ fit in
    let two = and_parts (is_inner n group me own (Some enter)) _ one.1 in
    record {
      making = one.0;
      none = λ t. rw t at two.1;
      some = λ t. not_true (is_uncoloured enter) (rw t at two.1);
    }
made_parts n group me own (Post on Any wanted room) comm fit = absurd (cc)
made_parts n group me own (Post on (From from) wanted room) comm fit = absurd (cc)
made_parts n group me own (Post on Null wanted room) comm fit = absurd (cc)
made_parts n group me own call comm fit = absurd (cc)

outside_shape : (n : ℕ) (group : List ℕ) (me : ℕ) (own : View) (call : Call) (comm : ℕ) (members : List ℕ) → is_member group me ≡ true → mark_fits n group me own (Some call) (MadeOutside comm members) ≡ true → got_fits n me own (Some call) (Made comm members) ≡ true
outside_shape n group me own (Enter c kind root op count ints) comm members mine fit =
    let enter : Call = Enter c kind root op count ints in
    let one = and_parts (makes enter) _ fit in
    let two = and_parts (not (is_inner n group me own (Some enter))) _ one.1 in
    let three = and_parts (not (comm == 0)) (are_members n me enter (members_for_rank n own c) members) two.1 in
    let below = and_parts (are_below n members) _ three.1 in
    let distinct = and_parts (is_distinct members) _ below.1 in
    let member = and_parts (is_member members me) _ distinct.1 in
    elim (test_cases (is_uncoloured enter)) [
      | inl un ↦ (
          let inner = uncoloured_inner n group me own enter mine un in
          let no : true ≡ false = sym inner ∙ not_true (is_inner n group me own (Some enter)) two.0 in
          absurd (cc))
      | inr coloured ↦ made_shape n own me enter comm members one.0 coloured (not_true (comm == 0) three.0) member.0 three.1
    ]
outside_shape n group me own (Post on Any wanted room) comm members mine fit = absurd (cc)
outside_shape n group me own (Post on (From from) wanted room) comm members mine fit = absurd (cc)
outside_shape n group me own (Post on Null wanted room) comm members mine fit = absurd (cc)
outside_shape n group me own call comm members mine fit = absurd (cc)

-- marks whose content is in the entry
sent_mark : (n : ℕ) (group : List ℕ) (own : View) (me : ℕ) (start : Option Call) → mark_fits n group me own start MarkSent ≡ true → got_fits n me own start Sent ≡ true
sent_mark n group own me None fit = absurd (cc)
sent_mark n group own me (Some (Send comm dest tag ints sync)) fit = refl
sent_mark n group own me (Some (Post comm Any tag room)) fit = absurd (cc)
sent_mark n group own me (Some (Post comm (From rank) tag room)) fit = absurd (cc)
sent_mark n group own me (Some (Post comm Null tag room)) fit = absurd (cc)
sent_mark n group own me (Some call) fit = absurd (cc)

nothing_mark : (n : ℕ) (group : List ℕ) (own : View) (me : ℕ) (start : Option Call) → mark_fits n group me own start MarkNothing ≡ true → got_fits n me own start Nothing ≡ true
nothing_mark n group own me None fit = absurd (cc)
nothing_mark n group own me (Some (Post comm Null tag room)) fit = refl
nothing_mark n group own me (Some (Post comm Any tag room)) fit = absurd (cc)
nothing_mark n group own me (Some (Post comm (From rank) tag room)) fit = absurd (cc)
nothing_mark n group own me (Some call) fit = absurd (cc)

outside_mark : (n : ℕ) (group : List ℕ) (own : View) (me : ℕ) (start : Option Call) (source from tag : ℕ) (ints : List ℤ) → mark_fits n group me own start (Outside source from tag ints) ≡ true → got_fits n me own start (Message source from tag ints) ≡ true
outside_mark n group own me None source from tag ints fit = absurd (cc)
outside_mark n group own me (Some (Post comm Any wanted room)) source from tag ints fit = fit
outside_mark n group own me (Some (Post comm (From rank) wanted room)) source from tag ints fit = fit
outside_mark n group own me (Some (Post comm Null wanted room)) source from tag ints fit = fit
outside_mark n group own me (Some call) source from tag ints fit = absurd (cc)

outer_mark : (n : ℕ) (group : List ℕ) (own : View) (me : ℕ) (start : Option Call) (ints : List ℤ) → mark_fits n group me own start (Outer ints) ≡ true → got_fits n me own start (Joined ints) ≡ true
outer_mark n group own me None ints fit = absurd (cc)
outer_mark n group own me (Some call) ints fit = outer_shape n group me own call ints fit

none_mark : (n : ℕ) (group : List ℕ) (own : View) (me : ℕ) (start : Option Call) (comm : ℕ) → (comm == 0) ≡ true → mark_fits n group me own start (MarkMade comm) ≡ true → got_fits n me own start (Made 0 []) ≡ true
none_mark n group own me None comm none fit = absurd (cc)
none_mark n group own me (Some call) comm none fit =
    let parts = made_parts n group me own call comm fit in
    none_shape n own me call parts.making (parts.none none)

made_outside_mark : (n : ℕ) (group : List ℕ) (own : View) (me : ℕ) (start : Option Call) (comm : ℕ) (members : List ℕ) → is_member group me ≡ true → mark_fits n group me own start (MadeOutside comm members) ≡ true → got_fits n me own start (Made comm members) ≡ true
made_outside_mark n group own me None comm members mine fit = absurd (cc)
made_outside_mark n group own me (Some call) comm members mine fit = outside_shape n group me own call comm members mine fit

-- a collective whose inputs are gathered
gathered_is : (n : ℕ) (events : List Event) (me k : ℕ) (call : Call) (inputs : List (List ℤ)) → me < n → AreInOrder n events → start_at (view_of events me) k ≡ Some call → is_enter call ≡ true → inputs_of n (view_of events) me (view_of events me) k call ≡ Ok inputs → break_inner n (view_of events) me (view_of events me) k (Some call) ≡ None → IsCollective n events me k call
gathered_is n events me k call inputs below order at is gathered whole =
    record { below = below; order = order; start = at; is = is; there = ap absent_of gathered; agrees = whole }

inner_gathered : (n : ℕ) (group : List ℕ) (events : List Event) (me k : ℕ) (call : Call) (found : Result (List (List ℤ)) ℕ) (got : Got) → me < n → AreInOrder n events → start_at (view_of events me) k ≡ Some call → is_enter call ≡ true → makes call ≡ false → inputs_of n (view_of events) me (view_of events me) k call ≡ found → joined_result n me (view_of events me) k call found ≡ Ok got → break_inner n (view_of events) me (view_of events me) k (Some call) ≡ None → got_fits n me (view_of events me) (Some call) got ≡ true
inner_gathered n group events me k call (Ok inputs) got below order at is making gathered given whole =
    let same : Joined (result_of call (members_for_rank n (view_of events me) (comm_of call)) inputs me) ≡ got = cc in
    let collective = gathered_is n events me k call inputs below order at is gathered whole in
    rw (← same) (joined_shape n (view_of events me) me call (result_of call (members_for_rank n (view_of events me) (comm_of call)) inputs me) is making (joined_shaped n events me k call inputs collective gathered))
inner_gathered n group events me k call (Err m) got below order at is making gathered given whole = absurd (cc)

made_gathered : (n : ℕ) (events : List Event) (me k comm : ℕ) (call : Call) (found : Result (List (List ℤ)) ℕ) (got : Got) → me < n → AreInOrder n events → (comm == 0) ≡ false → start_at (view_of events me) k ≡ Some call → is_enter call ≡ true → makes call ≡ true → is_uncoloured call ≡ false → inputs_of n (view_of events) me (view_of events me) k call ≡ found → made_new comm (asker_of n me (view_of events me)) k call found ≡ Ok got → break_inner n (view_of events) me (view_of events me) k (Some call) ≡ None → got_fits n me (view_of events me) (Some call) got ≡ true
made_gathered n events me k comm call (Ok inputs) got below order real at is making coloured gathered given whole =
    let M : List ℕ = members_for_rank n (view_of events me) (comm_of call) in
    let same : Made comm (members_made call M inputs me) ≡ got = cc in
    let collective = gathered_is n events me k call inputs below order at is gathered whole in
    let are = made_members n events me k call inputs collective making coloured gathered in
    rw (← same) (made_shape n (view_of events me) me call comm (members_made call M inputs me) making coloured real are.has_me (made_are n events me k call inputs collective making coloured gathered))
made_gathered n events me k comm call (Err m) got below order real at is making coloured gathered given whole = absurd (cc)

-- an inner result and an inner communicator
inner_shaped : (n : ℕ) (group : List ℕ) (events : List Event) (me k : ℕ) (start : Option Call) (got : Got) → me < n → AreInOrder n events → start_at (view_of events me) k ≡ start → mark_fits n group me (view_of events me) start Inner ≡ true → fill_inner n (view_of events) me (view_of events me) k start ≡ Ok got → break_inner n (view_of events) me (view_of events me) k start ≡ None → got_fits n me (view_of events me) start got ≡ true
inner_shaped n group events me k None got below order at fit made whole = absurd (cc)
inner_shaped n group events me k (Some call) got below order at fit made whole =
    let parts = inner_parts n group me (view_of events me) call fit in
    inner_gathered n group events me k call (inputs_of n (view_of events) me (view_of events me) k call) got below order at parts.0 parts.1 refl made whole

made_shaped : (n : ℕ) (group : List ℕ) (events : List Event) (me k comm : ℕ) (start : Option Call) (got : Got) → me < n → AreInOrder n events → (comm == 0) ≡ false → start_at (view_of events me) k ≡ start → mark_fits n group me (view_of events me) start (MarkMade comm) ≡ true → fill_made comm (view_of events) (asker_of n me (view_of events me)) k start ≡ Ok got → break_inner n (view_of events) me (view_of events me) k start ≡ None → got_fits n me (view_of events me) start got ≡ true
made_shaped n group events me k comm None got below order real at fit made whole = absurd (cc)
made_shaped n group events me k comm (Some call) got below order real at fit made whole =
    made_gathered n events me k comm call (inputs_of n (view_of events) me (view_of events me) k call) got below order real at
    (enter_for-made n group me (view_of events me) (Some call) comm call fit refl) (made_parts n group me (view_of events me) call comm fit).making
    ((made_parts n group me (view_of events me) call comm fit).some real) refl made whole

-- a mark for start k
mark_shaped : (n : ℕ) (group : List ℕ) (events : List Event) (me k : ℕ) (mark : Mark) (got : Got) → me < n → AreInOrder n events → is_member group me ≡ true → mark_fits n group me (view_of events me) (start_at (view_of events me) k) mark ≡ true → fill_mark n (view_of events) me (view_of events me) k mark ≡ Ok got → break_mark n (view_of events) me (view_of events me) k mark ≡ None → got_fits n me (view_of events me) (start_at (view_of events me) k) got ≡ true
mark_shaped n group events me k MarkSent got below order mine fit made whole = (let same : Sent ≡ got = cc in rw (← same) (sent_mark n group (view_of events me) me (start_at (view_of events me) k) fit))
mark_shaped n group events me k MarkNothing got below order mine fit made whole = (let same : Nothing ≡ got = cc in rw (← same) (nothing_mark n group (view_of events me) me (start_at (view_of events me) k) fit))
mark_shaped n group events me k (Inside source start) got below order mine fit made whole =
    sent_shaped n group (view_of events me) me source start (start_at (view_of events me) k) (start_at (view_of events source) start) got fit made whole
mark_shaped n group events me k (Outside source start tag ints) got below order mine fit made whole =
    (let same : Message source start tag ints ≡ got = cc in rw (← same) (outside_mark n group (view_of events me) me (start_at (view_of events me) k) source start tag ints fit))
mark_shaped n group events me k Inner got below order mine fit made whole =
    inner_shaped n group events me k (start_at (view_of events me) k) got below order refl fit made whole
mark_shaped n group events me k (Outer ints) got below order mine fit made whole =
    (let same : Joined ints ≡ got = cc in rw (← same) (outer_mark n group (view_of events me) me (start_at (view_of events me) k) ints fit))
mark_shaped n group events me k (MarkMade comm) got below order mine fit made whole =
    elim (test_cases (comm == 0)) [
      | inl t ↦ (
          let same : Ok (Made 0 []) ≡ Ok got = rw t at made in
          let is : Made 0 [] ≡ got = cc in
          rw (← is) (none_mark n group (view_of events me) me (start_at (view_of events me) k) comm t fit))
      | inr t ↦ made_shaped n group events me k comm (start_at (view_of events me) k) got below order t refl fit (rw t at made) (rw t at whole)
    ]
mark_shaped n group events me k (MadeOutside comm members) got below order mine fit made whole =
    (let same : Made comm members ≡ got = cc in rw (← same) (made_outside_mark n group (view_of events me) me (start_at (view_of events me) k) comm members mine fit))

-- the items that marks represent
pub record ItemsShaped (n : ℕ) (own : View) (me : ℕ) (starts : List ℕ) (marks : List Marked) (items : List Item) : Type 0 where
  pub gots : gots_fit n me own starts items ≡ true
  pub indices : map (λ (item : Item). item.index) items ≡ map (λ (marked : Marked). marked.index) marks

pushed_ok : (index : ℕ) (first : Result Got Missing) (rest : Result (List Item) Missing) (items : List Item) → push_item index first rest ≡ Ok items → (got : Got) × (others : List Item) × (first ≡ Ok got) × (rest ≡ Ok others) × ((record { index = index; got = got }) ∷ others ≡ items)
pushed_ok index (Ok got) (Ok others) items h = (got, others, refl, refl, cc)
pushed_ok index (Ok got) (Err missing) items h = absurd (cc)
pushed_ok index (Err missing) rest items h = absurd (cc)

items_shaped : (n : ℕ) (group : List ℕ) (events : List Event) (me : ℕ) (starts : List ℕ) (marks : List Marked) (items : List Item) → me < n → AreInOrder n events → is_member group me ≡ true → marks_fit n group me (view_of events me) starts marks ≡ true → fill_marks n (view_of events) me (view_of events me) starts marks ≡ Ok items → break_marks n (view_of events) me (view_of events me) starts marks ≡ None → ItemsShaped n (view_of events me) me starts marks items
items_shaped n group events me starts [] items below order mine fit made whole = (let same : [] ≡ items = cc in rw (← same) (record { gots = refl; indices = refl }))
items_shaped n group events me starts (marked ∷ marks) items below order mine fit made whole =
    let k : ℕ = slice_index starts marked.index in
    let parts = and_parts (mark_fits n group me (view_of events me) (start_at (view_of events me) k) marked.mark) (marks_fit n group me (view_of events me) starts marks) fit in
    let parts_of = pushed_ok marked.index (fill_mark n (view_of events) me (view_of events me) k marked.mark) (fill_marks n (view_of events) me (view_of events me) starts marks) items made in
    let first = mark_shaped n group events me k marked.mark parts_of.0 below order mine parts.0 parts_of.2 (or_none-first (break_mark n (view_of events) me (view_of events me) k marked.mark) (break_marks n (view_of events) me (view_of events me) starts marks) whole) in
    let rest = items_shaped n group events me starts marks parts_of.1 below order mine parts.1 parts_of.3 (or_none-rest (break_mark n (view_of events) me (view_of events me) k marked.mark) (break_marks n (view_of events) me (view_of events me) starts marks) whole) in
    rw (← parts_of.4) (record { gots = rw (first, rest.gots) refl; indices = ap (λ l. marked.index ∷ l) rest.indices })

length-indices : (marks : List Marked) (items : List Item) → map (λ (item : Item). item.index) items ≡ map (λ (marked : Marked). marked.index) marks → length items ≡ length marks
length-indices marks items h = sym (length-map items (λ (item : Item). item.index)) ∙ (ap length h ∙ length-map marks (λ (marked : Marked). marked.index))

took_shaped : (n : ℕ) (group : List ℕ) (events : List Event) (me : ℕ) (starts : List ℕ) (mode : TakeMode) (marks : List Marked) (items : List Item) → me < n → AreInOrder n events → is_member group me ≡ true → TakeFits n group me (view_of events me) starts mode marks → fill_marks n (view_of events) me (view_of events me) starts marks ≡ Ok items → break_marks n (view_of events) me (view_of events me) starts marks ≡ None → has_shape n me (view_of events me) (Take starts mode) (ReplyTook items) ≡ true
took_shaped n group events me starts mode marks items below order mine fit made whole =
    let shaped = items_shaped n group events me starts marks items below order mine fit.marks_are made whole in
    rw (length-indices marks items shaped.indices, fit.count, shaped.indices, fit.indices, fit.open_starts, shaped.gots) refl

-- a probe that finds a named Send
probe_shaped : (n : ℕ) (own : View) (me comm : ℕ) (from : Source) (wanted : Tag) (wait : Bool) (source start : ℕ) (sent : Option Call) (reply : Reply) → peeked_from source start sent ≡ Ok reply → break_send me source start (Some (Peek comm from wanted wait)) sent ≡ None → has_shape n me own (Peek comm from wanted wait) reply ≡ true
unfolding is_send
probe_shaped n own me comm from wanted wait source start None reply peeked h = absurd (cc)
probe_shaped n own me comm from wanted wait source start (Some (Send c dest tag ints sync)) reply peeked h =
    elim (test_cases (send_fits me source (Some (Peek comm from wanted wait)) (Send c dest tag ints sync))) [
      | inl t ↦ (
          let same : Peeked source start tag (length ints) ≡ reply = cc in
          let on_comm = and_parts (c == comm) _ t in
          let to_me = and_parts (dest == me) _ on_comm.1 in
          rw (← same) to_me.1)
      | inr t ↦ (let told = rw t at h in absurd (cc))
    ]
probe_shaped n own me comm from wanted wait source start (Some call) reply peeked h = absurd (cc)

as_took_ok : (made : Result (List Item) Missing) (reply : Reply) → as_took made ≡ Ok reply → (items : List Item) × (made ≡ Ok items) × (ReplyTook items ≡ reply)
as_took_ok (Ok items) reply h = (items, refl, cc)
as_took_ok (Err missing) reply h = absurd (cc)

-- an entry that fits, with all that it rests on
entry_shaped : (n : ℕ) (group : List ℕ) (events : List Event) (me : ℕ) (call : Call) (entry : Entry) (reply : Reply) → me < n → AreInOrder n events → is_member group me ≡ true → entry_fits n group me (view_of events me) call entry ≡ true → filled_reply n (view_of events) me (view_of events me) call entry ≡ Ok reply → broken n (view_of events) me (view_of events me) call entry ≡ None → has_shape n me (view_of events me) call reply ≡ true
unfolding entry_fits
entry_shaped n group events me call (EntryStopped halt) reply below order mine fit made whole = (let same : Stopped halt ≡ reply = cc in rw (← same) fit)
entry_shaped n group events me (Send comm dest tag ints sync) EntrySent reply below order mine fit made whole = (let same : Done ≡ reply = cc in rw (← same) refl)
entry_shaped n group events me (Post comm source tag room) Posted reply below order mine fit made whole = (let same : Done ≡ reply = cc in rw (← same) refl)
entry_shaped n group events me (Enter comm kind root op count ints) EntryEntered reply below order mine fit made whole = (let same : Done ≡ reply = cc in rw (← same) refl)
entry_shaped n group events me End Ended reply below order mine fit made whole = (let same : Done ≡ reply = cc in rw (← same) refl)
entry_shaped n group events me (Take starts mode) EntryNotYet reply below order mine fit made whole = (let same : NotYet ≡ reply = cc in rw (← same) fit)
entry_shaped n group events me (Peek comm source tag wait) EntryNotYet reply below order mine fit made whole = (let same : NotYet ≡ reply = cc in rw (← same) fit)
entry_shaped n group events me (Peek comm from wanted wait) (PeekedInside source start) reply below order mine fit made whole =
    probe_shaped n (view_of events me) me comm from wanted wait source start (start_at (view_of events source) start) reply made whole
entry_shaped n group events me (Peek comm from wanted wait) (PeekedOutside source start tag count) reply below order mine fit made whole =
    (let same : Peeked source start tag count ≡ reply = cc in rw (← same) fit)
entry_shaped n group events me (Take starts mode) (Took marks) reply below order mine fit made whole =
    let took = as_took_ok (fill_marks n (view_of events) me (view_of events me) starts marks) reply made in
    rw (← took.2) (took_shaped n group events me starts mode marks took.0 below order mine (TakeFits-fits n group me (view_of events me) starts mode marks fit) took.1 whole)
entry_shaped n group events me call entry reply below order mine fit made whole = absurd (cc)

judged_ok : (me : ℕ) (own : View) (call : Call) (entry : Entry) (made : Result Reply Missing) (found : Option Found) (reply : Reply) → judged me own call entry made found ≡ Replied reply → (made ≡ Ok reply) × (found ≡ None)
judged_ok me own call entry (Ok given) None reply h = (let same : given ≡ reply = cc in (ap (λ x. Ok x) same, refl))
judged_ok me own call entry (Ok given) (Some found) reply h = absurd (cc)
judged_ok me own call entry (Err missing) found reply h = absurd (cc)

found_shaped : (n : ℕ) (group : List ℕ) (events : List Event) (me : ℕ) (call : Call) (found : Option Entry) (reply : Reply) → me < n → AreInOrder n events → is_member group me ≡ true → entry_answer group (view_of events) (asker_of n me (view_of events me)) call found ≡ Replied reply → has_shape n me (view_of events me) call reply ≡ true
found_shaped n group events me call None reply below order mine h = absurd (cc)
found_shaped n group events me call (Some entry) reply below order mine h =
    elim (test_cases (entry_fits n group me (view_of events me) call entry)) [
      | inl fit ↦ (
          let ok = judged_ok me (view_of events me) call entry (filled_reply n (view_of events) me (view_of events me) call entry) (broken n (view_of events) me (view_of events me) call entry) reply (rw fit at h) in
          entry_shaped n group events me call entry reply below order mine fit ok.0 ok.1)
      | inr unfit ↦ (let told = rw unfit at h in absurd (cc))
    ]

-- the answer of a log has the shape of the call
pub answer_shaped : (log : Log) (stop : Breakpoint) (events : List Event) (me : ℕ) (call : Call) (reply : Reply) → me < log.ranks → AreInOrder log.ranks events → is_member log.group me ≡ true → replay_answer log stop (view_of events) me (view_of events me) call ≡ Replied reply → has_shape log.ranks me (view_of events me) call reply ≡ true
answer_shaped log stop events me call reply below order mine h =
    elim (test_cases (is_break stop me (length (view_of events me)))) [
      | inl stops ↦ (let told = rw stops at h in absurd (cc))
      | inr goes ↦ found_shaped log.ranks log.group events me call (slice_get (entries_for log.group log.lists me) (length (view_of events me))) reply below order mine (rw goes at h)
    ]

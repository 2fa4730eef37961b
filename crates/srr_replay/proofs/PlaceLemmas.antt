-- Places: what is there for the first marks of an entry stays there.
use Rattle.std.proofs.Common.{◌≡◌, ◌≢◌, ◌<◌, ◌+◌, ◌==◌, ◌∙◌, ℕ, zero, suc, List, [], ◌∷◌, ◌++◌, Option, Some, None, IfSome, Result, Ok, Err, true, false, inl, inr, refl, ap, sym, subst, length, take, set, get_or, replicate, slice_index, slice_index_or, length-set, get_or-set_same, get_or-set_other, arith}
use Rattle.std.proofs.lemmas.Bool.{eq-eqb, eqb-true}
use Rattle.std.proofs.lemmas.List.{length-replicate, take_more}
use Rattle.mpi_call.specs.declared.call.Call.{Call}
use Rattle.mpi_call.specs.declared.reply.Got.{Got}
use Rattle.mpi_call.specs.declared.reply.Item.{Item}
use Rattle.mpi_call.specs.declared.reply.Reply.{Reply}
use Rattle.mpi_call.specs.Collectives.{is_member}
use Rattle.run_model.specs.declared.event.Event.{Event}
use Rattle.run_model.specs.Views.{Next, View, moment_at, replies_in, start_at, view_of}
use Rattle.run_model.proofs.Prefixes.{Begins-more}
use Rattle.run_model.proofs.Views.{test_cases, view_of-other}
use Rattle.srr_entry.specs.declared.entry.Entry.{Entry}
use Rattle.srr_entry.specs.declared.entry.Entry.TheVariants.{Took}
use Rattle.srr_entry.specs.declared.entry.Marked.{Marked}
use Rattle.srr_entry.specs.declared.log.Log.{Log}
use Rattle.replay_model.specs.declared.step.Missing.{Missing}
use Rattle.replay_model.specs.Filling.{fill_mark, fill_marks, filled_reply, missing_of, push_item}
use Rattle.replay_model.specs.Fits.{entry_fits, mark_fits, marks_fit}
use Rattle.replay_model.proofs.Filled.{filled-same}
use Rattle.srr_replay.specs.Places.{ArePlaces, IsEntryPlace, IsPlaceIn, marks_of_entry}
use Rattle.srr_replay.specs.Rounds.{IsReplayable}
use Rattle.srr_replay.proofs.LogLemmas.{below_at, both}
use Rattle.srr_replay.proofs.MissingMarks.{missing_of-first, missing_of-some}

-- nothing is missing for a list of items, so for none of them
missing_parts : (index : ℕ) (first : Result Got Missing) (rest : Result (List Item) Missing)
    → missing_of (push_item index first rest) ≡ None → (missing_of first ≡ None) × (missing_of rest ≡ None)
missing_parts index (Ok got) (Ok items) h = (refl, refl)
missing_parts index (Ok got) (Err missing) h = absurd (cc)
missing_parts index (Err missing) rest h = absurd (cc)

-- where nothing is missing for the first marks, what is missing is missing for the others
past_first : (n : ℕ) (V : ℕ → View) (me : ℕ) (own : View) (starts : List ℕ) (front rest : List Marked)
    → missing_of (fill_marks n V me own starts front) ≡ None
    → missing_of (fill_marks n V me own starts (front ++ rest)) ≡ missing_of (fill_marks n V me own starts rest)
past_first n V me own starts [] rest none = refl
past_first n V me own starts (marked ∷ front) rest none =
    let first = fill_mark n V me own (slice_index starts marked.index) marked.mark in
    let parts = missing_parts marked.index first (fill_marks n V me own starts front) none in
    missing_of-first marked.index first (fill_marks n V me own starts (front ++ rest)) parts.0
    ∙ past_first n V me own starts front rest parts.1

-- mark k of an entry's marks, of the rank's start
pub record IsMarkAt (starts : List ℕ) (marks : List Marked) (k start : ℕ) (marked : Marked) : Type 0 where
  pub below : k < length marks
  pub is : get_or marks k marked ≡ marked
  pub start_is : start ≡ slice_index starts marked.index

later : (starts : List ℕ) (first : Marked) (marks : List Marked) (k start : ℕ) (marked : Marked)
    → IsMarkAt starts (first ∷ marks) (suc k) start marked → IsMarkAt starts marks k start marked
later starts first marks k start marked at = record { below = omega (arith, at.below); is = at.is; start_is = at.start_is }

-- nothing is missing for one mark more
pub there_more : (n : ℕ) (V : ℕ → View) (me : ℕ) (own : View) (starts : List ℕ) (marks : List Marked) (k start : ℕ) (marked : Marked) → IsMarkAt starts marks k start marked
    → missing_of (fill_marks n V me own starts (take k marks)) ≡ None → missing_of (fill_mark n V me own start marked.mark) ≡ None
    → missing_of (fill_marks n V me own starts (take (k + 1) marks)) ≡ None
there_more n V me own starts marks k start marked at none one =
    let Mark : ℕ → Type 0 = λ s. missing_of (fill_mark n V me own s marked.mark) ≡ None in
    let front : take (k + 1) marks ≡ take k marks ++ marked ∷ [] = take_more marks k marked at.below ∙ ap (λ m. take k marks ++ m ∷ []) at.is in
    ap (λ ms. missing_of (fill_marks n V me own starts ms)) front
    ∙ past_first n V me own starts (take k marks) (marked ∷ []) none
    ∙ missing_of-first marked.index (fill_mark n V me own (slice_index starts marked.index) marked.mark) (Ok []) (subst Mark at.start_is one)

-- the first mark that something is missing for tells it for all
pub missing_here : (n : ℕ) (V : ℕ → View) (me : ℕ) (own : View) (starts : List ℕ) (marks : List Marked) (k start : ℕ) (marked : Marked) (missing : Missing) → IsMarkAt starts marks k start marked
    → missing_of (fill_marks n V me own starts (take k marks)) ≡ None → missing_of (fill_mark n V me own start marked.mark) ≡ Some missing
    → missing_of (fill_marks n V me own starts marks) ≡ Some missing
missing_here n V me own starts [] k start marked missing at none some = absurd (omega (arith, at.below))
missing_here n V me own starts (first ∷ marks) zero start marked missing at none some =
    let Mark : ℕ → Type 0 = λ s. missing_of (fill_mark n V me own s marked.mark) ≡ Some missing in
    let All : Marked → Type 0 = λ m. missing_of (push_item m.index (fill_mark n V me own (slice_index starts m.index) m.mark) (fill_marks n V me own starts marks)) ≡ Some missing in
    subst All (sym at.is)
    (missing_of-some marked.index (fill_mark n V me own (slice_index starts marked.index) marked.mark) (fill_marks n V me own starts marks) missing (subst Mark at.start_is some))
missing_here n V me own starts (first ∷ marks) (suc k) start marked missing at none some =
    let filling = fill_mark n V me own (slice_index starts first.index) first.mark in
    let parts = missing_parts first.index filling (fill_marks n V me own starts (take k marks)) none in
    missing_of-first first.index filling (fill_marks n V me own starts marks) parts.0
    ∙ missing_here n V me own starts marks k start marked missing (later starts first marks k start marked at) parts.1 some

-- each mark fits its start
pub mark_fits_at : (n : ℕ) (group : List ℕ) (me : ℕ) (own : View) (starts : List ℕ) (marks : List Marked) (k start : ℕ) (marked : Marked) → IsMarkAt starts marks k start marked
    → marks_fit n group me own starts marks ≡ true → mark_fits n group me own (start_at own start) marked.mark ≡ true
mark_fits_at n group me own starts [] k start marked at fit = absurd (omega (arith, at.below))
mark_fits_at n group me own starts (first ∷ marks) zero start marked at fit =
    let Fits : ℕ → Type 0 = λ s. mark_fits n group me own (start_at own s) marked.mark ≡ true in
    let Of : Marked → Type 0 = λ m. mark_fits n group me own (start_at own (slice_index starts m.index)) m.mark ≡ true in
    subst Fits (sym at.start_is) (subst Of at.is (both _ _ fit).0)
mark_fits_at n group me own starts (first ∷ marks) (suc k) start marked at fit =
    mark_fits_at n group me own starts marks k start marked (later starts first marks k start marked at) (both _ _ fit).1

found_all : (found : Result Reply Missing) → missing_of found ≡ None → (reply : Reply) × (found ≡ Ok reply)
found_all (Ok reply) none = (reply, refl)
found_all (Err missing) none = absurd (cc)

-- another rank's event leaves a place one
place_more : (n : ℕ) (group : List ℕ) (events : List Event) (event : Event) (rank : ℕ) (call : Call) (entry : Entry) (place : ℕ) → (event.rank == rank) ≡ false
    → IsEntryPlace (moment_at n events rank) group call entry place → IsEntryPlace (moment_at n (events ++ event ∷ []) rank) group call entry place
place_more n group events event rank call entry place other is =
    let front : Entry = Took (take place (marks_of_entry entry)) in
    let own = view_of-other events event rank other in
    let reply = found_all (filled_reply n (view_of events) rank (view_of events rank) call front) is.first.there in
    let same = filled-same n (view_of events) (view_of (events ++ event ∷ [])) (view_of events rank) rank call front reply.0 (Begins-more events (event ∷ [])) reply.1 in
    let Fits : View → Type 0 = λ view. entry_fits n group rank view call entry ≡ true in
    let There : View → Type 0 = λ view. missing_of (filled_reply n (view_of (events ++ event ∷ [])) rank view call front) ≡ None in
    record {
      fit = subst Fits (sym own) is.fit;
      first = record {
        within = is.first.within;
        there = subst There (sym own) (ap missing_of same.fill ∙ is.first.there);
      };
    }

-- the places of the other ranks after an event
pub ArePlaces-after : (next : Next) (log : Log) (events : List Event) (places : List (Option ℕ)) (event : Event) → event.rank < log.ranks
    → ArePlaces next log events places → ArePlaces next log (events ++ event ∷ []) (set places event.rank None)
ArePlaces-after next log events places event below all =
    record {
      as_many = length-set places event.rank None ∙ all.as_many;
      each = λ rank place call at asked entry is. elim (test_cases (event.rank == rank)) [
        | inl h ↦
            let within : event.rank < length places = omega (arith, all.as_many, below) in
            let Is : ℕ → Type 0 = λ r. slice_index_or (set places event.rank None) r None ≡ None in
            let none : slice_index_or (set places event.rank None) rank None ≡ None = subst Is (eqb-true event.rank rank h) (get_or-set_same places event.rank None None within) in
            absurd (let no : Some place ≡ None = sym at ∙ none in cc)
        | inr h ↦
            let own = view_of-other events event rank h in
            let ne : rank ≢ event.rank = λ e. let t : (event.rank == rank) ≡ true = eq-eqb event.rank rank (sym e) in cc in
            place_more log.ranks log.group events event rank call entry place h
            (all.each rank place call (sym (get_or-set_other places event.rank rank None None ne) ∙ at) (rw own at asked) entry (rw own at is))
      ];
    }

-- a rank of the group has room for its place
pub place_below : (next : Next) (log : Log) (events : List Event) (places : List (Option ℕ)) (rank : ℕ) → IsReplayable log → is_member log.group rank ≡ true
    → ArePlaces next log events places → rank < length places
place_below next log events places rank fine member all =
    let below = below_at log.ranks log.group rank fine.below member in
    omega (arith, all.as_many, below)

-- what was read for a rank is a place of it
noted_if : (P : ℕ → Type 0) (noted : Option ℕ) → ((place : ℕ) → noted ≡ Some place → P place) → IfSome noted P
noted_if P None all = tt
noted_if P (Some place) all = all place refl

of_noted : (P : ℕ → Type 0) (noted : Option ℕ) (place : ℕ) → IfSome noted P → noted ≡ Some place → P place
of_noted P None place is e = absurd (cc)
of_noted P (Some other) place is e = let same : other ≡ place = cc in subst P same is

pub noted_place : (next : Next) (log : Log) (events : List Event) (places : List (Option ℕ)) (rank : ℕ) (call : Call) (noted : Option ℕ) → ArePlaces next log events places
    → next log.ranks rank (replies_in (view_of events rank)) ≡ Some call → noted ≡ slice_index_or places rank None
    → IfSome noted (λ place. IsPlaceIn log events rank call place)
noted_place next log events places rank call noted all asked read =
    noted_if (λ place. IsPlaceIn log events rank call place) noted (λ place is. all.each rank place call (sym read ∙ is) asked)

-- the places after one of them was noted
pub ArePlaces-set : (next : Next) (log : Log) (events : List Event) (places : List (Option ℕ)) (rank : ℕ) (call : Call) (noted : Option ℕ) → rank < log.ranks
    → next log.ranks rank (replies_in (view_of events rank)) ≡ Some call
    → IfSome noted (λ place. IsPlaceIn log events rank call place)
    → ArePlaces next log events places → ArePlaces next log events (set places rank noted)
ArePlaces-set next log events places rank call noted below asked is all =
    let within : rank < length places = omega (arith, all.as_many, below) in
    record {
      as_many = length-set places rank noted ∙ all.as_many;
      each = λ other place call' at asked'. elim (test_cases (rank == other)) [
        | inl h ↦
            let same : other ≡ rank = sym (eqb-true rank other h) in
            let was : next log.ranks rank (replies_in (view_of events rank)) ≡ Some call' = rw same at asked' in
            let calls : Some call ≡ Some call' = sym asked ∙ was in
            let call_is : call ≡ call' = cc in
            let found : slice_index_or (set places rank noted) rank None ≡ Some place = rw same at at in
            let place_is : noted ≡ Some place = sym (get_or-set_same places rank noted None within) ∙ found in
            rw (same, ← call_is) (of_noted (λ place. IsPlaceIn log events rank call place) noted place is place_is)
        | inr h ↦
            let ne : other ≢ rank = λ e. let t : (rank == other) ≡ true = eq-eqb rank other (sym e) in cc in
            all.each other place call' (sym (get_or-set_other places rank other noted None ne) ∙ at) asked'
      ];
    }

-- before any event no rank has a place
same_all : {A : Type 0} (n k : ℕ) (one : A) → get_or (replicate n one) k one ≡ one
same_all zero k one = refl
same_all (suc n) zero one = refl
same_all (suc n) (suc k) one = same_all n k one

pub ArePlaces-none : (next : Next) (log : Log) (events : List Event) → ArePlaces next log events (replicate log.ranks None)
ArePlaces-none next log events = record {
  as_many = length-replicate log.ranks None;
  each = λ rank place call at asked entry is. absurd (let no : Some place ≡ None = sym at ∙ same_all log.ranks rank None in cc);
}

-- Two runs with the same views and the same mates: twins rest on twins, have one depth, and are before twins.
use Rattle.std.proofs.Common.{◌≡◌, ◌<◌, ◌==◌, ◌++◌, ◌∷◌, [], ℕ, zero, suc, List, Option, Some, None, true, false, inl, inr, refl, ap, sym, ◌∙◌, arith, drop, length, slice_get, slice_index, subst, take}
use Rattle.std.proofs.lemmas.Bool.{eq-eqb, or_left, or_right}
use Rattle.std.proofs.lemmas.List.{take-append-drop}
use Rattle.std.proofs.lemmas.List.Folds.{list_any-append}
use Rattle.mpi_call.specs.declared.call.Call.{Call}
use Rattle.mpi_call.specs.declared.reply.Got.{Got}
use Rattle.mpi_call.specs.declared.reply.Item.{Item}
use Rattle.mpi_call.specs.declared.reply.Reply.{Reply}
use Rattle.mpi_call.specs.declared.reply.Reply.TheVariants.{Done, NotYet, Peeked, Stopped, Took}
use Rattle.mpi_call.specs.Calls.{listed_by}
use Rattle.mpi_call.specs.Lists.{IsIn}
use Rattle.mpi_call.specs.Members.{is_member}
use Rattle.run_model.specs.declared.event.Event.{Event}
use Rattle.run_model.specs.Pairs.{Name, pairs_from, pairs_of, partner_of, same_name}
use Rattle.run_model.specs.Run.{IsEvent, IsRun}
use Rattle.run_model.specs.Views.{Next, View, items_taken, start_at, starts_of, taken_of, view_of}
use Rattle.run_model.proofs.Places.{view_at}
use Rattle.run_model.proofs.RunLaws.{IsRun-front}
use Rattle.run_model.proofs.StartLemmas.{slice_get-append, slice_get-below, starts_of-append}
use Rattle.run_model.proofs.Taken.{event_there}
use Rattle.run_model.proofs.Views.{option_cases, test_cases, view_of-append}
use Rattle.run_model.proofs.Meeting.{pairs_from-append}
use Rattle.causes.specs.Before.{IsBefore, IsDirectlyBefore, IsEventOfRank, PrecedesDirectly}
use Rattle.causes.specs.Before.IsBefore.{path, step}
use Rattle.causes.specs.Positions.{is_start_of, start_position}
use Rattle.causes.specs.Steps.{completed_from, given_at, given_by, given_from, rests_on, given_by_items}
use Rattle.causes.proofs.NewClocks.{own_step}
use Rattle.causes.proofs.Paths.{step-less}
use Rattle.causes.proofs.PositionLemmas.{count_below-positions}
use Rattle.msg_races.proofs.StartNames.{start_of_name}
use Rattle.run_drawing.specs.Depths.{IsChain, IsDepth}
use Rattle.run_drawing.specs.Depths.IsChain.{alone, longer}
use Rattle.run_drawing.specs.Laws.{HaveSameMates, HaveSameViews, IsAwaited, is_synchronous}
use Rattle.run_drawing.proofs.Alike.{AreAlike, IsAlike, alike_append, alike_in}
use Rattle.run_drawing.proofs.DepthLemmas.{get_taken}
use Rattle.run_drawing.proofs.Grounds.{IsCompleted, item_completed, peeked_sent}
use Rattle.run_drawing.proofs.LaneLemmas.{parted}
use Rattle.run_drawing.proofs.Mates.{run_mates}
use Rattle.run_drawing.proofs.Twins.{AreSaid, HaveOneFuture, IsTwin, agree_fronts, longer_twins, number_there, one_twin, place_of, said, same_order, turned, twin_there}
use Rattle.run_drawing.proofs.TwinStarts.{many_starts, start_named, start_twins}
use Rattle.run_drawing.proofs.TwinSteps.{AreFronts, HasOnePartner, given_twins, sent_twins}

-- 1. the two runs

-- runs of one program with the same views and the same mates
pub record AreTwinRuns (next : Next) (n : ℕ) (one other : List Event) : Type 0 where
  pub first : IsRun next n one
  pub second : IsRun next n other
  pub views : HaveSameViews one other
  pub mates : HaveSameMates one other

abbrev pub turned_runs : (next : Next) (n : ℕ) (one other : List Event) → AreTwinRuns next n one other → AreTwinRuns next n other one
turned_runs next n one other runs =
    record {
      first = runs.second;
      second = runs.first;
      views = λ rank. sym (runs.views rank);
      mates = λ rank start awaited. (
          let S : View → Type 0 = λ v. is_synchronous (start_at v start) ≡ true in
          let T : View → Type 0 = λ v. is_member (taken_of v) start ≡ true in
          sym (runs.mates rank start (record {
            synchronous = subst S (sym (runs.views rank)) awaited.synchronous;
            completed = subst T (sym (runs.views rank)) awaited.completed;
          })));
    }

-- a view is its prefix and the rest
view_parts : (events : List Event) (k rank : ℕ) → view_of (take k events) rank ++ view_of (drop k events) rank ≡ view_of events rank
view_parts events k rank = sym (view_of-append (take k events) (drop k events) rank) ∙ ap (λ l. view_of l rank) (take-append-drop k events)

pub fronts_agree : (one other : List Event) (j k : ℕ) → HaveSameViews one other → HaveOneFuture (take j one) (take k other)
fronts_agree one other j k views rank =
    agree_fronts (view_of (take j one) rank) (view_of (take k other) rank) (view_of (drop j one) rank) (view_of (drop k other) rank)
    (view_parts one j rank ∙ (views rank ∙ sym (view_parts other k rank)))

pub whole_agree : (one other : List Event) → HaveSameViews one other → HaveOneFuture one other
whole_agree one other views rank = agree_fronts (view_of one rank) (view_of other rank) [] [] (ap (λ (v : View). v ++ []) (views rank))

pub front_run : (next : Next) (n : ℕ) (events : List Event) (k : ℕ) → IsRun next n events → IsRun next n (take k events)
front_run next n events k run =
    let R : List Event → Type 0 = λ l. IsRun next n l in
    IsRun-front next n (take k events) (drop k events) (subst R (sym (take-append-drop k events)) run)

-- 2. twins and the events before them

pub record IsMoment (next : Next) (n : ℕ) (one other : List Event) (p q : ℕ) : Type 0 where
  pub said : AreSaid one other p q
  pub step : IsEvent next n (take p one) said.event
  pub step_too : IsEvent next n (take q other) said.twin
  pub fronts : AreFronts (take p one) (take q other) said.event.rank

pub moment : (next : Next) (n : ℕ) (one other : List Event) (p q : ℕ) → AreTwinRuns next n one other → IsTwin one other p q → IsMoment next n one other p q
moment next n one other p q runs twin =
    let both = said one other p q (whole_agree one other runs.views) twin in
    record {
      said = both;
      step = event_there next n one p both.event runs.first both.there;
      step_too = event_there next n other q both.twin runs.second both.twin_there;
      fronts = record {
        agree = fronts_agree one other p q runs.views;
        own = sym both.before;
        mates = run_mates next n (take p one) (front_run next n one p runs.first);
        mates_too = run_mates next n (take q other) (front_run next n other q runs.second);
      };
    }

-- partners stay
partner_stays : (P Q : List (Name × Name)) (a b : Name) → partner_of P a ≡ Some b → partner_of (P ++ Q) a ≡ Some b
partner_stays [] Q a b h = absurd (cc)
partner_stays (pair ∷ P) Q a b h = elim (test_cases (same_name pair.0 a)) [
  | inl t ↦ rw t (rw t at h)
  | inr t ↦ elim (test_cases (same_name pair.1 a)) [
    | inl u ↦ rw (t, u) (rw (t, u) at h)
    | inr u ↦ rw (t, u) (partner_stays P Q a b (rw (t, u) at h))
  ]
]

pub partner_later : (events : List Event) (k : ℕ) (a b : Name) → partner_of (pairs_of (take k events)) a ≡ Some b → partner_of (pairs_of events) a ≡ Some b
partner_later events k a b h =
    let front : List Event = take k events in
    let rest : List Event = drop k events in
    let grown : pairs_of events ≡ pairs_of front ++ pairs_from front rest = ap pairs_of (sym (take-append-drop k events)) ∙ pairs_from-append [] front rest in
    ap (λ l. partner_of l a) grown ∙ partner_stays (pairs_of front) (pairs_from front rest) a b h

-- starts stay
pub start_later : (events : List Event) (k rank number : ℕ) (call : Call) → start_at (view_of (take k events) rank) number ≡ Some call → start_at (view_of events rank) number ≡ Some call
start_later events k rank number call h =
    let front : View = view_of (take k events) rank in
    let rest : View = view_of (drop k events) rank in
    let S : View → Type 0 = λ v. start_at v number ≡ Some call in
    let L : List Call → Type 0 = λ l. slice_get l number ≡ Some call in
    subst S (view_parts events k rank) (subst L (sym (starts_of-append front rest)) (slice_get-append (starts_of front) (starts_of rest) number call h))

sync_later : (events : List Event) (k rank number : ℕ) → is_synchronous (start_at (view_of (take k events) rank) number) ≡ true → is_synchronous (start_at (view_of events rank) number) ≡ true
sync_later events k rank number h = elim (option_cases (start_at (view_of (take k events) rank) number)) [
  | inl some ↦ ap is_synchronous (start_later events k rank number some.0 some.1) ∙ (ap is_synchronous (sym some.1) ∙ h)
  | inr none ↦ (let no : false ≡ true = ap is_synchronous (sym none) ∙ h in absurd (cc))
]

-- what an item completes was taken
pub item_taken : (starts : List ℕ) (items : List Item) (item : Item) → IsIn item items → is_member (items_taken starts items) (slice_index starts item.index) ≡ true
item_taken starts [] item there = absurd there
item_taken starts (first ∷ items) item there =
    let number : Item → ℕ = λ i. slice_index starts i.index in
    elim there [
      | inl same ↦ or_left (number first == number item) (is_member (items_taken starts items) (number item)) (eq-eqb (number first) (number item) (ap number same))
      | inr later ↦ or_right (number first == number item) (is_member (items_taken starts items) (number item)) (item_taken starts items item later)
    ]

taken_seen : (view : View) (i : ℕ) (call : Call) (reply : Reply) (items : List Item) (k : ℕ) → slice_get view i ≡ Some (call, reply) → reply ≡ Took items
    → is_member (items_taken (listed_by call) items) k ≡ true → is_member (taken_of view) k ≡ true
taken_seen [] i call reply items k h took there = absurd (cc)
taken_seen ((c, r) ∷ view) zero call reply items k h took there =
    let pair : (c, r) ≡ (call, reply) = cc in
    let replied : r ≡ Took items = ap (λ (p : Call × Reply). p.1) pair ∙ took in
    let called : call ≡ c = ap (λ (p : Call × Reply). p.0) (sym pair) in
    let C : Call → Type 0 = λ x. is_member (items_taken (listed_by x) items) k ≡ true in
    let R : Reply → Type 0 = λ x. is_member (taken_of ((c, x) ∷ view)) k ≡ true in
    subst R (sym replied) (list_any-append (λ x. x == k) (items_taken (listed_by c) items) (taken_of view) ∙ or_left (is_member (items_taken (listed_by c) items) k) (is_member (taken_of view) k) (subst C called there))
taken_seen ((c, Took others) ∷ view) (suc i) call reply items k h took there =
    list_any-append (λ x. x == k) (items_taken (listed_by c) others) (taken_of view)
    ∙ or_right (is_member (items_taken (listed_by c) others) k) (is_member (taken_of view) k) (taken_seen view i call reply items k h took there)
taken_seen ((c, Done) ∷ view) (suc i) call reply items k h took there = taken_seen view i call reply items k h took there
taken_seen ((c, NotYet) ∷ view) (suc i) call reply items k h took there = taken_seen view i call reply items k h took there
taken_seen ((c, Peeked source start tag count) ∷ view) (suc i) call reply items k h took there = taken_seen view i call reply items k h took there
taken_seen ((c, Stopped halt) ∷ view) (suc i) call reply items k h took there = taken_seen view i call reply items k h took there

-- so a synchronous send that an item completes is awaited
pub item_awaited : (events : List Event) (p : ℕ) (event : Event) (items : List Item) (item : Item) → slice_get events p ≡ Some event → event.reply ≡ Took items → IsIn item items
    → is_synchronous (start_at (view_of events event.rank) (slice_index (listed_by event.call) item.index)) ≡ true
    → IsAwaited events event.rank (slice_index (listed_by event.call) item.index)
item_awaited events p event items item there took among sync =
    let found = number_there events p event there in
    let place = place_of events event.rank found.0 p found.1 in
    let both : Some place.event ≡ Some event = sym place.there ∙ there in
    let same : place.event ≡ event = cc in
    let seen : slice_get (view_of events event.rank) found.0 ≡ Some (event.call, event.reply) = place.seen ∙ ap (λ (e : Event). Some (e.call, e.reply)) same in
    record {
      synchronous = sync;
      completed = taken_seen (view_of events event.rank) found.0 event.call event.reply items (slice_index (listed_by event.call) item.index) seen took (item_taken (listed_by event.call) items item among);
    }

-- the call of a start
pub call_there : (events : List Event) (rank number at : ℕ) (event : Event) → start_position events rank number ≡ Some at → slice_get events at ≡ Some event → start_at (view_of events rank) number ≡ Some event.call
call_there events rank number at event here there =
    let is = start_of_name events rank number at (start_named events rank number at here) in
    let both : Some is.event ≡ Some event = sym is.there ∙ there in
    let same : is.event ≡ event = cc in
    let front : List Event = take at events in
    let rest : List Event = drop (suc at) events in
    let counted : number ≡ length (starts_of (view_of front rank)) = is.number_is ∙ (count_below-positions (is_start_of rank) at events ∙ many_starts rank 0 front) in
    let R : ℕ → Type 0 = λ r. view_of events r ≡ view_of front r ++ (is.event.call, is.event.reply) ∷ view_of rest r in
    let view : view_of events rank ≡ view_of front rank ++ (is.event.call, is.event.reply) ∷ view_of rest rank =
    subst R is.own (view_at events front rest is.event (sym (parted events at is.event is.there))) in
    let starts : starts_of (view_of events rank) ≡ starts_of (view_of front rank) ++ is.event.call ∷ starts_of (view_of rest rank) =
    ap starts_of view ∙ (starts_of-append (view_of front rank) ((is.event.call, is.event.reply) ∷ view_of rest rank) ∙ rw is.start refl) in
    ap (λ l. slice_get l number) starts
    ∙ (ap (slice_get (starts_of (view_of front rank) ++ is.event.call ∷ starts_of (view_of rest rank))) counted
    ∙ (seam (starts_of (view_of front rank)) (starts_of (view_of rest rank)) is.event.call ∙ ap (λ (e : Event). Some e.call) same))
  where
    seam : {A : Type 0} (xs ys : List A) (x : A) → slice_get (xs ++ x ∷ ys) (length xs) ≡ Some x
    seam [] ys x = refl
    seam (y ∷ xs) ys x = seam xs ys x

-- 3. what a completed start rests on

by_position : (n : ℕ) (one other : List Event) (me number : ℕ) (got : Got) (o o' : Option ℕ) → AreFronts one other me → HasOnePartner one other me number
    → IsCompleted n one me number got → IsCompleted n other me number got → start_position one me number ≡ o → start_position other me number ≡ o' → IsAlike (IsTwin one other) o o'
    → AreAlike (IsTwin one other) (given_by n one me o got) (given_by n other me o' got)
by_position n one other me number got None None fronts partners is too here there twin = tt
by_position n one other me number got None (Some q) fronts partners is too here there twin = absurd twin
by_position n one other me number got (Some p) None fronts partners is too here there twin = absurd twin
by_position n one other me number got (Some p) (Some q) fronts partners is too here there twin =
    let both = said one other p q fronts.agree twin in
    let given = given_twins n one other me number p q both.event both.twin got fronts partners is too here there (call_there one me number p both.event here both.there) both.call_is in
    let A : Option Event → Type 0 = λ x. AreAlike (IsTwin one other) (given_at n one me p x got) (given_from n other me q both.twin got) in
    let B : Option Event → Type 0 = λ x. AreAlike (IsTwin one other) (given_at n one me p (slice_get one p) got) (given_at n other me q x got) in
    subst B (sym both.twin_there) (subst A (sym both.there) given)

completed_twins : (n : ℕ) (one other : List Event) (me number : ℕ) (got : Got) → AreFronts one other me → HasOnePartner one other me number
    → IsCompleted n one me number got → IsCompleted n other me number got
    → AreAlike (IsTwin one other) (completed_from n one me number got) (completed_from n other me number got)
completed_twins n one other me number got fronts partners is too =
    by_position n one other me number got (start_position one me number) (start_position other me number) fronts partners is too refl refl (start_twins one other me number fronts.own)

-- of twins of the runs
pub item_twins : (next : Next) (n : ℕ) (one other : List Event) (p q : ℕ) (runs : AreTwinRuns next n one other) (is : IsMoment next n one other p q) (items : List Item) (item : Item)
    → is.said.event.reply ≡ Took items → IsIn item items
    → AreAlike (IsTwin (take p one) (take q other))
    (completed_from n (take p one) is.said.event.rank (slice_index (listed_by is.said.event.call) item.index) item.got)
    (completed_from n (take q other) is.said.event.rank (slice_index (listed_by is.said.event.call) item.index) item.got)
item_twins next n one other p q runs is items item took among =
    let event : Event = is.said.event in
    let me : ℕ = event.rank in
    let number : ℕ = slice_index (listed_by event.call) item.index in
    let first = item_completed next n (take p one) event items item is.step took among in
    let also = item_completed next n (take q other) is.said.twin items item is.step_too (is.said.reply_is ∙ took) among in
    let R : ℕ → Type 0 = λ r. IsCompleted n (take q other) r (slice_index (listed_by is.said.twin.call) item.index) item.got in
    let C : Call → Type 0 = λ c. IsCompleted n (take q other) me (slice_index (listed_by c) item.index) item.got in
    let second : IsCompleted n (take q other) me number item.got = subst C is.said.call_is (subst R is.said.rank_is also) in
    let partners : HasOnePartner (take p one) (take q other) me number = λ x y sync here there. (
    let awaited = item_awaited one p event items item is.said.there took among (sync_later one p me number sync) in
    let both : Some x ≡ Some y = sym (partner_later one p (me, number) x here) ∙ (runs.mates me number awaited ∙ partner_later other q (me, number) y there) in
    cc) in
    completed_twins n (take p one) (take q other) me number item.got is.fronts partners first second

-- 4. what a reply rests on

taken_twins : (n : ℕ) (one other : List Event) (me : ℕ) (starts : List ℕ) (items : List Item)
    → ((item : Item) → IsIn item items
    → AreAlike (IsTwin one other) (completed_from n one me (slice_index starts item.index) item.got) (completed_from n other me (slice_index starts item.index) item.got))
    → AreAlike (IsTwin one other) (given_by_items n one me starts items) (given_by_items n other me starts items)
taken_twins n one other me starts [] each = tt
taken_twins n one other me starts (item ∷ items) each =
    alike_append (IsTwin one other) (completed_from n one me (slice_index starts item.index) item.got) (given_by_items n one me starts items)
    (completed_from n other me (slice_index starts item.index) item.got) (given_by_items n other me starts items)
    (each item (inl refl)) (taken_twins n one other me starts items (λ x h. each x (inr h)))

reply_twins : (next : Next) (n : ℕ) (one other : List Event) (p q : ℕ) (reply : Reply) (runs : AreTwinRuns next n one other) (is : IsMoment next n one other p q) → is.said.event.reply ≡ reply
    → AreAlike (IsTwin (take p one) (take q other))
    (rests_on n (take p one) is.said.event.rank is.said.event.call reply) (rests_on n (take q other) is.said.event.rank is.said.event.call reply)
reply_twins next n one other p q (Took items) runs is replied =
    taken_twins n (take p one) (take q other) is.said.event.rank (listed_by is.said.event.call) items (λ item among. item_twins next n one other p q runs is items item replied among)
reply_twins next n one other p q (Peeked source start tag count) runs is replied =
    let first = peeked_sent next n (take p one) is.said.event source start tag count is.step replied in
    let second = peeked_sent next n (take q other) is.said.twin source start tag count is.step_too (is.said.reply_is ∙ replied) in
    sent_twins (take p one) (take q other) source start first.0 second.0 is.fronts.agree first.1 second.1
reply_twins next n one other p q Done runs is replied = tt
reply_twins next n one other p q NotYet runs is replied = tt
reply_twins next n one other p q (Stopped halt) runs is replied = tt

-- the twin's list is that of the twin
twin_rests : (n : ℕ) (before : List Event) (event twin : Event) → twin.rank ≡ event.rank → twin.call ≡ event.call → twin.reply ≡ event.reply
    → rests_on n before event.rank event.call event.reply ≡ rests_on n before twin.rank twin.call twin.reply
twin_rests n before event twin rank call reply =
    ap (λ r. rests_on n before r event.call event.reply) (sym rank)
    ∙ (ap (λ c. rests_on n before twin.rank c event.reply) (sym call) ∙ ap (rests_on n before twin.rank twin.call) (sym reply))

pub rests_twins : (next : Next) (n : ℕ) (one other : List Event) (p q : ℕ) (runs : AreTwinRuns next n one other) (is : IsMoment next n one other p q)
    → AreAlike (IsTwin (take p one) (take q other))
    (rests_on n (take p one) is.said.event.rank is.said.event.call is.said.event.reply)
    (rests_on n (take q other) is.said.twin.rank is.said.twin.call is.said.twin.reply)
rests_twins next n one other p q runs is =
    let L : List ℕ → Type 0 = λ l. AreAlike (IsTwin (take p one) (take q other)) (rests_on n (take p one) is.said.event.rank is.said.event.call is.said.event.reply) l in
    subst L (twin_rests n (take q other) is.said.event is.said.twin is.said.rank_is is.said.call_is is.said.reply_is)
    (reply_twins next n one other p q is.said.event.reply runs is refl)

-- 5. steps

-- a step of the one run is one of the other
pub record IsStepToo (n : ℕ) (one other : List Event) (t q : ℕ) : Type 0 where
  pub at : ℕ
  pub twin : IsTwin one other t at
  pub step : PrecedesDirectly n other at q

own_step_too : (next : Next) (n : ℕ) (one other : List Event) (t p q : ℕ) (event : Event) → AreTwinRuns next n one other → IsTwin one other p q
    → slice_get one p ≡ Some event → IsEventOfRank (take p one) event.rank t → t < p → IsStepToo n one other t q
own_step_too next n one other t p q event runs twin there own less =
    let early : slice_get one t ≡ Some own.earlier = get_taken one p t own.earlier own.at in
    let found = twin_there one other t own.earlier (runs.views own.earlier.rank) early in
    let s : ℕ = found.0 in
    let its : IsTwin one other t s = found.1 in
    let here = place_of one twin.rank twin.number p twin.first in
    let both : Some here.event ≡ Some event = sym here.there ∙ there in
    let same : here.event ≡ event = cc in
    let event_rank : twin.rank ≡ event.rank = sym here.own ∙ ap (λ (e : Event). e.rank) same in
    let its_place = place_of one its.rank its.number t its.first in
    let its_both : Some its_place.event ≡ Some own.earlier = sym its_place.there ∙ early in
    let its_same : its_place.event ≡ own.earlier = cc in
    let its_rank : its.rank ≡ event.rank = sym its_place.own ∙ (ap (λ (e : Event). e.rank) its_same ∙ own.own) in
    let ranks : its.rank ≡ twin.rank = its_rank ∙ sym event_rank in
    let low = same_order one other t s p q its twin ranks less in
    let far = place_of other its.rank its.number s its.second in
    let far_too = place_of other twin.rank twin.number q twin.second in
    record {
      at = s;
      twin = its;
      step = own_step n other twin.rank s q (record { earlier = far.event; at = far.there; own = far.own ∙ ranks }) (record { earlier = far_too.event; at = far_too.there; own = far_too.own }) low;
    }

pub step_over : (next : Next) (n : ℕ) (one other : List Event) (t p q : ℕ) → AreTwinRuns next n one other → IsTwin one other p q → PrecedesDirectly n one t p → IsStepToo n one other t q
step_over next n one other t p q runs twin made =
    let is = moment next n one other p q runs twin in
    let both : Some made.event ≡ Some is.said.event = sym made.at ∙ is.said.there in
    let same : made.event ≡ is.said.event = cc in
    let D : Event → Type 0 = λ e. IsDirectlyBefore n (take p one) e t in
    let direct = subst D same made.direct in
    let less = step-less n one t p made in
    elim direct.why [
      | inl own ↦ own_step_too next n one other t p q is.said.event runs twin is.said.there own less
      | inr rest ↦ (
          let a : List Event = take p one in
          let b : List Event = take q other in
          let found = alike_in (IsTwin a b) (rests_on n a is.said.event.rank is.said.event.call is.said.event.reply) (rests_on n b is.said.twin.rank is.said.twin.call is.said.twin.reply) t
          (rests_twins next n one other p q runs is) rest in
          let place = place_of b found.2.rank found.2.number found.0 found.2.second in
          record {
            at = found.0;
            twin = longer_twins one other p q t found.0 found.2;
            step = record {
              event = is.said.twin;
              at = is.said.twin_there;
              direct = record { less = slice_get-below b found.0 place.event place.there; why = inr found.1 };
            };
          })
    ]

-- 6. chains, depths, and what is before what

chain_over : (next : Next) (n : ℕ) (one other : List Event) (steps p q : ℕ) → AreTwinRuns next n one other → IsTwin one other p q → IsChain n one steps p → IsChain n other steps q
chain_over next n one other _ p q runs twin (alone _) = alone q
chain_over next n one other _ p q runs twin (longer steps t _ chain made) =
    let too = step_over next n one other t p q runs twin made in
    longer steps too.at q (chain_over next n one other steps t too.at runs too.twin chain) too.step

pub same_depth : (next : Next) (n : ℕ) (one other : List Event) (p q depth depth' : ℕ) → AreTwinRuns next n one other → IsTwin one other p q → IsDepth n one p depth → IsDepth n other q depth' → depth ≡ depth'
same_depth next n one other p q depth depth' runs twin is too =
    let low = too.longest depth (chain_over next n one other depth p q runs twin is.chain) in
    let high = is.longest depth' (chain_over next n other one depth' q p (turned_runs next n one other runs) (turned one other p q twin) too.chain) in
    omega (arith, low, high)

pub before_over : (next : Next) (n : ℕ) (one other : List Event) (t s p q : ℕ) → AreTwinRuns next n one other → IsTwin one other t s → IsTwin one other p q → IsBefore n one t p → IsBefore n other s q
before_over next n one other t s p q runs twin twin' (step _ _ is) =
    let too = step_over next n one other t p q runs twin' is in
    let same : too.at ≡ s = one_twin one other t too.at t s too.twin twin refl in
    let P : ℕ → Type 0 = λ k. PrecedesDirectly n other k q in
    step s q (subst P same too.step)
before_over next n one other t s p q runs twin twin' (path _ u _ first is) =
    let too = step_over next n one other u p q runs twin' is in
    path s too.at q (before_over next n one other t s u too.at runs twin too.twin first) too.step

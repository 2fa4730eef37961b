-- In two runs with the same views and the same mates twins rest on twins, and have one depth.
use Rattle.std.proofs.Common.{◌≡◌, ◌++◌, ◌∷◌, [], ℕ, Bool, List, Option, Some, true, false, inl, inr, refl, ap, sym, ◌∙◌, arith, drop, length, subst, take, take_all}
use Rattle.std.specs.Option.{option_to_list}
use Rattle.std.proofs.lemmas.List.{take-append-drop, take-append-le}
use Rattle.mpi_call.specs.declared.call.Call.{Call}
use Rattle.mpi_call.specs.declared.call.Call.TheVariants.{Abort, End, Enter, Peek, Post, Send, Take, Trap}
use Rattle.mpi_call.specs.declared.reply.Got.{Got}
use Rattle.mpi_call.specs.declared.reply.Got.TheVariants.{Joined, Made, Message as GotMessage, Nothing, Sent}
use Rattle.mpi_call.specs.Lists.{IsIn}
use Rattle.mpi_call.specs.Needs.{needs}
use Rattle.run_model.specs.declared.event.Event.{Event}
use Rattle.run_model.specs.Communicators.{Entered, count_on, enter_at, instance_of, is_enter_of, known_first, members_for_rank}
use Rattle.run_model.specs.Pairs.{Name, pairs_of, partner_of}
use Rattle.run_model.specs.Views.{View, is_start, start_at, starts_of, view_of}
use Rattle.run_model.proofs.Enters.{entered_from-count}
use Rattle.run_model.proofs.StartLemmas.{slice_get-below, starts_of-append}
use Rattle.run_model.proofs.Views.{test_cases, view_of-append}
use Rattle.causes.specs.Positions.{enter_position, enter_instance_at, is_start_of, mates_of, positions, start_position}
use Rattle.causes.specs.Steps.{collected_from, needed_enters, given_from, received_at}
use Rattle.causes.proofs.Deciding.{below_some}
use Rattle.causes.proofs.PositionLemmas.{count_below-positions}
use Rattle.msg_races.proofs.StartNames.{start_of_name}
use Rattle.run_drawing.specs.Laws.{is_synchronous}
use Rattle.run_drawing.proofs.Alike.{AreAlike}
use Rattle.run_drawing.proofs.Grounds.{IsCompleted, from_partner, needed_entered, sync_paired}
use Rattle.run_drawing.proofs.Mates.{HasMates, IsPlaced}
use Rattle.run_drawing.proofs.Twins.{HaveOneFuture, IsTwin}
use Rattle.run_drawing.proofs.TwinStarts.{enter_test, is_enter_on, many_enters, many_starts, named_twins, passing_twins, start_named, start_test, start_there}

-- 1. what a start's completion rests on

-- the events before twins: the rank has seen the same, and so have the others as far as both went
pub record AreFronts (one other : List Event) (me : ℕ) : Type 0 where
  pub agree : HaveOneFuture one other
  pub own : view_of one me ≡ view_of other me
  pub mates : HasMates one
  pub mates_too : HasMates other

-- the instance of an Enter is counted in the view
instance_is : (events : List Event) (me number comm at : ℕ) → start_position events me number ≡ Some at → enter_instance_at events me comm at ≡ instance_of (view_of events me) number comm
instance_is events me number comm at there =
    let front : List Event = take at events in
    let rest : List Event = drop at events in
    let is = start_of_name events me number at (start_named events me number at there) in
    let counted : number ≡ length (starts_of (view_of front me)) = is.number_is ∙ (count_below-positions (is_start_of me) at events ∙ many_starts me 0 front) in
    let whole : view_of events me ≡ view_of front me ++ view_of rest me = ap (λ l. view_of l me) (sym (take-append-drop at events)) ∙ view_of-append front rest me in
    let starts : starts_of (view_of events me) ≡ starts_of (view_of front me) ++ starts_of (view_of rest me) = ap starts_of whole ∙ starts_of-append (view_of front me) (view_of rest me) in
    let cut : take number (starts_of (view_of events me)) ≡ starts_of (view_of front me) =
    ap (take number) starts
    ∙ (ap (λ k. take k (starts_of (view_of front me) ++ starts_of (view_of rest me))) counted
    ∙ (take-append-le (length (starts_of (view_of front me))) (starts_of (view_of front me)) (starts_of (view_of rest me)) (omega arith)
    ∙ take_all (length (starts_of (view_of front me))) (starts_of (view_of front me)) (omega arith))) in
    many_enters me comm 0 front ∙ ap (count_on comm) (sym cut)

-- an Enter that is there has a position
enter_there : (n : ℕ) (events : List Event) (m comm instance : ℕ) (entered : Entered) → enter_at n (view_of events m) comm instance ≡ Some entered
    → (at : ℕ) × (enter_position events m comm instance ≡ Some at)
enter_there n events m comm instance entered h =
    let low = slice_get-below _ instance entered h in
    let count = entered_from-count comm 0 (known_first n comm) (view_of events m) in
    let many = many_enters m comm 0 events in
    below_some (positions (is_enter_of m comm) 0 events) instance (omega (arith, low, count, many))

-- the Enters of the needed members are there in both
abbrev AreThere : List Event → ℕ → ℕ → (ℕ → Bool) → List ℕ → Type 0
AreThere events comm instance needed members = (m : ℕ) → IsIn m members → needed m ≡ true → (at : ℕ) × (enter_position events m comm instance ≡ Some at)

entered_twins : (one other : List Event) (comm instance : ℕ) (needed : ℕ → Bool) (members : List ℕ) → HaveOneFuture one other
    → AreThere one comm instance needed members → AreThere other comm instance needed members
    → AreAlike (IsTwin one other) (needed_enters one comm instance needed members) (needed_enters other comm instance needed members)
entered_twins one other comm instance needed [] agree first second = tt
entered_twins one other comm instance needed (m ∷ members) agree first second =
    let rest = entered_twins one other comm instance needed members agree (λ x h need. first x (inr h) need) (λ x h need. second x (inr h) need) in
    elim (test_cases (needed m)) [
      | inl t ↦ (
          let p = first m (inl refl) t in
          let q = second m (inl refl) t in
          let twin = passing_twins (is_enter_of m comm) (is_enter_on comm) m one other instance p.0 q.0 (enter_test m comm) (agree m) p.1 q.1 in
          rw (t, p.1, q.1) (twin, rest))
      | inr t ↦ rw t rest
    ]

collected_twins : (n : ℕ) (one other : List Event) (me number p q : ℕ) (got : Got) (call : Call) → AreFronts one other me → IsCompleted n one me number got → IsCompleted n other me number got
    → start_position one me number ≡ Some p → start_position other me number ≡ Some q → start_at (view_of one me) number ≡ Some call
    → AreAlike (IsTwin one other) (collected_from n one me p call) (collected_from n other me q call)
collected_twins n one other me number p q got (Enter comm kind root op count ints) fronts is too here there start =
    let enter : Call = Enter comm kind root op count ints in
    let V : View = view_of one me in
    let W : View = view_of other me in
    let instance : ℕ = instance_of V number comm in
    let first : enter_instance_at one me comm p ≡ instance = instance_is one me number comm p here in
    let second : enter_instance_at other me comm q ≡ instance = instance_is other me number comm q there ∙ ap (λ v. instance_of v number comm) (sym fronts.own) in
    let start_too : start_at W number ≡ Some enter = ap (λ v. start_at v number) (sym fronts.own) ∙ start in
    let by : View → ℕ → List Event → List ℕ = λ v i l. needed_enters l comm i (needs enter (members_for_rank n v comm) me) (members_for_rank n v comm) in
    let in_one : AreThere one comm instance (needs enter (members_for_rank n V comm) me) (members_for_rank n V comm) = λ m h need. (
    let found = needed_entered n one me number got comm kind root op count ints m is start h need in
    enter_there n one m comm instance found.0 found.1) in
    let in_other : AreThere other comm (instance_of W number comm) (needs enter (members_for_rank n W comm) me) (members_for_rank n W comm) = λ m h need. (
    let found = needed_entered n other me number got comm kind root op count ints m too start_too h need in
    enter_there n other m comm (instance_of W number comm) found.0 found.1) in
    let T : View → Type 0 = λ v. AreThere other comm (instance_of v number comm) (needs enter (members_for_rank n v comm) me) (members_for_rank n v comm) in
    let twins = entered_twins one other comm instance (needs enter (members_for_rank n V comm) me) (members_for_rank n V comm) fronts.agree in_one (subst T (sym fronts.own) in_other) in
    let A : ℕ → Type 0 = λ i. AreAlike (IsTwin one other) (by V i one) (by V instance other) in
    let B : ℕ → Type 0 = λ i. AreAlike (IsTwin one other) (by V (enter_instance_at one me comm p) one) (by V i other) in
    let C : View → Type 0 = λ v. AreAlike (IsTwin one other) (by V (enter_instance_at one me comm p) one) (by v (enter_instance_at other me comm q) other) in
    subst C fronts.own (subst B (sym second) (subst A (sym first) twins))
collected_twins n one other me number p q got (Send comm dest tag ints sync) fronts is too here there start = tt
collected_twins n one other me number p q got (Post comm source tag room) fronts is too here there start = tt
collected_twins n one other me number p q got (Take starts mode) fronts is too here there start = tt
collected_twins n one other me number p q got (Peek comm source tag wait) fronts is too here there start = tt
collected_twins n one other me number p q got (Abort code) fronts is too here there start = tt
collected_twins n one other me number p q got (Trap fault) fronts is too here there start = tt
collected_twins n one other me number p q got End fronts is too here there start = tt

-- a synchronous send has one partner in both
abbrev pub HasOnePartner : List Event → List Event → ℕ → ℕ → Type 0
HasOnePartner one other me number = (x y : Name) → is_synchronous (start_at (view_of one me) number) ≡ true
    → partner_of (pairs_of one) (me, number) ≡ Some x → partner_of (pairs_of other) (me, number) ≡ Some y → x ≡ y

received_twins : (n : ℕ) (one other : List Event) (me number p q : ℕ) (got : Got) (call : Call) → AreFronts one other me → HasOnePartner one other me number
    → IsCompleted n one me number got → IsCompleted n other me number got
    → start_position one me number ≡ Some p → start_position other me number ≡ Some q → start_at (view_of one me) number ≡ Some call
    → AreAlike (IsTwin one other) (received_at one p call) (received_at other q call)
received_twins n one other me number p q got (Send comm dest tag ints true) fronts partners is too here there start =
    let start_too : start_at (view_of other me) number ≡ Some (Send comm dest tag ints true) = ap (λ v. start_at v number) (sym fronts.own) ∙ start in
    let first = sync_paired n one me number got comm dest tag ints is start in
    let second = sync_paired n other me number got comm dest tag ints too start_too in
    let same : first.0 ≡ second.0 = partners first.0 second.0 (ap is_synchronous start) first.1 second.1 in
    let P : Option Name → Type 0 = λ o. IsPlaced one o (mates_of one p) in
    let Q : Option Name → Type 0 = λ o. IsPlaced other o (mates_of other q) in
    let one_mate = subst P first.1 (fronts.mates.placed p (me, number) (start_named one me number p here)) in
    let other_mate = subst Q (second.1 ∙ ap (λ (x : Name). Some x) (sym same)) (fronts.mates_too.placed q (me, number) (start_named other me number q there)) in
    let twin = named_twins one other first.0 one_mate.0 other_mate.0 fronts.agree one_mate.2 other_mate.2 in
    let A : List ℕ → Type 0 = λ l. AreAlike (IsTwin one other) l (other_mate.0 ∷ []) in
    let B : List ℕ → Type 0 = λ l. AreAlike (IsTwin one other) (mates_of one p) l in
    subst B (sym other_mate.1) (subst A (sym one_mate.1) (twin, tt))
received_twins n one other me number p q got (Send comm dest tag ints false) fronts partners is too here there start = tt
received_twins n one other me number p q got (Post comm source tag room) fronts partners is too here there start = tt
received_twins n one other me number p q got (Enter comm kind root op count ints) fronts partners is too here there start = tt
received_twins n one other me number p q got (Take starts mode) fronts partners is too here there start = tt
received_twins n one other me number p q got (Peek comm source tag wait) fronts partners is too here there start = tt
received_twins n one other me number p q got (Abort code) fronts partners is too here there start = tt
received_twins n one other me number p q got (Trap fault) fronts partners is too here there start = tt
received_twins n one other me number p q got End fronts partners is too here there start = tt

-- a start that both have
pub sent_twins : (one other : List Event) (source number : ℕ) (call call' : Call) → HaveOneFuture one other → start_at (view_of one source) number ≡ Some call → start_at (view_of other source) number ≡ Some call'
    → AreAlike (IsTwin one other) (option_to_list (start_position one source number)) (option_to_list (start_position other source number))
sent_twins one other source number call call' agree here there =
    let p = start_there one source number call here in
    let q = start_there other source number call' there in
    let twin = passing_twins (is_start_of source) is_start source one other number p.0 q.0 (start_test source) (agree source) p.1 q.1 in
    rw (p.1, q.1) (twin, tt)

pub given_twins : (n : ℕ) (one other : List Event) (me number p q : ℕ) (start twin : Event) (got : Got) → AreFronts one other me → HasOnePartner one other me number
    → IsCompleted n one me number got → IsCompleted n other me number got
    → start_position one me number ≡ Some p → start_position other me number ≡ Some q → start_at (view_of one me) number ≡ Some start.call → twin.call ≡ start.call
    → AreAlike (IsTwin one other) (given_from n one me p start got) (given_from n other me q twin got)
given_twins n one other me number p q start twin (GotMessage source count tag ints) fronts partners is too here there called same =
    let first = from_partner n one me number source count tag ints is in
    let second = from_partner n other me number source count tag ints too in
    sent_twins one other source count (Send first.comm first.dest first.tag first.ints first.sync) (Send second.comm second.dest second.tag second.ints second.sync) fronts.agree first.sent second.sent
given_twins n one other me number p q start twin (Joined ints) fronts partners is too here there called same =
    let C : Call → Type 0 = λ c. AreAlike (IsTwin one other) (collected_from n one me p start.call) (collected_from n other me q c) in
    subst C (sym same) (collected_twins n one other me number p q (Joined ints) start.call fronts is too here there called)
given_twins n one other me number p q start twin (Made comm members) fronts partners is too here there called same =
    let C : Call → Type 0 = λ c. AreAlike (IsTwin one other) (collected_from n one me p start.call) (collected_from n other me q c) in
    subst C (sym same) (collected_twins n one other me number p q (Made comm members) start.call fronts is too here there called)
given_twins n one other me number p q start twin Sent fronts partners is too here there called same =
    let C : Call → Type 0 = λ c. AreAlike (IsTwin one other) (received_at one p start.call) (received_at other q c) in
    subst C (sym same) (received_twins n one other me number p q Sent start.call fronts partners is too here there called)
given_twins n one other me number p q start twin Nothing fronts partners is too here there called same = tt

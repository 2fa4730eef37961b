-- The script keeps the laws of programs.
use Rattle.std.proofs.Common.{if◌then◌else◌, subst, ◌≡◌, ◌<◌, ◌≤◌, ◌+◌, ◌/◌, ◌%◌, ◌↔◌, ℕ, suc, pos, List, [], ◌∷◌, ◌++◌, inl, inr, Some, None, Bool, true, false, ◌==◌, ◌||◌, refl, ap, sym, ◌∙◌, arith, length, length-append, ltb}
use Rattle.std.specs.List.{list_any}
use Rattle.std.proofs.lemmas.Bool.{le-ltb, lt-ltb, ltb-false, ltb-true}
use Rattle.mpi_call.specs.declared.call.Call.{Call}
use Rattle.mpi_call.specs.declared.call.Call.TheVariants.{Send, Post, Take, End}
use Rattle.mpi_call.specs.declared.call.Source.TheVariants.{From}
use Rattle.mpi_call.specs.declared.call.Tag.TheVariants.{Is}
use Rattle.mpi_call.specs.declared.call.TakeMode.TheVariants.{All}
use Rattle.mpi_call.specs.declared.reply.Reply.{Reply}
use Rattle.mpi_call.specs.declared.reply.Reply.TheVariants.{Done, Took, NotYet, Peeked, Stopped}
use Rattle.run_model.specs.Lists.{Along}
use Rattle.run_model.specs.Program.{AsksInBounds, EndsExactly, EntersInForm, IsCallInBounds, IsInForm, IsNextSeen, IsViewOf, PrintsOn, ends}
use Rattle.run_model.specs.Shape.{has_shape}
use Rattle.run_model.specs.Views.{View, replies_in}
use Rattle.run_model.proofs.Along.{Along-keeps}
use Rattle.run_model.proofs.Views.{test_cases}
use Rattle.bench_replay.specs.Script.{call_at, calls_of, is_over, is_stopped, next_of, receive_at}

-- 1. where a rank ends

any-append : {A : Type 0} (f : A → Bool) (xs : List A) (x : A) → list_any f (xs ++ x ∷ []) ≡ (list_any f xs || f x)
any-append f [] x = elim (test_cases (f x)) [ inl h ↦ rw h refl | inr h ↦ rw h refl ]
any-append f (y ∷ xs) x =
    elim (test_cases (f y)) [
      | inl h ↦ rw h refl
      | inr h ↦ rw h (any-append f xs x)
    ]

length-replies_in : (view : View) → length (replies_in view) ≡ length view
length-replies_in [] = refl
length-replies_in (seen ∷ view) = ap suc (length-replies_in view)

replies_in-more : (view : View) (call : Call) (reply : Reply) → replies_in (view ++ (call, reply) ∷ []) ≡ replies_in view ++ reply ∷ []
replies_in-more [] call reply = refl
replies_in-more ((c, r) ∷ view) call reply = ap (λ l. r ∷ l) (replies_in-more view call reply)

-- a call that is asked is the one with its number, and the rank has not ended
record IsAsked (messages n rank : ℕ) (own : View) (call : Call) : Type 0 where
  pub call_is : call_at messages n rank (length own) ≡ call
  pub live : list_any is_stopped (replies_in own) ≡ false
  pub few : length own ≤ calls_of messages n rank

asked_is : (messages n rank : ℕ) (own : View) (call : Call) → next_of messages n rank (replies_in own) ≡ Some call → IsAsked messages n rank own call
asked_is messages n rank own call asked =
    let many = length-replies_in own in
    elim (test_cases (list_any is_stopped (replies_in own))) [
      | inl h ↦ (let no : None ≡ Some call = rw h at asked in absurd (cc))
      | inr h ↦ elim (test_cases (ltb (calls_of messages n rank) (length (replies_in own)))) [
        | inl k ↦ (let no : None ≡ Some call = rw (h, k) at asked in absurd (cc))
        | inr k ↦ (
            let some : Some (call_at messages n rank (length (replies_in own))) ≡ Some call = rw (h, k) at asked in
            let same : call_at messages n rank (length (replies_in own)) ≡ call = cc in
            record {
              call_is = rw many at same;
              live = h;
              few = omega (arith, many, ltb-false (calls_of messages n rank) (length (replies_in own)) k);
            })
      ]
    ]

-- a call before the End doesn't end the rank by another reply than a halt
abbrev GoesOn : Call → Type 0
GoesOn call = (reply : Reply) → is_stopped reply ≡ false → ends (call, reply) ≡ false

send_goes_on : GoesOn (Send 0 1 0 (pos 7 ∷ []) false)
send_goes_on Done live = refl
send_goes_on (Took items) live = refl
send_goes_on NotYet live = refl
send_goes_on (Peeked s t g c) live = refl
send_goes_on (Stopped halt) live = absurd (cc)

post_goes_on : GoesOn (Post 0 (From 0) (Is 0) 1)
post_goes_on Done live = refl
post_goes_on (Took items) live = refl
post_goes_on NotYet live = refl
post_goes_on (Peeked s t g c) live = refl
post_goes_on (Stopped halt) live = absurd (cc)

take_goes_on : (start : ℕ) → GoesOn (Take (start ∷ []) All)
take_goes_on start Done live = refl
take_goes_on start (Took items) live = refl
take_goes_on start NotYet live = refl
take_goes_on start (Peeked s t g c) live = refl
take_goes_on start (Stopped halt) live = absurd (cc)

-- what holds of both branches holds of a choice
chosen : {A : Type 0} (P : A → Type 0) (b : Bool) (x y : A) → (b ≡ true → P x) → (b ≡ false → P y) → P (if b then x else y)
chosen P true x y first second = first refl
chosen P false x y first second = second refl

-- and what holds of each call of the script holds of the one with a number
call_cases : (P : Call → Type 0) (messages n rank k : ℕ) → (k < calls_of messages n rank → P (Send 0 1 0 (pos 7 ∷ []) false)) → (k < calls_of messages n rank → P (Post 0 (From 0) (Is 0) 1)) → (k < calls_of messages n rank → P (Take (k / 2 ∷ []) All)) → (calls_of messages n rank ≤ k → P End) → P (call_at messages n rank k)
call_cases P messages n rank k sends posts takes last =
    let calls : ℕ = calls_of messages n rank in
    chosen P (ltb k calls) (if rank == 0 then Send 0 1 0 (pos 7 ∷ []) false else receive_at k) End
    (λ more.
    let low = ltb-true k calls more in
    chosen P (rank == 0) (Send 0 1 0 (pos 7 ∷ []) false) (receive_at k)
    (λ first. sends low)
    (λ other. chosen P (k % 2 == 0) (Post 0 (From 0) (Is 0) 1) (Take (k / 2 ∷ []) All) (λ even. posts low) (λ odd. takes low)))
    (λ over. last (ltb-false k calls over))

goes_on : (messages n rank k : ℕ) → k < calls_of messages n rank → GoesOn (call_at messages n rank k)
goes_on messages n rank k more =
    call_cases GoesOn messages n rank k (λ low. send_goes_on) (λ low. post_goes_on) (λ low. take_goes_on (k / 2)) (λ high. absurd (omega (arith, more, high)))

stopped_ends : (call : Call) (reply : Reply) → is_stopped reply ≡ true → ends (call, reply) ≡ true
stopped_ends call (Stopped halt) h = refl
stopped_ends call Done h = absurd (cc)
stopped_ends call (Took items) h = absurd (cc)
stopped_ends call NotYet h = absurd (cc)
stopped_ends call (Peeked s t g c) h = absurd (cc)

end_ends : (n me : ℕ) (own : View) (reply : Reply) → has_shape n me own End reply ≡ true → ends (End, reply) ≡ true
end_ends n me own Done shape = refl
end_ends n me own (Stopped halt) shape = refl
end_ends n me own (Took items) shape = absurd (cc)
end_ends n me own NotYet shape = absurd (cc)
end_ends n me own (Peeked s t g c) shape = absurd (cc)

-- a view has an end where the script is over
abbrev EndsThere : ℕ → ℕ → ℕ → View → Type 0
EndsThere messages n rank view = list_any ends view ≡ is_over messages n rank (replies_in view)

none_at_first : (messages n rank : ℕ) → EndsThere messages n rank []
none_at_first messages n rank = sym (le-ltb (calls_of messages n rank) 0 (omega arith))

over_more : (messages n rank : ℕ) (own : View) (call : Call) (reply : Reply) → list_any is_stopped (replies_in own) ≡ false → is_over messages n rank (replies_in (own ++ (call, reply) ∷ [])) ≡ (is_stopped reply || ltb (calls_of messages n rank) (length own + 1))
over_more messages n rank own call reply live =
    let many : length (replies_in own ++ reply ∷ []) ≡ length own + 1 = length-append (replies_in own) (reply ∷ []) ∙ ap (λ k. k + 1) (length-replies_in own) in
    rw (replies_in-more own call reply, any-append is_stopped (replies_in own) reply, live, many) refl

ends_more : (messages n rank : ℕ) (own : View) (seen : Call × Reply) → EndsThere messages n rank own → IsNextSeen (next_of messages) n rank own seen → EndsThere messages n rank (own ++ seen ∷ [])
ends_more messages n rank own (call, reply) there seen =
    let asked = asked_is messages n rank own call seen.asked in
    let calls : ℕ = calls_of messages n rank in
    let few = asked.few in
    let many = length-replies_in own in
    let short : ltb calls (length (replies_in own)) ≡ false = le-ltb calls (length (replies_in own)) (omega (arith, few, many)) in
    let none : list_any ends own ≡ false = there ∙ rw (asked.live, short) refl in
    any-append ends own (call, reply) ∙ rw none (elim (test_cases (is_stopped reply)) [
      | inl h ↦ stopped_ends call reply h ∙ sym (over_more messages n rank own call reply asked.live ∙ rw h refl)
      | inr h ↦ elim (test_cases (ltb (length own) calls)) [
        | inl more ↦ (
            let low = ltb-true (length own) calls more in
            let goes : ends (call, reply) ≡ false = subst GoesOn asked.call_is (goes_on messages n rank (length own) low) reply h in
            goes ∙ sym (over_more messages n rank own call reply asked.live ∙ rw h (le-ltb calls (length own + 1) (omega (arith, low)))))
        | inr last ↦ (
            let high = ltb-false (length own) calls last in
            let is_end : End ≡ call = rw last at asked.call_is in
            let S : Call → Type 0 = λ c. has_shape n rank own c reply ≡ true in
            let E : Call → Type 0 = λ c. ends (c, reply) ≡ true in
            let over : ends (call, reply) ≡ true = subst E is_end (end_ends n rank own reply (subst S (sym is_end) seen.shaped)) in
            over ∙ sym (over_more messages n rank own call reply asked.live ∙ rw h (lt-ltb calls (length own + 1) (omega (arith, high, few)))))
      ]
    ])

ends_there : (messages n rank : ℕ) (view : View) → IsViewOf (next_of messages) n rank view → EndsThere messages n rank view
ends_there messages n rank view along =
    Along-keeps (IsNextSeen (next_of messages) n rank) (EndsThere messages n rank) (λ before seen there is. ends_more messages n rank before seen there is) [] view (none_at_first messages n rank) along

none_where : (over : Bool) (call : Call) → ((if over then None else Some call) ≡ None) ↔ (over ≡ true)
none_where true call = (λ h. refl, λ h. refl)
none_where false call = (λ h. absurd (cc), λ h. absurd (cc))

pub ends_exactly : (messages : ℕ) → EndsExactly (next_of messages)
ends_exactly messages n rank view ranks along =
    rw (ends_there messages n rank view along) (none_where (is_over messages n rank (replies_in view)) (call_at messages n rank (length (replies_in view))))

-- 2. calls are in bounds, and none is a collective

-- a call that is in bounds and in form
abbrev IsProper : ℕ → ℕ → View → Call → Type 0
IsProper n me own call = IsCallInBounds n (length own) call × IsInForm n me own call

two_ranks : (messages n rank k : ℕ) → k < calls_of messages n rank → 1 < n
two_ranks messages n rank k more =
    elim (test_cases (ltb 1 n)) [
      | inl h ↦ ltb-true 1 n h
      | inr h ↦ (let no : k < 0 = rw h at more in absurd (omega (arith, no)))
    ]

proper_at : (messages n rank : ℕ) (own : View) → IsProper n rank own (call_at messages n rank (length own))
proper_at messages n rank own =
    call_cases (IsProper n rank own) messages n rank (length own)
    (λ low. let two = two_ranks messages n rank (length own) low in ((two, omega arith, omega arith), tt))
    (λ low. let two = two_ranks messages n rank (length own) low in ((omega (arith, two), omega arith), tt))
    (λ low. ((omega arith, omega arith, λ few i d within. let first : i ≡ 0 = omega (arith, within) in rw first (omega (arith, few))), tt))
    (λ high. (tt, tt))

proper_asked : (messages n rank : ℕ) (own : View) (call : Call) → next_of messages n rank (replies_in own) ≡ Some call → IsProper n rank own call
proper_asked messages n rank own call asked = subst (IsProper n rank own) (asked_is messages n rank own call asked).call_is (proper_at messages n rank own)

pub asks_in_bounds : (messages : ℕ) → AsksInBounds (next_of messages)
asks_in_bounds messages n rank view call ranks along asked = (proper_asked messages n rank view call asked).0

pub enters_in_form : (messages : ℕ) → EntersInForm (next_of messages)
enters_in_form messages n rank view call ranks along asked = (proper_asked messages n rank view call asked).1

-- 3. nothing is printed

pub prints_on : (messages : ℕ) → PrintsOn (next_of messages) (λ n rank replies. [])
prints_on messages n rank view more ranks along = ([], refl)

-- Lists of events that are runs, by tests that compute: for worked examples.
use Rattle.std.proofs.Common.{◌≡◌, ◌∙◌, ◌<◌, ◌≤◌, ℕ, zero, suc, List, [], ◌∷◌, ◌++◌, Option, Some, None, Bool, true, false, not, ◌&&◌, ◌||◌, ◌⊎◌, inl, inr, refl, sym, subst, arith, nat_lt, ap, ◌==◌}
use Rattle.std.specs.Prelude.{is_some}
use Rattle.std.specs.List.{list_all}
use Rattle.std.proofs.lemmas.Bool.{and_parts, cases_order, eqb-true, ltb-true}
use Rattle.mpi_call.specs.declared.call.Call.{Call}
use Rattle.mpi_call.specs.declared.call.Call.TheVariants.{Post}
use Rattle.mpi_call.specs.declared.call.Source.{Source}
use Rattle.mpi_call.specs.declared.call.Tag.{Tag}
use Rattle.mpi_call.specs.Acceptance.{accepts}
use Rattle.mpi_call.specs.declared.limits.TheConstants.{MOST_RANKS}
use Rattle.mpi_call.specs.Lists.{IsIn}
use Rattle.run_model.specs.declared.event.Event.{Event}
use Rattle.run_model.specs.Allowed.{IsAllowed}
use Rattle.run_model.specs.Lists.{Along}
use Rattle.run_model.specs.Pairs.{AreMatched, MeetInTurn, Name, PostAccepts, mated, named, pairs_of, partner_of, post_accepts, same_name}
use Rattle.run_model.specs.Run.{AreNumbered, HasMate, IsEvent, IsRun, numbers_in_reply, numbers_in_view}
use Rattle.run_model.specs.Views.{Next, replies_in, view_of}
use Rattle.run_model.proofs.Views.{option_cases, test_cases}

-- a Post that is there accepts a call that is there
abbrev accepts_there : ℕ → Option Call → ℕ → Option Call → Bool
accepts_there rank (Some post) sender (Some call) = post_accepts rank post sender call
accepts_there rank post sender call = false

abbrev suits : (Name → Option Call) → Name → Name → Bool
suits N post send = accepts_there post.0 (N post) send.0 (N send)

suits_is : (rank sender : ℕ) (post send : Option Call) → accepts_there rank post sender send ≡ true
    → (p s : Call) × (post ≡ Some p) × (send ≡ Some s) × (post_accepts rank p sender s ≡ true)
suits_is rank sender (Some p) (Some s) h = (p, s, refl, refl, h)
suits_is rank sender (Some p) None h = absurd (cc)
suits_is rank sender None send h = absurd (cc)

accepted : (N : Name → Option Call) (post send : Name) → suits N post send ≡ true → PostAccepts N post send
accepted N post send h =
    let is = suits_is post.0 send.0 (N post) (N send) h in
    record { post_call = is.0; send_call = is.1; post_is = is.2; send_is = is.3; accepted = is.4 }

suited : (N : Name → Option Call) (post send : Name) → PostAccepts N post send → suits N post send ≡ true
suited N post send takes = rw (takes.post_is, takes.send_is) takes.accepted

-- what a Post accepts is no Post
no_post : (rank comm : ℕ) (source : Source) (tag : Tag) (sender other third : ℕ) (call call' : Call) → accepts rank comm source tag sender call ≡ true
    → post_accepts other call third call' ≡ false
no_post rank comm source tag sender other third (Post c s t room) call' h = absurd (cc)
no_post rank comm source tag sender other third call call' h = refl

accepted_no_post : (rank sender other third : ℕ) (post call call' : Call) → post_accepts rank post sender call ≡ true
    → post_accepts other call third call' ≡ false
accepted_no_post rank sender other third (Post comm source tag room) call call' h = no_post rank comm source tag sender other third call call' h
accepted_no_post rank sender other third post call call' h = absurd (cc)

not_both : (N : Name → Option Call) (post send other : Name) → suits N post send ≡ true → PostAccepts N send other → ⊥
not_both N post send other h takes =
    let is = accepted N post send h in
    let same : Some takes.post_call ≡ Some is.send_call = sym takes.post_is ∙ is.send_is in
    let call : takes.post_call ≡ is.send_call = cc in
    let no = accepted_no_post post.0 send.0 send.0 other.0 is.post_call is.send_call takes.send_call is.accepted in
    (let bad : true ≡ false = sym takes.accepted ∙ rw call no in cc)

-- each number below another has a property
abbrev all_below : ℕ → (ℕ → Bool) → Bool
all_below zero test = true
all_below (suc n) test = test n && all_below n test

all_below-at : (n : ℕ) (test : ℕ → Bool) (k : ℕ) → all_below n test ≡ true → k < n → test k ≡ true
all_below-at zero test k h less = absurd (omega (arith, less))
all_below-at (suc n) test k h less =
    let parts = and_parts (test n) (all_below n test) h in
    elim (cases_order k n) [
      | inl same ↦ rw same parts.0
      | inr apart ↦ elim apart [
        | inl low ↦ all_below-at n test k parts.1 low
        | inr high ↦ absurd (omega (arith, less, high))
      ]
    ]

abbrev is_name : Option Name → Name → Bool
is_name (Some one) other = same_name one other
is_name None other = false

same_name-true : (a b : Name) → same_name a b ≡ true → a ≡ b
same_name-true a b h =
    let parts = and_parts (a.0 == b.0) (a.1 == b.1) h in
    let pair : (x y : ℕ) → Name = λ x y. (x, y) in
    ap (λ x. pair x a.1) (eqb-true a.0 b.0 parts.0) ∙ ap (λ y. pair b.0 y) (eqb-true a.1 b.1 parts.1)

is_name-true : (o : Option Name) (name : Name) → is_name o name ≡ true → o ≡ Some name
is_name-true (Some one) name h = ap Some (same_name-true one name h)
is_name-true None name h = absurd (cc)

-- the four conditions at one pair, of a receive and a send
abbrev holds_at : (Name → Option Call) → List (Name × Name) → Name × Name → Bool
holds_at N pairs pair =
    (suits N pair.0 pair.1 && (is_name (partner_of pairs pair.0) pair.1 && is_name (partner_of pairs pair.1) pair.0))
    && (all_below pair.1.1 (λ start. not (suits N pair.0 (pair.1.0, start)) || is_some (partner_of pairs (pair.1.0, start)))
    && all_below pair.0.1 (λ start. not (suits N (pair.0.0, start) pair.1) || is_some (partner_of pairs (pair.0.0, start))))

-- what holds at a pair, told of any two names
record HoldsAt (N : Name → Option Call) (pairs : List (Name × Name)) (post send : Name) : Type 0 where
  fit : suits N post send ≡ true
  post_partner : partner_of pairs post ≡ Some send
  send_partner : partner_of pairs send ≡ Some post
  sends : all_below send.1 (λ start. not (suits N post (send.0, start)) || is_some (partner_of pairs (send.0, start))) ≡ true
  posts : all_below post.1 (λ start. not (suits N (post.0, start) send) || is_some (partner_of pairs (post.0, start))) ≡ true

held : (N : Name → Option Call) (pairs : List (Name × Name)) (pair : Name × Name) → holds_at N pairs pair ≡ true → HoldsAt N pairs pair.0 pair.1
held N pairs pair h =
    let sends : Bool = all_below pair.1.1 (λ start. not (suits N pair.0 (pair.1.0, start)) || is_some (partner_of pairs (pair.1.0, start))) in
    let posts : Bool = all_below pair.0.1 (λ start. not (suits N (pair.0.0, start) pair.1) || is_some (partner_of pairs (pair.0.0, start))) in
    let one : Bool = is_name (partner_of pairs pair.0) pair.1 in
    let other : Bool = is_name (partner_of pairs pair.1) pair.0 in
    let halves = and_parts (suits N pair.0 pair.1 && (one && other)) (sends && posts) h in
    let first = and_parts (suits N pair.0 pair.1) (one && other) halves.0 in
    let partners = and_parts one other first.1 in
    let last = and_parts sends posts halves.1 in
    record {
      fit = first.0;
      post_partner = is_name-true (partner_of pairs pair.0) pair.1 partners.0;
      send_partner = is_name-true (partner_of pairs pair.1) pair.0 partners.1;
      sends = last.0;
      posts = last.1;
    }

-- two partners are a listed pair, in one order or the other
among : (N : Name → Option Call) (all pairs : List (Name × Name)) (a b : Name) → list_all (holds_at N all) pairs ≡ true → partner_of pairs a ≡ Some b
    → HoldsAt N all a b ⊎ HoldsAt N all b a
among N all [] a b h paired = absurd (cc)
among N all (pair ∷ pairs) a b h paired =
    let parts = and_parts (holds_at N all pair) (list_all (holds_at N all) pairs) h in
    let here = held N all pair parts.0 in
    elim (test_cases (same_name pair.0 a)) [
      | inl t ↦ (
          let e : Some pair.1 ≡ Some b = rw t at paired in
          let second : pair.1 ≡ b = cc in
          let F : Name → Type 0 = λ x. HoldsAt N all x b in
          let G : Name → Type 0 = λ x. HoldsAt N all pair.0 x in
          inl (subst F (same_name-true pair.0 a t) (subst G second here)))
      | inr t ↦ elim (test_cases (same_name pair.1 a)) [
        | inl u ↦ (
            let e : Some pair.0 ≡ Some b = rw (t, u) at paired in
            let second : pair.0 ≡ b = cc in
            let F : Name → Type 0 = λ x. HoldsAt N all x pair.1 in
            let G : Name → Type 0 = λ x. HoldsAt N all b x in
            inr (subst G (same_name-true pair.1 a u) (subst F second here)))
        | inr u ↦ among N all pairs a b parts.1 (rw (t, u) at paired)
      ]
    ]

-- the four conditions, as a test of the pairs
abbrev is_matched : (Name → Option Call) → List (Name × Name) → Bool
is_matched N pairs = list_all (holds_at N pairs) pairs

or_else_true : (b c : Bool) → (not b || c) ≡ true → b ≡ true → c ≡ true
or_else_true true c h is = h
or_else_true false c h is = absurd (cc)

matched : (N : Name → Option Call) (pairs : List (Name × Name)) → is_matched N pairs ≡ true → AreMatched N pairs
matched N pairs h =
    record {
      pairs_accept = λ a b paired. elim (among N pairs pairs a b h paired) [
        | inl is ↦ inl (accepted N a b is.fit)
        | inr is ↦ inr (accepted N b a is.fit)
      ];
      one_partner = λ a b paired. elim (among N pairs pairs a b h paired) [
        | inl is ↦ is.send_partner
        | inr is ↦ is.post_partner
      ];
      no_overtaking = λ post send paired start less takes. elim (among N pairs pairs post send h paired) [
        | inl is ↦
            or_else_true (suits N post (send.0, start)) (is_some (partner_of pairs (send.0, start)))
            (all_below-at send.1 (λ start. not (suits N post (send.0, start)) || is_some (partner_of pairs (send.0, start))) start is.sends less)
            (suited N post (send.0, start) takes)
        | inr is ↦ absurd (not_both N send post (send.0, start) is.fit takes)
      ];
      earliest_receive = λ post send paired start less takes. elim (among N pairs pairs post send h paired) [
        | inl is ↦
            or_else_true (suits N (post.0, start) send) (is_some (partner_of pairs (post.0, start)))
            (all_below-at post.1 (λ start. not (suits N (post.0, start) send) || is_some (partner_of pairs (post.0, start))) start is.posts less)
            (suited N (post.0, start) send takes)
        | inr is ↦ absurd (
            let send_is = accepted N send post is.fit in
            let same : Some send_is.post_call ≡ Some takes.send_call = sym send_is.post_is ∙ takes.send_is in
            let call : send_is.post_call ≡ takes.send_call = cc in
            let no = accepted_no_post post.0 send.0 send.0 post.0 takes.post_call takes.send_call send_is.send_call takes.accepted in
            (let bad : true ≡ false = sym (rw call at send_is.accepted) ∙ no in cc))
      ];
    }

-- pairs that meet one after the other, as a test
abbrev are_met : (Name → Option Call) → List (Name × Name) → List (Name × Name) → Bool
are_met N pairs [] = is_matched N pairs
are_met N pairs (pair ∷ more) =
    is_matched N pairs && ((not (is_some (partner_of pairs pair.0)) && not (is_some (partner_of pairs pair.1))) && are_met N (pairs ++ pair ∷ []) more)

not_some : {A : Type 0} (o : Option A) → not (is_some o) ≡ true → o ≡ None
not_some None h = refl
not_some (Some x) h = absurd (cc)

met : (N : Name → Option Call) (pairs more : List (Name × Name)) → are_met N pairs more ≡ true → MeetInTurn N pairs more
met N pairs [] h = matched N pairs h
met N pairs (pair ∷ more) h =
    let one : Bool = not (is_some (partner_of pairs pair.0)) in
    let other : Bool = not (is_some (partner_of pairs pair.1)) in
    let parts = and_parts (is_matched N pairs) ((one && other) && are_met N (pairs ++ pair ∷ []) more) h in
    let last = and_parts (one && other) (are_met N (pairs ++ pair ∷ []) more) parts.1 in
    let both = and_parts one other last.0 in
    (matched N pairs parts.0, not_some (partner_of pairs pair.0) both.0, not_some (partner_of pairs pair.1) both.1, met N (pairs ++ pair ∷ []) more last.1)

-- no reply makes a communicator
abbrev is_empty : List (ℕ × ℕ) → Bool
is_empty [] = true
is_empty (x ∷ xs) = false

abbrev makes_none : List Event → Bool
makes_none events = list_all (λ (event : Event). is_empty (numbers_in_reply event.call event.reply)) events

is_empty-true : (xs : List (ℕ × ℕ)) → is_empty xs ≡ true → xs ≡ []
is_empty-true [] h = refl
is_empty-true (x ∷ xs) h = absurd (cc)

none_made : (events : List Event) (rank : ℕ) → makes_none events ≡ true → numbers_in_view (view_of events rank) ≡ []
none_made [] rank h = refl
none_made (event ∷ events) rank h =
    let parts = and_parts (is_empty (numbers_in_reply event.call event.reply)) (makes_none events) h in
    let rest = none_made events rank parts.1 in
    elim (test_cases (event.rank == rank)) [
      | inl t ↦ rw (t, is_empty-true (numbers_in_reply event.call event.reply) parts.0, rest) refl
      | inr t ↦ rw t rest
    ]

none_numbered : (events : List Event) → makes_none events ≡ true → AreNumbered (view_of events)
none_numbered events h =
    record {
      origin = λ rank number start rank' number' start' enter enter' made same. (
          let no : IsIn {A = ℕ × ℕ} (number, start) [] = rw (none_made events rank h) at made.first in
          absurd no);
      number = λ rank number start rank' number' start' enter enter' made same. (
          let no : IsIn {A = ℕ × ℕ} (number, start) [] = rw (none_made events rank h) at made.first in
          absurd no);
    }

-- what is tested of an event: its rank, that it has no mate, what meets after it, and that no communicator is made
abbrev is_plain : Option ℕ → Bool
is_plain None = true
is_plain (Some at) = false

abbrev is_step : ℕ → List Event → Event → Bool
is_step n before event =
    (nat_lt event.rank n && is_plain event.mate)
    && (are_met (named (before ++ event ∷ [])) (pairs_of before ++ mated before event) event.met && makes_none (before ++ event ∷ []))

abbrev pub are_steps : ℕ → List Event → List Event → Bool
are_steps n before [] = true
are_steps n before (event ∷ events) = is_step n before event && are_steps n (before ++ event ∷ []) events

-- and what is told of it: that the call is the program's next, and why its reply is allowed
abbrev pub IsTold : Next → ℕ → List Event → Event → Type 0
IsTold next n before event =
    (next n event.rank (replies_in (view_of before event.rank)) ≡ Some event.call) × IsAllowed next n before event.rank event.call event.reply

mate_none : (before : List Event) (event : Event) → is_plain event.mate ≡ true → HasMate before event
mate_none before event h =
    elim (option_cases event.mate) [
      | inl some ↦ absurd (let no : false ≡ true = rw some.1 at h in cc)
      | inr none ↦ rw none tt
    ]

step_is : (next : Next) (n : ℕ) (before : List Event) (event : Event) → is_step n before event ≡ true → IsTold next n before event → IsEvent next n before event
step_is next n before event h told =
    let fine : Bool = are_met (named (before ++ event ∷ [])) (pairs_of before ++ mated before event) event.met in
    let parts = and_parts (nat_lt event.rank n && is_plain event.mate) (fine && makes_none (before ++ event ∷ [])) h in
    let first = and_parts (nat_lt event.rank n) (is_plain event.mate) parts.0 in
    let last = and_parts fine (makes_none (before ++ event ∷ [])) parts.1 in
    record {
      rank = ltb-true event.rank n first.0;
      call = told.0;
      reply = told.1;
      mate = mate_none before event first.1;
      meets = met (named (before ++ event ∷ [])) (pairs_of before ++ mated before event) event.met last.0;
      numbered = none_numbered (before ++ event ∷ []) last.1;
    }

steps_are : (next : Next) (n : ℕ) (before events : List Event) → are_steps n before events ≡ true → Along (IsTold next n) before events → Along (IsEvent next n) before events
steps_are next n before [] h told = tt
steps_are next n before (event ∷ events) h told =
    let parts = and_parts (is_step n before event) (are_steps n (before ++ event ∷ []) events) h in
    (step_is next n before event parts.0 told.0, steps_are next n (before ++ event ∷ []) events parts.1 told.1)

pub tested_run : (next : Next) (n : ℕ) (events : List Event) → 0 < n → n ≤ MOST_RANKS → are_steps n [] events ≡ true → Along (IsTold next n) [] events
    → IsRun next n events
tested_run next n events some few h told = record { some = some; few = few; along = steps_are next n [] events h told }

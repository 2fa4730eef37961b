-- The machine's numbers: each new communicator has that of its origin.
use Rattle.std.proofs.Common.{◌≡◌, ◌++◌, ◌==◌, ◌∙◌, ◌∷◌, ◌⊎◌, Bool, Err, List, None, Ok, Option, Result, Some, [], ap, append-nil, append_assoc, false, if◌then◌else◌, inl, inr, refl, slice_index, subst, sym, true, ℕ, ℤ}
use Rattle.std.proofs.lemmas.Bool.{eqb-true}
use Rattle.mpi_call.specs.declared.call.Call.{Call}
use Rattle.mpi_call.specs.declared.call.Call.TheVariants.{Abort, End, Enter, Peek, Post, Send, Take, Trap}
use Rattle.mpi_call.specs.declared.call.Halt.{Halt}
use Rattle.mpi_call.specs.declared.call.Source.TheVariants.{Any, From}
use Rattle.mpi_call.specs.declared.call.TakeMode.{TakeMode}
use Rattle.mpi_call.specs.declared.reply.Reply.{Reply}
use Rattle.mpi_call.specs.Calls.{comm_of, makes}
use Rattle.mpi_call.specs.Collectives.{colour_of, is_uncoloured}
use Rattle.run_model.specs.declared.event.Event.{Event}
use Rattle.run_model.specs.Allowed.{first_long, flags_of, mode_holds, taken_reply}
use Rattle.run_model.specs.Choice.{choice, chosen_places}
use Rattle.run_model.specs.Chosen.{IsChosenEvent, chosen_answer, chosen_reply, collected, collected_by, got_of, halt_or, held_reply, items_at, items_of, message_of_pair, message_of, peek_reply, peeked_at, peeked_in}
use Rattle.run_model.specs.Communicators.{instance_of}
use Rattle.run_model.specs.Due.{due}
use Rattle.run_model.specs.Inputs.{inputs_of}
use Rattle.run_model.specs.Numbers.{Origin, communicators_of, made_along, made_at, number_among, origin_of}
use Rattle.run_model.specs.Pairs.{Name, name_at, named, pairs_of, partner_of}
use Rattle.mpi_call.specs.Lists.{IsIn}
use Rattle.run_model.specs.Run.{AreNumbered, SameOrigin, entrance_of, numbers_made, numbers_in_items, numbers_in_reply, numbers_in_view}
use Rattle.run_model.specs.Shape.{is_test}
use Rattle.run_model.specs.Views.{View, moment_at, moment_of, start_at, view_of}
use Rattle.run_model.proofs.OriginLists.{IsListed, listed_front, number_kept, number_one}
use Rattle.run_model.proofs.StartLemmas.{start_at-kept}
use Rattle.run_model.proofs.Enters.{instance_of-kept}
use Rattle.run_model.proofs.Instances.{numbers_of-append}
use Rattle.run_model.proofs.Views.{test_cases, view_of-append}

-- a communicator that a rank got has the number of its origin
pub record HasOrigin (made : List Origin) (own : View) (c k : ℕ) : Type 0 where
  pub enter : Call
  pub at : start_at own k ≡ Some enter
  pub listed : IsListed made (origin_of own k enter)
  pub number : c ≡ number_among made (origin_of own k enter)

abbrev pub AllNumbered : List Origin → (ℕ → View) → Type 0
AllNumbered made V = (r c k : ℕ) → IsIn (c, k) (numbers_in_view (V r)) → (c == 0) ≡ false → HasOrigin made (V r) c k

origin_for : (made : List Origin) (own : View) (c k : ℕ) (enter : Call) → HasOrigin made own c k → start_at own k ≡ Some enter
    → IsListed made (origin_of own k enter) × (c ≡ number_among made (origin_of own k enter))
origin_for made own c k enter has at =
    let calls : Some has.enter ≡ Some enter = sym has.at ∙ at in
    let same : has.enter ≡ enter = cc in
    let F : Call → Type 0 = λ e. IsListed made (origin_of own k e) × (c ≡ number_among made (origin_of own k e)) in
    subst F same (has.listed, has.number)

same_parts : (V : ℕ → View) (r k s l : ℕ) (one two : Call) → SameOrigin V (entrance_of r k one) (entrance_of s l two) → origin_of (V r) k one ≡ origin_of (V s) l two
same_parts V r k s l one two same =
    let mk : ℕ → ℕ → List ℤ → Origin = λ c i z. record { comm = c; instance = i; colour = z } in
    ap (λ c. mk c (instance_of (V r) k (comm_of one)) (colour_of one)) same.comm
    ∙ (ap (λ i. mk (comm_of two) i (colour_of one)) same.instance
    ∙ ap (λ z. mk (comm_of two) (instance_of (V s) l (comm_of two)) z) same.colour)

pub are_numbered : (made : List Origin) (V : ℕ → View) → AllNumbered made V → AreNumbered V
are_numbered made V all =
    record {
      origin = λ r c k s d l one two m e.
          let a = origin_for made (V r) c k one (all r c k m.first m.first_new) m.first_enter in
          let b = origin_for made (V s) d l two (all s d l m.second m.second_new) m.second_enter in
          let same : origin_of (V r) k one ≡ origin_of (V s) l two =
          number_one made (origin_of (V r) k one) (origin_of (V s) l two) a.0 b.0 (sym a.1 ∙ (e ∙ b.1)) in
          record { comm = ap (λ (o : Origin). o.comm) same; instance = ap (λ (o : Origin). o.instance) same; colour = ap (λ (o : Origin). o.colour) same };
      number = λ r c k s d l one two m same.
          let a = origin_for made (V r) c k one (all r c k m.first m.first_new) m.first_enter in
          let b = origin_for made (V s) d l two (all s d l m.second m.second_new) m.second_enter in
          a.1 ∙ (ap (number_among made) (same_parts V r k s l one two same) ∙ sym b.1);
    }

-- it stays so
pub has_more : (made more : List Origin) (own tail : View) (c k : ℕ) → HasOrigin made own c k → HasOrigin (made ++ more) (own ++ tail) c k
has_more made more own tail c k has =
    let enter : Call = has.enter in
    let o : Origin = origin_of own k enter in
    let later : Origin = origin_of (own ++ tail) k enter in
    let mk : ℕ → Origin = λ i. record { comm = comm_of enter; instance = i; colour = colour_of enter } in
    let same : later ≡ o = ap mk (instance_of-kept own (own ++ tail) k (comm_of enter) enter (tail, refl) has.at) in
    let F : Origin → Type 0 = λ x. IsListed (made ++ more) x in
    record {
      enter = enter;
      at = (start_at-kept own (own ++ tail) k (tail, refl)).kept enter has.at;
      listed = subst F (sym same) (listed_front made more o has.listed);
      number = has.number ∙ (sym (number_kept made more o has.listed) ∙ ap (number_among (made ++ more)) (sym same));
    }

-- the numbers in the machine's reply
pub record IsFresh (n : ℕ) (before : List Event) (me : ℕ) (new : Name) : Type 0 where
  pub enter : Call
  pub inputs : List (List ℤ)
  pub at : start_at (view_of before me) new.1 ≡ Some enter
  pub makes_is : makes enter ≡ true
  pub coloured : is_uncoloured enter ≡ false
  pub gathered : inputs_of n (view_of before) me (view_of before me) new.1 enter ≡ Ok inputs
  pub number : new.0 ≡ number_among (communicators_of n before) (origin_of (view_of before me) new.1 enter)

collected_fresh : (makes_it uncoloured : Bool) (n : ℕ) (before : List Event) (me k : ℕ) (enter : Call) (inputs : List (List ℤ)) (new : Name)
    → start_at (view_of before me) k ≡ Some enter → makes enter ≡ makes_it → is_uncoloured enter ≡ uncoloured
    → inputs_of n (view_of before) me (view_of before me) k enter ≡ Ok inputs
    → IsIn new (numbers_made k (collected_by makes_it uncoloured (moment_at n before me) k enter inputs)) → (new.0 == 0) ≡ false
    → IsFresh n before me new
collected_fresh true true n before me k enter inputs new at m u g there real =
    elim there [
      | inl e ↦ (
          let F : Name → Type 0 = λ a. (a.0 == 0) ≡ false in
          let no : true ≡ false = subst F (sym e) real in absurd (cc))
      | inr later ↦ absurd later
    ]
collected_fresh true false n before me k enter inputs new at m u g there real =
    elim there [
      | inl e ↦ (
          let F : Name → Type 0 = λ a. IsFresh n before me a in
          subst F e (record { enter = enter; inputs = inputs; at = at; makes_is = m; coloured = u; gathered = g; number = refl }))
      | inr later ↦ absurd later
    ]
collected_fresh false true n before me k enter inputs new at m u g there real = absurd there
collected_fresh false false n before me k enter inputs new at m u g there real = absurd there

gathered_fresh : (n : ℕ) (before : List Event) (me k : ℕ) (enter : Call) (inputs : Result (List (List ℤ)) ℕ) (new : Name)
    → start_at (view_of before me) k ≡ Some enter → inputs_of n (view_of before) me (view_of before me) k enter ≡ inputs
    → IsIn new (numbers_made k (collected (moment_at n before me) k enter inputs)) → (new.0 == 0) ≡ false → IsFresh n before me new
gathered_fresh n before me k enter (Err missing) new at g there real = absurd there
gathered_fresh n before me k enter (Ok inputs) new at g there real =
    collected_fresh (makes enter) (is_uncoloured enter) n before me k enter inputs new at refl refl g there real

message_in-none : (k : ℕ) (send : Name) (call : Option Call) → numbers_made k (message_of_pair send call) ≡ []
message_in-none k send (Some (Send comm dest tag ints sync)) = refl
message_in-none k send other = refl

message_none : (k : ℕ) (before : List Event) (partner : Option Name) → numbers_made k (message_of before partner) ≡ []
message_none k before None = refl
message_none k before (Some send) = message_in-none k send (named before send)

not_in_message : (k : ℕ) (before : List Event) (partner : Option Name) (new : Name) → IsIn new (numbers_made k (message_of before partner)) → ⊥
not_in_message k before partner new there = (let F : List Name → Type 0 = λ l. IsIn new l in subst F (message_none k before partner) there)

got_fresh : (n : ℕ) (before : List Event) (me k : ℕ) (start : Option Call) (new : Name) → start_at (view_of before me) k ≡ start
    → IsIn new (numbers_made k (got_of (moment_at n before me) k start)) → (new.0 == 0) ≡ false → IsFresh n before me new
got_fresh n before me k (Some (Enter comm kind root op count ints)) new at there real =
    gathered_fresh n before me k (Enter comm kind root op count ints) (inputs_of n (view_of before) me (view_of before me) k (Enter comm kind root op count ints)) new at refl there real
got_fresh n before me k (Some (Post comm Any tag room)) new at there real = absurd (not_in_message k before (partner_of (pairs_of before) (me, k)) new there)
got_fresh n before me k (Some (Post comm (From source) tag room)) new at there real = absurd (not_in_message k before (partner_of (pairs_of before) (me, k)) new there)
got_fresh n before me k other new at there real = absurd there

in_parts : (new : Name) (xs ys : List Name) → IsIn new (xs ++ ys) → IsIn new xs ⊎ IsIn new ys
in_parts new [] ys there = inr there
in_parts new (x ∷ xs) ys there =
    elim there [
      | inl e ↦ inl (inl e)
      | inr later ↦ elim (in_parts new xs ys later) [ inl front ↦ inl (inr front) | inr back ↦ inr back ]
    ]

items_fresh : (n : ℕ) (before : List Event) (me : ℕ) (starts indices : List ℕ) (new : Name)
    → IsIn new (numbers_in_items starts (items_at (moment_at n before me) starts indices)) → (new.0 == 0) ≡ false → IsFresh n before me new
items_fresh n before me starts [] new there real = absurd there
items_fresh n before me starts (i ∷ indices) new there real =
    let own : View = view_of before me in
    let k : ℕ = slice_index starts i in
    elim (in_parts new (numbers_made k (got_of (moment_of n before me own) k (start_at own k))) (numbers_in_items starts (items_at (moment_of n before me own) starts indices)) there) [
      | inl here ↦ got_fresh n before me k (start_at own k) new refl here real
      | inr later ↦ items_fresh n before me starts indices new later real
    ]

held_none : (call : Call) (test : Bool) → numbers_in_reply call (held_reply test) ≡ []
held_none call true = refl
held_none call false = refl

peeked_in-none : (call : Call) (send : Name) (found : Option Call) → numbers_in_reply call (peeked_in send found) ≡ []
peeked_in-none call send (Some (Send comm dest tag ints sync)) = refl
peeked_in-none call send other = refl

peeked_none : (call : Call) (before : List Event) (found : Option Name) → numbers_in_reply call (peeked_at before found) ≡ []
peeked_none call before None = refl
peeked_none call before (Some send) = peeked_in-none call send (named before send)

peek_none : (call : Call) (before : List Event) (wait : Bool) (found : Option ℕ) → numbers_in_reply call (peek_reply before wait found) ≡ []
peek_none call before wait (Some at) = peeked_none call before (name_at before at)
peek_none call before true None = refl
peek_none call before false None = refl

taken_fresh : (n : ℕ) (before : List Event) (me : ℕ) (starts indices : List ℕ) (mode : TakeMode) (long : Option ℕ) (new : Name)
    → IsIn new (numbers_in_reply (Take starts mode) (taken_reply me long (items_at (moment_at n before me) starts indices)))
    → (new.0 == 0) ≡ false → IsFresh n before me new
taken_fresh n before me starts indices mode (Some k) new there real = absurd there
taken_fresh n before me starts indices mode None new there real = items_fresh n before me starts indices new there real

take_fresh : (condition : Bool) (n : ℕ) (before : List Event) (me : ℕ) (starts : List ℕ) (mode : TakeMode) (new : Name)
    → IsIn new (numbers_in_reply (Take starts mode)
    (if condition
    then taken_reply me (first_long (view_of before me) starts (items_of (moment_at n before me) starts mode)) (items_of (moment_at n before me) starts mode)
    else held_reply (is_test mode)))
    → (new.0 == 0) ≡ false → IsFresh n before me new
take_fresh true n before me starts mode new there real =
    let own : View = view_of before me in
    taken_fresh n before me starts (chosen_places mode (flags_of (moment_of n before me own) starts)) mode (first_long own starts (items_of (moment_of n before me own) starts mode)) new there real
take_fresh false n before me starts mode new there real =
    let F : List Name → Type 0 = λ l. IsIn new l in
    absurd (subst F (held_none (Take starts mode) (is_test mode)) there)

answer_fresh : (n : ℕ) (before : List Event) (me : ℕ) (call : Call) (new : Name)
    → IsIn new (numbers_in_reply call (chosen_answer n before me (view_of before me) call)) → (new.0 == 0) ≡ false → IsFresh n before me new
answer_fresh n before me (Take starts mode) new there real =
    take_fresh (mode_holds mode (flags_of (moment_at n before me) starts)) n before me starts mode new there real
answer_fresh n before me (Peek comm source tag wait) new there real =
    let F : List Name → Type 0 = λ l. IsIn new l in
    absurd (subst F (peek_none (Peek comm source tag wait) before wait (choice before me (Peek comm source tag wait))) there)
answer_fresh n before me (Send comm dest tag ints sync) new there real = absurd there
answer_fresh n before me (Post comm source tag room) new there real = absurd there
answer_fresh n before me (Enter comm kind root op count ints) new there real = absurd there
answer_fresh n before me (Abort code) new there real = absurd there
answer_fresh n before me (Trap fault) new there real = absurd there
answer_fresh n before me End new there real = absurd there

reply_by : (halt : Option Halt) (n : ℕ) (before : List Event) (me : ℕ) (call : Call) (new : Name)
    → IsIn new (numbers_in_reply call (halt_or halt (chosen_answer n before me (view_of before me) call))) → (new.0 == 0) ≡ false
    → IsFresh n before me new
reply_by (Some halt) n before me call new there real = absurd there
reply_by None n before me call new there real = answer_fresh n before me call new there real

pub reply_fresh : (n : ℕ) (before : List Event) (me : ℕ) (call : Call) (new : Name)
    → IsIn new (numbers_in_reply call (chosen_reply n before me call)) → (new.0 == 0) ≡ false → IsFresh n before me new
reply_fresh n before me call new there real = reply_by (due n before me (view_of before me) call) n before me call new there real

pub made_along-append : (n : ℕ) (before xs ys : List Event) → made_along n before (xs ++ ys) ≡ made_along n before xs ++ made_along n (before ++ xs) ys
made_along-append n before [] ys = rw append-nil
made_along-append n before (x ∷ xs) ys = rw (made_along-append n (before ++ x ∷ []) xs ys, append_assoc, append_assoc)

pub communicators_of-push : (n : ℕ) (before : List Event) (event : Event) → communicators_of n (before ++ event ∷ []) ≡ communicators_of n before ++ made_at n before event
communicators_of-push n before event = made_along-append n [] before (event ∷ []) ∙ rw append-nil

-- a communicator whose members have all entered is listed
abbrev pub AllMade : ℕ → List Event → Type 0
AllMade n before =
    (me k : ℕ) (enter : Call) (inputs : List (List ℤ)) → start_at (view_of before me) k ≡ Some enter → makes enter ≡ true → is_uncoloured enter ≡ false
    → inputs_of n (view_of before) me (view_of before me) k enter ≡ Ok inputs
    → IsListed (communicators_of n before) (origin_of (view_of before me) k enter)

fresh_origin : (n : ℕ) (before : List Event) (me : ℕ) (new : Name) → AllMade n before → IsFresh n before me new
    → HasOrigin (communicators_of n before) (view_of before me) new.0 new.1
fresh_origin n before me new all f =
    record { enter = f.enter; at = f.at; listed = all me new.1 f.enter f.inputs f.at f.makes_is f.coloured f.gathered; number = f.number }

-- after the machine's event they are numbered as before
pub numbers_more : (n : ℕ) (before : List Event) (event : Event) → IsChosenEvent n before event → AllMade n before
    → AllNumbered (communicators_of n before) (view_of before)
    → AllNumbered (communicators_of n (before ++ event ∷ [])) (view_of (before ++ event ∷ []))
numbers_more n before event chosen made all r c k there real =
    let old : List Origin = communicators_of n before in
    let more : List Origin = made_at n before event in
    let own : View = view_of before r in
    let tail : View = view_of (event ∷ []) r in
    let split : view_of (before ++ event ∷ []) r ≡ own ++ tail = view_of-append before (event ∷ []) r in
    let numbers : IsIn (c, k) (numbers_in_view own ++ numbers_in_view tail) = rw (split, numbers_of-append own tail) at there in
    let has : HasOrigin old own c k = elim (in_parts (c, k) (numbers_in_view own) (numbers_in_view tail) numbers) [
      | inl was ↦ all r c k was real
      | inr now ↦ elim (test_cases (event.rank == r)) [
        | inl t ↦
            let mine : IsIn (c, k) (numbers_in_reply event.call event.reply) = rw (t, append-nil) at now in
            let reply : event.reply ≡ chosen_reply n before event.rank event.call = ap (λ (e : Event). e.reply) chosen in
            let F : Reply → Type 0 = λ x. IsIn (c, k) (numbers_in_reply event.call x) in
            let f = reply_fresh n before event.rank event.call (c, k) (subst F reply mine) real in
            let G : ℕ → Type 0 = λ x. HasOrigin old (view_of before x) c k in
            subst G (eqb-true event.rank r t) (fresh_origin n before event.rank (c, k) made f)
        | inr t ↦ absurd (rw t at now)
      ]
    ] in
    let later : HasOrigin (old ++ more) (own ++ tail) c k = has_more old more own tail c k has in
    rw (communicators_of-push n before event, split) later

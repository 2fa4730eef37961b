-- The views that a lawful program's ranks come to are in order.
use Rattle.std.proofs.Common.{◌&&◌, ◌++◌, ◌<◌, ◌==◌, ◌∙◌, ◌∷◌, ◌≡◌, ◌≤◌, ◌⊎◌, Bool, List, None, Option, Some, [], append-nil, false, inl, inr, length, refl, slice_get, slice_index, subst, sym, true, ℕ, ℤ}
use Rattle.std.proofs.lemmas.Bool.{and_parts, eqb-true}
use Rattle.std.specs.List.{list_all}
use Rattle.mpi_call.specs.declared.call.Call.{Call}
use Rattle.mpi_call.specs.declared.call.Call.TheVariants.{Enter, Post, Send, Take}
use Rattle.mpi_call.specs.declared.call.Source.TheVariants.{Any, From, Null}
use Rattle.mpi_call.specs.declared.limits.TheConstants.{MOST_INTS}
use Rattle.mpi_call.specs.declared.reply.Got.{Got}
use Rattle.mpi_call.specs.declared.reply.Got.TheVariants.{Made}
use Rattle.mpi_call.specs.declared.reply.Item.{Item}
use Rattle.mpi_call.specs.declared.reply.Reply.{Reply}
use Rattle.mpi_call.specs.declared.reply.Reply.TheVariants.{Done, NotYet, Peeked, Stopped, Took}
use Rattle.mpi_call.specs.Calls.{makes}
use Rattle.mpi_call.specs.Collectives.{IsEnterOf, is_distinct, is_member, is_uncoloured}
use Rattle.run_model.specs.Communicators.{Entered, known_first, known_in, learned, made_in_got, made_in_items, or_members}
use Rattle.run_model.specs.Forms.{AreMembers, IsEnteredBy, IsInOrder}
use Rattle.run_model.specs.Lists.{are_below, world}
use Rattle.run_model.specs.Program.{AsksInBounds, EntersInForm, IsInForm, IsRankOf, IsNextSeen, IsViewOf}
use Rattle.run_model.specs.Shape.{can_take, got_fits, gots_fit, has_count, has_shape}
use Rattle.run_model.specs.Views.{Next, View, is_start, start_at, starts_of}
use Rattle.run_model.proofs.MemberLists.{AreMembers-world}
use Rattle.run_model.proofs.Along.{Along-keeps, Along-snoc}
use Rattle.run_model.proofs.Enters.{NewEnter, enter_back, known_after-append, known_in-kept, not_world}
use Rattle.run_model.proofs.Prefixes.{prefix_append}
use Rattle.run_model.proofs.StartLemmas.{slice_get-last, slice_get-push, starts_of-append}
use Rattle.run_model.proofs.Views.{option_cases, test_cases}

-- a start after one more call is one of before, or that call
pub start_back : (view : View) (call : Call) (reply : Reply) (k : ℕ) (start : Call) → start_at (view ++ (call, reply) ∷ []) k ≡ Some start → (start_at view k ≡ Some start) ⊎ (call ≡ start)
start_back view call reply k start h =
    let at : slice_get (starts_of view ++ starts_of ((call, reply) ∷ [])) k ≡ Some start = rw starts_of-append at h in
    elim (test_cases (is_start (call, reply))) [
      | inl t ↦ (
          let pushed : slice_get (starts_of view ++ call ∷ []) k ≡ Some start = rw t at at in
          elim (slice_get-push (starts_of view) call k start pushed) [
            | inr was ↦ inl was
            | inl e ↦ (
                let here : slice_get (starts_of view ++ call ∷ []) (length (starts_of view)) ≡ Some start = rw e at pushed in
                let some : Some call ≡ Some start = sym (slice_get-last (starts_of view) call) ∙ here in
                inr (cc))
          ])
      | inr t ↦ inl (rw (t, append-nil) at at)
    ]

-- a new communicator that fits its start has members for the rank
made_fits : (n : ℕ) (own : View) (me : ℕ) (start : Option Call) (comm : ℕ) (members : List ℕ) → (comm == 0) ≡ false → got_fits n me own start (Made comm members) ≡ true → AreMembers n me members
made_fits n own me None comm members real h = absurd (cc)
made_fits n own me (Some (Enter on kind root op count ints)) comm [] real h =
    let enter : Call = Enter on kind root op count ints in
    let one = and_parts (makes enter) (is_uncoloured enter && (comm == 0)) h in
    let two = and_parts (is_uncoloured enter) (comm == 0) one.1 in
    let no : true ≡ false = sym two.1 ∙ real in
    absurd (cc)
made_fits n own me (Some (Enter on kind root op count ints)) comm (m ∷ members) real h =
    let enter : Call = Enter on kind root op count ints in
    let one = and_parts (makes enter) _ h in
    let two = and_parts _ _ one.1 in
    let three = and_parts _ _ two.1 in
    let below = and_parts (are_below n (m ∷ members)) _ three.1 in
    let distinct = and_parts (is_distinct (m ∷ members)) _ below.1 in
    let member = and_parts (is_member (m ∷ members) me) _ distinct.1 in
    record { below = below.0; distinct = distinct.0; has_me = member.0 }
made_fits n own me (Some (Post on Any tag room)) comm [] real h = absurd (cc)
made_fits n own me (Some (Post on (From rank) tag room)) comm [] real h = absurd (cc)
made_fits n own me (Some (Post on Null tag room)) comm [] real h = absurd (cc)
made_fits n own me (Some (Post on Any tag room)) comm (m ∷ members) real h = absurd (cc)
made_fits n own me (Some (Post on (From rank) tag room)) comm (m ∷ members) real h = absurd (cc)
made_fits n own me (Some (Post on Null tag room)) comm (m ∷ members) real h = absurd (cc)
made_fits n own me (Some call) comm [] real h = absurd (cc)
made_fits n own me (Some call) comm (m ∷ members) real h = absurd (cc)

got_made : (n : ℕ) (own : View) (me : ℕ) (start : Option Call) (got : Got) (comm : ℕ) (rest : Option (List ℕ)) (members : List ℕ) → (comm == 0) ≡ false → got_fits n me own start got ≡ true → or_members (made_in_got comm got) rest ≡ Some members → (AreMembers n me members) ⊎ (rest ≡ Some members)
got_made n own me start (Made c ms) comm rest members real fit h =
    elim (test_cases (c == comm)) [
      | inl t ↦ (
          let some : Some ms ≡ Some members = rw t at h in
          let same : ms ≡ members = cc in
          let its : (c == 0) ≡ false = rw (eqb-true c comm t) real in
          inl (subst (AreMembers n me) same (made_fits n own me start c ms its fit)))
      | inr t ↦ inr (rw t at h)
    ]
got_made n own me start got comm rest members real fit h = inr h

items_made : (n : ℕ) (own : View) (me : ℕ) (starts : List ℕ) (items : List Item) (comm : ℕ) (members : List ℕ) → (comm == 0) ≡ false → gots_fit n me own starts items ≡ true → made_in_items comm items ≡ Some members → AreMembers n me members
items_made n own me starts [] comm members real fit h = absurd (cc)
items_made n own me starts (item ∷ items) comm members real fit h =
    let parts = and_parts (got_fits n me own (start_at own (slice_index starts item.index)) item.got) (gots_fit n me own starts items) fit in
    elim (got_made n own me (start_at own (slice_index starts item.index)) item.got comm (made_in_items comm items) members real parts.0 h) [
      | inl are ↦ are
      | inr rest ↦ items_made n own me starts items comm members real parts.1 rest
    ]

reply_made : (n me : ℕ) (own : View) (call : Call) (reply : Reply) (comm : ℕ) (members : List ℕ) → (comm == 0) ≡ false → has_shape n me own call reply ≡ true → learned comm None reply ≡ Some members → AreMembers n me members
reply_made n me own (Take starts mode) (Took items) comm members real shape h =
    let one = and_parts (has_count mode (length starts) (length items)) _ shape in
    let two = and_parts _ _ one.1 in
    let three = and_parts (list_all (λ k. can_take own k) starts) (gots_fit n me own starts items) two.1 in
    items_made n own me starts items comm members real three.1 h
reply_made n me own call (Took items) comm members real shape h = absurd (cc)
reply_made n me own call Done comm members real shape h = absurd (cc)
reply_made n me own call NotYet comm members real shape h = absurd (cc)
reply_made n me own call (Peeked source start tag count) comm members real shape h = absurd (cc)
reply_made n me own call (Stopped halt) comm members real shape h = absurd (cc)

-- no calls
pub in_order_first : (n me : ℕ) → me < n → IsInOrder n me []
in_order_first n me low =
    record {
      starts = λ k call p. absurd (cc);
      known = λ comm members p. elim (test_cases (comm == 0)) [
        | inl t ↦ (
            let e : Some (world n 0) ≡ Some members = rw t at p in
            let same : world n 0 ≡ members = cc in
            subst (AreMembers n me) same (AreMembers-world n me low))
        | inr t ↦ (let no : None ≡ Some members = rw t at p in absurd (cc))
      ];
      entered = λ comm instance one p. absurd (cc);
    }

-- an Enter stays in form while its rank goes on
form_kept : (n : ℕ) (view more : View) (me : ℕ) (call : Call) → IsInForm n me view call → IsInForm n me (view ++ more) call
form_kept n view more me (Enter comm kind root op count ints) form = (form.0, known_in-kept n view (view ++ more) comm form.0 (prefix_append view more) form.1, form.2, form.3)
form_kept n view more me call form = tt

-- the members that a rank knows of a communicator after one more call
known_more : (n me : ℕ) (view : View) (call : Call) (reply : Reply) (comm : ℕ) (members : List ℕ) → IsInOrder n me view → has_shape n me view call reply ≡ true → known_in n (view ++ (call, reply) ∷ []) comm ≡ Some members → AreMembers n me members
known_more n me view call reply comm members order shape h =
    let now : learned comm (known_in n view comm) reply ≡ Some members = rw (known_after-append comm (known_first n comm) view ((call, reply) ∷ [])) at h in
    elim (option_cases (known_in n view comm)) [
      | inl some ↦ (
          let told : Some some.0 ≡ Some members = rw some.1 at now in
          let same : some.0 ≡ members = cc in
          subst (AreMembers n me) same (order.known comm some.0 some.1))
      | inr none ↦ reply_made n me view call reply comm members (not_world n comm view none) shape (rw none at now)
    ]

-- an Enter that a rank makes now
entered_now : (n me : ℕ) (view : View) (call : Call) (reply : Reply) (comm instance : ℕ) (one : Entered) → IsInForm n me view call → NewEnter n view call reply comm instance one → IsEnteredBy n me (view ++ (call, reply) ∷ []) comm one
entered_now n me view (Enter c kind root op count ints) reply comm instance one form new =
    let call : Call = Enter c kind root op count ints in
    let on : c ≡ comm = eqb-true c comm new.on in
    let F : Call → Type 0 = λ x. IsEnterOf x form.0 me in
    let known : known_in n view comm ≡ Some form.0 = rw (← on) form.1 in
    record {
      members = form.0;
      known = new.members_are ∙ known;
      stays = known_in-kept n view (view ++ (call, reply) ∷ []) comm form.0 (prefix_append view ((call, reply) ∷ [])) known;
      form = subst F (sym new.call_is) form.2;
      on = rw new.call_is on;
      enter = rw new.call_is refl;
    }
entered_now n me view call reply comm instance one form new = (let no : false ≡ true = new.on in absurd (cc))

entered_kept : (n me : ℕ) (view more : View) (comm : ℕ) (one : Entered) → IsEnteredBy n me view comm one → IsEnteredBy n me (view ++ more) comm one
entered_kept n me view more comm one is =
    record {
      members = is.members;
      known = is.known;
      stays = known_in-kept n view (view ++ more) comm is.members (prefix_append view more) is.stays;
      form = is.form;
      on = is.on;
      enter = is.enter;
    }

-- one more call of the program, with a reply in its shape
pub in_order_more : (n me : ℕ) (view : View) (call : Call) (reply : Reply) → IsInOrder n me view → IsInForm n me view call → has_shape n me view call reply ≡ true → IsInOrder n me (view ++ (call, reply) ∷ [])
in_order_more n me view call reply order form shape =
    record {
      starts = λ k start p. elim (start_back view call reply k start p) [
        | inl was ↦ form_kept n view ((call, reply) ∷ []) me start (order.starts k start was)
        | inr new ↦ (
            let F : Call → Type 0 = λ x. IsInForm n me (view ++ (call, reply) ∷ []) x in
            subst F new (form_kept n view ((call, reply) ∷ []) me call form))
      ];
      known = λ comm members p. known_more n me view call reply comm members order shape p;
      entered = λ comm instance one p. elim (enter_back n view call reply comm instance one p) [
        | inl was ↦ entered_kept n me view ((call, reply) ∷ []) comm one (order.entered comm instance one was)
        | inr new ↦ entered_now n me view call reply comm instance one form new
      ];
    }

pub record Came (next : Next) (n me : ℕ) (view : View) : Type 0 where
  pub came : IsViewOf next n me view
  pub order : IsInOrder n me view

came_more : (next : Next) (n me : ℕ) → EntersInForm next → IsRankOf n me → (view : View) (seen : Call × Reply) → Came next n me view → IsNextSeen next n me view seen → Came next n me (view ++ seen ∷ [])
came_more next n me law rank view seen so_far is =
    record {
      came = Along-snoc (IsNextSeen next n me) [] view seen so_far.came is;
      order = in_order_more n me view seen.0 seen.1 so_far.order (law n me view seen.0 rank so_far.came is.asked) is.shaped;
    }

-- a view that a lawful program's rank can come to
pub in_order : (next : Next) (n me : ℕ) (view : View) → EntersInForm next → IsRankOf n me → IsViewOf next n me view → IsInOrder n me view
in_order next n me view law rank came =
    (Along-keeps (IsNextSeen next n me) (Came next n me) (came_more next n me law rank) [] view (record { came = tt; order = in_order_first n me rank.2 }) came).order

-- its messages are in bounds
record Short (next : Next) (n me : ℕ) (view : View) : Type 0 where
  pub came : IsViewOf next n me view
  pub sends : (k comm dest tag : ℕ) (ints : List ℤ) (sync : Bool) → start_at view k ≡ Some (Send comm dest tag ints sync) → length ints ≤ MOST_INTS

short_more : (next : Next) (n me : ℕ) → AsksInBounds next → IsRankOf n me → (view : View) (seen : Call × Reply) → Short next n me view → IsNextSeen next n me view seen → Short next n me (view ++ seen ∷ [])
short_more next n me law rank view seen so_far is =
    record {
      came = Along-snoc (IsNextSeen next n me) [] view seen so_far.came is;
      sends = λ k comm dest tag ints sync p. elim (start_back view seen.0 seen.1 k (Send comm dest tag ints sync) p) [
        | inl was ↦ so_far.sends k comm dest tag ints sync was
        | inr new ↦ (law n me view (Send comm dest tag ints sync) rank so_far.came (rw new at is.asked)).2
      ];
    }

pub short_sends : (next : Next) (n me : ℕ) (view : View) → AsksInBounds next → IsRankOf n me → IsViewOf next n me view → (k comm dest tag : ℕ) (ints : List ℤ) (sync : Bool) → start_at view k ≡ Some (Send comm dest tag ints sync) → length ints ≤ MOST_INTS
short_sends next n me view law rank came =
    (Along-keeps (IsNextSeen next n me) (Short next n me) (short_more next n me law rank) [] view (record { came = tt; sends = λ k comm dest tag ints sync p. absurd (cc) }) came).sends

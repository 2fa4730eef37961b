-- A receive with the source and the tag that a probe returned gets the message that the probe found.
use Rattle.std.proofs.Common.{◌≡◌, ◌≤◌, ◌<◌, ℕ, ℤ, List, [], ◌∷◌, ◌++◌, None, Some, Option, Bool, true, false, ◌&&◌, ◌==◌, ◌⊎◌, inl, inr, append_assoc, append-nil, refl, sym, ◌∙◌, subst, ap, length, arith}
use Rattle.std.proofs.lemmas.Bool.{and_parts, cases_order, eqb-true}
use Rattle.std.specs.Prelude.{is_some}
use Rattle.mpi_call.specs.declared.call.Call.{Call}
use Rattle.mpi_call.specs.declared.call.Call.TheVariants.{Abort, End, Enter, Peek, Post, Send, Take, Trap}
use Rattle.mpi_call.specs.declared.call.Source.{Source}
use Rattle.mpi_call.specs.declared.call.Source.TheVariants.{From}
use Rattle.mpi_call.specs.declared.call.Tag.{Tag}
use Rattle.mpi_call.specs.declared.call.Tag.TheVariants.{Is}
use Rattle.mpi_call.specs.Acceptance.{accepts}
use Rattle.run_model.specs.declared.event.Event.{Event}
use Rattle.run_model.specs.Lists.{Along}
use Rattle.run_model.specs.Pairs.{AreMatched, MeetInTurn, IsMatched, Name, PostAccepts, mated, name_at, named, pairs_of, partner_of, post_accepts, same_name}
use Rattle.run_model.specs.ProbeLaws.{AsksForProbed, ReceiveGetsProbed}
use Rattle.run_model.specs.Run.{IsEvent}
use Rattle.run_model.specs.Views.{Next, starts_of, view_of}
use Rattle.run_model.proofs.Along.{Along-back}
use Rattle.run_model.proofs.Meeting.{event_matched, pairs_of-push}
use Rattle.run_model.proofs.ProbedMessages.{Keeps, Probed, Stays, event_probed, history_stays, later_taker, named_stays, partner_stays, run_matched, same_name-true, slice_get-there, takes_back, takes_kept}
use Rattle.run_model.proofs.RunLaws.{IsRun-event, IsRun-front}
use Rattle.run_model.proofs.StartLemmas.{slice_get-below}
use Rattle.run_model.proofs.Views.{option_cases, test_cases}

-- two messages that a receive from this source and with this tag accepts agree with one probe
record IsAlike (me comm : ℕ) (from : Source) (asked : Tag) (source sender : ℕ) (call : Call) : Type 0 where
  sender_is : sender ≡ source
  accepted : accepts me comm from asked source call ≡ true

alike_parts : (me comm source tag sender c dest t : ℕ) (ints : List ℤ) (sync : Bool) → accepts me comm (From source) (Is tag) sender (Send c dest t ints sync) ≡ true
    → (c ≡ comm) × (dest ≡ me) × (source ≡ sender) × (tag ≡ t)
alike_parts me comm source tag sender c dest t ints sync h =
    let one = and_parts (c == comm) ((dest == me) && ((source == sender) && (tag == t))) h in
    let two = and_parts (dest == me) ((source == sender) && (tag == t)) one.1 in
    let three = and_parts (source == sender) (tag == t) two.1 in
    (eqb-true c comm one.0, eqb-true dest me two.0, eqb-true source sender three.0, eqb-true tag t three.1)

alike : (me comm source tag asks : ℕ) (from : Source) (asked : Tag) (c dest t : ℕ) (ints : List ℤ) (sync : Bool) (sender : ℕ) (call : Call)
    → accepts me comm (From source) (Is tag) source (Send c dest t ints sync) ≡ true
    → accepts me asks from asked source (Send c dest t ints sync) ≡ true
    → accepts me comm (From source) (Is tag) sender call ≡ true → IsAlike me asks from asked source sender call
alike me comm source tag asks from asked c dest t ints sync sender (Send c' dest' t' ints' sync') this probed other =
    let one = alike_parts me comm source tag source c dest t ints sync this in
    let two = alike_parts me comm source tag sender c' dest' t' ints' sync' other in
    let F : ℕ → ℕ → ℕ → Type 0 = λ a b x. accepts me asks from asked source (Send a b x ints' sync') ≡ true in
    let G : ℕ → Type 0 = λ a. F a dest t in
    let H : ℕ → Type 0 = λ b. F c' b t in
    let K : ℕ → Type 0 = λ x. F c' dest' x in
    record {
      sender_is = sym two.2;
      accepted = subst K (sym one.3 ∙ two.3) (subst H (one.1 ∙ sym two.1) (subst G (one.0 ∙ sym two.0) probed));
    }
alike me comm source tag asks from asked c dest t ints sync sender (Post comm' from' asked' room) this probed other = absurd (cc)
alike me comm source tag asks from asked c dest t ints sync sender (Enter comm' kind root op size words) this probed other = absurd (cc)
alike me comm source tag asks from asked c dest t ints sync sender (Take starts mode) this probed other = absurd (cc)
alike me comm source tag asks from asked c dest t ints sync sender (Peek comm' from' asked' wait) this probed other = absurd (cc)
alike me comm source tag asks from asked c dest t ints sync sender (Abort code) this probed other = absurd (cc)
alike me comm source tag asks from asked c dest t ints sync sender (Trap fault) this probed other = absurd (cc)
alike me comm source tag asks from asked c dest t ints sync sender End this probed other = absurd (cc)

-- what the partner of a receive is
record IsGiver (N M : Name → Option Call) (post send : Name) (comm : ℕ) (from : Source) (asked : Tag) : Type 0 where
  call : Call
  sent : M send ≡ Some call
  accepted : accepts post.0 comm from asked send.0 call ≡ true
  own : Call
  here : N post ≡ Some own

giver_of : (N M : Name → Option Call) (post send : Name) (comm : ℕ) (from : Source) (asked : Tag) (room : ℕ) → Keeps N M
    → M post ≡ Some (Post comm from asked room) → PostAccepts N post send → IsGiver N M post send comm from asked
giver_of N M post send comm from asked room kept posted takes =
    let both : Some takes.post_call ≡ Some (Post comm from asked room) = sym (kept post takes.post_call takes.post_is) ∙ posted in
    let same : takes.post_call ≡ Post comm from asked room = cc in
    let F : Call → Type 0 = λ call. post_accepts post.0 call send.0 takes.send_call ≡ true in
    record {
      call = takes.send_call;
      sent = kept send takes.send_call takes.send_is;
      accepted = subst F same takes.accepted;
      own = takes.post_call;
      here = takes.post_is;
    }

no_post : (rank : ℕ) (call : Call) (sender comm : ℕ) (from : Source) (asked : Tag) (room : ℕ) → post_accepts rank call sender (Post comm from asked room) ≡ true → ⊥
no_post rank (Post comm' from' asked' room') sender comm from asked room h = cc
no_post rank (Send comm' to tag words wait) sender comm from asked room h = cc
no_post rank (Enter comm' kind root op size words) sender comm from asked room h = cc
no_post rank (Take starts mode) sender comm from asked room h = cc
no_post rank (Peek comm' from' asked' wait) sender comm from asked room h = cc
no_post rank (Abort code) sender comm from asked room h = cc
no_post rank (Trap fault) sender comm from asked room h = cc
no_post rank End sender comm from asked room h = cc

giver : (N M : Name → Option Call) (P : List (Name × Name)) (post send : Name) (comm : ℕ) (from : Source) (asked : Tag) (room : ℕ) → Keeps N M → AreMatched N P
    → M post ≡ Some (Post comm from asked room) → partner_of P post ≡ Some send → IsGiver N M post send comm from asked
giver N M P post send comm from asked room kept matched posted paired =
    elim (matched.pairs_accept post send paired) [
      | inl takes ↦ giver_of N M post send comm from asked room kept posted takes
      | inr takes ↦
          let both : Some takes.send_call ≡ Some (Post comm from asked room) = sym (kept post takes.send_call takes.send_is) ∙ posted in
          let same : takes.send_call ≡ Post comm from asked room = cc in
          let F : Call → Type 0 = λ call. post_accepts send.0 takes.post_call post.0 call ≡ true in
          absurd (no_post send.0 takes.post_call post.0 comm from asked room (subst F same takes.accepted))
    ]

-- a paired start is there
paired_there : (N : Name → Option Call) (P : List (Name × Name)) (a b : Name) → AreMatched N P → partner_of P a ≡ Some b → (call : Call) × (N a ≡ Some call)
paired_there N P a b matched h =
    elim (matched.pairs_accept a b h) [ inl takes ↦ (takes.post_call, takes.post_is) | inr takes ↦ (takes.send_call, takes.send_is) ]

-- the two starts of one pair
in_pair : (pair : Name × Name) (a b : Name) → partner_of (pair ∷ []) a ≡ Some b → ((pair.0 ≡ a) × (pair.1 ≡ b)) ⊎ ((pair.1 ≡ a) × (pair.0 ≡ b))
in_pair pair a b h =
    elim (test_cases (same_name pair.0 a)) [
      | inl t ↦
          let e : Some pair.1 ≡ Some b = rw t at h in
          let same : pair.1 ≡ b = cc in
          inl (same_name-true pair.0 a t, same)
      | inr t ↦ elim (test_cases (same_name pair.1 a)) [
        | inl u ↦
            let e : Some pair.0 ≡ Some b = rw (t, u) at h in
            let same : pair.0 ≡ b = cc in
            inr (same_name-true pair.1 a u, same)
        | inr u ↦ absurd (let no : None ≡ Some b = rw (t, u) at h in cc)
      ]
    ]

pair_of_two : (pair : Name × Name) (a b c d : Name) → partner_of (pair ∷ []) a ≡ Some b → partner_of (pair ∷ []) c ≡ Some d → (c ≡ a) ⊎ (c ≡ b)
pair_of_two pair a b c d h k =
    elim (in_pair pair a b h) [
      | inl one ↦ elim (in_pair pair c d k) [ inl two ↦ inl (sym two.0 ∙ one.0) | inr two ↦ inr (sym two.0 ∙ one.1) ]
      | inr one ↦ elim (in_pair pair c d k) [ inl two ↦ inr (sym two.0 ∙ one.1) | inr two ↦ inl (sym two.0 ∙ one.0) ]
    ]

partner_past : (P Q : List (Name × Name)) (a : Name) → partner_of P a ≡ None → partner_of (P ++ Q) a ≡ partner_of Q a
partner_past [] Q a h = refl
partner_past (pair ∷ P) Q a h =
    elim (test_cases (same_name pair.0 a)) [
      | inl t ↦ absurd (let no : Some pair.1 ≡ None = rw t at h in cc)
      | inr t ↦ elim (test_cases (same_name pair.1 a)) [
        | inl u ↦ absurd (let no : Some pair.0 ≡ None = rw (t, u) at h in cc)
        | inr u ↦ rw (t, u) (partner_past P Q a (rw (t, u) at h))
      ]
    ]

-- what a probe and the receive for its message fix
record Binding (before events : List Event) (me source start tag number : ℕ) : Type 0 where
  probed : Probed before me source start tag
  asks : AsksForProbed before events (me, number) (source, start) tag
  matched : IsMatched before

-- the receive has no partner but the message
abbrev IsBound : ℕ → ℕ → ℕ → ℕ → List (Name × Name) → Type 0
IsBound me source start number P = (send : Name) → partner_of P (me, number) ≡ Some send → send ≡ (source, start)

-- one more pair, between the probe and the end of the run
record IsStep (before events : List Event) (me source start tag number : ℕ) (X Y : List Event) (P : List (Name × Name)) (pair : Name × Name) : Type 0 where
  binding : Binding before events me source start tag number
  stays : Stays (named before) (named X) (pairs_of before) P
  kept : Keeps (named X) (named Y)
  more : Keeps (named Y) (named events)
  was : AreMatched (named X) P
  now : AreMatched (named Y) (P ++ pair ∷ [])
  free : partner_of P (me, number) ≡ None

-- what the receive's partner is
record IsGiven (before events Y : List Event) (me source number asks : ℕ) (from : Source) (asked : Tag) (send : Name) : Type 0 where
  call : Call
  sent : named events send ≡ Some call
  alike : IsAlike me asks from asked source send.0 call
  own : Call
  here : named Y (me, number) ≡ Some own

given : (before events : List Event) (me source start tag number : ℕ) (X Y : List Event) (P : List (Name × Name)) (pair : Name × Name)
    → (step : IsStep before events me source start tag number X Y P pair) → (send : Name) → partner_of (P ++ pair ∷ []) (me, number) ≡ Some send
    → IsGiven before events Y me source number step.binding.probed.comm step.binding.probed.from step.binding.probed.asked send
given before events me source start tag number X Y P pair step send h =
    let probed = step.binding.probed in
    let asks = step.binding.asks in
    let message : Call = Send probed.c probed.dest tag probed.ints probed.sync in
    let sent : named events (source, start) ≡ Some message = step.more (source, start) message (step.kept (source, start) message (step.stays.starts (source, start) message probed.sent)) in
    let gives = giver (named Y) (named events) (P ++ pair ∷ []) (me, number) send asks.comm (From source) (Is tag) asks.room step.more step.now asks.posted h in
    let other = giver_of (named events) (named events) (me, number) (source, start) asks.comm (From source) (Is tag) asks.room (λ a call k. k) asks.posted asks.takes in
    let both : Some other.call ≡ Some message = sym other.sent ∙ sent in
    let same : other.call ≡ message = cc in
    let F : Call → Type 0 = λ call. accepts me asks.comm (From source) (Is tag) source call ≡ true in
    record {
      call = gives.call;
      sent = gives.sent;
      alike = alike me asks.comm source tag probed.comm probed.from probed.asked probed.c probed.dest tag probed.ints probed.sync send.0 gives.call
          (subst F same other.accepted) probed.accepted gives.accepted;
      own = gives.own;
      here = gives.here;
    }

-- it is no earlier message
not_lower : (before events : List Event) (me source start tag number : ℕ) (X Y : List Event) (P : List (Name × Name)) (pair : Name × Name)
    → IsStep before events me source start tag number X Y P pair → (send : Name) → partner_of (P ++ pair ∷ []) (me, number) ≡ Some send
    → send.1 < start → ⊥
not_lower before events me source start tag number X Y P pair step send h less =
    let probed = step.binding.probed in
    let is = given before events me source start tag number X Y P pair step send h in
    let below = slice_get-below (starts_of (view_of before source)) start (Send probed.c probed.dest tag probed.ints probed.sync) probed.sent in
    let there = slice_get-there (starts_of (view_of before source)) send.1 (omega (arith, below, less)) in
    let F : ℕ → Type 0 = λ r. named events (r, send.1) ≡ Some is.call in
    let here : named events (source, send.1) ≡ Some is.call = subst F is.alike.sender_is is.sent in
    let then : named events (source, send.1) ≡ Some there.0 = step.more (source, send.1) there.0 (step.kept (source, send.1) there.0 (step.stays.starts (source, send.1) there.0 there.1)) in
    let both : Some is.call ≡ Some there.0 = sym here ∙ then in
    let same : is.call ≡ there.0 = cc in
    let G : Call → Type 0 = λ call. accepts me probed.comm probed.from probed.asked source call ≡ true in
    let some = probed.first send.1 there.0 less there.1 (subst G same is.alike.accepted) in
    elim (option_cases (partner_of (pairs_of before) (source, send.1))) [
      | inl other ↦
          let post : Name = (me, number) in
          let early : Name = (source, send.1) in
          let H : ℕ → Type 0 = λ r. partner_of (P ++ pair ∷ []) (r, send.1) ≡ Some post in
          let now : partner_of (P ++ pair ∷ []) early ≡ Some post = subst H is.alike.sender_is (step.now.one_partner (me, number) send h) in
          let kept : partner_of (P ++ pair ∷ []) early ≡ Some other.0 = partner_stays P (pair ∷ []) early other.0 (step.stays.pairs early other.0 other.1) in
          let back : partner_of (pairs_of before) post ≡ Some early = step.binding.matched.one_partner early post (other.1 ∙ (sym kept ∙ now)) in
          let no : None ≡ Some early = sym step.free ∙ step.stays.pairs post early back in
          cc
      | inr none ↦ (let no : false ≡ true = rw none at some in cc)
    ]

-- where the message had another receive before, that stands in between, or the receive was paired before
not_taken : (before events : List Event) (me source start tag number : ℕ) (X Y : List Event) (P : List (Name × Name)) (pair : Name × Name)
    → IsStep before events me source start tag number X Y P pair → (at : ℕ) → partner_of P (source, start) ≡ Some (me, at)
    → length (starts_of (view_of before me)) ≤ at → PostAccepts (named Y) (me, at) (source, start) → ⊥
not_taken before events me source start tag number X Y P pair step at paired later takes =
    let probed = step.binding.probed in
    let asks = step.binding.asks in
    let post : Name = (me, at) in
    let mine : Name = (me, number) in
    let message : Name = (source, start) in
    let send : Call = Send probed.c probed.dest tag probed.ints probed.sync in
    let back : partner_of P post ≡ Some message = step.was.one_partner message post paired in
    elim (cases_order at number) [
      | inl same ↦
          let F : ℕ → Type 0 = λ k. partner_of P (me, k) ≡ Some message in
          let no : None ≡ Some message = sym step.free ∙ subst F same back in
          cc
      | inr other ↦ elim other [
        | inl less ↦ asks.first at later less (takes_kept (named Y) (named events) post message step.more takes)
        | inr more ↦
            let found = paired_there (named X) P post message step.was back in
            let below = slice_get-below (starts_of (view_of X me)) at found.0 found.1 in
            let there = slice_get-there (starts_of (view_of X me)) number (omega (arith, below, more)) in
            let kept : Keeps (named X) (named events) = λ a call k. step.more a call (step.kept a call k) in
            let accepts = takes_back (named X) (named events) mine message there.0 send kept there.1 (step.stays.starts message send probed.sent) asks.takes in
            let some : is_some (partner_of P mine) ≡ true = step.was.earliest_receive post message back number more accepts in
            let no : false ≡ true = rw step.free at some in
            cc
      ]
    ]

-- it is no later message
not_higher : (before events : List Event) (me source start tag number : ℕ) (X Y : List Event) (P : List (Name × Name)) (pair : Name × Name)
    → IsStep before events me source start tag number X Y P pair → (send : Name) → partner_of (P ++ pair ∷ []) (me, number) ≡ Some send
    → start < send.1 → ⊥
not_higher before events me source start tag number X Y P pair step send h less =
    let probed = step.binding.probed in
    let asks = step.binding.asks in
    let mine : Name = (me, number) in
    let message : Name = (source, start) in
    let call : Call = Send probed.c probed.dest tag probed.ints probed.sync in
    let Q : List (Name × Name) = P ++ pair ∷ [] in
    let is = given before events me source start tag number X Y P pair step send h in
    let sent : named Y message ≡ Some call = step.kept message call (step.stays.starts message call probed.sent) in
    let takes : PostAccepts (named Y) mine message = takes_back (named Y) (named events) mine message is.own call step.more is.here sent asks.takes in
    let F : ℕ → Type 0 = λ r. PostAccepts (named Y) mine (r, start) in
    let G : ℕ → Type 0 = λ r. is_some (partner_of Q (r, start)) ≡ true in
    let some : is_some (partner_of Q message) ≡ true =
    subst G is.alike.sender_is (step.now.no_overtaking mine send h start less (subst F (sym is.alike.sender_is) takes)) in
    elim (option_cases (partner_of Q message)) [
      | inl post ↦
          let stays : Stays (named before) (named Y) (pairs_of before) Q = record {
            starts = λ a c k. step.kept a c (step.stays.starts a c k);
            pairs = λ a b k. partner_stays P (pair ∷ []) a b (step.stays.pairs a b k);
          } in
          let all = later_taker before (named Y) Q me source start tag post.0 probed step.binding.matched step.now stays post.1 in
          elim (option_cases (partner_of P message)) [
            | inl was ↦
                let K : ℕ → Type 0 = λ r. partner_of P message ≡ Some (r, post.0.1) in
                let L : ℕ → Type 0 = λ r. PostAccepts (named Y) (r, post.0.1) message in
                let both : Some was.0 ≡ Some post.0 = sym (partner_stays P (pair ∷ []) message was.0 was.1) ∙ post.1 in
                not_taken before events me source start tag number X Y P pair step post.0.1 (subst K all.rank (was.1 ∙ both)) all.later (subst L all.rank all.takes)
            | inr none ↦
                let one : partner_of (pair ∷ []) mine ≡ Some send = sym (partner_past P (pair ∷ []) mine step.free) ∙ h in
                let two : partner_of (pair ∷ []) message ≡ Some post.0 = sym (partner_past P (pair ∷ []) message none) ∙ post.1 in
                elim (pair_of_two pair mine send message post.0 one two) [
                  | inl same ↦
                      let H : Name → Type 0 = λ a. named events a ≡ Some call in
                      let no : Some (Post asks.comm (From source) (Is tag) asks.room) ≡ Some call = sym asks.posted ∙ subst H same (step.more message call sent) in
                      cc
                  | inr same ↦
                      let number_is : start ≡ send.1 = ap (λ (a : Name). a.1) same in
                      absurd (omega (arith, number_is, less))
                ]
          ]
      | inr none ↦ (let no : false ≡ true = rw none at some in cc)
    ]

-- the pair keeps the receive for the message
step_bound : (before events : List Event) (me source start tag number : ℕ) (X Y : List Event) (P : List (Name × Name)) (pair : Name × Name)
    → Binding before events me source start tag number → Stays (named before) (named X) (pairs_of before) P → Keeps (named X) (named Y)
    → Keeps (named Y) (named events) → AreMatched (named X) P → AreMatched (named Y) (P ++ pair ∷ []) → IsBound me source start number P
    → IsBound me source start number (P ++ pair ∷ [])
step_bound before events me source start tag number X Y P pair binding stays kept more was now bound send h =
    elim (option_cases (partner_of P (me, number))) [
      | inl some ↦
          let both : Some some.0 ≡ Some send = sym (partner_stays P (pair ∷ []) (me, number) some.0 some.1) ∙ h in
          bound send (some.1 ∙ both)
      | inr none ↦
          let step : IsStep before events me source start tag number X Y P pair =
          record { binding = binding; stays = stays; kept = kept; more = more; was = was; now = now; free = none } in
          let is = given before events me source start tag number X Y P pair step send h in
          let name : ℕ → ℕ → Name = λ a b. (a, b) in
          elim (cases_order send.1 start) [
            | inl same ↦ ap (λ a. name a send.1) is.alike.sender_is ∙ ap (λ b. name source b) same
            | inr other ↦ elim other [
              | inl less ↦ absurd (not_lower before events me source start tag number X Y P pair step send h less)
              | inr more ↦ absurd (not_higher before events me source start tag number X Y P pair step send h more)
            ]
          ]
    ]

met_first : (N : Name → Option Call) (P met : List (Name × Name)) → MeetInTurn N P met → AreMatched N P
met_first N P [] are = are
met_first N P (pair ∷ met) are = are.0

met_bound : (before events : List Event) (me source start tag number : ℕ) (X : List Event) (P met : List (Name × Name))
    → Binding before events me source start tag number → Stays (named before) (named X) (pairs_of before) P → Keeps (named X) (named events)
    → MeetInTurn (named X) P met → IsBound me source start number P → IsBound me source start number (P ++ met)
met_bound before events me source start tag number X P [] binding stays more are bound =
    let F : List (Name × Name) → Type 0 = λ l. IsBound me source start number l in
    subst F (sym (append-nil P)) bound
met_bound before events me source start tag number X P (pair ∷ met) binding stays more are bound =
    let F : List (Name × Name) → Type 0 = λ l. IsBound me source start number l in
    let longer : Stays (named before) (named X) (pairs_of before) (P ++ pair ∷ []) =
    record { starts = stays.starts; pairs = λ a b k. partner_stays P (pair ∷ []) a b (stays.pairs a b k) } in
    let here = step_bound before events me source start tag number X X P pair binding stays (λ a call k. k) more are.0 (met_first (named X) (P ++ pair ∷ []) met are.3) bound in
    subst F (append_assoc P (pair ∷ []) met) (met_bound before events me source start tag number X (P ++ pair ∷ []) met binding longer more are.3 here)

-- an event makes one pair with its mate, or none
mated_cases : (before : List Event) (event : Event) → (mated before event ≡ []) ⊎ ((pair : Name × Name) × (mated before event ≡ pair ∷ []))
mated_cases before event =
    elim (option_cases event.mate) [
      | inl at ↦ elim (option_cases (name_at before at.0)) [
        | inl name ↦ inr ((name.0, (event.rank, length (starts_of (view_of before event.rank)))), rw (at.1, name.1))
        | inr none ↦ inl (rw (at.1, none))
      ]
      | inr none ↦ inl (rw none)
    ]

event_bound : (next : Next) (n : ℕ) (before events : List Event) (me source start tag number : ℕ) (front : List Event) (event : Event)
    → Binding before events me source start tag number → Stays (named before) (named front) (pairs_of before) (pairs_of front)
    → Keeps (named (front ++ event ∷ [])) (named events) → IsMatched front → IsEvent next n front event
    → IsBound me source start number (pairs_of front) → IsBound me source start number (pairs_of (front ++ event ∷ []))
event_bound next n before events me source start tag number front event binding stays more was step bound =
    let P : List (Name × Name) = pairs_of front in
    let X : List Event = front ++ event ∷ [] in
    let M : List (Name × Name) = mated front event in
    let F : List (Name × Name) → Type 0 = λ l. IsBound me source start number l in
    let G : List (Name × Name) → Type 0 = λ l. AreMatched (named X) (P ++ l) in
    let H : List (Name × Name) → Type 0 = λ l. IsBound me source start number (P ++ l) in
    let now : AreMatched (named X) (P ++ M) = met_first (named X) (P ++ M) event.met step.meets in
    let kept : Keeps (named front) (named X) = λ a call k. named_stays front (event ∷ []) a call k in
    let first : IsBound me source start number (P ++ M) =
    elim (mated_cases front event) [
      | inl none ↦ subst H (sym none) (subst F (sym (append-nil P)) bound)
      | inr one ↦ subst H (sym one.1) (step_bound before events me source start tag number front X P one.0 binding stays kept more was (subst G one.1 now) bound)
    ] in
    let longer : Stays (named before) (named X) (pairs_of before) (P ++ M) =
    record { starts = λ a call k. kept a call (stays.starts a call k); pairs = λ a b k. partner_stays P M a b (stays.pairs a b k) } in
    let all = met_bound before events me source start tag number X (P ++ M) event.met binding longer more step.meets first in
    subst F (append_assoc P M event.met ∙ sym (pairs_of-push front event)) all

along_bound : (next : Next) (n : ℕ) (before events : List Event) (me source start tag number : ℕ) (front rest : List Event)
    → Binding before events me source start tag number → Stays (named before) (named front) (pairs_of before) (pairs_of front)
    → IsMatched front → front ++ rest ≡ events → Along (IsEvent next n) front rest
    → IsBound me source start number (pairs_of front) → IsBound me source start number (pairs_of events)
along_bound next n before events me source start tag number front [] binding stays was whole steps bound =
    let F : List Event → Type 0 = λ l. IsBound me source start number (pairs_of l) in
    subst F (sym (append-nil front) ∙ whole) bound
along_bound next n before events me source start tag number front (event ∷ rest) binding stays was whole steps bound =
    let X : List Event = front ++ event ∷ [] in
    let longer : X ++ rest ≡ events = append_assoc front (event ∷ []) rest ∙ whole in
    let F : List Event → Type 0 = λ l. Keeps (named X) (named l) in
    let more : Keeps (named X) (named events) = subst F longer (λ a call k. named_stays X rest a call k) in
    let here = history_stays front (event ∷ []) in
    let still : Stays (named before) (named X) (pairs_of before) (pairs_of X) =
    record { starts = λ a call k. here.starts a call (stays.starts a call k); pairs = λ a b k. here.pairs a b (stays.pairs a b k) } in
    along_bound next n before events me source start tag number X rest binding still (event_matched next n front event steps.0) longer steps.1
    (event_bound next n before events me source start tag number front event binding stays more was steps.0 bound)

pub receive_gets_probed : (next : Next) (n : ℕ) → ReceiveGetsProbed next n
receive_gets_probed next n before after probe source start tag count number send run is asks paired =
    let events : List Event = before ++ probe ∷ after in
    let me : ℕ = probe.rank in
    let probed = event_probed next n before probe source start tag count (IsRun-event next n before after probe run) is in
    let matched = run_matched next n before (IsRun-front next n before (probe ∷ after) run) in
    let steps = Along-back (IsEvent next n) [] before (probe ∷ after) run.along in
    let stays : Stays (named before) (named before) (pairs_of before) (pairs_of before) = record { starts = λ a call k. k; pairs = λ a b k. k } in
    let none : IsBound me source start number (pairs_of before) =
    λ other h.
    let there = paired_there (named before) (pairs_of before) (me, number) other matched h in
    let below = slice_get-below (starts_of (view_of before me)) number there.0 there.1 in
    let later = asks.later in
    absurd (omega (arith, below, later)) in
    along_bound next n before events me source start tag number before (probe ∷ after) (record { probed = probed; asks = asks; matched = matched }) stays matched refl steps none send paired

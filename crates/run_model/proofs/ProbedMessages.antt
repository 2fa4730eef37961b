-- A message that a probe found is there until the rank of the probe posts a receive for it.
use Rattle.std.proofs.Common.{◌≡◌, ◌≤◌, ◌<◌, ℕ, ℤ, zero, suc, List, [], ◌∷◌, ◌++◌, None, Some, Option, Bool, true, false, not, ◌&&◌, ◌==◌, inl, inr, refl, sym, ◌∙◌, subst, ap, length, slice_get, arith}
use Rattle.std.proofs.lemmas.Bool.{and_parts, cases_order, eqb-true}
use Rattle.std.specs.Prelude.{IsTrue, is_some}
use Rattle.mpi_call.specs.declared.call.Call.{Call}
use Rattle.mpi_call.specs.declared.call.Call.TheVariants.{Abort, End, Enter, Peek, Post, Send, Take, Trap}
use Rattle.mpi_call.specs.declared.call.Halt.{Halt}
use Rattle.mpi_call.specs.declared.call.Source.{Source}
use Rattle.mpi_call.specs.declared.call.Tag.{Tag}
use Rattle.mpi_call.specs.declared.call.TakeMode.{TakeMode}
use Rattle.mpi_call.specs.declared.reply.Item.{Item}
use Rattle.mpi_call.specs.declared.reply.Reply.{Reply}
use Rattle.mpi_call.specs.declared.reply.Reply.TheVariants.{Peeked}
use Rattle.mpi_call.specs.Acceptance.{accepts, source_agrees, tag_agrees}
use Rattle.run_model.specs.declared.event.Event.{Event}
use Rattle.run_model.specs.Allowed.{IsAllowed, IsAllowedBy, IsAnswer, IsDeadlock, IsHeld, IsLate, IsPassed, IsPeekAnswer, IsTakeAnswer, first_long, flags_of, has_open, mode_holds, probe_of, taken_reply}
use Rattle.run_model.specs.Due.{due}
use Rattle.run_model.specs.Pairs.{AreMatched, IsMatched, Name, PostAccepts, named, pairs_from, pairs_of, partner_of, post_accepts, same_name}
use Rattle.run_model.specs.ProbeLaws.{ProbeStays}
use Rattle.run_model.specs.Run.{IsEvent, IsRun}
use Rattle.run_model.specs.Shape.{is_test}
use Rattle.run_model.specs.Views.{Next, View, moment_of, starts_of, view_of}
use Rattle.run_model.proofs.Along.{Along-keeps}
use Rattle.run_model.proofs.Matched.{none_matched}
use Rattle.run_model.proofs.Meeting.{event_matched, pairs_from-append}
use Rattle.run_model.proofs.RunLaws.{IsRun-event, IsRun-front}
use Rattle.run_model.proofs.StartLemmas.{slice_get-append, starts_of-append}
use Rattle.run_model.proofs.Views.{option_cases, test_cases, view_of-append}

-- what a probe that found a message saw
pub record Probed (before : List Event) (me source start tag : ℕ) : Type 0 where
  pub comm : ℕ
  pub from : Source
  pub asked : Tag
  pub c : ℕ
  pub dest : ℕ
  pub ints : List ℤ
  pub sync : Bool
  pub sent : named before (source, start) ≡ Some (Send c dest tag ints sync)
  pub accepted : accepts me comm from asked source (Send c dest tag ints sync) ≡ true
  pub unpaired : partner_of (pairs_of before) (source, start) ≡ None
  pub first : (other : ℕ) (call : Call) → other < start → named before (source, other) ≡ Some call → accepts me comm from asked source call ≡ true
      → IsTrue (is_some (partner_of (pairs_of before) (source, other)))
  pub passed : (number : ℕ) → PostAccepts (named before) (me, number) (source, start) → is_some (partner_of (pairs_of before) (me, number)) ≡ true

held_never : (test : Bool) (S : Type 0) (source start tag count : ℕ) → IsHeld test S (Peeked source start tag count) → ⊥
held_never true S source start tag count is = cc
held_never false S source start tag count is = (let no = is.1 in cc)

taken_never : (me : ℕ) (long : Option ℕ) (items : List Item) (source start tag count : ℕ) → Peeked source start tag count ≡ taken_reply me long items → ⊥
taken_never me None items source start tag count is = cc
taken_never me (Some k) items source start tag count is = cc

take_never : (condition : Bool) (S : Type 0) (n : ℕ) (before : List Event) (own : View) (me : ℕ) (starts : List ℕ) (mode : TakeMode) (source start tag count : ℕ)
    → IsTakeAnswer condition S (moment_of n before me own) starts mode (Peeked source start tag count) → ⊥
take_never true S n before own me starts mode source start tag count is =
    taken_never me (first_long own starts is.items) is.items source start tag count is.reply_is
take_never false S n before own me starts mode source start tag count is = held_never (is_test mode) S source start tag count is

late_never : (n : ℕ) (before : List Event) (own : View) (me : ℕ) (call : Call) (source start tag count : ℕ)
    → IsLate (moment_of n before me own) call (Peeked source start tag count) → ⊥
late_never n before own me (Take starts mode) source start tag count (inl is) = (let no = is.2 in cc)
late_never n before own me (Take starts mode) source start tag count (inr is) =
    taken_never me (first_long own starts is.items) is.items source start tag count is.reply_is
late_never n before own me (Peek comm from asked wait) source start tag count is = (let no = is.1 in cc)
late_never n before own me (Send comm dest t ints sync) source start tag count is = is
late_never n before own me (Post comm from asked room) source start tag count is = is
late_never n before own me (Enter comm kind root op size ints) source start tag count is = is
late_never n before own me (Abort code) source start tag count is = is
late_never n before own me (Trap fault) source start tag count is = is
late_never n before own me End source start tag count is = is

peek_probed : (found : Bool) (S : Type 0) (before : List Event) (me comm : ℕ) (from : Source) (asked : Tag) (wait : Bool) (source start tag count : ℕ)
    → IsPeekAnswer found S before (probe_of me comm from asked) wait (Peeked source start tag count)
    → IsPassed before me (Peeked source start tag count) → Probed before me source start tag
peek_probed true S before me comm from asked wait source start tag count is passed =
    let same : Peeked is.send.0 is.send.1 is.t (length is.ints) ≡ Peeked source start tag count = sym is.reply_is in
    let one : is.send.0 ≡ source = cc in
    let two : is.send.1 ≡ start = cc in
    let three : is.t ≡ tag = cc in
    let F : ℕ → Type 0 = λ a. Probed before me a is.send.1 is.t in
    let G : ℕ → Type 0 = λ b. Probed before me source b is.t in
    let H : ℕ → Type 0 = λ x. Probed before me source start x in
    let K : ℕ → Type 0 = λ a. IsPassed before me (Peeked a start tag count) in
    let L : ℕ → Type 0 = λ b. IsPassed before me (Peeked is.send.0 b tag count) in
    subst H three (subst G two (subst F one (record {
      comm = comm;
      from = from;
      asked = asked;
      c = is.c;
      dest = is.dest;
      ints = is.ints;
      sync = is.sync;
      sent = is.sent;
      accepted = is.accepted;
      unpaired = is.unpaired;
      first = is.first;
      passed = subst L (sym two) (subst K (sym one) passed);
    })))
peek_probed false S before me comm from asked wait source start tag count is passed = absurd (held_never (not wait) S source start tag count is)

answer_probed : (S : Type 0) (n : ℕ) (before : List Event) (own : View) (me : ℕ) (call : Call) (source start tag count : ℕ)
    → IsAnswer S (moment_of n before me own) call (Peeked source start tag count)
    → IsPassed before me (Peeked source start tag count) → Probed before me source start tag
answer_probed S n before own me (Take starts mode) source start tag count is passed =
    absurd (take_never (mode_holds mode (flags_of (moment_of n before me own) starts)) S n before own me starts mode source start tag count is)
answer_probed S n before own me (Peek comm from asked wait) source start tag count is passed =
    peek_probed (has_open n before me comm from asked) S before me comm from asked wait source start tag count is passed
answer_probed S n before own me (Send comm dest t ints sync) source start tag count is passed = absurd (cc)
answer_probed S n before own me (Post comm from asked room) source start tag count is passed = absurd (cc)
answer_probed S n before own me (Enter comm kind root op size ints) source start tag count is passed = absurd (cc)
answer_probed S n before own me (Abort code) source start tag count is passed = absurd (cc)
answer_probed S n before own me (Trap fault) source start tag count is passed = absurd (cc)
answer_probed S n before own me End source start tag count is passed = absurd (cc)

by_probed : (halt : Option Halt) (S : Type 0) (n : ℕ) (before : List Event) (own : View) (me : ℕ) (call : Call) (source start tag count : ℕ)
    → IsAllowedBy halt S (moment_of n before me own) call (Peeked source start tag count)
    → IsPassed before me (Peeked source start tag count) → Probed before me source start tag
by_probed None S n before own me call source start tag count is passed = answer_probed S n before own me call source start tag count is passed
by_probed (Some halt) S n before own me call source start tag count is passed = absurd (cc)

allowed_probed : (next : Next) (n : ℕ) (before : List Event) (me : ℕ) (call : Call) (source start tag count : ℕ)
    → IsAllowed next n before me call (Peeked source start tag count) → Probed before me source start tag
allowed_probed next n before me call source start tag count (inl is) =
    by_probed (due n before me (view_of before me) call) (IsDeadlock next n before) n before (view_of before me) me call source start tag count is.0 is.1
allowed_probed next n before me call source start tag count (inr is) =
    absurd (late_never n before (view_of before me) me call source start tag count is.1)

pub event_probed : (next : Next) (n : ℕ) (before : List Event) (probe : Event) (source start tag count : ℕ) → IsEvent next n before probe
    → probe.reply ≡ Peeked source start tag count → Probed before probe.rank source start tag
event_probed next n before probe source start tag count step is =
    let F : Reply → Type 0 = λ reply. IsAllowed next n before probe.rank probe.call reply in
    allowed_probed next n before probe.rank probe.call source start tag count (subst F is step.reply)

-- pairs and starts stay
pub same_name-true : (a b : Name) → same_name a b ≡ true → a ≡ b
same_name-true a b h =
    let parts = and_parts (a.0 == b.0) (a.1 == b.1) h in
    let p : a.0 ≡ b.0 = eqb-true a.0 b.0 parts.0 in
    let q : a.1 ≡ b.1 = eqb-true a.1 b.1 parts.1 in
    let pair : (x y : ℕ) → Name = λ x y. (x, y) in
    ap (λ x. pair x a.1) p ∙ ap (λ y. pair b.0 y) q

pub partner_stays : (P Q : List (Name × Name)) (a b : Name) → partner_of P a ≡ Some b → partner_of (P ++ Q) a ≡ Some b
partner_stays [] Q a b h = absurd (cc)
partner_stays (pair ∷ P) Q a b h =
    elim (test_cases (same_name pair.0 a)) [
      | inl t ↦ rw t (rw t at h)
      | inr t ↦ elim (test_cases (same_name pair.1 a)) [
        | inl u ↦ rw (t, u) (rw (t, u) at h)
        | inr u ↦ rw (t, u) (partner_stays P Q a b (rw (t, u) at h))
      ]
    ]

pub named_stays : (xs ys : List Event) (a : Name) (call : Call) → named xs a ≡ Some call → named (xs ++ ys) a ≡ Some call
named_stays xs ys a call h =
    rw (view_of-append xs ys a.0, starts_of-append (view_of xs a.0) (view_of ys a.0)) (slice_get-append (starts_of (view_of xs a.0)) (starts_of (view_of ys a.0)) a.1 call h)

pub slice_get-there : {A : Type 0} (xs : List A) (k : ℕ) → k < length xs → (x : A) × (slice_get xs k ≡ Some x)
slice_get-there [] k h = absurd (omega arith)
slice_get-there (y ∷ xs) zero h = (y, refl)
slice_get-there (y ∷ xs) (suc k) h = slice_get-there xs k (omega arith)

-- what was there and paired is so still
pub record Stays (N M : Name → Option Call) (P Q : List (Name × Name)) : Type 0 where
  pub starts : (a : Name) (call : Call) → N a ≡ Some call → M a ≡ Some call
  pub pairs : (a b : Name) → partner_of P a ≡ Some b → partner_of Q a ≡ Some b

-- the starts of the first are starts of the second
abbrev pub Keeps : (Name → Option Call) → (Name → Option Call) → Type 0
Keeps N M = (a : Name) (call : Call) → N a ≡ Some call → M a ≡ Some call

pub takes_kept : (N M : Name → Option Call) (post send : Name) → Keeps N M → PostAccepts N post send → PostAccepts M post send
takes_kept N M post send kept takes =
    record {
      post_call = takes.post_call;
      send_call = takes.send_call;
      post_is = kept post takes.post_call takes.post_is;
      send_is = kept send takes.send_call takes.send_is;
      accepted = takes.accepted;
    }

pub takes_back : (N M : Name → Option Call) (post send : Name) (p s : Call) → Keeps N M → N post ≡ Some p → N send ≡ Some s → PostAccepts M post send → PostAccepts N post send
takes_back N M post send p s kept posted sent takes =
    let one : Some p ≡ Some takes.post_call = sym (kept post p posted) ∙ takes.post_is in
    let two : Some s ≡ Some takes.send_call = sym (kept send s sent) ∙ takes.send_is in
    record {
      post_call = takes.post_call;
      send_call = takes.send_call;
      post_is = posted ∙ one;
      send_is = sent ∙ two;
      accepted = takes.accepted;
    }

-- who accepts a message is the rank that it is sent to
post_dest : (rank : ℕ) (call : Call) (sender c dest t : ℕ) (ints : List ℤ) (sync : Bool) → post_accepts rank call sender (Send c dest t ints sync) ≡ true
    → dest ≡ rank
post_dest rank (Post comm from asked room) sender c dest t ints sync h =
    let one = and_parts (c == comm) ((dest == rank) && (source_agrees from sender && tag_agrees asked t)) h in
    eqb-true dest rank (and_parts (dest == rank) (source_agrees from sender && tag_agrees asked t) one.1).0
post_dest rank (Send comm to tag words wait) sender c dest t ints sync h = absurd (cc)
post_dest rank (Enter comm kind root op size words) sender c dest t ints sync h = absurd (cc)
post_dest rank (Take starts mode) sender c dest t ints sync h = absurd (cc)
post_dest rank (Peek comm from asked wait) sender c dest t ints sync h = absurd (cc)
post_dest rank (Abort code) sender c dest t ints sync h = absurd (cc)
post_dest rank (Trap fault) sender c dest t ints sync h = absurd (cc)
post_dest rank End sender c dest t ints sync h = absurd (cc)

-- the partner of a message accepts it
record IsTaker (N : Name → Option Call) (post send : Name) (dest : ℕ) : Type 0 where
  takes : PostAccepts N post send
  rank : dest ≡ post.0

taker : (N : Name → Option Call) (P : List (Name × Name)) (post send : Name) (c dest t : ℕ) (ints : List ℤ) (sync : Bool) → AreMatched N P
    → N send ≡ Some (Send c dest t ints sync) → partner_of P send ≡ Some post → IsTaker N post send dest
taker N P post send c dest t ints sync matched sent paired =
    elim (matched.pairs_accept send post paired) [
      | inl takes ↦
          let both : Some takes.post_call ≡ Some (Send c dest t ints sync) = sym takes.post_is ∙ sent in
          let same : takes.post_call ≡ Send c dest t ints sync = cc in
          absurd (let no : false ≡ true = rw same at takes.accepted in cc)
      | inr takes ↦
          let both : Some takes.send_call ≡ Some (Send c dest t ints sync) = sym takes.send_is ∙ sent in
          let same : takes.send_call ≡ Send c dest t ints sync = cc in
          let F : Call → Type 0 = λ call. post_accepts post.0 takes.post_call send.0 call ≡ true in
          record { takes = takes; rank = post_dest post.0 takes.post_call send.0 c dest t ints sync (subst F same takes.accepted) }
    ]

-- the partner of a message that a probe found is a later receive of the probe's rank
pub record IsLaterTaker (before : List Event) (N : Name → Option Call) (me : ℕ) (post send : Name) : Type 0 where
  pub rank : post.0 ≡ me
  pub later : length (starts_of (view_of before me)) ≤ post.1
  pub takes : PostAccepts N post send

not_earlier : (before : List Event) (N : Name → Option Call) (P : List (Name × Name)) (me source start tag number : ℕ) → Probed before me source start tag
    → IsMatched before → AreMatched N P → Stays (named before) N (pairs_of before) P → PostAccepts N (me, number) (source, start)
    → partner_of P (source, start) ≡ Some (me, number) → number < length (starts_of (view_of before me)) → ⊥
not_earlier before N P me source start tag number probed old new stays takes paired less =
    let there = slice_get-there (starts_of (view_of before me)) number less in
    let some = probed.passed number (takes_back (named before) N (me, number) (source, start) there.0 (Send probed.c probed.dest tag probed.ints probed.sync) stays.starts there.1 probed.sent takes) in
    elim (option_cases (partner_of (pairs_of before) (me, number))) [
      | inl other ↦
          let now : partner_of P (me, number) ≡ Some (source, start) = new.one_partner (source, start) (me, number) paired in
          let same : Some other.0 ≡ Some (source, start) = sym (stays.pairs (me, number) other.0 other.1) ∙ now in
          let back : partner_of (pairs_of before) (source, start) ≡ Some (me, number) = old.one_partner (me, number) (source, start) (other.1 ∙ same) in
          let post : Name = (me, number) in
          let no : None ≡ Some post = sym probed.unpaired ∙ back in
          cc
      | inr none ↦ (let no : false ≡ true = rw none at some in cc)
    ]

pub later_taker : (before : List Event) (N : Name → Option Call) (P : List (Name × Name)) (me source start tag : ℕ) (post : Name) → Probed before me source start tag
    → IsMatched before → AreMatched N P → Stays (named before) N (pairs_of before) P → partner_of P (source, start) ≡ Some post
    → IsLaterTaker before N me post (source, start)
later_taker before N P me source start tag post probed old new stays paired =
    let sent = stays.starts (source, start) (Send probed.c probed.dest tag probed.ints probed.sync) probed.sent in
    let is = taker N P post (source, start) probed.c probed.dest tag probed.ints probed.sync new sent paired in
    let one = and_parts (probed.c == probed.comm) ((probed.dest == me) && (source_agrees probed.from source && tag_agrees probed.asked tag)) probed.accepted in
    let mine : probed.dest ≡ me = eqb-true probed.dest me (and_parts (probed.dest == me) (source_agrees probed.from source && tag_agrees probed.asked tag) one.1).0 in
    let rank : post.0 ≡ me = sym is.rank ∙ mine in
    let F : ℕ → Type 0 = λ r. PostAccepts N (r, post.1) (source, start) in
    let G : ℕ → Type 0 = λ r. partner_of P (source, start) ≡ Some (r, post.1) in
    let size : ℕ = length (starts_of (view_of before me)) in
    record {
      rank = rank;
      takes = is.takes;
      later = elim (cases_order size post.1) [
        | inl same ↦ omega (arith, same)
        | inr other ↦ elim other [
          | inl less ↦ omega (arith, less)
          | inr more ↦ absurd (not_earlier before N P me source start tag post.1 probed old new stays (subst F rank is.takes) (subst G rank paired) more)
        ]
      ];
    }

pub run_matched : (next : Next) (n : ℕ) (events : List Event) → IsRun next n events → IsMatched events
run_matched next n events run =
    Along-keeps (IsEvent next n) IsMatched (λ before event all step. event_matched next n before event step) [] events none_matched run.along

pub history_stays : (xs ys : List Event) → Stays (named xs) (named (xs ++ ys)) (pairs_of xs) (pairs_of (xs ++ ys))
history_stays xs ys =
    record {
      starts = λ a call h. named_stays xs ys a call h;
      pairs = λ a b h. rw (pairs_from-append [] xs ys) (partner_stays (pairs_of xs) (pairs_from xs ys) a b h);
    }

pub probe_stays : (next : Next) (n : ℕ) → ProbeStays next n
probe_stays next n before after probe source start tag count post run is paired =
    let events : List Event = before ++ probe ∷ after in
    let probed = event_probed next n before probe source start tag count (IsRun-event next n before after probe run) is in
    let old = run_matched next n before (IsRun-front next n before (probe ∷ after) run) in
    let stays = history_stays before (probe ∷ after) in
    let all = later_taker before (named events) (pairs_of events) probe.rank source start tag post probed old (run_matched next n events run) stays paired in
    (all.rank, all.later)

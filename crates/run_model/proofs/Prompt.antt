-- A run in which nothing is late is a run.
use Rattle.std.proofs.Common.{◌≡◌, ◌<◌, ℕ, List, [], ◌∷◌, ◌++◌, None, Some, Option, Bool, true, false, not, inl, inr, append-nil, refl, sym, ◌∙◌, subst, ap, length}
use Rattle.std.specs.Prelude.{is_some}
use Rattle.mpi_call.specs.declared.call.Call.{Call}
use Rattle.mpi_call.specs.declared.call.Call.TheVariants.{Abort, End, Enter, Peek, Post, Send, Take, Trap}
use Rattle.mpi_call.specs.declared.call.Halt.{Halt}
use Rattle.mpi_call.specs.declared.call.Source.{Source}
use Rattle.mpi_call.specs.declared.call.Tag.{Tag}
use Rattle.mpi_call.specs.declared.call.TakeMode.{TakeMode}
use Rattle.mpi_call.specs.declared.reply.Item.{Item}
use Rattle.mpi_call.specs.declared.reply.Reply.{Reply}
use Rattle.mpi_call.specs.declared.reply.Reply.TheVariants.{Done, NotYet, Peeked, Stopped, Took}
use Rattle.run_model.specs.declared.event.Event.{Event}
use Rattle.run_model.specs.Allowed.{IsAllowed, IsAllowedBy, IsAnswer, IsDeadlock, IsHeld, IsPassed, IsPeekAnswer, IsPrompt, IsStuck, IsTakeAnswer, first_long, flags_of, has_open, mode_holds, probe_of, taken_reply}
use Rattle.run_model.specs.Due.{due}
use Rattle.run_model.specs.Lists.{Along}
use Rattle.run_model.specs.Pairs.{Name, AreMatched, MeetInTurn, IsAllMatched, mated, named, pairs_of, partner_of}
use Rattle.run_model.specs.Run.{IsEvent, IsPromptEvent, IsPromptRun, IsRun}
use Rattle.run_model.specs.Shape.{is_test}
use Rattle.run_model.specs.Views.{Moment, Next, View, moment_of, view_of}
use Rattle.run_model.proofs.Matched.{none_matched}
use Rattle.run_model.proofs.Meeting.{pairs_of-push}
use Rattle.run_model.specs.Program.{IsViewOf}
use Rattle.run_model.proofs.Along.{Along-back, Along-front, Along-keeps}
use Rattle.run_model.proofs.Halts.{NamedStopped}
use Rattle.run_model.proofs.Instances.{Instances}
use Rattle.run_model.proofs.Origins.{AllBelow}
use Rattle.run_model.proofs.RunLaws.{Kept, Lawful, kept_run}
use Rattle.run_model.proofs.Views.{option_cases}

-- what is told of a deadlock is told of a rank that waits
held_more : (test : Bool) (S T : Type 0) (reply : Reply) → (S → T) → IsHeld test S reply → IsHeld test T reply
held_more true S T reply f is = is
held_more false S T reply f is = (f is.0, is.1)

take_more : (condition : Bool) (S T : Type 0) (moment : Moment) (starts : List ℕ) (mode : TakeMode) (reply : Reply) → (S → T)
    → IsTakeAnswer condition S moment starts mode reply → IsTakeAnswer condition T moment starts mode reply
take_more true S T moment starts mode reply f is = is
take_more false S T moment starts mode reply f is = held_more (is_test mode) S T reply f is

peek_more : (found : Bool) (S T : Type 0) (n : ℕ) (before : List Event) (me comm : ℕ) (source : Source) (tag : Tag) (wait : Bool) (reply : Reply) → (S → T)
    → IsPeekAnswer found S before (probe_of me comm source tag) wait reply → IsPeekAnswer found T before (probe_of me comm source tag) wait reply
peek_more true S T n before me comm source tag wait reply f is = is
peek_more false S T n before me comm source tag wait reply f is = held_more (not wait) S T reply f is

answer_more : (S T : Type 0) (n : ℕ) (before : List Event) (own : View) (me : ℕ) (call : Call) (reply : Reply) → (S → T)
    → IsAnswer S (moment_of n before me own) call reply → IsAnswer T (moment_of n before me own) call reply
answer_more S T n before own me (Take starts mode) reply f is = take_more (mode_holds mode (flags_of (moment_of n before me own) starts)) S T (moment_of n before me own) starts mode reply f is
answer_more S T n before own me (Peek comm source tag wait) reply f is = peek_more (has_open n before me comm source tag) S T n before me comm source tag wait reply f is
answer_more S T n before own me (Send comm dest tag ints sync) reply f is = is
answer_more S T n before own me (Post comm source tag room) reply f is = is
answer_more S T n before own me (Enter comm kind root op count ints) reply f is = is
answer_more S T n before own me (Abort code) reply f is = is
answer_more S T n before own me (Trap fault) reply f is = is
answer_more S T n before own me End reply f is = is

allowed_more : (halt : Option Halt) (S T : Type 0) (n : ℕ) (before : List Event) (own : View) (me : ℕ) (call : Call) (reply : Reply) → (S → T)
    → IsAllowedBy halt S (moment_of n before me own) call reply → IsAllowedBy halt T (moment_of n before me own) call reply
allowed_more None S T n before own me call reply f is = answer_more S T n before own me call reply f is
allowed_more (Some halt) S T n before own me call reply f is = is

-- a probe finds a message that no receive of its rank accepts, where nothing waits
record IsFree (before : List Event) (reply : Reply) : Type 0 where
  free : (source start t count : ℕ) → reply ≡ Peeked source start t count → partner_of (pairs_of before) (source, start) ≡ None

other_free : (before : List Event) (reply other : Reply) → reply ≡ other → ((source start t count : ℕ) → other ≡ Peeked source start t count → ⊥) → IsFree before reply
other_free before reply other is never = record { free = λ source start t count h. absurd (never source start t count (sym is ∙ h)) }

held_free : (test : Bool) (S : Type 0) (before : List Event) (reply : Reply) → IsHeld test S reply → IsFree before reply
held_free true S before reply is = other_free before reply NotYet is (λ source start t count h. cc)
held_free false S before reply is = other_free before reply _ is.1 (λ source start t count h. cc)

taken_free : (before : List Event) (me : ℕ) (long : Option ℕ) (items : List Item) (reply : Reply) → reply ≡ taken_reply me long items → IsFree before reply
taken_free before me None items reply is = other_free before reply (Took items) is (λ source start t count h. cc)
taken_free before me (Some k) items reply is = other_free before reply _ is (λ source start t count h. cc)

take_free : (condition : Bool) (S : Type 0) (n : ℕ) (before : List Event) (own : View) (me : ℕ) (starts : List ℕ) (mode : TakeMode) (reply : Reply)
    → IsTakeAnswer condition S (moment_of n before me own) starts mode reply → IsFree before reply
take_free true S n before own me starts mode reply is = taken_free before me (first_long own starts is.items) is.items reply is.reply_is
take_free false S n before own me starts mode reply is = held_free (is_test mode) S before reply is

peek_free : (found : Bool) (S : Type 0) (before : List Event) (me comm : ℕ) (source : Source) (tag : Tag) (wait : Bool) (reply : Reply)
    → IsPeekAnswer found S before (probe_of me comm source tag) wait reply → IsFree before reply
peek_free true S before me comm source tag wait reply is =
    record {
      free = λ source start t count h. (
          let same : Peeked is.send.0 is.send.1 is.t (length is.ints) ≡ Peeked source start t count = sym is.reply_is ∙ h in
          let one : is.send.0 ≡ source = cc in
          let two : is.send.1 ≡ start = cc in
          rw (← one, ← two) is.unpaired);
    }
peek_free false S before me comm source tag wait reply is = held_free (not wait) S before reply is

done_free : (before : List Event) (reply : Reply) → reply ≡ Done → IsFree before reply
done_free before reply is = other_free before reply Done is (λ source start t count h. cc)

answer_free : (S : Type 0) (n : ℕ) (before : List Event) (own : View) (me : ℕ) (call : Call) (reply : Reply) → IsAnswer S (moment_of n before me own) call reply
    → IsFree before reply
answer_free S n before own me (Take starts mode) reply is = take_free (mode_holds mode (flags_of (moment_of n before me own) starts)) S n before own me starts mode reply is
answer_free S n before own me (Peek comm source tag wait) reply is = peek_free (has_open n before me comm source tag) S before me comm source tag wait reply is
answer_free S n before own me (Send comm dest tag ints sync) reply is = done_free before reply is
answer_free S n before own me (Post comm source tag room) reply is = done_free before reply is
answer_free S n before own me (Enter comm kind root op count ints) reply is = done_free before reply is
answer_free S n before own me (Abort code) reply is = done_free before reply is
answer_free S n before own me (Trap fault) reply is = done_free before reply is
answer_free S n before own me End reply is = done_free before reply is

allowed_free : (halt : Option Halt) (S : Type 0) (n : ℕ) (before : List Event) (own : View) (me : ℕ) (call : Call) (reply : Reply)
    → IsAllowedBy halt S (moment_of n before me own) call reply → IsFree before reply
allowed_free None S n before own me call reply is = answer_free S n before own me call reply is
allowed_free (Some halt) S n before own me call reply is = other_free before reply (Stopped halt) is (λ source start t count h. cc)

passed : (before : List Event) (me : ℕ) (reply : Reply) → IsAllMatched before → IsFree before reply → IsPassed before me reply
passed before me (Peeked source start tag count) all is = λ number takes.
    elim (option_cases (partner_of (pairs_of before) (me, number))) [
      | inl some ↦ ap is_some some.1
      | inr none ↦ absurd (all.nothing_waits (me, number) (source, start) takes none (is.free source start tag count refl))
    ]
passed before me Done all is = tt
passed before me NotYet all is = tt
passed before me (Took items) all is = tt
passed before me (Stopped halt) all is = tt

-- a reply at once is allowed, where nothing waits
pub prompt_allowed : (next : Next) (n : ℕ) (before : List Event) (me : ℕ) (call : Call) (reply : Reply) → IsAllMatched before
    → IsPrompt next n before me call reply → IsAllowed next n before me call reply
prompt_allowed next n before me call reply all is =
    let halt : Option Halt = due n before me (view_of before me) call in
    inl (
      allowed_more halt (IsStuck next n before) (IsDeadlock next n before) n before (view_of before me) me call reply (λ stuck. (stuck, all.nothing_waits)) is,
      passed before me reply all (allowed_free halt (IsStuck next n before) n before (view_of before me) me call reply is),
    )

met_none : (N : Name → Option Call) (pairs mate met : List (Name × Name)) → met ≡ [] → AreMatched N (pairs ++ (mate ++ met)) → MeetInTurn N (pairs ++ mate) met
met_none N pairs mate met none are =
    let F : List (Name × Name) → Type 0 = λ l. AreMatched N (pairs ++ (mate ++ l)) in
    let G : List (Name × Name) → Type 0 = λ l. AreMatched N (pairs ++ l) in
    let H : List (Name × Name) → Type 0 = λ l. MeetInTurn N (pairs ++ mate) l in
    subst H (sym none) (subst G (append-nil mate) (subst F none are))

pub prompt_event : (next : Next) (n : ℕ) (before : List Event) (event : Event) → IsAllMatched before → IsPromptEvent next n before event
    → IsEvent next n before event
prompt_event next n before event all step =
    let F : List (Name × Name) → Type 0 = λ l. AreMatched (named (before ++ event ∷ [])) l in
    record {
      rank = step.rank;
      call = step.call;
      reply = prompt_allowed next n before event.rank event.call event.reply all step.reply;
      mate = step.mate;
      meets = met_none (named (before ++ event ∷ [])) (pairs_of before) (mated before event) event.met step.alone (subst F (pairs_of-push before event) step.matched.matched);
      numbered = step.numbered;
    }

pub none_waits : IsAllMatched []
none_waits = record { matched = none_matched; nothing_waits = λ post send takes p q. (let no : None ≡ Some takes.post_call = takes.post_is in cc) }

prompt_along : (next : Next) (n : ℕ) (before events : List Event) → IsAllMatched before → Along (IsPromptEvent next n) before events
    → Along (IsEvent next n) before events
prompt_along next n before [] all steps = tt
prompt_along next n before (event ∷ events) all steps =
    (prompt_event next n before event all steps.0, prompt_along next n (before ++ event ∷ []) events steps.0.matched steps.1)

-- a run in which nothing is late is a run
pub prompt_is_run : (next : Next) (n : ℕ) (events : List Event) → IsPromptRun next n events → IsRun next n events
prompt_is_run next n events run = record { some = run.some; few = run.few; along = prompt_along next n [] events none_waits run.along }

-- what holds of each run in which nothing is late
pub IsPromptRun-front : (next : Next) (n : ℕ) (xs ys : List Event) → IsPromptRun next n (xs ++ ys) → IsPromptRun next n xs
IsPromptRun-front next n xs ys run = record { some = run.some; few = run.few; along = Along-front (IsPromptEvent next n) [] xs ys run.along }

pub IsPromptRun-event : (next : Next) (n : ℕ) (before after : List Event) (event : Event) → IsPromptRun next n (before ++ event ∷ after)
    → IsPromptEvent next n before event
IsPromptRun-event next n before after event run = (Along-back (IsPromptEvent next n) [] before (event ∷ after) run.along).0

pub all_matched : (next : Next) (n : ℕ) (events : List Event) → IsPromptRun next n events → IsAllMatched events
all_matched next n events run =
    Along-keeps (IsPromptEvent next n) IsAllMatched (λ before event all step. step.matched) [] events none_waits run.along

pub record KeptPrompt (next : Next) (n : ℕ) (events : List Event) : Type 0 where
  pub instances : Instances n (view_of events)
  pub below : AllBelow n events
  pub matched : IsAllMatched events
  pub halts : NamedStopped events
  pub came : (rank : ℕ) → rank < n → IsViewOf next n rank (view_of events rank)

pub kept_prompt : (next : Next) (n : ℕ) (run : List Event) → Lawful next → IsPromptRun next n run → KeptPrompt next n run
kept_prompt next n run lawful is =
    let kept = kept_run next n run lawful (prompt_is_run next n run is) in
    record { instances = kept.instances; below = kept.below; matched = all_matched next n run is; halts = kept.halts; came = kept.came }

pub kept_all : (next : Next) (n : ℕ) (run : List Event) → KeptPrompt next n run → Kept next n run
kept_all next n run kept =
    record { instances = kept.instances; below = kept.below; matched = kept.matched.matched; halts = kept.halts; came = kept.came }

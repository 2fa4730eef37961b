-- What holds of each quiet call: it can be made, it is its rank's next event, and it can be made before another rank's.
use Rattle.std.proofs.Common.{◌≡◌, ◌≢◌, ◌<◌, ◌∙◌, ◌++◌, ◌==◌, ◌&&◌, ◌||◌, ◌∷◌, ◌⊎◌, ℕ, zero, suc, List, [], Option, Some, None, Bool, true, false, inl, inr, is_some, not, slice_get, refl, ap, sym, subst}
use Rattle.std.proofs.lemmas.Bool.{and_parts, and_right, eqb-true}
use Rattle.mpi_call.specs.declared.call.Call.{Call}
use Rattle.mpi_call.specs.declared.call.Call.TheVariants.{Send, Post, Enter, Take, End}
use Rattle.mpi_call.specs.declared.call.Halt.{Halt}
use Rattle.mpi_call.specs.declared.call.Source.TheVariants.{Any, From, Null}
use Rattle.mpi_call.specs.declared.reply.Reply.{Reply}
use Rattle.mpi_call.specs.declared.reply.Reply.TheVariants.{NotYet, Stopped}
use Rattle.mpi_call.specs.Calls.{is_enter, is_starting, makes}
use Rattle.run_model.specs.declared.event.Event.{Event}
use Rattle.run_model.specs.Allowed.{IsStuck}
use Rattle.run_model.specs.Due.{due, halt_of_reply, halted, is_full, or_else}
use Rattle.run_model.specs.Pairs.{IsAllMatched, Name, named}
use Rattle.run_model.specs.Run.{IsPromptEvent}
use Rattle.run_model.specs.Serial.{call_after}
use Rattle.run_model.specs.Views.{Next, View, is_start, replies_in, starts_of, view_of}
use Rattle.run_model.proofs.Prompt.{kept_prompt}
use Rattle.run_model.proofs.RunLaws.{Lawful}
use Rattle.run_model.proofs.Taken.{none_parts}
use Rattle.run_model.proofs.Views.{test_cases, view_of-other}
use Rattle.picked_runs.specs.declared.turn.Pick.{Pick}
use Rattle.picked_runs.specs.declared.turn.Pick.TheVariants.{First}
use Rattle.picked_runs.specs.Made.{pick_of}
use Rattle.picked_runs.specs.Numbering.{IsNumberedInOrder}
use Rattle.picked_runs.specs.Picked.{IsPickedEvent}
use Rattle.picked_runs.specs.Picks.{has_pick, picked_event, picked_reply}
use Rattle.picked_runs.proofs.Making.{event_picked}
use Rattle.run_states.specs.Futures.{SameFuture}
use Rattle.run_states.specs.Outcomes.{IsProbeKept}
use Rattle.quiet_calls.specs.Quiet.{IsAgreed, Races, is_calm, is_partial, is_quiet, is_racy, is_reckoned, is_steady}
use Rattle.quiet_calls.proofs.Named.{other_of, takes_any}
use Rattle.quiet_calls.proofs.Still.{IsStill}
use Rattle.quiet_calls.proofs.Staying.{one_event, quiet_event, reply_free}
use Rattle.quiet_calls.proofs.Runs.{IsGood, matched_idle, matched_same}
use Rattle.quiet_calls.proofs.Swapping.{future_swapped, other_way}
use Rattle.quiet_calls.proofs.Commuting.{IsAsked, behind_run, first_run, halted_more, or_else-last, other_probe, own_probe, stays_asked, unstuck}
use Rattle.quiet_calls.proofs.Matching.{matched_chosen}
use Rattle.quiet_calls.proofs.Crossing.{with_mate}
use Rattle.quiet_calls.proofs.Calm.{calm_event}
use Rattle.quiet_calls.proofs.NamedFirst.{IsNamedAsked, named_first_run, named_unstuck}
use Rattle.quiet_calls.proofs.NamedSwap.{IsMadeBehind, IsNamedWith, IsSwapped, idle_mate, named_behind, named_halting, named_swapped}
use Rattle.quiet_calls.proofs.Entering.{enter_choice}
use Rattle.quiet_calls.proofs.EnterSwap.{IsEnterAsked, IsEnterWith, enter_behind, enter_event, enter_first_run, enter_future, enter_later, enter_unstuck}

-- 1. calm histories

record CalmHead (races : Races) (event : Event) (events : List Event) : Type 0 where
  ranks : (races.ranks event.rank || not (is_racy event.call)) ≡ true
  whole : (races.partial || not (is_partial event.call)) ≡ true
  rest : (is_some (halt_of_reply event.reply) || is_calm races events) ≡ true

calm_head : (races : Races) (event : Event) (events : List Event) → is_calm races (event ∷ events) ≡ true → CalmHead races event events
calm_head races event events h =
    let later : Bool = is_some (halt_of_reply event.reply) || is_calm races events in
    let parts = and_parts (is_reckoned races event.rank event.call) later h in
    let reckoned = and_parts (races.ranks event.rank || not (is_racy event.call)) (races.partial || not (is_partial event.call)) parts.0 in
    record { ranks = reckoned.0; whole = reckoned.1; rest = parts.1 }

calm_on : (a b : Bool) → (a || b) ≡ true → a ≡ false → b ≡ true
calm_on true b h f = absurd (cc)
calm_on false b h f = h

calm_tail : (races : Races) (event : Event) (events : List Event) → is_calm races (event ∷ events) ≡ true → halt_of_reply event.reply ≡ None → is_calm races events ≡ true
calm_tail races event events h free = calm_on (is_some (halt_of_reply event.reply)) (is_calm races events) (calm_head races event events h).rest (ap is_some free)

-- an event of another rank than the racy ones is no racy call
not_racy : (a b : Bool) → (a || not b) ≡ true → a ≡ false → b ≡ false
not_racy false false h f = refl
not_racy false true h f = absurd (cc)
not_racy true b h f = absurd (cc)

-- the event behind a history without a halt
pub calm_next : (races : Races) (before : List Event) (x : Event) (after : List Event) → is_calm races (before ++ x ∷ after) ≡ true → halted before ≡ None
    → races.ranks x.rank ≡ false → is_racy x.call ≡ false
calm_next races [] x after h free f = not_racy (races.ranks x.rank) (is_racy x.call) (calm_head races x after h).ranks f
calm_next races (event ∷ before) x after h free f =
    let parts = none_parts (halt_of_reply event.reply) (halted before) free in
    calm_next races before x after (calm_tail races event (before ++ x ∷ after) h parts.0) parts.1 f

-- and completes all it lists, where nothing is completed in part
pub calm_whole : (races : Races) (before : List Event) (x : Event) (after : List Event) → is_calm races (before ++ x ∷ after) ≡ true → halted before ≡ None
    → races.partial ≡ false → is_partial x.call ≡ false
calm_whole races [] x after h free f = not_racy races.partial (is_partial x.call) (calm_head races x after h).whole f
calm_whole races (event ∷ before) x after h free f =
    let parts = none_parts (halt_of_reply event.reply) (halted before) free in
    calm_whole races before x after (calm_tail races event (before ++ x ∷ after) h parts.0) parts.1 f

-- and its starts
first_start : (call start : Call) (starts : List Call) (k : ℕ) → is_racy call ≡ false → ((j : ℕ) → slice_get starts j ≡ Some start → is_racy start ≡ false)
    → slice_get (call ∷ starts) k ≡ Some start → is_racy start ≡ false
first_start call start starts zero here rest there =
    let same : call ≡ start = cc in
    let F : Call → Type 0 = λ c. is_racy c ≡ false in
    subst F same here
first_start call start starts (suc k) here rest there = rest k there

calm_starts : (races : Races) (events after : List Event) (rank k : ℕ) (start : Call) → is_calm races (events ++ after) ≡ true → halted events ≡ None → races.ranks rank ≡ false
    → slice_get (starts_of (view_of events rank)) k ≡ Some start → is_racy start ≡ false
calm_starts races [] after rank k start h free f there = absurd (cc)
calm_starts races (event ∷ events) after rank k start h free f there =
    let parts = none_parts (halt_of_reply event.reply) (halted events) free in
    let calm : is_calm races (events ++ after) ≡ true = calm_tail races event (events ++ after) h parts.0 in
    elim (test_cases (event.rank == rank)) [
      | inl t ↦ elim (test_cases (is_start (event.call, event.reply))) [
        | inl s ↦
            let mine : slice_get (event.call ∷ starts_of (view_of events rank)) k ≡ Some start = rw (t, s) at there in
            let F : ℕ → Type 0 = λ r. races.ranks r ≡ false in
            let here : is_racy event.call ≡ false =
            not_racy (races.ranks event.rank) (is_racy event.call) (calm_head races event (events ++ after) h).ranks (subst F (sym (eqb-true event.rank rank t)) f) in
            first_start event.call start (starts_of (view_of events rank)) k here (λ j. calm_starts races events after rank j start calm parts.1 f) mine
        | inr s ↦ calm_starts races events after rank k start calm parts.1 f (rw (t, s) at there)
      ]
      | inr t ↦ calm_starts races events after rank k start calm parts.1 f (rw t at there)
    ]

any_racy : (start : Call) → is_racy start ≡ false → takes_any start ≡ false
any_racy (Post comm Any tag room) h = absurd (cc)
any_racy (Post comm (From source) tag room) h = refl
any_racy (Post comm Null tag room) h = refl
any_racy start h = refl

pub calm_plain : (races : Races) (before after : List Event) (w : ℕ) → is_calm races (before ++ after) ≡ true → halted before ≡ None → races.ranks w ≡ false
    → (name : Name) (start : Call) → named before name ≡ Some start → name.0 ≡ w → takes_any start ≡ false
calm_plain races before after w h free f name start made same =
    let F : ℕ → Type 0 = λ r. races.ranks r ≡ false in
    any_racy start (calm_starts races before after name.0 name.1 start h free (subst F (sym same) f) made)

-- 2. the kinds

pub record IsNamedCall (races : Races) (call : Call) : Type 0 where
  pub other : ℕ
  pub names : other_of call ≡ Some other
  pub calm : races.ranks other ≡ false

not_true : (b : Bool) → not b ≡ true → b ≡ false
not_true false h = refl
not_true true h = absurd (cc)

pub record IsEnterCall (races : Races) (call : Call) : Type 0 where
  pub enters : is_enter call ≡ true
  pub plain : makes call ≡ false
  pub whole : races.partial ≡ false

pub enter_kind : (races : Races) (call : Call) → is_enter call ≡ true → (not races.partial && not (makes call)) ≡ true → IsEnterCall races call
enter_kind races call enters h =
    let parts = and_parts (not races.partial) (not (makes call)) h in
    record { enters = enters; plain = not_true (makes call) parts.1; whole = not_true races.partial parts.0 }

pub quiet_kind : (races : Races) (call : Call) → is_quiet races call ≡ true → (is_steady call ≡ true) ⊎ (IsNamedCall races call ⊎ IsEnterCall races call)
quiet_kind races (Post comm (From source) tag room) h = inr (inl (record { other = source; names = refl; calm = not_true (races.ranks source) h }))
quiet_kind races (Post comm Null tag room) h = inl refl
quiet_kind races (Post comm Any tag room) h = absurd (cc)
quiet_kind races (Send comm dest tag ints sync) h = inr (inl (record { other = dest; names = refl; calm = not_true (races.ranks dest) h }))
quiet_kind races (Enter comm kind root op count ints) h = inr (inr (enter_kind races (Enter comm kind root op count ints) refl h))
quiet_kind races (Take starts mode) h = inl h
quiet_kind races End h = inl refl
quiet_kind races call h = absurd (cc)

enter_calm : (call : Call) → is_enter call ≡ true → is_racy call ≡ false
enter_calm (Enter comm kind root op count ints) h = refl
enter_calm call h = absurd (cc)

named_calm : (call : Call) (w : ℕ) → other_of call ≡ Some w → is_racy call ≡ false
named_calm (Post comm (From source) tag room) w h = refl
named_calm (Post comm Any tag room) w h = absurd (cc)
named_calm (Post comm Null tag room) w h = absurd (cc)
named_calm (Send comm dest tag ints sync) w h = refl
named_calm call w h = absurd (cc)

-- 3. a quiet call

pub record IsFirst (next : Next) (n : ℕ) (races : Races) (before : List Event) (me : ℕ) (call : Call) (q : Event) : Type 0 where
  pub kind : is_quiet races call ≡ true
  pub below : me < n
  pub asked : call_after next n before me ≡ Some call
  pub event : picked_event n before me call First ≡ q
  pub free : halt_of_reply q.reply ≡ None
  pub ready : q.reply ≢ NotYet
  pub probe : IsProbeKept before q

steady : (next : Next) (n : ℕ) (races : Races) (before : List Event) (me : ℕ) (call : Call) (q : Event) → IsFirst next n races before me call q → is_steady call ≡ true
    → IsAsked next n before me call
steady next n races before me call q f kind =
    let reply : q.reply ≡ picked_reply n before me call First = ap (λ (e : Event). e.reply) (sym f.event) in
    let F : Reply → Type 0 = λ r. halt_of_reply r ≡ None in
    let G : Reply → Type 0 = λ r. r ≢ NotYet in
    record { below = f.below; asked = f.asked; answered = record { kind = kind; free = subst F reply f.free; ready = subst G reply f.ready } }

pub nothing_due : (next : Next) (n : ℕ) (races : Races) (before : List Event) (me : ℕ) (call : Call) (q : Event) → IsFirst next n races before me call q
    → due n before me (view_of before me) call ≡ None
nothing_due next n races before me call q f =
    let F : Event → Type 0 = λ e. halt_of_reply e.reply ≡ None in
    reply_free n before me call First (subst F (sym f.event) f.free)

namely : (next : Next) (n : ℕ) (races : Races) (before after : List Event) (me : ℕ) (call : Call) (q : Event) → IsFirst next n races before me call q → (k : IsNamedCall races call)
    → is_calm races (before ++ after) ≡ true → halted before ≡ None → IsNamedAsked next n before me call k.other
namely next n races before after me call q f k calm halts =
    record {
      below = f.below;
      asked = f.asked;
      names = k.names;
      none = nothing_due next n races before me call q f;
      plain = calm_plain races before after k.other calm halts k.calm;
    }

entering : (next : Next) (n : ℕ) (races : Races) (before : List Event) (me : ℕ) (call : Call) (q : Event) → IsFirst next n races before me call q → IsEnterCall races call
    → IsEnterAsked next n before me call
entering next n races before me call q f k =
    record { below = f.below; asked = f.asked; enters = k.enters; plain = k.plain; none = nothing_due next n races before me call q f }

-- 4. it can be made

pub first_good : (next : Next) (n : ℕ) → Lawful next → (races : Races) (before after : List Event) (me : ℕ) (call : Call) (q : Event) → IsGood next n before
    → IsFirst next n races before me call q → is_calm races (before ++ after) ≡ true → halted before ≡ None → IsGood next n (before ++ q ∷ [])
first_good next n lawful races before after me call q good f calm halts =
    let G : Event → Type 0 = λ e. IsGood next n (before ++ e ∷ []) in
    subst G f.event (elim (quiet_kind races call f.kind) [
      | inl kind ↦ first_run next n lawful before me call good (steady next n races before me call q f kind)
      | inr others ↦ elim others [
        | inl k ↦ named_first_run next n lawful before me call k.other good (namely next n races before after me call q f k calm halts)
        | inr k ↦ enter_first_run next n lawful before me call good (entering next n races before me call q f k)
      ]
    ])

pub first_unstuck : (next : Next) (n : ℕ) (races : Races) (before after : List Event) (me : ℕ) (call : Call) (q : Event) → IsFirst next n races before me call q
    → is_calm races (before ++ after) ≡ true → halted before ≡ None → IsStuck next n before → ⊥
first_unstuck next n races before after me call q f calm halts stuck =
    elim (quiet_kind races call f.kind) [
      | inl kind ↦ unstuck next n before me call (steady next n races before me call q f kind) stuck
      | inr others ↦ elim others [
        | inl k ↦ named_unstuck next n before me call k.other (namely next n races before after me call q f k calm halts) stuck
        | inr k ↦ enter_unstuck next n before me call (entering next n races before me call q f k) stuck
      ]
    ]

pub first_halts : (next : Next) (n : ℕ) (races : Races) (before : List Event) (me : ℕ) (call : Call) (q : Event) → IsFirst next n races before me call q
    → halted (before ++ q ∷ []) ≡ halted before
first_halts next n races before me call q f = halted_more before q ∙ (ap (or_else (halted before)) f.free ∙ or_else-last (halted before))

-- whatever can be picked for it, the event is the same
pub one_quiet : (n : ℕ) (races : Races) (before : List Event) (me : ℕ) (call : Call) (pick : Pick) → is_quiet races call ≡ true → has_pick n before me call pick ≡ true
    → picked_event n before me call pick ≡ picked_event n before me call First
one_quiet n races before me call pick h offered =
    elim (quiet_kind races call h) [
      | inl kind ↦ one_event n before me call pick kind offered
      | inr others ↦ elim others [
        | inl k ↦ calm_event n before me call pick (named_calm call k.other k.names) offered
        | inr k ↦ calm_event n before me call pick (enter_calm call k.enters) offered
      ]
    ]

-- 5. its rank's next event is this one

pub own_first : (next : Next) (n : ℕ) → Lawful next → (races : Races) (before : List Event) (me : ℕ) (call : Call) (q x : Event) → IsGood next n before
    → IsFirst next n races before me call q → IsPromptEvent next n before x → IsNumberedInOrder n before x → x.rank ≡ me → x ≡ q
own_first next n lawful races before me call q x good f step ordered same =
    let kept = kept_prompt next n before lawful good.run in
    let pick : Pick = pick_of n before x in
    let picked : IsPickedEvent n before x pick = event_picked next n before x kept.matched kept.below step ordered in
    let asked : Some x.call ≡ Some call = sym step.call ∙ (ap (call_after next n before) same ∙ f.asked) in
    let called : x.call ≡ call = cc in
    let offered : has_pick n before me call pick ≡ true =
    sym (ap (λ r. has_pick n before r x.call pick) same ∙ ap (λ c. has_pick n before me c pick) called) ∙ picked.offered in
    picked.event_is ∙ (ap (λ r. picked_event n before r x.call pick) same
    ∙ (ap (λ c. picked_event n before me c pick) called ∙ (one_quiet n races before me call pick f.kind offered ∙ f.event)))

-- 6. another rank's event, before it or behind it

pub record IsDiamond (next : Next) (n : ℕ) (races : Races) (before : List Event) (me : ℕ) (call : Call) (q x : Event) : Type 0 where
  pub later : Event
  pub mate : Option ℕ
  pub there : IsFirst next n races (before ++ x ∷ []) me call later
  pub reply : later.reply ≡ q.reply
  pub good : IsGood next n ((before ++ q ∷ []) ++ with_mate x mate ∷ [])
  pub future : SameFuture n ((before ++ x ∷ []) ++ later ∷ []) ((before ++ q ∷ []) ++ with_mate x mate ∷ [])
  pub probe : IsProbeKept before x → IsProbeKept (before ++ q ∷ []) (with_mate x mate)

asked_on : (next : Next) (n : ℕ) (before : List Event) (x : Event) (me : ℕ) (call : Call) → (x.rank == me) ≡ false → call_after next n before me ≡ Some call
    → call_after next n (before ++ x ∷ []) me ≡ Some call
asked_on next n before x me call apart asked = ap (λ (v : View). next n me (replies_in v)) (view_of-other before x me apart) ∙ asked

steady_diamond : (next : Next) (n : ℕ) → Lawful next → (races : Races) (before : List Event) (me : ℕ) (call : Call) (x : Event) → IsGood next n before
    → (f : IsFirst next n races before me call (picked_event n before me call First)) → is_steady call ≡ true → IsPromptEvent next n before x → IsNumberedInOrder n before x → (x.rank == me) ≡ false
    → is_full (before ++ picked_event n before me call First ∷ []) ≡ false → halted (before ++ x ∷ []) ≡ None → is_full (before ++ x ∷ []) ≡ false
    → IsDiamond next n races before me call (picked_event n before me call First) x
steady_diamond next n lawful races before me call x good f kind step ordered apart full halts room =
    let q : Event = picked_event n before me call First in
    let is : IsAsked next n before me call = steady next n races before me call q f kind in
    let still : IsStill q = quiet_event n before me call kind in
    let s = stays_asked next n lawful before me call x good is apart halts room in
    record {
      later = q;
      mate = x.mate;
      there = record {
        kind = f.kind;
        below = f.below;
        asked = asked_on next n before x me call apart f.asked;
        event = s.same;
        free = f.free;
        ready = f.ready;
        probe = own_probe before q x still apart f.probe;
      };
      reply = refl;
      good = behind_run next n lawful before me call x good is step ordered apart full;
      future = future_swapped n before x q still step.mate apart;
      probe = λ kept. other_probe next n before q x step (other_way x.rank me apart) kept;
    }

named_diamond : (next : Next) (n : ℕ) (races : Races) (before : List Event) (me : ℕ) (call : Call) (x : Event) → (f : IsFirst next n races before me call (picked_event n before me call First))
    → (x.rank == me) ≡ false → IsSwapped next n before me call x (picked_event n before me call First) → IsDiamond next n races before me call (picked_event n before me call First) x
named_diamond next n races before me call x f apart s =
    let R : Reply → Type 0 = λ r. r ≢ NotYet in
    record {
      later = s.later;
      mate = s.mate;
      there = record {
        kind = f.kind;
        below = f.below;
        asked = asked_on next n before x me call apart f.asked;
        event = s.later_is;
        free = ap halt_of_reply s.reply ∙ f.free;
        ready = subst R (sym s.reply) f.ready;
        probe = s.own f.probe;
      };
      reply = s.reply;
      good = s.good;
      future = s.future;
      probe = s.probe;
    }

-- what is known where an event of another rank comes next
pub record IsBesideFirst (next : Next) (n : ℕ) (races : Races) (before : List Event) (me : ℕ) (call : Call) (q x : Event) (after : List Event) : Type 0 where
  pub good : IsGood next n before
  pub first : IsFirst next n races before me call q
  pub step : IsPromptEvent next n before x
  pub ordered : IsNumberedInOrder n before x
  pub apart : (x.rank == me) ≡ false
  pub calm : is_calm races (before ++ x ∷ after) ≡ true
  pub halts : halted before ≡ None
  pub full : is_full (before ++ q ∷ []) ≡ false
  pub agreed : IsAgreed n (before ++ x ∷ after) (view_of before me) call

named_with : (next : Next) (n : ℕ) (races : Races) (before : List Event) (me : ℕ) (call : Call) (x : Event) (after : List Event)
    → IsBesideFirst next n races before me call (picked_event n before me call First) x after → (k : IsNamedCall races call) → IsNamedWith next n before me call k.other x
named_with next n races before me call x after b k =
    record {
      good = b.good;
      is = namely next n races before (x ∷ after) me call (picked_event n before me call First) b.first k b.calm b.halts;
      step = b.step;
      ordered = b.ordered;
      apart = b.apart;
      calm = λ rank. (let F : ℕ → Type 0 = λ r. races.ranks r ≡ false in calm_next races before x after b.calm b.halts (subst F (sym rank) k.calm));
      full = b.full;
    }

enter_with : (next : Next) (n : ℕ) (races : Races) (before : List Event) (me : ℕ) (call : Call) (x : Event) (after : List Event)
    → IsBesideFirst next n races before me call (picked_event n before me call First) x after → IsEnterCall races call → IsEnterWith next n before me call x after
enter_with next n races before me call x after b k =
    record {
      good = b.good;
      is = entering next n races before me call (picked_event n before me call First) b.first k;
      step = b.step;
      ordered = b.ordered;
      apart = b.apart;
      whole = calm_whole races before x after b.calm b.halts k.whole;
      agrees = b.agreed k.enters;
      full = b.full;
    }

-- an Enter is no receive
enter_probe : (before : List Event) (event : Event) → is_enter event.call ≡ true → IsProbeKept before event
enter_probe before event enters earlier comm source tag wait room sender start sent count seen posted done =
    (let no : false ≡ true = sym (ap is_enter posted) ∙ enters in absurd (cc))

enter_made_behind : (next : Next) (n : ℕ) → Lawful next → (races : Races) (before : List Event) (me : ℕ) (call : Call) (x : Event) (after : List Event)
    → IsBesideFirst next n races before me call (picked_event n before me call First) x after → IsEnterCall races call
    → IsGood next n ((before ++ picked_event n before me call First ∷ []) ++ x ∷ [])
enter_made_behind next n lawful races before me call x after b k =
    let q : Event = picked_event n before me call First in
    let front : List Event = before ++ x ∷ [] in
    let i = enter_with next n races before me call x after b k in
    let e = enter_event n before me call k.enters i.is.none in
    let behind : IsAllMatched (front ++ q ∷ []) = matched_chosen front q b.step.matched e.starts (e.mate ∙ sym (enter_choice front me call k.enters)) refl in
    enter_behind next n lawful before me call x after i
    (matched_same n (front ++ q ∷ []) ((before ++ q ∷ []) ++ x ∷ []) (enter_future next n before me call x after i) behind)

enter_diamond : (next : Next) (n : ℕ) → Lawful next → (races : Races) (before : List Event) (me : ℕ) (call : Call) (x : Event) (after : List Event)
    → IsBesideFirst next n races before me call (picked_event n before me call First) x after → IsEnterCall races call → halted (before ++ x ∷ []) ≡ None
    → is_full (before ++ x ∷ []) ≡ false → IsDiamond next n races before me call (picked_event n before me call First) x
enter_diamond next n lawful races before me call x after b k halts room =
    let q : Event = picked_event n before me call First in
    let front : List Event = before ++ x ∷ [] in
    let i = enter_with next n races before me call x after b k in
    let later : picked_event n front me call First ≡ q = enter_later next n before me call x after i halts room in
    let future = enter_future next n before me call x after i in
    record {
      later = q;
      mate = x.mate;
      there = record {
        kind = b.first.kind;
        below = b.first.below;
        asked = asked_on next n before x me call b.apart b.first.asked;
        event = later;
        free = b.first.free;
        ready = b.first.ready;
        probe = enter_probe front q k.enters;
      };
      reply = refl;
      good = enter_made_behind next n lawful races before me call x after b k;
      future = future;
      probe = λ kept. other_probe next n before q x b.step (other_way x.rank me b.apart) kept;
    }

enter_halting : (next : Next) (n : ℕ) → Lawful next → (races : Races) (before : List Event) (me : ℕ) (call : Call) (x : Event) (after : List Event) (halt : Halt)
    → IsBesideFirst next n races before me call (picked_event n before me call First) x after → IsEnterCall races call → x.reply ≡ Stopped halt
    → IsGood next n ((before ++ picked_event n before me call First ∷ []) ++ x ∷ [])
enter_halting next n lawful races before me call x after halt b k stopped =
    let q : Event = picked_event n before me call First in
    let i = enter_with next n races before me call x after b k in
    let kept = kept_prompt next n before lawful b.good.run in
    let first = enter_first_run next n lawful before me call b.good i.is in
    let picked = event_picked next n before x kept.matched kept.below b.step b.ordered in
    let idle : is_start (x.call, x.reply) ≡ false = ap (λ r. is_start (x.call, r)) stopped ∙ and_right (is_starting x.call) false refl in
    let alone : x.mate ≡ None = idle_mate n before x (pick_of n before x) picked idle in
    enter_behind next n lawful before me call x after i (matched_idle (before ++ q ∷ []) x idle alone b.step.alone (kept_prompt next n (before ++ q ∷ []) lawful first.run).matched)

pub diamond : (next : Next) (n : ℕ) → Lawful next → (races : Races) (before : List Event) (me : ℕ) (call : Call) (q x : Event) (after : List Event)
    → IsBesideFirst next n races before me call q x after → halted (before ++ x ∷ []) ≡ None → is_full (before ++ x ∷ []) ≡ false → IsDiamond next n races before me call q x
diamond next n lawful races before me call q x after b halts room =
    let D : Event → Type 0 = λ e. IsBesideFirst next n races before me call e x after → IsDiamond next n races before me call e x in
    let made : D (picked_event n before me call First) = λ c. elim (quiet_kind races call c.first.kind) [
      | inl kind ↦ steady_diamond next n lawful races before me call x c.good c.first kind c.step c.ordered c.apart c.full halts room
      | inr others ↦ elim others [
        | inl k ↦
            named_diamond next n races before me call x c.first c.apart
            (named_swapped next n lawful before me call k.other x (named_with next n races before me call x after c k) halts room)
        | inr k ↦ enter_diamond next n lawful races before me call x after c k halts room
      ]
    ] in
    subst D b.first.event made b

-- behind it, whatever the size of the other event

pub event_behind : (next : Next) (n : ℕ) → Lawful next → (races : Races) (before : List Event) (me : ℕ) (call : Call) (q x : Event) (after : List Event)
    → IsBesideFirst next n races before me call q x after → IsMadeBehind next n before x q
event_behind next n lawful races before me call q x after b =
    let D : Event → Type 0 = λ e. IsBesideFirst next n races before me call e x after → IsMadeBehind next n before x e in
    let made : D (picked_event n before me call First) = λ c. elim (quiet_kind races call c.first.kind) [
      | inl kind ↦
          record {
            mate = x.mate;
            good = behind_run next n lawful before me call x c.good (steady next n races before me call (picked_event n before me call First) c.first kind) c.step c.ordered c.apart c.full;
            probe = λ kept. other_probe next n before (picked_event n before me call First) x c.step (other_way x.rank me c.apart) kept;
          }
      | inr others ↦ elim others [
        | inl k ↦ named_behind next n lawful before me call k.other x (named_with next n races before me call x after c k)
        | inr k ↦
            record {
              mate = x.mate;
              good = enter_made_behind next n lawful races before me call x after c k;
              probe = λ kept. other_probe next n before (picked_event n before me call First) x c.step (other_way x.rank me c.apart) kept;
            }
      ]
    ] in
    subst D b.first.event made b

-- 7. a halt of another rank behind it

pub halting_behind : (next : Next) (n : ℕ) → Lawful next → (races : Races) (before : List Event) (me : ℕ) (call : Call) (q x : Event) (after : List Event) (halt : Halt)
    → IsBesideFirst next n races before me call q x after → x.reply ≡ Stopped halt → IsGood next n ((before ++ q ∷ []) ++ x ∷ [])
halting_behind next n lawful races before me call q x after halt b stopped =
    let D : Event → Type 0 = λ e. IsBesideFirst next n races before me call e x after → IsGood next n ((before ++ e ∷ []) ++ x ∷ []) in
    let made : D (picked_event n before me call First) = λ c. elim (quiet_kind races call c.first.kind) [
      | inl kind ↦
          behind_run next n lawful before me call x c.good (steady next n races before me call (picked_event n before me call First) c.first kind) c.step c.ordered c.apart c.full
      | inr others ↦ elim others [
        | inl k ↦ named_halting next n lawful before me call k.other x halt (named_with next n races before me call x after c k) stopped
        | inr k ↦ enter_halting next n lawful races before me call x after halt c k stopped
      ]
    ] in
    subst D b.first.event made b

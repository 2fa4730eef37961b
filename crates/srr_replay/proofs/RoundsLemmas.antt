-- The runs of the ranks beside a replay, and rounds over them.
use Rattle.std.proofs.Common.{◌≡◌, ◌≢◌, ◌<◌, ◌≤◌, ◌+◌, ◌==◌, ◌⊎◌, ℕ, zero, suc, List, [], ◌∷◌, ◌++◌, Some, None, Bool, true, false, inl, inr, refl, ap, sym, ◌∙◌, map, length, length-append, length-set, slice_index, set, get_or-set_same, get_or-set_other, subst, take, arith}
use Rattle.std.proofs.lemmas.List.{take_more, map-append}
use Rattle.std.proofs.lemmas.Bool.{eqb-true, eq-eqb}
use Rattle.mpi_call.specs.declared.call.Call.{Call}
use Rattle.mpi_call.specs.declared.reply.Reply.{Reply}
use Rattle.mpi_call.specs.Collectives.{is_distinct, is_member}
use Rattle.run_model.specs.declared.event.Event.{Event}
use Rattle.run_model.specs.Lists.{IsPrefixOf}
use Rattle.run_model.specs.Program.{Standing, IsAfter}
use Rattle.run_model.specs.Views.{Next, view_of, replies_in}
use Rattle.run_model.proofs.Prefixes.{prefix_trans}
use Rattle.run_model.proofs.Views.{test_cases, view_of-own, view_of-other}
use Rattle.srr_entry.specs.declared.log.Log.{Log}
use Rattle.replay_model.specs.declared.step.Step.TheVariants.{Replied}
use Rattle.replay_model.specs.Replays.{ReplayState, Breakpoint, IsExhausted, replay_answer, replied_event}
use Rattle.srr_replay.specs.Rounds.{GrowsBy, HasNoStep, RunAll, SameReplay, replay_attempt, replay_attempts, replay_rounds}

snoc-map : {A B : Type 0} (f : A → B) (xs : List A) (x : A) → map f (xs ++ x ∷ []) ≡ map f xs ++ f x ∷ []
snoc-map f [] x = refl
snoc-map f (y ∷ xs) x = ap (λ l. f y ∷ l) (snoc-map f xs x)

-- the replies after one more event of the rank
pub replies_in-after : (events : List Event) (rank : ℕ) (call : Call) (reply : Reply) → replies_in (view_of (events ++ replied_event rank call reply ∷ []) rank) ≡ replies_in (view_of events rank) ++ reply ∷ []
replies_in-after events rank call reply =
    rw (view_of-own events (replied_event rank call reply)) (snoc-map _ (view_of events rank) (call, reply))

-- the same replay over two steps
pub same_on : {P : Type 0} (start before after : ReplayState P) → SameReplay start before → SameReplay before after → SameReplay start after
same_on start before after one two = record { program = two.program ∙ one.program; log = two.log ∙ one.log; stop = two.stop ∙ one.stop }

-- a run that was given the reply
pub IsAfter-given : {P : Type 0} (program : P) (n rank : ℕ) (events : List Event) (call : Call) (reply : Reply) (before after : Standing P) → IsAfter program n rank events before → after ≡ record before { replies = before.replies ++ reply ∷ []; asked = false } → IsAfter program n rank (events ++ replied_event rank call reply ∷ []) after
IsAfter-given program n rank events call reply before after h e =
    rw e (record {
      same_program = h.same_program;
      ranks = h.ranks;
      rank_is = h.rank_is;
      replies_are = rw (replies_in-after events rank call reply, h.replies_are) refl;
    })

-- a run whose call was handed out
pub IsAfter-asked : {P : Type 0} (program : P) (n rank : ℕ) (events : List Event) (before after : Standing P) → IsAfter program n rank events before → after ≡ record before { asked = true } → IsAfter program n rank events after
IsAfter-asked program n rank events before after h e =
    rw e (record { same_program = h.same_program; ranks = h.ranks; rank_is = h.rank_is; replies_are = h.replies_are })

-- a rank that has ended has no step, nor has one whose call was answered otherwise
pub HasNoStep-ended : (next : Next) (log : Log) (stop : Breakpoint) (events : List Event) (rank : ℕ) → next log.ranks rank (replies_in (view_of events rank)) ≡ None → HasNoStep next log stop events rank
HasNoStep-ended next log stop events rank h event same step =
    let asked : next log.ranks rank (replies_in (view_of events rank)) ≡ Some event.call = rw same at step.call in
    cc

pub HasNoStep-answered : (next : Next) (log : Log) (stop : Breakpoint) (events : List Event) (rank : ℕ) (call : Call) → next log.ranks rank (replies_in (view_of events rank)) ≡ Some call → ((reply : Reply) → replay_answer log stop (view_of events) rank (view_of events rank) call ≡ Replied reply → ⊥) → HasNoStep next log stop events rank
HasNoStep-answered next log stop events rank call h other event same step =
    let asked : next log.ranks rank (replies_in (view_of events rank)) ≡ Some event.call = rw same at step.call in
    let some : Some event.call ≡ Some call = sym asked ∙ h in
    let is : event.call ≡ call = cc in
    other event.reply (rw (same, is) at step.reply)

pub number_cases : (a b : ℕ) → (a ≡ b) ⊎ (a ≢ b)
number_cases a b = elim (test_cases (a == b)) [ inl h ↦ inl (eqb-true a b h) | inr h ↦ inr (λ e. let t : (a == b) ≡ true = eq-eqb a b e in cc) ]

-- another rank's replies are as before
replies_in-other : (rank other : ℕ) (before after : List Event) (moved : Bool) → GrowsBy rank before after moved → other ≢ rank → replies_in (view_of after other) ≡ replies_in (view_of before other)
replies_in-other rank other before after false grows ne = rw grows refl
replies_in-other rank other before after true grows ne =
    elim (test_cases (grows.0.rank == other)) [
      | inl h ↦ absurd (ne (sym (eqb-true grows.0.rank other h) ∙ grows.1))
      | inr h ↦ rw (grows.2, view_of-other before grows.0 other h) refl
    ]

-- the member at a place is a member
pub member_of : (group : List ℕ) (k : ℕ) → k < length group → is_member group (slice_index group k) ≡ true
member_of [] k lt = absurd (omega (arith, lt))
member_of (x ∷ group) zero lt = rw (eq-eqb x x refl) refl
member_of (x ∷ group) (suc k) lt =
    elim (test_cases (x == slice_index group k)) [
      | inl h ↦ rw h refl
      | inr h ↦ rw h (member_of group k (omega (arith, lt)))
    ]

distinct_later : (x : ℕ) (group : List ℕ) → is_distinct (x ∷ group) ≡ true → is_distinct group ≡ true
distinct_later x group distinct =
    elim (test_cases (is_member group x)) [
      | inl h ↦ let no = rw h at distinct in absurd (cc)
      | inr h ↦ rw h at distinct
    ]

not_later : (x : ℕ) (group : List ℕ) (k : ℕ) → is_distinct (x ∷ group) ≡ true → k < length group → x ≡ slice_index group k → ⊥
not_later x group k distinct lt same =
    let member : is_member group x ≡ true = rw same (member_of group k lt) in
    let no = rw member at distinct in
    absurd (cc)

-- no rank has two places
pub distinct_at : (group : List ℕ) (j k : ℕ) → is_distinct group ≡ true → j < length group → k < length group → slice_index group j ≡ slice_index group k → j ≡ k
distinct_at [] j k distinct lt lt' same = absurd (omega (arith, lt))
distinct_at (x ∷ group) zero zero distinct lt lt' same = refl
distinct_at (x ∷ group) zero (suc k) distinct lt lt' same =
    absurd (not_later x group k distinct (omega (arith, lt')) same)
distinct_at (x ∷ group) (suc j) zero distinct lt lt' same =
    absurd (not_later x group j distinct (omega (arith, lt)) (sym same))
distinct_at (x ∷ group) (suc j) (suc k) distinct lt lt' same =
    ap suc (distinct_at group j k (distinct_later x group distinct) (omega (arith, lt)) (omega (arith, lt')) same)

-- the runs after one of them was tried
pub RunAll-set : {P R : Type 0} (standing : R → Standing P) (program : P) (log : Log) (before after : List Event) (runs : List R) (k : ℕ) (run : R) (moved : Bool) → RunAll standing program log before runs → is_distinct log.group ≡ true → k < length log.group → GrowsBy (slice_index log.group k) before after moved → IsAfter program log.ranks (slice_index log.group k) after (standing run) → RunAll standing program log after (set runs k run)
RunAll-set {P} {R} standing program log before after runs k run moved all distinct lt grows stands =
    record {
      as_many = length-set runs k run ∙ all.as_many;
      each = λ j d below. elim (number_cases j k) [
        | inl same ↦
            let within : k < length runs = omega (arith, all.as_many, lt) in
            rw (same, get_or-set_same runs k run d within) stands
        | inr other ↦
            let was = all.each j d below in
            rw (get_or-set_other runs k j run d other)
            (record {
              same_program = was.same_program;
              ranks = was.ranks;
              rank_is = was.rank_is;
              replies_are = was.replies_are ∙ sym (replies_in-other (slice_index log.group k) (slice_index log.group j) before after moved grows (λ e. other (distinct_at log.group j k distinct below lt e)));
            })
      ];
    }

-- a member has a place
pub member_at : (group : List ℕ) (rank : ℕ) → is_member group rank ≡ true → (k : ℕ) × (k < length group) × (slice_index group k ≡ rank)
member_at [] rank h = absurd (cc)
member_at (x ∷ group) rank h =
    elim (test_cases (x == rank)) [
      | inl e ↦ (0, omega arith, eqb-true x rank e)
      | inr e ↦
          let later : is_member group rank ≡ true = rw e at h in
          let found = member_at group rank later in
          (suc found.0, omega (arith, found.1), found.2)
    ]

-- where none of those listed has a step, no rank has
pub IsExhausted-each : (next : Next) (log : Log) (stop : Breakpoint) (events : List Event) → ((k : ℕ) → k < length log.group → HasNoStep next log stop events (slice_index log.group k)) → IsExhausted next log stop events
IsExhausted-each next log stop events each event step =
    let found = member_at log.group event.rank step.member in
    each found.0 found.1 event (sym found.2) step

pub longer : (rank : ℕ) (before after : List Event) → GrowsBy rank before after true → length before < length after
longer rank before after grows = rw (grows.2, length-append) (omega arith)

pub no_shorter : (moved : Bool) (start now : List Event) → (moved ≡ true → length start < length now) → (moved ≡ false → now ≡ start) → length start ≤ length now
no_shorter true start now grown still = let h = grown refl in omega (arith, h)
no_shorter false start now grown still = rw (still refl) (omega arith)

-- what goes on with some events still goes on with them after one more
pub grows_on : (rank : ℕ) (start before after : List Event) (moved : Bool) → IsPrefixOf start before → GrowsBy rank before after moved → IsPrefixOf start after
grows_on rank start before after true begins grows =
    prefix_trans start before after begins (grows.0 ∷ [], sym grows.2)
grows_on rank start before after false begins grows = rw grows begins

-- the runs after one of them was asked
pub RunAll-kept : {P R : Type 0} (standing : R → Standing P) (program : P) (log : Log) (events : List Event) (runs : List R) (k : ℕ) (run : R) → RunAll standing program log events runs → k < length log.group → IsAfter program log.ranks (slice_index log.group k) events (standing run) → RunAll standing program log events (set runs k run)
RunAll-kept {P} {R} standing program log events runs k run all lt stands =
    record {
      as_many = length-set runs k run ∙ all.as_many;
      each = λ j d below. elim (number_cases j k) [
        | inl same ↦
            let within : k < length runs = omega (arith, all.as_many, lt) in
            rw (same, get_or-set_same runs k run d within) stands
        | inr other ↦ rw (get_or-set_other runs k j run d other) (all.each j d below)
      ];
    }

-- one element more of a list that was mapped so far
pub map_take-more : {Y : Type 0} (f : ℕ → Y) (xs : List ℕ) (k : ℕ) → k < length xs → map f (take (k + 1) xs) ≡ map f (take k xs) ++ f (slice_index xs k) ∷ []
map_take-more f xs k lt = ap (map f) (take_more xs k 0 lt) ∙ map-append f (take k xs) (slice_index xs k ∷ [])

-- one attempt more, one round more
attempts_last : (next : Next) (log : Log) (stop : Breakpoint) (events : List Event) (ranks : List ℕ) (rank : ℕ)
    → replay_attempts next log stop events (ranks ++ rank ∷ []) ≡ replay_attempt next log stop (replay_attempts next log stop events ranks) rank
attempts_last next log stop events [] rank = refl
attempts_last next log stop events (first ∷ ranks) rank = attempts_last next log stop (replay_attempt next log stop events first) ranks rank

rounds_last : (next : Next) (log : Log) (stop : Breakpoint) (count : ℕ) (events : List Event)
    → replay_rounds next log stop (suc count) events ≡ replay_attempts next log stop (replay_rounds next log stop count events) log.group
rounds_last next log stop zero events = refl
rounds_last next log stop (suc count) events = rounds_last next log stop count (replay_attempts next log stop events log.group)

-- one rank more of a round
pub one_attempt : (next : Next) (log : Log) (stop : Breakpoint) (group : List ℕ) (k : ℕ) (start before after : List Event) → k < length group
    → before ≡ replay_attempts next log stop start (take k group) → after ≡ replay_attempt next log stop before (slice_index group k)
    → after ≡ replay_attempts next log stop start (take (k + 1) group)
one_attempt next log stop group k start before after within so_far one =
    one ∙ ap (λ events. replay_attempt next log stop events (slice_index group k)) so_far
    ∙ sym (ap (replay_attempts next log stop start) (take_more group k 0 within) ∙ attempts_last next log stop start (take k group) (slice_index group k))

one_more : (next : Next) (log : Log) (stop : Breakpoint) (count : ℕ) (start before after : List Event) → before ≡ replay_rounds next log stop count start
    → after ≡ replay_attempts next log stop before log.group → after ≡ replay_rounds next log stop (suc count) start
one_more next log stop count start before after so_far one =
    one ∙ ap (λ events. replay_attempts next log stop events log.group) so_far ∙ sym (rounds_last next log stop count start)

-- the same of a replay whose program, log and breakpoint are still the first one's
pub one_round : {P : Type 0} (next : P → Next) (count : ℕ) (one two three : ReplayState P) → two.program ≡ one.program → two.log ≡ one.log → two.stop ≡ one.stop
    → two.events ≡ replay_rounds (next one.program) one.log one.stop count one.events → three.events ≡ replay_attempts (next two.program) two.log two.stop two.events two.log.group
    → three.events ≡ replay_rounds (next one.program) one.log one.stop (suc count) one.events
one_round {P} next count one two three program log stop so_far step =
    let F : P → Type 0 = λ p. three.events ≡ replay_attempts (next p) two.log two.stop two.events two.log.group in
    let G : Log → Type 0 = λ l. three.events ≡ replay_attempts (next one.program) l two.stop two.events l.group in
    let H : Breakpoint → Type 0 = λ s. three.events ≡ replay_attempts (next one.program) one.log s two.events one.log.group in
    one_more (next one.program) one.log one.stop count one.events two.events three.events so_far (subst H stop (subst G log (subst F program step)))

-- Where a rank stands that got its replies once more.
use Rattle.std.proofs.Common.{◌≡◌, ◌∙◌, ◌-◌, ◌∷◌, ℕ, suc, List, [], Option, Some, ap, length, map, refl, slice_get, sym, true}
use Rattle.std.proofs.lemmas.Option.{slice_get-map}
use Rattle.std.specs.Borrow.{Bor}
use Rattle.std.specs.Prelude.{option_map}
use Rattle.run_model.specs.declared.event.Event.{Event}
use Rattle.mpi_call.specs.declared.call.Call.{Call}
use Rattle.mpi_call.specs.declared.reply.Reply.{Reply}
use Rattle.replay_model.specs.declared.replayed.Stand.{Stand}
use Rattle.run_model.specs.declared.lists.Variable.{Variable}
use Rattle.run_model.specs.declared.program.Want.{Want}
use Rattle.run_model.specs.Program.{Says, Standing}
use Rattle.run_model.specs.Views.{Next, View, replies_in}
use Rattle.replay_views.specs.declared.snapshot.Ahead.{Ahead}
use Rattle.replay_views.specs.declared.snapshot.Snapshot.{Snapshot}
use Rattle.replay_views.specs.inside.Got.{HasGot}
use Rattle.replay_views.specs.Snapshots.{ahead_of, last_reply_in, snapshot_of, variables_by}
use Rattle.replay_views.specs.Watching.{Variables}
use Rattle.replay_views.proofs.GivenLemmas.{seen_in}

-- the next call and the variables of a rank
abbrev pub next_in : {P : Type 0} → (P → Next) → Standing P → Option Call
next_in next standing = next standing.program standing.ranks standing.rank standing.replies

abbrev pub variables_in : {P : Type 0} → (P → Variables) → Standing P → List Variable
variables_in variables standing = variables standing.program standing.ranks standing.rank standing.replies

abbrev snapshot : ℕ → ℕ → Ahead → Option Reply → List Variable → Snapshot
snapshot rank number ahead last found = record { rank = rank; number = number; ahead = ahead; last = last; variables = found }

same_snapshot : (rank number number' : ℕ) (ahead ahead' : Ahead) (last last' : Option Reply) (found found' : List Variable) → number ≡ number' → ahead ≡ ahead'
    → last ≡ last' → found ≡ found' → snapshot rank number ahead last found ≡ snapshot rank number' ahead' last' found'
same_snapshot rank number number' ahead ahead' last last' found found' nn aa ll ff = rw (nn, aa, ll, ff) refl

pub snapshot_is : {P : Type 0} (next : P → Next) (variables : P → Variables) (first now after : Standing P) (rank number : ℕ) (view : View) (stand : Stand) (want : Want) (ahead : Ahead) (last : Option Reply) (found : List Variable)
    → first.rank ≡ rank → HasGot first.program first.ranks first.rank view now → after ≡ record now { asked = true } → Says want (next_in next now)
    → found ≡ variables_by (next_in next after) (variables_in variables after) → ((call : Option Call) → Says want call → ahead ≡ ahead_of stand call)
    → last ≡ last_reply_in (replies_in view) → number ≡ length view
    → record { rank = rank; number = number; ahead = ahead; last = last; variables = found } ≡ snapshot_of (next first.program) (variables first.program) first.ranks rank view stand
snapshot_is next variables first now after rank number view stand want ahead last found rank_is got after_is says found_is ahead_is last_is number_is =
    same_snapshot rank number _ ahead _ last _ found _ number_is
    (ahead_is (next_in next now) says ∙ rw (got.same_program, got.ranks, got.rank_is, rank_is, got.replies_are) refl)
    last_is
    (found_is ∙ rw (after_is, got.same_program, got.ranks, got.rank_is, rank_is, got.replies_are) refl)

-- ---- the last reply

abbrev replies_of : List (Bor Event) → List Reply
replies_of events = map (λ event. event.now.reply) events

replies_are : (events : List (Bor Event)) → replies_in (seen_in events) ≡ replies_of events
replies_are [] = refl
replies_are (event ∷ events) = ap (λ l. event.now.reply ∷ l) (replies_are events)

replies_length : (events : List (Bor Event)) → length (replies_of events) ≡ length events
replies_length [] = refl
replies_length (event ∷ events) = ap suc (replies_length events)

pub last_seen : (events : List (Bor Event)) (event : Bor Event) (reply : Reply) → Some event ≡ slice_get events (length events - 1) → reply ≡ event.now.reply
    → Some reply ≡ last_reply_in (replies_in (seen_in events))
last_seen events event reply at is =
    ap Some is
    ∙ ap (option_map (λ (e : Bor Event). e.now.reply)) at
    ∙ sym (slice_get-map (λ (e : Bor Event). e.now.reply) events (length events - 1))
    ∙ ap (λ (k : ℕ). slice_get (replies_of events) (k - 1)) (sym (replies_length events))
    ∙ ap last_reply_in (sym (replies_are events))

-- Each other pick of a run is recorded by its turns.
use Rattle.std.proofs.Common.{◌≡◌, ◌≢◌, ◌<◌, ◌+◌, ◌⊎◌, ◌==◌, ◌∙◌, ◌++◌, ◌∷◌, ℕ, zero, suc, List, [], Option, Some, None, Bool, true, false, inl, inr, if◌then◌else◌, length, map, filter, not, take, slice_get, ap, refl, subst, sym, append-nil, append_assoc, arith}
use Rattle.std.proofs.Math.Seq.{take-append_seam}
use Rattle.std.proofs.lemmas.Bool.{and_parts, eq-eqb}
use Rattle.std.specs.List.{AllByRecursion}
use Rattle.mpi_call.specs.declared.call.Call.{Call}
use Rattle.mpi_call.specs.declared.call.Call.TheVariants.{Post}
use Rattle.mpi_call.specs.declared.call.Halt.{Halt}
use Rattle.mpi_call.specs.declared.call.Halt.TheVariants.{Limit}
use Rattle.mpi_call.specs.declared.call.Source.TheVariants.{Any, From, Null}
use Rattle.mpi_call.specs.declared.reply.Reply.{Reply}
use Rattle.mpi_call.specs.declared.reply.Reply.TheVariants.{Done, NotYet, Took, Peeked, Stopped}
use Rattle.mpi_call.specs.Lists.{IsIn}
use Rattle.run_model.specs.declared.event.Event.{Event}
use Rattle.run_model.specs.Chosen.{order_of}
use Rattle.run_model.specs.Due.{halt_at, halt_of_reply, halted, is_full, or_else}
use Rattle.run_model.specs.Lists.{IsPrefixOf, world}
use Rattle.run_model.specs.MachineLaws.{has_stuck, is_stuck_reply}
use Rattle.run_model.specs.Views.{Next, is_start, view_of, rank_of_event}
use Rattle.run_model.proofs.Choosing.{choice_some}
use Rattle.run_model.proofs.Prompt.{IsPromptRun-event, IsPromptRun-front}
use Rattle.match_core.specs.Starts.{is_post}
use Rattle.picked_runs.specs.declared.turn.Pick.{Pick}
use Rattle.picked_runs.specs.declared.turn.Pick.TheVariants.{Sender}
use Rattle.picked_runs.specs.declared.turn.Turn.{Turn}
use Rattle.picked_runs.specs.PickLaws.{OtherPickIsTaken, PicksAreTurns}
use Rattle.picked_runs.specs.Picks.{call_from, has_pick, picked_choice, picked_event, picked_reply}
use Rattle.picked_runs.specs.Picked.{ArePicked, IsPicked, later_picks}
use Rattle.picked_runs.specs.Turns.{IsRunByTurns, IsTurnOf, turns_of}
use Rattle.picked_runs.proofs.Allowing.{pick_there}
use Rattle.other_picks.specs.declared.other.OtherPick.{OtherPick}
use Rattle.other_picks.specs.OtherLaws.{IsTakenOtherwise, OthersAreTaken, OthersAreTurns, turns_to}
use Rattle.other_picks.specs.Others.{could_pick, other_of, others_at, others_by, others_from}
use Rattle.other_picks.proofs.Following.{owner_is, post_looks, widen}

-- ---- where an other pick comes from

in_both : {A : Type 0} (x : A) (xs ys : List A) → IsIn x (xs ++ ys) → IsIn x xs ⊎ IsIn x ys
in_both x [] ys among = inr among
in_both x (y ∷ xs) ys among = elim among [
  | inl e ↦ inl (inl e)
  | inr later ↦ elim (in_both x xs ys later) [ inl here ↦ inl (inr here) | inr there ↦ inr there ]
]

pub in_mapped : {A B : Type 0} (f : A → B) (xs : List A) (y : B) → IsIn y (map f xs) → (x : A) × IsIn x xs × (f x ≡ y)
in_mapped f [] y among = absurd among
in_mapped f (x ∷ xs) y among = elim among [
  | inl e ↦ (x, inl refl, e)
  | inr later ↦ (let rest = in_mapped f xs y later in (rest.0, inr rest.1, rest.2))
]

kept_by : (test : ℕ → Bool) (x y : ℕ) (ys : List ℕ) (passes : Bool) → test y ≡ passes
    → (IsIn x (filter test ys) → IsIn x ys × (test x ≡ true)) → IsIn x (filter test (y ∷ ys)) → IsIn x (y ∷ ys) × (test x ≡ true)
kept_by test x y ys true is rest among =
    let here : IsIn x (y ∷ filter test ys) = rw is at among in
    elim here [
      | inl e ↦ (inl e, (let F : ℕ → Type 0 = λ z. test z ≡ true in subst F e is))
      | inr later ↦ (let r = rest later in (inr r.0, r.1))
    ]
kept_by test x y ys false is rest among =
    let r = rest (rw is at among) in
    (inr r.0, r.1)

pub in_kept : (test : ℕ → Bool) (x : ℕ) (xs : List ℕ) → IsIn x (filter test xs) → IsIn x xs × (test x ≡ true)
in_kept test x [] among = absurd among
in_kept test x (y ∷ ys) among = kept_by test x y ys (test y) refl (in_kept test x ys) among

in_world : (x count from : ℕ) → IsIn x (world count from) → x < from + count
in_world x zero from among = absurd among
in_world x (suc count) from among = elim among [
  | inl e ↦ omega (arith, e)
  | inr later ↦ (let low = in_world x count (from + 1) later in omega arith)
]

-- a receive of a run, what stands before it, and a sender that it could have picked
pub record IsOtherOf (n : ℕ) (before : List Event) (receive : Event) (other : OtherPick) : Type 0 where
  pub mate : ℕ
  pub mate_is : receive.mate ≡ Some mate
  pub sender : ℕ
  pub within : sender < n
  pub could : could_pick n before receive mate sender ≡ true
  pub post : is_post receive.call ≡ true
  pub other_is : other_of before receive sender ≡ other

pub others_parts : (n : ℕ) (before : List Event) (receive : Event) (call : Call) (mate : Option ℕ) (other : OtherPick) → receive.call ≡ call → receive.mate ≡ mate
    → IsIn other (others_by n before receive call mate) → IsOtherOf n before receive other
others_parts n before receive (Post comm Any tag room) (Some mate) other call_is mate_is among =
    let listed = in_mapped (other_of before receive) (filter (could_pick n before receive mate) (world n 0)) other among in
    let kept = in_kept (could_pick n before receive mate) listed.0 (world n 0) listed.1 in
    let below : listed.0 < 0 + n = in_world listed.0 n 0 kept.0 in
    record {
      mate = mate;
      mate_is = mate_is;
      sender = listed.0;
      within = omega arith;
      could = kept.1;
      post = ap is_post call_is;
      other_is = listed.2;
    }
others_parts n before receive (Post comm Any tag room) None other call_is mate_is among = absurd among
others_parts n before receive (Post comm (From rank) tag room) mate other call_is mate_is among = absurd among
others_parts n before receive (Post comm Null tag room) mate other call_is mate_is among = absurd among
others_parts n before receive call mate other call_is mate_is among = absurd among

-- where it stands
pub record IsFoundIn (n : ℕ) (before events : List Event) (other : OtherPick) : Type 0 where
  pub front : List Event
  pub receive : Event
  pub after : List Event
  pub whole : events ≡ front ++ receive ∷ after
  pub among : IsIn other (others_at n (before ++ front) receive)

pub found_in : (n : ℕ) (before events : List Event) (other : OtherPick) → IsIn other (others_from n before events) → IsFoundIn n before events other
found_in n before [] other among = absurd among
found_in n before (event ∷ events) other among = elim (in_both other (others_at n before event) (others_from n (before ++ event ∷ []) events) among) [
  | inl here ↦ (
      let F : List Event → Type 0 = λ l. IsIn other (others_at n l event) in
      record { front = []; receive = event; after = events; whole = refl; among = subst F (sym (append-nil before)) here })
  | inr later ↦ (
      let rest = found_in n (before ++ event ∷ []) events other later in
      let F : List Event → Type 0 = λ l. IsIn other (others_at n l rest.receive) in
      record {
        front = event ∷ rest.front;
        receive = rest.receive;
        after = rest.after;
        whole = ap (λ l. event ∷ l) rest.whole;
        among = subst F (append_assoc before (event ∷ []) rest.front) rest.among;
      })
]

-- ---- before a receive that could have picked otherwise nothing has stopped

no_stuck : (reply : Reply) → halt_of_reply reply ≡ None → is_stuck_reply reply ≡ false
no_stuck Done h = refl
no_stuck NotYet h = refl
no_stuck (Took items) h = refl
no_stuck (Peeked source start tag count) h = refl
no_stuck (Stopped halt) h = absurd (cc)

none_first : (one other : Option Halt) → or_else one other ≡ None → (one ≡ None) × (other ≡ None)
none_first None other h = (refl, h)
none_first (Some halt) other h = absurd (cc)

none_stuck : (events : List Event) → halted events ≡ None → has_stuck events ≡ false
none_stuck [] h = refl
none_stuck (event ∷ events) h =
    let parts = none_first (halt_of_reply event.reply) (halted events) h in
    let here = no_stuck event.reply parts.0 in
    let later = none_stuck events parts.1 in
    rw (here, later)

-- where the event of a start with a pick has a mate, that is what was picked
mate_some : (b : Bool) (o : Option ℕ) (at : ℕ) → (if b then o else None) ≡ Some at → o ≡ Some at
mate_some true o at h = h
mate_some false o at h = absurd (cc)

-- another sender's message is another mate
differs : (n : ℕ) (before : List Event) (receive : Event) (mate sender : ℕ) → is_post receive.call ≡ true → receive.mate ≡ Some mate
    → (sender == rank_of_event (slice_get before mate)) ≡ false → (picked_event n before receive.rank receive.call (Sender sender)).mate ≢ receive.mate
differs n before receive mate sender post some apart = λ e.
    let same : (picked_event n before receive.rank receive.call (Sender sender)).mate ≡ Some mate = e ∙ some in
    let chosen : picked_choice before receive.rank receive.call (Sender sender) ≡ Some mate =
    mate_some (is_start (receive.call, picked_reply n before receive.rank receive.call (Sender sender))) (picked_choice before receive.rank receive.call (Sender sender)) mate same in
    let c = choice_some before receive.rank (call_from sender receive.call) mate chosen in
    let wide = widen before receive.rank sender receive.call mate (post_looks receive.call post) c.chosen in
    let owner : sender ≡ rank_of_event (slice_get before mate) = sym wide.1 ∙ owner_is before mate wide.0.name wide.0.there in
    let yes : (sender == rank_of_event (slice_get before mate)) ≡ true = eq-eqb sender (rank_of_event (slice_get before mate)) owner in
    let no : true ≡ false = sym yes ∙ apart in
    cc

not_false : (b : Bool) → not b ≡ true → b ≡ false
not_false true h = absurd (cc)
not_false false h = refl

-- ---- the laws

get_seam : (xs ys : List Event) (x : Event) → slice_get (xs ++ x ∷ ys) (length xs) ≡ Some x
get_seam [] ys x = refl
get_seam (y ∷ xs) ys x = get_seam xs ys x

picked_front : (n : ℕ) (before xs ys : List Event) (picks : List Pick) → ArePicked n before picks (xs ++ ys) → ArePicked n before picks xs
picked_front n before [] ys picks all = tt
picked_front n before (x ∷ xs) ys picks all = (all.0, picked_front n (before ++ x ∷ []) xs ys (later_picks picks) all.1)

is_picked_front : (next : Next) (n : ℕ) (picks : List Pick) (xs ys : List Event) → IsPicked next n picks (xs ++ ys) → IsPicked next n picks xs
is_picked_front next n picks xs ys is = record { run = IsPromptRun-front next n xs ys is.run; along = picked_front n [] xs ys picks is.along }

-- of a run in two parts
taken_at : (next : Next) (n : ℕ) (picks : List Pick) (front after : List Event) (receive : Event) (other : OtherPick) → OtherPickIsTaken next n
    → IsPicked next n picks (front ++ receive ∷ after) → (o : IsOtherOf n front receive other)
    → IsTakenOtherwise next n picks (front ++ receive ∷ after) (other_of front receive o.sender)
taken_at next n picks front after receive other law is o =
    let turn : Turn = record { rank = receive.rank; pick = Sender o.sender } in
    let event = IsPromptRun-event next n front after receive is.run in
    let parts = and_parts (not (o.sender == rank_of_event (slice_get front o.mate))) (has_pick n front receive.rank receive.call (Sender o.sender)) o.could in
    let there = pick_there n front receive.rank receive.call (Sender o.sender) (λ e. cc) parts.1 in
    let free : has_stuck front ≡ false =
    none_stuck front (none_first (halted front) (if is_full front then Some Limit else halt_at n front receive.rank (view_of front receive.rank) receive.call) there.none).0 in
    let seam : take (length front) (front ++ receive ∷ after) ≡ front = take-append_seam front (receive ∷ after) in
    let B : List Event → Type 0 = λ l. (events : List Event) → IsRunByTurns next n (turns_of (order_of l) picks ++ turn ∷ []) events
    → IsPrefixOf (l ++ picked_event n l receive.rank receive.call (Sender o.sender) ∷ []) events in
    let D : List Event → Type 0 = λ l. (picked_event n l receive.rank receive.call (Sender o.sender)).mate ≢ receive.mate in
    record {
      receive = receive;
      there = get_seam front after receive;
      rank = refl;
      differs = subst D (sym seam) (differs n front receive o.mate o.sender o.post o.mate_is (not_false (o.sender == rank_of_event (slice_get front o.mate)) parts.0));
      begins = subst B (sym seam) (λ events taken.
          law picks front events receive.rank o.sender receive.call (is_picked_front next n picks front (receive ∷ after) is) free event.call parts.1 taken);
    }

pub others_taken : (next : Next) (n : ℕ) → OtherPickIsTaken next n → OthersAreTaken next n
others_taken next n law picks run is other among =
    let f = found_in n [] run other among in
    let o = others_parts n f.front f.receive f.receive.call f.receive.mate other refl refl f.among in
    let R : List Event → Type 0 = λ l. IsPicked next n picks l in
    let T : List Event → Type 0 = λ l. IsTakenOtherwise next n picks l (other_of f.front f.receive o.sender) in
    let S : OtherPick → Type 0 = λ x. IsTakenOtherwise next n picks run x in
    subst S o.other_is (subst T (sym f.whole) (taken_at next n picks f.front f.after f.receive other law (subst R f.whole is) o))

all_last : {A : Type 0} (P : A → Type 0) (xs : List A) (x : A) → AllByRecursion P xs → P x → AllByRecursion P (xs ++ x ∷ [])
all_last P [] x all last = (last, tt)
all_last P (y ∷ xs) x all last = (all.0, all_last P xs x all.1 last)

turns_at : (next : Next) (n : ℕ) (picks : List Pick) (front after : List Event) (receive : Event) (other : OtherPick) → PicksAreTurns next n
    → IsPicked next n picks (front ++ receive ∷ after) → (o : IsOtherOf n front receive other)
    → AllByRecursion (IsTurnOf n) (turns_to (front ++ receive ∷ after) picks (other_of front receive o.sender))
turns_at next n picks front after receive other law is o =
    let turn : Turn = record { rank = receive.rank; pick = Sender o.sender } in
    let event = IsPromptRun-event next n front after receive is.run in
    let seam : take (length front) (front ++ receive ∷ after) ≡ front = take-append_seam front (receive ∷ after) in
    let A : List Event → Type 0 = λ l. AllByRecursion (IsTurnOf n) (turns_of (order_of l) picks ++ turn ∷ []) in
    subst A (sym seam)
    (all_last (IsTurnOf n) (turns_of (order_of front) picks) turn (law picks front (is_picked_front next n picks front (receive ∷ after) is)) (event.rank, o.within))

pub others_turns : (next : Next) (n : ℕ) → PicksAreTurns next n → OthersAreTurns next n
others_turns next n law picks run is other among =
    let f = found_in n [] run other among in
    let o = others_parts n f.front f.receive f.receive.call f.receive.mate other refl refl f.among in
    let R : List Event → Type 0 = λ l. IsPicked next n picks l in
    let T : List Event → Type 0 = λ l. AllByRecursion (IsTurnOf n) (turns_to l picks (other_of f.front f.receive o.sender)) in
    let S : OtherPick → Type 0 = λ x. AllByRecursion (IsTurnOf n) (turns_to run picks x) in
    subst S o.other_is (subst T (sym f.whole) (turns_at next n picks f.front f.after f.receive other law (subst R f.whole is) o))

-- What was tried of several picks, and of several ranks, taken together.
use Rattle.std.proofs.Common.{◌≡◌, ◌≢◌, ◌<◌, ◌+◌, ◌∙◌, ◌||◌, ◌⊎◌, Bool, ℕ, List, Option, Some, None, arith, false, true, inl, inr, refl, ap, sym, subst}
use Rattle.std.proofs.lemmas.Bool.{cases_lt}
use Rattle.mpi_call.specs.declared.call.Call.{Call}
use Rattle.mpi_call.specs.declared.call.Halt.{Halt}
use Rattle.mpi_call.specs.declared.call.Halt.TheVariants.{Stuck}
use Rattle.mpi_call.specs.declared.reply.Reply.TheVariants.{Stopped}
use Rattle.run_model.specs.declared.event.Event.{Event}
use Rattle.run_model.specs.Allowed.{IsStuck, can_go}
use Rattle.run_model.specs.Due.{halt_of_reply}
use Rattle.run_model.specs.Run.{IsPromptRun}
use Rattle.run_model.specs.Serial.{call_after, next_can_go}
use Rattle.run_model.specs.Views.{Next, moment_at, view_of}
use Rattle.run_model.proofs.ChosenLaws.{cannot_go}
use Rattle.run_model.proofs.Views.{test_cases}
use Rattle.picked_runs.specs.declared.turn.Pick.{Pick}
use Rattle.picked_runs.specs.declared.turn.Pick.TheVariants.{First, Sender, Index}
use Rattle.picked_runs.specs.declared.turn.Turn.{Turn}
use Rattle.picked_runs.specs.Picks.{has_pick, picked_event, picked_reply}
use Rattle.picked_runs.proofs.Allowing.{founded, picked_allowed}
use Rattle.srr_entry.specs.Outputs.{Output}
use Rattle.run_states.specs.Moves.{IsHalting, IsMove, IsPickSettled}
use Rattle.run_states.specs.Outcomes.{IsProbeKept, halted_outcome}
use Rattle.explore.specs.declared.met.Met.{Met}
use Rattle.explore.specs.Explored.{IsListed}
use Rattle.explore.specs.Searching.{StaysMet, HasTried, HasTriedPicks, HasTriedRanks, IsAnyPick, IsFollowed, IsUnanswered, question_of, seen_by}
use Rattle.explore.proofs.Trying.{followed_longer, listed_longer}

-- 1. a call that cannot go is answered by Stuck. (Of a program whose ranks make no calls, no call can go.)

abbrev no_calls : Next
no_calls n rank replies = None

pub held_reply : (next : Next) (n : ℕ) (before : List Event) (rank : ℕ) (call : Call) (pick : Pick) → IsPromptRun next n before
    → has_pick n before rank call pick ≡ true → can_go n before rank (view_of before rank) call ≡ false
    → picked_reply n before rank call pick ≡ Stopped Stuck
held_reply next n before rank call pick run offered held =
    let f = founded next n before run in
    let none : IsStuck no_calls n before = λ other asked below h. (let no : None ≡ Some asked = h in absurd (cc)) in
    cannot_go no_calls n before rank call (picked_reply n before rank call pick) held (picked_allowed no_calls n before rank call pick f.matched f.below (inr none) offered)

pub pick_cases : (pick : Pick) → (pick ≡ First) ⊎ (pick ≢ First)
pick_cases First = inl refl
pick_cases (Sender sender) = inr (λ h. (let no : Sender sender ≡ First = h in cc))
pick_cases (Index index) = inr (λ h. (let no : Index index ≡ First = h in cc))

pub same_call : (o : Option Call) (one other : Call) → o ≡ Some one → o ≡ Some other → one ≡ other
same_call o one other a b = (let both : Some one ≡ Some other = sym a ∙ b in cc)

not_both : (b : Bool) → b ≡ true → b ≡ false → ⊥
not_both b t f = (let no : true ≡ false = sym t ∙ f in cc)

-- 2. one turn

abbrev pub IsPick : Pick → Pick → Type 0
IsPick one pick = one ≡ pick

pub one_tried : (next : Next) (output : Output) (n polls : ℕ) (met : Met) (before : List Event) (turn : Turn) → IsPromptRun next n before → turn.rank < n
    → HasTried (question_of next output n polls) met before turn → HasTriedPicks (question_of next output n polls) met before turn.rank (IsPick turn.pick) true
one_tried next output n polls met before turn run below tried =
    let rank : ℕ = turn.rank in
    record {
      moves = λ call pick here move kept. (
          let same : tried.call ≡ call = same_call (call_after next n before rank) tried.call call tried.asked move.asked in
          let F : Call → Pick → Type 0 = λ c p. halt_of_reply (picked_reply n before rank c p) ≡ None → IsProbeKept before (picked_event n before rank c p)
          → IsFollowed next n polls (seen_by met) before (picked_event n before rank c p) in
          subst (λ p. F call p) here (subst (λ c. F c turn.pick) same tried.moves) move.free kept);
      halts = λ call pick halt here halting next_can_go. (
          let same : tried.call ≡ call = same_call (call_after next n before rank) tried.call call tried.asked halting.asked in
          let F : Call → Pick → Type 0 = λ c p. (other : Halt) → picked_reply n before rank c p ≡ Stopped other → IsListed met.found (halted_outcome next output n before other) in
          subst (λ p. F call p) here (subst (λ c. F c turn.pick) same tried.halts) halt halting.halts);
      absent = λ made call pick here asked apart. (let no : true ≡ false = made in absurd (cc));
      held = λ made call here asked. (let no : true ≡ false = made in absurd (cc));
      some = λ made. (tried.call, turn.pick, refl, tried.asked, tried.offered);
      stuck = λ made stuck. tried.halts Stuck (held_reply next n before rank tried.call turn.pick run tried.offered (stuck rank tried.call below tried.asked));
    }

pub one_not : (next : Next) (output : Output) (n polls : ℕ) (met : Met) (before : List Event) (turn : Turn) → IsPromptRun next n before
    → IsUnanswered next n before turn → HasTriedPicks (question_of next output n polls) met before turn.rank (IsPick turn.pick) false
one_not next output n polls met before turn run not =
    let rank : ℕ = turn.rank in
    record {
      moves = λ call pick here move kept. (elim (pick_cases turn.pick) [
        | inl first ↦ (
            let P : Pick → Type 0 = λ p. picked_reply n before rank call p ≡ Stopped Stuck in
            let reply : picked_reply n before rank call First ≡ Stopped Stuck = held_reply next n before rank call First run refl (not.held call move.asked first) in
            let stopped : picked_reply n before rank call pick ≡ Stopped Stuck = subst P (sym first ∙ here) reply in
            let no : None ≡ Some Stuck = sym move.free ∙ ap halt_of_reply stopped in
            absurd (cc))
        | inr apart ↦ (
            let P : Pick → Type 0 = λ p. has_pick n before rank call p ≡ false in
            absurd (not_both (has_pick n before rank call pick) move.offered (subst P here (not.absent call move.asked apart))))
      ]);
      halts = λ call pick halt here halting next_can_go. (elim (pick_cases turn.pick) [
        | inl first ↦ absurd (not_both (can_go n before rank (view_of before rank) call) (next_can_go (sym here ∙ first)) (not.held call halting.asked first))
        | inr apart ↦ (
            let P : Pick → Type 0 = λ p. has_pick n before rank call p ≡ false in
            absurd (not_both (has_pick n before rank call pick) halting.offered (subst P here (not.absent call halting.asked apart))))
      ]);
      absent = λ made call pick here asked apart. (
          let P : Pick → Type 0 = λ p. has_pick n before rank call p ≡ false in
          subst P here (not.absent call asked (λ first. apart (sym here ∙ first))));
      held = λ made call here asked. not.held call asked here;
      some = λ made. (let no : false ≡ true = made in absurd (cc));
      stuck = λ made stuck. (let no : false ≡ true = made in absurd (cc));
    }

-- 3. several picks

pub picks_none : (next : Next) (output : Output) (n polls : ℕ) (met : Met) (before : List Event) (rank : ℕ) (IsOne : Pick → Type 0) → ((pick : Pick) → IsOne pick → ⊥)
    → HasTriedPicks (question_of next output n polls) met before rank IsOne false
picks_none next output n polls met before rank IsOne none =
    record {
      moves = λ call pick here move kept. absurd (none pick here);
      halts = λ call pick halt here halting next_can_go. absurd (none pick here);
      absent = λ made call pick here asked apart. absurd (none pick here);
      held = λ made call here asked. absurd (none First here);
      some = λ made. (let no : false ≡ true = made in absurd (cc));
      stuck = λ made stuck. (let no : false ≡ true = made in absurd (cc));
    }

or_false : (a b : Bool) → (a || b) ≡ false → (a ≡ false) × (b ≡ false)
or_false true b h = absurd (cc)
or_false false b h = (refl, h)

or_true : (a b : Bool) → (a || b) ≡ true → (a ≡ true) ⊎ (b ≡ true)
or_true true b h = inl refl
or_true false b h = inr h

-- which picks two sets make together
pub record AreBoth (One Two Both : Pick → Type 0) : Type 0 where
  pub parts : (pick : Pick) → Both pick → One pick ⊎ Two pick
  pub first : (pick : Pick) → One pick → Both pick
  pub second : (pick : Pick) → Two pick → Both pick

pub picks_both : (next : Next) (output : Output) (n polls : ℕ) (met met' : Met) (before : List Event) (rank : ℕ) (One Two Both : Pick → Type 0) (a b : Bool)
    → AreBoth One Two Both → StaysMet met.states met'.states met.found met'.found met.polled met'.polled
    → HasTriedPicks (question_of next output n polls) met before rank One a → HasTriedPicks (question_of next output n polls) met' before rank Two b
    → HasTriedPicks (question_of next output n polls) met' before rank Both (a || b)
picks_both next output n polls met met' before rank One Two Both a b are grows one two =
    record {
      moves = λ call pick here move kept. (elim (are.parts pick here) [
        | inl l ↦ followed_longer next n polls met.states met'.states met.found met'.found met.polled met'.polled before (picked_event n before rank call pick) grows (one.moves call pick l move kept)
        | inr r ↦ two.moves call pick r move kept
      ]);
      halts = λ call pick halt here halting next_can_go. (elim (are.parts pick here) [
        | inl l ↦ listed_longer met.found met'.found (halted_outcome next output n before halt) grows.listed_stay (one.halts call pick halt l halting next_can_go)
        | inr r ↦ two.halts call pick halt r halting next_can_go
      ]);
      absent = λ made call pick here asked apart. (
          let no = or_false a b made in
          elim (are.parts pick here) [
            | inl l ↦ one.absent no.0 call pick l asked apart
            | inr r ↦ two.absent no.1 call pick r asked apart
          ]);
      held = λ made call here asked. (
          let no = or_false a b made in
          elim (are.parts First here) [
            | inl l ↦ one.held no.0 call l asked
            | inr r ↦ two.held no.1 call r asked
          ]);
      some = λ made. (elim (or_true a b made) [
        | inl l ↦ (let s = one.some l in (s.0, s.1, are.first s.1 s.2, s.3, s.4))
        | inr r ↦ (let s = two.some r in (s.0, s.1, are.second s.1 s.2, s.3, s.4))
      ]);
      stuck = λ made stuck. (elim (or_true a b made) [
        | inl l ↦ listed_longer met.found met'.found (halted_outcome next output n before Stuck) grows.listed_stay (one.stuck l stuck)
        | inr r ↦ two.stuck r stuck
      ]);
    }

-- 4. all picks of a rank: those that can be made were among these

settled_apart : (n : ℕ) (before : List Event) (rank : ℕ) (call : Call) (pick : Pick) → pick ≢ First → IsPickSettled n before rank call pick
settled_apart n before rank call First apart = absurd (apart refl)
settled_apart n before rank call (Sender sender) apart = tt
settled_apart n before rank call (Index index) apart = tt

pub picks_all : (next : Next) (output : Output) (n polls : ℕ) (met : Met) (before : List Event) (rank : ℕ) (call : Call) (IsOne : Pick → Type 0) (made : Bool)
    → call_after next n before rank ≡ Some call
    → ((pick : Pick) → has_pick n before rank call pick ≡ true → IsPickSettled n before rank call pick → IsOne pick)
    → (made ≡ false → IsOne First)
    → HasTriedPicks (question_of next output n polls) met before rank IsOne made → HasTriedPicks (question_of next output n polls) met before rank IsAnyPick made
picks_all next output n polls met before rank call IsOne made asked cover first tried =
    let same : (other : Call) → call_after next n before rank ≡ Some other → call ≡ other = λ other h. same_call (call_after next n before rank) call other asked h in
    let C : Call → Type 0 = λ c. (pick : Pick) → has_pick n before rank c pick ≡ true → IsPickSettled n before rank c pick → IsOne pick in
    let covers : (other : Call) → call_after next n before rank ≡ Some other → C other = λ other h. subst C (same other h) cover in
    record {
      moves = λ other pick here move kept. tried.moves other pick (covers other move.asked pick move.offered move.settled) move kept;
      halts = λ other pick halt here halting next_can_go. tried.halts other pick halt (covers other halting.asked pick halting.offered halting.settled) halting next_can_go;
      absent = λ no other pick here h apart. (elim (test_cases (has_pick n before rank other pick)) [
        | inl t ↦ tried.absent no other pick (covers other h pick t (settled_apart n before rank other pick apart)) h apart
        | inr f ↦ f
      ]);
      held = λ no other here h. tried.held no other (first no) h;
      some = λ yes. (let s = tried.some yes in (s.0, s.1, tt, s.3, s.4));
      stuck = tried.stuck;
    }

pub picks_ended : (next : Next) (output : Output) (n polls : ℕ) (met : Met) (before : List Event) (rank : ℕ) → call_after next n before rank ≡ None
    → HasTriedPicks (question_of next output n polls) met before rank IsAnyPick false
picks_ended next output n polls met before rank none =
    let never : (call : Call) → call_after next n before rank ≡ Some call → ⊥ = λ call h. (let no : None ≡ Some call = sym none ∙ h in cc) in
    record {
      moves = λ call pick here move kept. absurd (never call move.asked);
      halts = λ call pick halt here halting next_can_go. absurd (never call halting.asked);
      absent = λ made call pick here asked apart. absurd (never call asked);
      held = λ made call here asked. absurd (never call asked);
      some = λ made. (let no : false ≡ true = made in absurd (cc));
      stuck = λ made stuck. (let no : false ≡ true = made in absurd (cc));
    }

-- 5. ranks

pub ranks_none : (next : Next) (output : Output) (n polls : ℕ) (met : Met) (before : List Event) → HasTriedRanks (question_of next output n polls) met before 0 false
ranks_none next output n polls met before =
    record {
      moves = λ rank call pick below move kept. absurd (omega (arith, below));
      halts = λ rank call pick halt below halting next_can_go. absurd (omega (arith, below));
      idle = λ made rank below. absurd (omega (arith, below));
      some = λ made. (let no : false ≡ true = made in absurd (cc));
      stuck = λ made stuck. (let no : false ≡ true = made in absurd (cc));
    }

pub last_below : (rank low : ℕ) → rank < low + 1 → (rank < low) ⊎ (low ≡ rank)
last_below rank low h =
    elim (cases_lt rank low) [
      | inl less ↦ inl less
      | inr above ↦ inr (omega (arith, h, above))
    ]

idle_by : (n : ℕ) (before : List Event) (rank : ℕ) (asked : Option Call)
    → ((call : Call) → asked ≡ Some call → can_go n before rank (view_of before rank) call ≡ false) → next_can_go n before rank asked ≡ false
idle_by n before rank None h = refl
idle_by n before rank (Some call) h = h call refl

pub ranks_more : (next : Next) (output : Output) (n polls : ℕ) (met met' : Met) (before : List Event) (low : ℕ) (a b : Bool) → low < n
    → StaysMet met.states met'.states met.found met'.found met.polled met'.polled
    → HasTriedRanks (question_of next output n polls) met before low a → HasTriedPicks (question_of next output n polls) met' before low IsAnyPick b
    → HasTriedRanks (question_of next output n polls) met' before (low + 1) (a || b)
ranks_more next output n polls met met' before low a b within grows one two =
    record {
      moves = λ rank call pick below move kept. (elim (last_below rank low below) [
        | inl less ↦ followed_longer next n polls met.states met'.states met.found met'.found met.polled met'.polled before (picked_event n before rank call pick) grows (one.moves rank call pick less move kept)
        | inr same ↦ (
            let F : ℕ → Type 0 = λ r. IsMove next n before r call pick → IsProbeKept before (picked_event n before r call pick)
            → IsFollowed next n polls (seen_by met') before (picked_event n before r call pick) in
            subst F same (λ m k. two.moves call pick tt m k) move kept)
      ]);
      halts = λ rank call pick halt below halting free. (elim (last_below rank low below) [
        | inl less ↦ listed_longer met.found met'.found (halted_outcome next output n before halt) grows.listed_stay (one.halts rank call pick halt less halting free)
        | inr same ↦ (
            let F : ℕ → Type 0 = λ r. IsHalting next (moment_at n before r) call pick halt → (pick ≡ First → can_go n before r (view_of before r) call ≡ true)
            → IsListed met'.found (halted_outcome next output n before halt) in
            subst F same (λ h g. two.halts call pick halt tt h g) halting free)
      ]);
      idle = λ made rank below. (
          let no = or_false a b made in
          elim (last_below rank low below) [
            | inl less ↦ one.idle no.0 rank less
            | inr same ↦ (
                let F : ℕ → Type 0 = λ r. next_can_go n before r (call_after next n before r) ≡ false in
                subst F same (idle_by n before low (call_after next n before low) (λ call asked. two.held no.1 call tt asked)))
          ]);
      some = λ made. (elim (or_true a b made) [
        | inl l ↦ one.some l
        | inr r ↦ (let s = two.some r in (low, s.0, within, s.3))
      ]);
      stuck = λ made stuck. (elim (or_true a b made) [
        | inl l ↦ listed_longer met.found met'.found (halted_outcome next output n before Stuck) grows.listed_stay (one.stuck l stuck)
        | inr r ↦ two.stuck r stuck
      ]);
    }

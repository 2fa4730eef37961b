-- What a whole replay is beside each run with its log.
use Rattle.std.proofs.Common.{◌<◌, ◌==◌, ◌∙◌, ◌∷◌, ◌≡◌, List, None, Option, Some, [], ap, ap₂, arith, get_or, inl, inr, length, map, refl, suc, sym, true, zero, ℕ}
use Rattle.std.proofs.lemmas.Bool.{eq-eqb, eqb-true, or_left, or_right}
use Rattle.std.proofs.lemmas.Option.{same_Some}
use Rattle.std.specs.List.{Contains, slice_index_or}
use Rattle.mpi_call.specs.declared.reply.Reply.{Reply}
use Rattle.mpi_call.specs.Collectives.{agree, is_member}
use Rattle.run_model.specs.declared.event.Event.{Event}
use Rattle.run_model.specs.declared.lists.Variable.{Variable}
use Rattle.run_model.specs.Program.{ends}
use Rattle.run_model.specs.Views.{Next}
use Rattle.run_model.proofs.Views.{test_cases}
use Rattle.srr_entry.specs.declared.log.Log.{Log}
use Rattle.replay_model.specs.declared.replayed.Replayed.{Replayed}
use Rattle.replay_model.specs.declared.replayed.Stand.{Stand}
use Rattle.replay_model.specs.declared.replayed.Stand.TheVariants.{AtBreak as StandAtBreak, Starved}
use Rattle.replay_model.specs.Laws.{BeginsRun, EachStand, HasAllOf, HasNotDiverged, HasTheCut, IsStandAtEnd, IsReplayOfRun, StarvesBehindABreak}
use Rattle.replay_model.specs.Replays.{IsWholeReplay, Breakpoint}
use Rattle.replay_model.specs.Stands.{IsReplayed, stand_of}
use Rattle.srr_entry.specs.Outputs.{Output, printed_of}

-- what holds of each stand of the group holds of the list of them
all_stands : (P : Stand → Type 0) (f : ℕ → Option Stand) (group : List ℕ) (ends : List Stand) → map Some ends ≡ map f group
    → ((rank : ℕ) (stand : Stand) → is_member group rank ≡ true → f rank ≡ Some stand → P stand) → (k : ℕ) (d : Stand)
    → k < length ends → P (get_or ends k d)
all_stands P f group [] same each k d below = absurd (omega arith)
all_stands P f [] (stand ∷ ends) same each k d below = absurd (cc)
all_stands P f (rank ∷ group) (stand ∷ ends) same each zero d below =
    let here : Some stand ≡ f rank = cc in
    each rank stand (or_left (rank == rank) (is_member group rank) (eq-eqb rank rank refl)) (sym here)
all_stands P f (rank ∷ group) (stand ∷ ends) same each (suc k) d below =
    let rest : map Some ends ≡ map f group = cc in
    all_stands P f group ends rest (λ r s member at. each r s (or_right (rank == r) (is_member group r) member) at) k d (omega arith)

-- a stand in the list is that of some rank of the group, and the stand of each rank is in the list
rank_of_stand : (f : ℕ → Option Stand) (group : List ℕ) (ends : List Stand) (stand : Stand) (k : ℕ) → map Some ends ≡ map f group
    → k < length ends → slice_index_or ends k stand ≡ stand → (rank : ℕ) × (is_member group rank ≡ true) × (f rank ≡ Some stand)
rank_of_stand f group [] stand k same below at = absurd (omega arith)
rank_of_stand f [] (other ∷ ends) stand k same below at = absurd (cc)
rank_of_stand f (rank ∷ group) (other ∷ ends) stand zero same below at =
    let here : Some other ≡ f rank = cc in
    (rank, or_left (rank == rank) (is_member group rank) (eq-eqb rank rank refl), sym here ∙ ap (λ x. Some x) at)
rank_of_stand f (rank ∷ group) (other ∷ ends) stand (suc k) same below at =
    let rest : map Some ends ≡ map f group = cc in
    let found = rank_of_stand f group ends stand k rest (omega arith) at in
    (found.0, or_right (rank == found.0) (is_member group found.0) found.1, found.2)

stand_of_rank : (f : ℕ → Option Stand) (group : List ℕ) (ends : List Stand) (stand : Stand) (rank : ℕ)
    → map Some ends ≡ map f group → is_member group rank ≡ true → f rank ≡ Some stand → Contains ends stand
stand_of_rank f [] ends stand rank same member at = absurd (cc)
stand_of_rank f (r ∷ group) [] stand rank same member at = absurd (cc)
stand_of_rank f (r ∷ group) (other ∷ ends) stand rank same member at =
    let here : Some other ≡ f r = cc in
    let rest : map Some ends ≡ map f group = cc in
    elim (test_cases (r == rank)) [
      | inl t ↦ (
          let of_rank : Some other ≡ Some stand = here ∙ (ap f (eqb-true r rank t) ∙ at) in
          let first : other ≡ stand = same_Some other stand of_rank in
          (0, omega arith, first))
      | inr t ↦ (
          let found = stand_of_rank f group ends stand rank rest (rw t at member) at in
          (suc found.0, omega (arith, found.1), found.2))
    ]

same_outputs : (f g : ℕ → List ℕ) (group : List ℕ) → ((rank : ℕ) → is_member group rank ≡ true → f rank ≡ g rank)
    → map f group ≡ map g group
same_outputs f g [] each = refl
same_outputs f g (rank ∷ group) each =
    let first = each rank (or_left (rank == rank) (is_member group rank) (eq-eqb rank rank refl)) in
    let rest = same_outputs f g group (λ r member. each r (or_right (rank == r) (is_member group r) member)) in
    ap₂ (λ x xs. x ∷ xs) first rest

pub IsWholeReplay-replayed : (next : Next) (output : Output) (variables : ℕ → ℕ → List Reply → List Variable) (log : Log) (stop : Breakpoint) (replayed : Replayed)
    → IsReplayed next output variables log stop replayed → IsWholeReplay next log stop replayed.events.events
IsWholeReplay-replayed next output variables log stop replayed is = record { replays = is.replays; exhausted = is.exhausted }

pub IsReplayOfRun-laws : (next : Next) (output : Output) (variables : ℕ → ℕ → List Reply → List Variable) (log : Log) (stop : Breakpoint) (run : List Event) (replayed : Replayed)
    → IsReplayed next output variables log stop replayed
    → BeginsRun output log replayed.events.events run
    → EachStand HasNotDiverged next variables log stop replayed.events.events
    → HasTheCut log stop replayed.events.events run
    → StarvesBehindABreak next variables log stop replayed.events.events
    → (stop ≡ None → HasAllOf output log replayed.events.events run)
    → (stop ≡ None → EachStand IsStandAtEnd next variables log stop replayed.events.events)
    → IsReplayOfRun output log stop run replayed
IsReplayOfRun-laws next output variables log stop run replayed is begins agree cut behind whole done =
    let stands : ℕ → Option Stand = stand_of next variables log stop replayed.events.events in
    record {
      begins = begins;
      cut = cut;
      agrees = all_stands HasNotDiverged stands log.group replayed.ends is.ends agree;
      starved = λ missing there. (
          let rank = rank_of_stand stands log.group replayed.ends (Starved missing) there.0 is.ends there.1 there.2 in
          let break = behind rank.0 missing rank.1 rank.2 in
          (break.1, stand_of_rank stands log.group replayed.ends (StandAtBreak break.1) break.0 is.ends break.2 break.3));
      views = λ stopless. (whole stopless).views;
      outputs = λ stopless. is.outputs ∙ same_outputs (printed_of output log.ranks replayed.events.events) (printed_of output log.ranks run) log.group (whole stopless).outputs;
      ends = λ stopless. all_stands IsStandAtEnd stands log.group replayed.ends is.ends (done stopless);
    }

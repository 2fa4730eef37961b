-- Two ranks that end at once: a search that follows the end of the lower one alone has met three histories, and not that in which the other ends first.
use Rattle.std.proofs.Common.{◌≡◌, ◌≢◌, ◌<◌, ◌∙◌, ◌++◌, ◌∷◌, ℕ, zero, suc, List, [], Some, None, true, inl, inr, length, refl, sym, slice_get, subst, arith}
use Rattle.std.specs.List.{list_any}
use Rattle.mpi_call.specs.declared.call.Call.{Call}
use Rattle.mpi_call.specs.declared.call.Call.TheVariants.{End}
use Rattle.mpi_call.specs.declared.reply.Reply.{Reply}
use Rattle.mpi_call.specs.declared.reply.Reply.TheVariants.{Done, Stopped}
use Rattle.mpi_call.specs.Lists.{IsIn}
use Rattle.run_model.specs.declared.event.Event.{Event}
use Rattle.run_model.specs.Program.{EndsExactly, EntersInForm, IsInForm, ends}
use Rattle.run_model.specs.Shape.{has_shape}
use Rattle.run_model.specs.Views.{Next, View, view_of}
use Rattle.run_model.proofs.RunLaws.{Lawful}
use Rattle.picked_runs.specs.declared.turn.Pick.TheVariants.{First}
use Rattle.picked_runs.specs.Picks.{picked_event}
use Rattle.run_states.specs.Futures.{SameFuture}
use Rattle.run_states.specs.Moves.{IsVisited}
use Rattle.run_states.specs.Outcomes.{IsProbeKept}
use Rattle.quiet_calls.specs.Closure.{AreClosedQuietly, AreMovesMet, IsOnItsWay, IsQuietCallMet, any_race, met_histories}
use Rattle.quiet_calls.proofs.Runs.{IsGood}
use Rattle.quiet_calls.proofs.Commuting.{first_run}

abbrev ends_at_once : Next
ends_at_once n rank replies = slice_get (End ∷ []) (length replies)

abbrev one_ended : List Event
one_ended = picked_event 2 [] 0 End First ∷ []

abbrev both_ended : List Event
both_ended = one_ended ++ picked_event 2 one_ended 1 End First ∷ []

abbrev three : List (List Event)
three = [] ∷ one_ended ∷ both_ended ∷ []

-- 1. the program keeps its laws

ends_by : (n rank : ℕ) (call : Call) (reply : Reply) → Some End ≡ Some call → has_shape n rank [] call reply ≡ true → list_any ends ((call, reply) ∷ []) ≡ true
ends_by n rank End Done asked shaped = refl
ends_by n rank call (Stopped halt) asked shaped = refl
ends_by n rank End reply asked shaped = absurd (cc)
ends_by n rank call reply asked shaped = absurd (cc)

ends_exactly : EndsExactly ends_at_once
ends_exactly n rank [] is seen = (λ none. absurd (cc), λ some. absurd (cc))
ends_exactly n rank ((call, reply) ∷ []) is seen = (λ none. ends_by n rank call reply seen.0.asked seen.0.shaped, λ some. refl)
ends_exactly n rank (one ∷ other ∷ view) is seen = (let no : None ≡ Some other.0 = seen.1.0.asked in absurd (cc))

enters_in_form : EntersInForm ends_at_once
enters_in_form n rank [] call is seen asked =
    let asks : Some End ≡ Some call = asked in
    let same : End ≡ call = cc in
    let F : Call → Type 0 = λ c. IsInForm n rank [] c in
    subst F same tt
enters_in_form n rank (one ∷ view) call is seen asked = (let no : None ≡ Some call = asked in absurd (cc))

lawful : Lawful ends_at_once
lawful = record { ends = ends_exactly; enters = enters_in_form }

-- 2. the histories are on their way

none_good : IsGood ends_at_once 2 []
none_good = record { run = record { some = omega arith; few = omega arith; along = tt }; numbered = tt }

one_good : IsGood ends_at_once 2 one_ended
one_good =
    first_run ends_at_once 2 lawful [] 0 End none_good (record { below = omega arith; asked = refl; answered = record { kind = refl; free = refl; ready = λ vain. absurd (cc) } })

both_good : IsGood ends_at_once 2 both_ended
both_good =
    first_run ends_at_once 2 lawful one_ended 1 End one_good
    (record { below = omega arith; asked = refl; answered = record { kind = refl; free = refl; ready = λ vain. absurd (cc) } })

-- an end is no receive
end_probe : (before : List Event) (rank : ℕ) → IsProbeKept before (picked_event 2 before rank End First)
end_probe before rank earlier comm source tag wait room sender start sent count seen posted done = absurd (cc)

none_way : IsOnItsWay ends_at_once 2 []
none_way = record { run = none_good.run; numbered = tt; probes = tt; free = refl; below = record { count = omega arith; size = omega arith } }

one_way : IsOnItsWay ends_at_once 2 one_ended
one_way =
    record {
      run = one_good.run;
      numbered = one_good.numbered;
      probes = (end_probe [] 0, tt);
      free = refl;
      below = record { count = omega arith; size = omega arith };
    }

both_way : IsOnItsWay ends_at_once 2 both_ended
both_way =
    record {
      run = both_good.run;
      numbered = both_good.numbered;
      probes = (end_probe [] 0, (end_probe one_ended 1, tt));
      free = refl;
      below = record { count = omega arith; size = omega arith };
    }

-- 3. they are closed

itself : (events : List Event) → SameFuture 2 events events
itself events = record { views = λ rank. refl; pairs = λ name. refl; made = refl }

lower_first : IsQuietCallMet ends_at_once 2 any_race three []
lower_first =
    record {
      rank = 0;
      call = End;
      quiet = record {
        kind = refl;
        below = omega arith;
        asked = refl;
        free = refl;
        ready = λ vain. absurd (cc);
        probe = end_probe [] 0;
      };
      met = (one_ended, inr (inl refl), itself one_ended);
    }

other_next : IsQuietCallMet ends_at_once 2 any_race three one_ended
other_next =
    record {
      rank = 1;
      call = End;
      quiet = record {
        kind = refl;
        below = omega arith;
        asked = refl;
        free = refl;
        ready = λ vain. absurd (cc);
        probe = end_probe one_ended 1;
      };
      met = (both_ended, inr (inr (inl refl)), itself both_ended);
    }

none_left : AreMovesMet ends_at_once 2 IsProbeKept three both_ended
none_left zero call pick move kept = (let no : None ≡ Some call = move.asked in absurd (cc))
none_left (suc zero) call pick move kept = (let no : None ≡ Some call = move.asked in absurd (cc))
none_left (suc (suc rank)) call pick move kept = (let below : suc (suc rank) < 2 = move.below in absurd (omega (arith, below)))

closed : AreClosedQuietly ends_at_once 2 any_race [] IsProbeKept (met_histories (both_ended ∷ []) three)
closed =
    record {
      first = ([], inl refl, itself []);
      runs = λ before there. (let W : List Event → Type 0 = λ l. IsOnItsWay ends_at_once 2 l in elim there [
        | inl same ↦ subst W same none_way
        | inr later ↦ elim later [
          | inl same ↦ subst W same one_way
          | inr last ↦ elim last [
            | inl same ↦ subst W same both_way
            | inr none ↦ absurd none
          ]
        ]
      ]);
      more = λ before there. (
          let Q : List Event → Type 0 = λ l. IsQuietCallMet ends_at_once 2 any_race three l in
          let M : List Event → Type 0 = λ l. AreMovesMet ends_at_once 2 IsProbeKept three l in
          elim there [
            | inl same ↦ inr (subst Q same lower_first)
            | inr later ↦ elim later [
              | inl same ↦ inr (subst Q same other_next)
              | inr last ↦ elim last [
                | inl same ↦ inl (inl same, subst M same none_left)
                | inr none ↦ absurd none
              ]
            ]
          ]);
    }

-- 4. that the other rank ends first is not met

never : (one : List Event) → view_of one 0 ≡ [] → view_of one 1 ≢ [] → IsIn one three → ⊥
never one idle ended there =
    let N : List Event → Type 0 = λ l. view_of l 0 ≡ [] → view_of l 1 ≢ [] → ⊥ in
    let first : N [] = λ none some. some refl in
    let own : View = (End, Done) ∷ [] in
    let second : N one_ended = λ none some. (let no : own ≡ [] = none in cc) in
    let third : N both_ended = λ none some. (let no : own ≡ [] = none in cc) in
    elim there [
      | inl same ↦ subst N same first idle ended
      | inr later ↦ elim later [
        | inl same ↦ subst N same second idle ended
        | inr last ↦ elim last [
          | inl same ↦ subst N same third idle ended
          | inr none ↦ none
        ]
      ]
    ]

not_met : IsVisited 2 three (picked_event 2 [] 1 End First ∷ []) → ⊥
not_met met =
    let other : View = (End, Done) ∷ [] in
    let seen : view_of met.0 1 ≡ other = met.2.views 1 in
    never met.0 (met.2.views 0) (λ none. (let no : other ≡ [] = sym seen ∙ none in cc)) met.1

-- An earlier breakpoint of a rank cuts off more.
use Rattle.std.proofs.Common.{◌≡◌, ◌≤◌, ◌+◌, ◌-◌, ◌&&◌, ◌==◌, ℕ, zero, suc, Bool, List, Some, true, false, arith, refl, subst}
use Rattle.std.proofs.lemmas.Bool.{eq-eqb, eqb-true}
use Rattle.replay_model.specs.Laws.{IsRunWith}
use Rattle.replay_model.specs.Replays.{Breakpoint}
use Rattle.replay_model.specs.Rests.{IsCutOff, follows, rank_rested_on, rests_on, stops}
use Rattle.replay_model.proofs.Cut.{cut_law}
use Rattle.run_model.specs.declared.event.Event.{Event}
use Rattle.run_model.specs.Views.{Next, View, view_of}
use Rattle.run_model.proofs.RunLaws.{Lawful}
use Rattle.srr_entry.specs.declared.log.Log.{Log}
use Rattle.replay_views.specs.Cuts.{IsStepBack, ReplaysStepBack}

both : (a b : Bool) → (a && b) ≡ true → (a ≡ true) × (b ≡ true)
both true b h = (refl, h)
both false b h = absurd (cc)

-- what follows a call that is cut off is cut off
cut_from : (n : ℕ) (group : List ℕ) (V : ℕ → View) (stop : Breakpoint) (more rank number other : ℕ) → other ≡ number + more
    → IsCutOff n group V stop rank number → IsCutOff n group V stop rank other
cut_from n group V stop zero rank number other is off =
    let same : number ≡ other = omega (arith, is) in
    subst (λ (k : ℕ). IsCutOff n group V stop rank k) same off
cut_from n group V stop (suc more) rank number other is off =
    let last = cut_from n group V stop more rank number (number + more) refl off in
    let same : suc (number + more) ≡ other = omega (arith, is) in
    subst (λ (k : ℕ). IsCutOff n group V stop rank k) same (follows rank (number + more) last)

more_off : (n : ℕ) (group : List ℕ) (V : ℕ → View) (at earlier later : ℕ) → earlier ≤ later → (rank number : ℕ)
    → IsCutOff n group V (Some (at, later)) rank number → IsCutOff n group V (Some (at, earlier)) rank number
more_off n group V at earlier later le _ _ (stops rank number t) =
    let is = both (at == rank) (later == number) t in
    let there : later ≡ number = eqb-true later number is.1 in
    let here : (earlier == earlier) ≡ true = eq-eqb earlier earlier refl in
    let mine = is.0 in
    let first : IsCutOff n group V (Some (at, earlier)) rank earlier = stops rank earlier (rw (mine, here) refl) in
    cut_from n group V (Some (at, earlier)) (number - earlier) rank earlier number (omega (arith, le, there)) first
more_off n group V at earlier later le _ _ (follows rank number off) =
    follows rank number (more_off n group V at earlier later le rank number off)
more_off n group V at earlier later le _ _ (rests_on rank view rest call reply missing number member e among number_is off) =
    rests_on rank view rest call reply missing number member e among number_is (more_off n group V at earlier later le (rank_rested_on missing) number off)

pub step_back : (n : ℕ) (group : List ℕ) (V : ℕ → View) → IsStepBack n group V
step_back n group V at earlier later le rank number is =
    record { member = is.member; placed = is.placed; free = λ off. is.free (more_off n group V at earlier later le rank number off) }

pub replays_back : (next : Next) (log : Log) (run : List Event) → Lawful next → IsRunWith next log run → ReplaysStepBack next log run
replays_back next log run lawful is at earlier later events others le whole whole_too rank number below =
    let here = (cut_law next log (Some (at, earlier)) run events lawful is whole rank number).0 below in
    (cut_law next log (Some (at, later)) run others lawful is whole_too rank number).1
    (step_back log.ranks log.group (view_of run) at earlier later le rank number here)

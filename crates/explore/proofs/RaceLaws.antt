-- What the races that are not there say.
use Rattle.std.proofs.Common.{◌≡◌, ◌&&◌, ◌||◌, if◌then◌else◌, ℕ, Bool, List, [], ◌∷◌, Option, Some, None, false, true, is_some, refl, subst}
use Rattle.mpi_call.specs.declared.call.Call.{Call}
use Rattle.run_model.specs.declared.event.Event.{Event}
use Rattle.run_model.specs.Due.{halt_of_reply}
use Rattle.quiet_calls.specs.Quiet.{is_calm, is_reckoned}
use Rattle.explore.specs.declared.races.Race.{Race}
use Rattle.explore.specs.inside.RaceFlags.{RaceFlags, first_race, race_in, race_next, race_of, races_of}

none_if : (b : Bool) (race : Race) → (if b then None else Some race) ≡ None → b ≡ true
none_if true race h = refl
none_if false race h = absurd (cc)

of_none : (flags : RaceFlags) (rank : ℕ) (call : Call) → race_of flags rank call ≡ None → is_reckoned (races_of flags) rank call ≡ true
of_none flags rank call h = none_if (is_reckoned (races_of flags) rank call) _ h

-- a rank whose next call has no race makes one that is reckoned with
pub next_reckoned : (flags : RaceFlags) (rank : ℕ) (next : Option Call) → race_next flags rank next ≡ None
    → (call : Call) → next ≡ Some call → is_reckoned (races_of flags) rank call ≡ true
next_reckoned flags rank None h call is = absurd (cc)
next_reckoned flags rank (Some other) h call is =
    let same : other ≡ call = cc in
    let F : Call → Type 0 = λ c. is_reckoned (races_of flags) rank c ≡ true in
    subst F same (of_none flags rank other h)

first_none : (one other : Option Race) → first_race one other ≡ None → (one ≡ None) × (other ≡ None)
first_none None other h = (refl, h)
first_none (Some race) other h = absurd (cc)

both_hold : (a b c : Bool) → a ≡ true → c ≡ true → (a && (b || c)) ≡ true
both_hold a true c one two = rw one refl
both_hold a false c one two = rw (one, two) refl

-- events without a race are calm
pub in_calm : (flags : RaceFlags) (events : List Event) → race_in flags events ≡ None → is_calm (races_of flags) events ≡ true
in_calm flags [] h = refl
in_calm flags (event ∷ events) h =
    let parts = first_none (race_of flags event.rank event.call) (race_in flags events) h in
    both_hold (is_reckoned (races_of flags) event.rank event.call) (is_some (halt_of_reply event.reply)) (is_calm (races_of flags) events)
    (of_none flags event.rank event.call parts.0) (in_calm flags events parts.1)

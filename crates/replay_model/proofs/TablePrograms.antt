-- Programs whose ranks make listed calls one after the other: for worked examples.
use Rattle.std.proofs.Common.{◌≡◌, ◌∙◌, ℕ, zero, suc, List, [], ◌∷◌, ◌++◌, Option, Some, None, Bool, true, false, not, ◌&&◌, append_assoc, append-nil, refl, sym, ap, arith, slice_get, inl, inr}
use Rattle.std.specs.Prelude.{◌↔◌, if◌then◌else◌}
use Rattle.std.specs.List.{list_all, list_any}
use Rattle.std.proofs.lemmas.Bool.{and_parts}
use Rattle.std.proofs.lemmas.List.{map-append}
use Rattle.mpi_call.specs.declared.call.Call.{Call}
use Rattle.mpi_call.specs.declared.call.Call.TheVariants.{End, Enter}
use Rattle.mpi_call.specs.declared.call.Kind.TheVariants.{Barrier}
use Rattle.mpi_call.specs.declared.reply.Reply.{Reply}
use Rattle.mpi_call.specs.declared.reply.Reply.TheVariants.{Done, NotYet, Peeked, Stopped, Took}
use Rattle.run_model.specs.Due.{stops}
use Rattle.run_model.specs.Lists.{Along, world}
use Rattle.run_model.specs.Program.{EndsExactly, EntersInForm, IsInForm, IsNextSeen, ends}
use Rattle.run_model.specs.Shape.{has_shape}
use Rattle.run_model.specs.Views.{Next, View, replies_in}
use Rattle.run_model.proofs.Enters.{known_in-kept}
use Rattle.run_model.proofs.RunLaws.{Lawful}
use Rattle.run_model.proofs.Views.{test_cases}

-- the call after these replies, none after a halt
abbrev next_of : List Call → List Reply → Option Call
next_of [] replies = None
next_of (call ∷ calls) [] = Some call
next_of (call ∷ calls) (reply ∷ replies) = if stops reply then None else next_of calls replies

-- the calls of a rank; a rank that the table has not ends at once
abbrev calls_of : Option (List Call) → List Call
calls_of (Some calls) = calls
calls_of None = End ∷ []

-- the program of a table, which has each rank's calls
abbrev pub asks : List (List Call) → Next
asks table n rank replies = next_of (calls_of (slice_get table rank)) replies

-- the last call is End, and no other
abbrev is_end : Call → Bool
is_end End = true
is_end call = false

abbrev is_closed : List Call → Bool
is_closed [] = false
is_closed (call ∷ []) = is_end call
is_closed (call ∷ other ∷ calls) = not (is_end call) && is_closed (other ∷ calls)

-- of the collectives a barrier of all ranks alone
abbrev is_plain : Call → Bool
is_plain (Enter zero Barrier None None zero []) = true
is_plain (Enter comm kind root op count ints) = false
is_plain call = true

abbrev pub is_table : List (List Call) → Bool
is_table table = list_all is_closed table && list_all (list_all is_plain) table

at_rank : (test : List Call → Bool) (table : List (List Call)) (rank : ℕ) → test (End ∷ []) ≡ true → list_all test table ≡ true
    → test (calls_of (slice_get table rank)) ≡ true
at_rank test [] rank none h = none
at_rank test (calls ∷ table) zero none h = (and_parts (test calls) (list_all test table) h).0
at_rank test (calls ∷ table) (suc rank) none h = at_rank test table rank none (and_parts (test calls) (list_all test table) h).1

-- a call that ends nothing
not_ends : (call : Call) (reply : Reply) → is_end call ≡ false → stops reply ≡ false → ends (call, reply) ≡ false
not_ends call (Stopped halt) e h = absurd (cc)
not_ends End reply e h = absurd (cc)
not_ends call reply e h = refl

end_ends : (n rank : ℕ) (own : View) (call : Call) (reply : Reply) → is_end call ≡ true → has_shape n rank own call reply ≡ true → ends (call, reply) ≡ true
end_ends n rank own End Done e h = refl
end_ends n rank own call (Stopped halt) e h = refl
end_ends n rank own End NotYet e h = absurd (cc)
end_ends n rank own End (Took items) e h = absurd (cc)
end_ends n rank own End (Peeked source start tag count) e h = absurd (cc)
end_ends n rank own call reply e h = absurd (cc)

stop_ends : (call : Call) (reply : Reply) → stops reply ≡ true → ends (call, reply) ≡ true
stop_ends call (Stopped halt) h = refl
stop_ends call reply h = absurd (cc)

-- what comes behind the replies before is as these calls say
Goes : Next → ℕ → ℕ → List Call → View → Type 0
Goes next n rank calls before = (more : List Reply) → next n rank (replies_in before ++ more) ≡ next_of calls more

goes_on : (next : Next) (n rank : ℕ) (call : Call) (calls : List Call) (before : View) (seen : Call × Reply) → stops seen.1 ≡ false
    → Goes next n rank (call ∷ calls) before → Goes next n rank calls (before ++ seen ∷ [])
unfolding Goes
goes_on next n rank call calls before seen on goes = λ more.
    let e : replies_in (before ++ seen ∷ []) ++ more ≡ replies_in before ++ seen.1 ∷ more = rw map-append (append_assoc (replies_in before) (seen.1 ∷ []) more) in
    ap (λ l. next n rank l) e ∙ (goes (seen.1 ∷ more) ∙ rw on refl)

-- the first of them is asked
asked_first : (next : Next) (n rank : ℕ) (call first : Call) (calls : List Call) (before : View) → Goes next n rank (first ∷ calls) before
    → next n rank (replies_in before) ≡ Some call → call ≡ first
unfolding Goes
asked_first next n rank call first calls before goes asked =
    let e : Some first ≡ Some call = sym (goes []) ∙ (rw append-nil asked) in
    cc

closed_more : (call : Call) (calls : List Call) → is_end call ≡ false → is_closed (call ∷ calls) ≡ true → is_closed calls ≡ true
closed_more call [] on h = absurd (let no : false ≡ true = sym on ∙ h in cc)
closed_more call (other ∷ calls) on h = (and_parts (not (is_end call)) (is_closed (other ∷ calls)) h).1

closed_end : (call : Call) (calls : List Call) → is_end call ≡ true → is_closed (call ∷ calls) ≡ true → calls ≡ []
closed_end call [] e h = refl
closed_end call (other ∷ calls) e h =
    absurd (let parts = and_parts (not (is_end call)) (is_closed (other ∷ calls)) h in let no : not true ≡ true = rw e at parts.0 in cc)

ends_along : (next : Next) (n rank : ℕ) (calls : List Call) (before view : View) → is_closed calls ≡ true → Goes next n rank calls before
    → Along (IsNextSeen next n rank) before view → (next_of calls (replies_in view) ≡ None) ↔ (list_any ends view ≡ true)
ends_along next n rank [] before view closed goes came = absurd (cc)
ends_along next n rank (first ∷ calls) before [] closed goes came = (λ h. absurd (cc), λ h. absurd (cc))
ends_along next n rank (first ∷ calls) before ((call, reply) ∷ view) closed goes came =
    let same : call ≡ first = asked_first next n rank call first calls before goes came.0.asked in
    elim (test_cases (stops reply)) [
      | inl t ↦ rw (t, stop_ends call reply t) (λ h. refl, λ h. refl)
      | inr t ↦ elim (test_cases (is_end first)) [
        | inl e ↦ (
            let none : calls ≡ [] = closed_end first calls e closed in
            let over : ends (call, reply) ≡ true = end_ends n rank before call reply (rw same e) came.0.shaped in
            rw (t, none, over) (λ h. refl, λ h. refl))
        | inr on ↦ (
            let not_over : ends (call, reply) ≡ false = not_ends call reply (rw same on) t in
            let rest = ends_along next n rank calls (before ++ (call, reply) ∷ []) view (closed_more first calls on closed) (goes_on next n rank first calls before (call, reply) t goes) came.1 in
            rw (t, not_over) rest)
      ]
    ]

ends_exactly : (table : List (List Call)) → list_all is_closed table ≡ true → EndsExactly (asks table)
unfolding Goes
ends_exactly table closed n rank view is came =
    ends_along (asks table) n rank (calls_of (slice_get table rank)) [] view (at_rank is_closed table rank refl closed) (λ more. refl) came

asked_plain : (calls : List Call) (replies : List Reply) (call : Call) → list_all is_plain calls ≡ true → next_of calls replies ≡ Some call → is_plain call ≡ true
asked_plain [] replies call h asked = absurd (cc)
asked_plain (first ∷ calls) [] call h asked =
    let same : first ≡ call = cc in
    rw (← same) (and_parts (is_plain first) (list_all is_plain calls) h).0
asked_plain (first ∷ calls) (reply ∷ replies) call h asked =
    elim (test_cases (stops reply)) [
      | inl t ↦ absurd (let no : None ≡ Some call = rw t at asked in cc)
      | inr t ↦ asked_plain calls replies call (and_parts (is_plain first) (list_all is_plain calls) h).1 (rw t at asked)
    ]

plain_form : (n rank : ℕ) (view : View) (call : Call) → is_plain call ≡ true → IsInForm n rank view call
plain_form n rank view (Enter zero Barrier None None zero []) h =
    (world n 0, known_in-kept n [] view 0 (world n 0) (view, refl) refl, record { form = refl; ints = refl }, omega arith)
plain_form n rank view (Enter comm kind root op count ints) h = absurd (cc)
plain_form n rank view call h = tt

enters_in_form : (table : List (List Call)) → list_all (list_all is_plain) table ≡ true → EntersInForm (asks table)
enters_in_form table plain n rank view call is came asked =
    plain_form n rank view call (asked_plain (calls_of (slice_get table rank)) (replies_in view) call (at_rank (list_all is_plain) table rank refl plain) asked)

pub lawful_table : (table : List (List Call)) → is_table table ≡ true → Lawful (asks table)
lawful_table table h =
    let parts = and_parts (list_all is_closed table) (list_all (list_all is_plain) table) h in
    record { ends = ends_exactly table parts.0; enters = enters_in_form table parts.1 }

-- A program whose ranks end at once: a history without events is a run of it.
use Rattle.std.proofs.Common.{◌≡◌, ◌<◌, ◌≤◌, ◌∷◌, List, None, Option, Some, [], refl, subst, true, ℕ}
use Rattle.std.proofs.lemmas.Bool.{or_left}
use Rattle.std.specs.List.{list_any}
use Rattle.mpi_call.specs.declared.call.Call.{Call}
use Rattle.mpi_call.specs.declared.call.Call.TheVariants.{End}
use Rattle.mpi_call.specs.declared.reply.Reply.{Reply}
use Rattle.mpi_call.specs.declared.reply.Reply.TheVariants.{Done, NotYet, Peeked, Stopped, Took}
use Rattle.run_model.specs.Program.{AsksInBounds, EndsExactly, EntersInForm, IsCallInBounds, IsInForm, ends}
use Rattle.run_model.specs.Shape.{has_shape}
use Rattle.run_model.specs.Views.{Next}
use Rattle.plan_advice.specs.Costs.{IsRunOfAProgram}

abbrev ends_at_once : List Reply → Option Call
ends_at_once [] = Some End
ends_at_once (reply ∷ replies) = None

abbrev idle : Next
idle = λ n rank replies. ends_at_once replies

end_ends : (n rank : ℕ) (reply : Reply) → has_shape n rank [] End reply ≡ true → ends (End, reply) ≡ true
end_ends n rank Done h = refl
end_ends n rank (Stopped halt) h = refl
end_ends n rank NotYet h = absurd (cc)
end_ends n rank (Took items) h = absurd (cc)
end_ends n rank (Peeked source start tag count) h = absurd (cc)

call_ends : (n rank : ℕ) (call : Call) (reply : Reply) → Some End ≡ Some call → has_shape n rank [] call reply ≡ true → ends (call, reply) ≡ true
call_ends n rank call reply is h =
    let same : End ≡ call = cc in
    let P : Call → Type 0 = λ c. has_shape n rank [] c reply ≡ true → ends (c, reply) ≡ true in
    subst P same (end_ends n rank reply) h

idle_ends : EndsExactly idle
idle_ends n rank [] is came = (λ h. absurd (cc), λ h. absurd (cc))
idle_ends n rank ((call, reply) ∷ view) is came =
    (λ h. or_left (ends (call, reply)) (list_any ends view) (call_ends n rank call reply came.0.asked came.0.shaped), λ h. refl)

idle_asks : AsksInBounds idle
idle_asks n rank [] call is came asked =
    let same : End ≡ call = cc in
    let P : Call → Type 0 = λ c. IsCallInBounds n 0 c in
    subst P same tt
idle_asks n rank (seen ∷ view) call is came asked = absurd (cc)

idle_enters : EntersInForm idle
idle_enters n rank [] call is came asked =
    let same : End ≡ call = cc in
    let P : Call → Type 0 = λ c. IsInForm n rank [] c in
    subst P same tt
idle_enters n rank (seen ∷ view) call is came asked = absurd (cc)

pub empty_run : (n : ℕ) → 0 < n → n ≤ 64 → IsRunOfAProgram n []
empty_run n some few =
    record { next = idle; ends = idle_ends; asks = idle_asks; enters = idle_enters; run = record { some = some; few = few; along = tt } }

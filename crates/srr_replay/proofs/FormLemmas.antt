-- The Enters of a view in order.
use Rattle.std.proofs.Common.{◌≡◌, ℕ, List, Some, true, ap, sym, subst}
use Rattle.mpi_call.specs.declared.call.Call.{Call}
use Rattle.mpi_call.specs.declared.call.Call.TheVariants.{Enter}
use Rattle.mpi_call.specs.Calls.{comm_of, is_enter}
use Rattle.mpi_call.specs.Collectives.{IsEnterOf}
use Rattle.run_model.specs.Communicators.{known_in, members_for_rank, or_none}
use Rattle.run_model.specs.Forms.{AreMembers, IsInOrder}
use Rattle.run_model.specs.Views.{View, start_at}

-- an Enter among a rank's starts: it is as its kind wants it, on a communicator that the rank knows
pub record IsInForm (n me : ℕ) (own : View) (call : Call) : Type 0 where
  pub known : known_in n own (comm_of call) ≡ Some (members_for_rank n own (comm_of call))
  pub form : IsEnterOf call (members_for_rank n own (comm_of call)) me
  pub members : AreMembers n me (members_for_rank n own (comm_of call))

pub in_form : (n me : ℕ) (own : View) (k : ℕ) (call : Call) → IsInOrder n me own → start_at own k ≡ Some call → is_enter call ≡ true → IsInForm n me own call
in_form n me own k (Enter comm kind root op count ints) order start enter =
    let told = order.starts k (Enter comm kind root op count ints) start in
    let are : members_for_rank n own comm ≡ told.0 = ap or_none told.1 in
    record {
      known = rw are told.1;
      form = (let P : List ℕ → Type 0 = λ members. IsEnterOf (Enter comm kind root op count ints) members me in subst P (sym are) told.2);
      members = (let P : List ℕ → Type 0 = λ members. AreMembers n me members in subst P (sym are) (order.known comm told.0 told.1));
    }
in_form n me own k call order start enter = absurd (cc)

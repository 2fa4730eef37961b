-- Events that pair nothing and enter nothing: what they are to the calls of others.
use Rattle.std.proofs.Common.{◌≡◌, ◌∙◌, ◌==◌, ◌&&◌, ℕ, ℤ, List, [], Some, None, Result, Ok, Err, Bool, true, false, refl, ap}
use Rattle.std.proofs.lemmas.Bool.{and_right}
use Rattle.mpi_call.specs.declared.call.Call.{Call}
use Rattle.mpi_call.specs.declared.call.Call.TheVariants.{Send, Post, Enter, Take, Peek, End}
use Rattle.mpi_call.specs.declared.call.Source.{Source}
use Rattle.mpi_call.specs.declared.call.Source.TheVariants.{Any, From, Null}
use Rattle.mpi_call.specs.declared.call.Tag.{Tag}
use Rattle.mpi_call.specs.declared.reply.Got.TheVariants.{Nothing}
use Rattle.mpi_call.specs.Acceptance.{accepts, tag_agrees}
use Rattle.run_model.specs.declared.event.Event.{Event}
use Rattle.run_model.specs.Choice.{suits}
use Rattle.run_model.specs.Chosen.{message_of_pair}
use Rattle.run_model.specs.Communicators.{is_on}
use Rattle.run_model.specs.Numbers.{origins_from}
use Rattle.run_model.specs.Pairs.{Name, post_accepts}

-- the end of a rank, a receive from the null process, a completion
abbrev pub is_still : Call → Bool
is_still (Post comm Null tag room) = true
is_still (Take starts mode) = true
is_still End = true
is_still call = false

-- such an event
pub record IsStill (event : Event) : Type 0 where
  pub call : is_still event.call ≡ true
  pub mate : event.mate ≡ None
  pub none_met : event.met ≡ []

pub still_on : (comm : ℕ) (call : Call) → is_still call ≡ true → is_on comm call ≡ false
still_on comm (Enter c kind root op count ints) h = absurd (cc)
still_on comm call h = refl

pub no_third : (a b c : Bool) → (a && (b && (false && c))) ≡ false
no_third a b c = ap (λ x. a && x) (and_right b false refl) ∙ and_right a false refl

-- no receive or probe accepts it
pub accepts_still : (me comm : ℕ) (source : Source) (tag : Tag) (owner : ℕ) (start : Call) → is_still start ≡ true → accepts me comm source tag owner start ≡ false
accepts_still me comm source tag owner (Send c dest t ints sync) h = absurd (cc)
accepts_still me comm source tag owner start h = refl

-- and it accepts nothing
pub still_accepts : (owner : ℕ) (start : Call) (me : ℕ) (call : Call) → is_still start ≡ true → post_accepts owner start me call ≡ false
still_accepts owner (Post comm Null tag room) me (Send c dest t ints sync) h = no_third (c == comm) (dest == owner) (tag_agrees tag t)
still_accepts owner (Post comm Null tag room) me call h = refl
still_accepts owner (Post comm Any tag room) me call h = absurd (cc)
still_accepts owner (Post comm (From source) tag room) me call h = absurd (cc)
still_accepts owner start me call h = refl

pub still_suits : (me : ℕ) (call : Call) (owner : ℕ) (start : Call) → is_still start ≡ true → suits me call owner start ≡ false
still_suits me (Send comm dest tag ints sync) owner start h = still_accepts owner start me (Send comm dest tag ints sync) h
still_suits me (Peek comm source tag wait) owner start h = accepts_still me comm source tag owner start h
still_suits me (Post comm source tag room) owner start h = accepts_still me comm source tag owner start h
still_suits me call owner start h = refl

pub accepted_never : (me : ℕ) (post : Call) (owner : ℕ) (start : Call) → is_still start ≡ true → post_accepts me post owner start ≡ false
accepted_never me (Post comm source tag room) owner start h = accepts_still me comm source tag owner start h
accepted_never me post owner start h = refl

-- it has no message
pub still_message : (name : Name) (start : Call) → is_still start ≡ true → message_of_pair name (Some start) ≡ Nothing
still_message name (Send c dest t ints sync) h = absurd (cc)
still_message name start h = refl

-- and makes no communicator
pub still_makes : (gathered : Result (List (List ℤ)) ℕ) (instance : ℕ) (call : Call) → is_still call ≡ true → origins_from gathered instance call ≡ []
still_makes (Err missing) instance call h = refl
still_makes (Ok inputs) instance (Enter comm kind root op count ints) h = absurd (cc)
still_makes (Ok inputs) instance call h = refl

-- What an entry rests on.
use Rattle.std.proofs.Common.{◌≡◌, ℕ, ℤ, List, Option, Some, None, true, refl, Result, Ok, Err, option_map}
use Rattle.mpi_call.specs.declared.call.Call.{Call}
use Rattle.mpi_call.specs.declared.call.Call.TheVariants.{Enter, Post}
use Rattle.mpi_call.specs.declared.call.Source.TheVariants.{Any, From, Null}
use Rattle.mpi_call.specs.declared.reply.Got.{Got}
use Rattle.mpi_call.specs.declared.reply.Item.{Item}
use Rattle.mpi_call.specs.Calls.{comm_of, is_enter}
use Rattle.run_model.specs.Communicators.{instance_of}
use Rattle.run_model.specs.Views.{View, start_at}
use Rattle.srr_entry.specs.declared.entry.Mark.TheVariants.{Inner, Made as MarkMade}
use Rattle.replay_model.specs.declared.step.Missing.{Missing}
use Rattle.replay_model.specs.declared.step.Missing.TheVariants.{Member}
use Rattle.replay_model.specs.Filling.{absent_of, asker_of, joined_result, made_new, missing_of, push_item}
use Rattle.replay_model.specs.Fits.{IsEnterAt, mark_fits}

-- nothing is missing for the first item, so what is missing is missing for the others
pub missing_of-first : (index : ℕ) (first : Result Got Missing) (rest : Result (List Item) Missing) → missing_of first ≡ None → missing_of (push_item index first rest) ≡ missing_of rest
missing_of-first index (Ok got) (Ok items) none = refl
missing_of-first index (Ok got) (Err missing) none = refl
missing_of-first index (Err missing) rest none = absurd (cc)

-- something is
pub missing_of-some : (index : ℕ) (first : Result Got Missing) (rest : Result (List Item) Missing) (missing : Missing) → missing_of first ≡ Some missing → missing_of (push_item index first rest) ≡ Some missing
missing_of-some index (Ok got) rest missing some = absurd (cc)
missing_of-some index (Err other) rest missing some = some

-- marks of collectives are of Enters
pub enter_for-inner : (n : ℕ) (group : List ℕ) (me : ℕ) (own : View) (found : Option Call) (call : Call) → mark_fits n group me own found Inner ≡ true → found ≡ Some call → is_enter call ≡ true
enter_for-inner n group me own None call fit is = absurd (cc)
enter_for-inner n group me own (Some (Enter comm kind root op count ints)) call fit is = let same : Enter comm kind root op count ints ≡ call = cc in rw (← same) refl
enter_for-inner n group me own (Some (Post on Any wanted room)) call fit is = absurd (cc)
enter_for-inner n group me own (Some (Post on (From from) wanted room)) call fit is = absurd (cc)
enter_for-inner n group me own (Some (Post on Null wanted room)) call fit is = absurd (cc)
enter_for-inner n group me own (Some other) call fit is = absurd (cc)

pub IsEnterAt-inner : (n : ℕ) (group : List ℕ) (me : ℕ) (own : View) (k : ℕ) → mark_fits n group me own (start_at own k) Inner ≡ true → IsEnterAt own k
IsEnterAt-inner n group me own k fit = λ call is. enter_for-inner n group me own (start_at own k) call fit is

pub enter_for-made : (n : ℕ) (group : List ℕ) (me : ℕ) (own : View) (found : Option Call) (comm : ℕ) (call : Call) → mark_fits n group me own found (MarkMade comm) ≡ true → found ≡ Some call → is_enter call ≡ true
enter_for-made n group me own None comm call fit is = absurd (cc)
enter_for-made n group me own (Some (Enter on kind root op count ints)) comm call fit is = let same : Enter on kind root op count ints ≡ call = cc in rw (← same) refl
enter_for-made n group me own (Some (Post on Any wanted room)) comm call fit is = absurd (cc)
enter_for-made n group me own (Some (Post on (From from) wanted room)) comm call fit is = absurd (cc)
enter_for-made n group me own (Some (Post on Null wanted room)) comm call fit is = absurd (cc)
enter_for-made n group me own (Some other) comm call fit is = absurd (cc)

pub IsEnterAt-made : (n : ℕ) (group : List ℕ) (me : ℕ) (own : View) (k comm : ℕ) → mark_fits n group me own (start_at own k) (MarkMade comm) ≡ true → IsEnterAt own k
IsEnterAt-made n group me own k comm fit = λ call is. enter_for-made n group me own (start_at own k) comm call fit is

-- a collective waits for the first absent member
pub missing_of-joined : (n : ℕ) (own : View) (me k : ℕ) (enter : Call) (inputs : Result (List (List ℤ)) ℕ)
    → missing_of (joined_result n me own k enter inputs) ≡ option_map (λ m. Member m (comm_of enter) (instance_of own k (comm_of enter))) (absent_of inputs)
missing_of-joined n own me k enter (Ok inputs) = refl
missing_of-joined n own me k enter (Err m) = refl

pub missing_of-made : (comm n : ℕ) (own : View) (me k : ℕ) (enter : Call) (inputs : Result (List (List ℤ)) ℕ)
    → missing_of (made_new comm (asker_of n me own) k enter inputs) ≡ option_map (λ m. Member m (comm_of enter) (instance_of own k (comm_of enter))) (absent_of inputs)
missing_of-made comm n own me k enter (Ok inputs) = refl
missing_of-made comm n own me k enter (Err m) = refl

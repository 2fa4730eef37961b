-- What holds of the starts at a position holds at the next one.
use Rattle.std.proofs.Common.{◌≡◌, ◌+◌, ℕ, Bool, List, [], ◌∷◌, ◌++◌, true, false, length, refl, ap, sym, ◌∙◌, subst, arith}
use Rattle.run_model.specs.Lists.{world}
use Rattle.mpi_call.specs.declared.call.Call.{Call}
use Rattle.mpi_call.specs.declared.call.Call.TheVariants.{Send, Post}
use Rattle.mpi_call.specs.Calls.{comm_of, is_enter, is_starting}
use Rattle.run_model.specs.Pairs.{Name}
use Rattle.run_model.specs.Views.{items_taken}
use Rattle.match_core.specs.declared.start.UnpairedStart.{UnpairedStart as Unpaired}
use Rattle.match_core.specs.Starts.{AreBelow, is_message}
use Rattle.match_core.proofs.StartLists.{below_left, below_more}
use Rattle.collectives.specs.Boards.{enters_of, enters_made}
use Rattle.requests.specs.declared.requests.Started.{Started}
use Rattle.requests.specs.declared.requests.Started.TheVariants.{Made, Disagrees}
use Rattle.requests.specs.declared.requests.TakeAnswer.{TakeAnswer}
use Rattle.requests.specs.declared.requests.TakeAnswer.TheVariants.{Took, NotReady, TooLong, BadStart}
use Rattle.requests.specs.Starts.{Names, Rows, all_marked, new_start, mate_named, row_of, with_name, with_start}
use Rattle.requests.specs.States.{IsEntered, IsPaired, IsStarted, IsStartedAs, MayStart, MatchingState, first_state, next_name, with_rows}
use Rattle.requests.specs.Taking.{rows_after}
use Rattle.requests.proofs.Found.{length-row}
use Rattle.requests.proofs.Pairing.{length-names}
use Rattle.requests.proofs.Starting.{length-pair}
use Rattle.requests.proofs.Growing.{grows_after, made_stays}

next_paired : (ranks at rank : ℕ) (call : Call) (old new : MatchingState) (started : Started) → MayStart ranks at old → IsPaired old new at rank call started → MayStart ranks (at + 1) new
next_paired ranks at rank call old new (Disagrees other) may is = absurd is
next_paired ranks at rank call old new (Made number mate) may is =
    let F : MatchingState → Type 0 = λ s. MayStart ranks (at + 1) s in
    let next : Name = next_name old rank in
    let started : Rows = with_start rank (new_start call 0) old.table.rows in
    let long = length-names old.names at next may.above.names in
    subst F (sym is.2) (record {
      above = record {
        names = omega (arith, long);
        unpaired = below_left at rank call old.unpaired mate may.above.unpaired;
      };
      many = length-pair started next (mate_named old.names mate) ∙ (length-row rank (row_of old.table.rows rank ++ new_start call 0 ∷ []) old.table.rows ∙ may.many);
      world = may.world;
    })

pub next_later : (ranks at : ℕ) (state : MatchingState) → MayStart ranks at state → MayStart ranks (at + 1) state
next_later ranks at state may =
    record {
      above = record { names = (let b = may.above.names in omega (arith, b)); unpaired = below_more at state.unpaired may.above.unpaired };
      many = may.many;
      world = may.world;
    }

next_entered : (ranks at rank : ℕ) (call : Call) (old new : MatchingState) (started : Started) → MayStart ranks at old → IsEntered old new at rank call started → MayStart ranks (at + 1) new
next_entered ranks at rank call old new (Disagrees other) may is =
    let F : MatchingState → Type 0 = λ s. MayStart ranks (at + 1) s in
    subst F (sym is.1) (next_later ranks at old may)
next_entered ranks at rank call old new (Made number mate) may is =
    let instance : ℕ = enters_made old.table.stages (comm_of call) rank in
    let next : Name = next_name old rank in
    let long = length-names old.names at next may.above.names in
    let same : length new.names ≡ length (with_name at next old.names) = ap (λ (l : Names). length l) is.1.names in
    let F : List Unpaired → Type 0 = λ l. AreBelow (at + 1) l in
    let g = grows_after old.table.comms new.table.comms call instance (enters_of new.table.stages (comm_of call) instance) is.1.comms in
    record {
      above = record {
        names = omega (arith, long, same);
        unpaired = subst F (sym is.1.unpaired) (below_more at old.unpaired may.above.unpaired);
      };
      many = ap (λ (r : Rows). length r) is.1.rows ∙ (length-row rank (row_of old.table.rows rank ++ new_start call instance ∷ []) old.table.rows ∙ may.many);
      world = made_stays old.table.comms new.table.comms (comm_of call) instance 0 (world ranks 0) g may.world;
    }

next_as : (b : Bool) (ranks at rank : ℕ) (call : Call) (old new : MatchingState) (started : Started) → MayStart ranks at old
    → IsStartedAs b old new at rank call started → MayStart ranks (at + 1) new
next_as true ranks at rank call old new started may is = next_entered ranks at rank call old new started may is
next_as false ranks at rank call old new started may is = next_paired ranks at rank call old new started may is

pub next_started : (ranks at rank : ℕ) (call : Call) (old new : MatchingState) (started : Started) → MayStart ranks at old → IsStarted old new at rank call started → MayStart ranks (at + 1) new
next_started ranks at rank call old new started may is = next_as (is_enter call) ranks at rank call old new started may is

-- which calls start
pub message_starting : (call : Call) → is_message call ≡ true → is_starting call ≡ true
message_starting (Send comm dest tag ints sync) h = refl
message_starting (Post comm source tag room) h = refl
message_starting call h = absurd (cc)

pub next_rows : (ranks at : ℕ) (rows : Rows) (old new : MatchingState) → MayStart ranks at old → length rows ≡ length old.table.rows → new ≡ with_rows rows old → MayStart ranks at new
next_rows ranks at rows old new may long is =
    let F : MatchingState → Type 0 = λ s. MayStart ranks at s in
    subst F (sym is) (record { above = record { names = may.above.names; unpaired = may.above.unpaired }; many = long ∙ may.many; world = may.world })

pub length-after : (rows : Rows) (me : ℕ) (starts : List ℕ) (answer : TakeAnswer) → length (rows_after rows me starts answer) ≡ length rows
length-after rows me starts (Took items) = length-row me (all_marked true (items_taken starts items) (row_of rows me)) rows
length-after rows me starts NotReady = refl
length-after rows me starts (TooLong start) = refl
length-after rows me starts (BadStart start) = refl

pub next_taken : (ranks at me : ℕ) (starts : List ℕ) (answer : TakeAnswer) (old new : MatchingState) → MayStart ranks at old → new ≡ with_rows (rows_after old.table.rows me starts answer) old → MayStart ranks at new
next_taken ranks at me starts answer old new may is = next_rows ranks at (rows_after old.table.rows me starts answer) old new may (length-after old.table.rows me starts answer) is

pub may_first : MayStart 2 0 (first_state 2)
may_first = record {
  above = record { names = omega arith; unpaired = λ start among. absurd among };
  many = refl;
  world = refl;
}

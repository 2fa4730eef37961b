-- Receives that name their sender, and sends: they pair with starts of one rank alone, and no other rank's call looks for those.
use Rattle.std.proofs.Common.{◌≡◌, ◌∙◌, ◌==◌, ◌&&◌, ◌⊎◌, ℕ, ℤ, List, [], Option, Some, None, Result, Ok, Err, Bool, true, false, inl, inr, refl, ap, sym}
use Rattle.std.proofs.lemmas.Bool.{and_parts, eqb-true}
use Rattle.mpi_call.specs.declared.call.Call.{Call}
use Rattle.mpi_call.specs.declared.call.Call.TheVariants.{Send, Post, Enter, Peek}
use Rattle.mpi_call.specs.declared.call.Source.{Source}
use Rattle.mpi_call.specs.declared.call.Source.TheVariants.{Any, From, Null}
use Rattle.mpi_call.specs.declared.call.Tag.{Tag}
use Rattle.mpi_call.specs.Acceptance.{accepts, source_agrees, tag_agrees}
use Rattle.mpi_call.specs.Calls.{is_starting}
use Rattle.run_model.specs.Choice.{suits}
use Rattle.run_model.specs.Communicators.{is_on}
use Rattle.run_model.specs.Numbers.{origins_from}
use Rattle.run_model.specs.Pairs.{post_accepts}
use Rattle.picked_runs.specs.declared.turn.Pick.{Pick}
use Rattle.picked_runs.specs.declared.turn.Pick.TheVariants.{First, Sender, Index}
use Rattle.picked_runs.specs.Picks.{looking}
use Rattle.picked_runs.proofs.Narrowing.{suits_back}

-- the rank that a receive names or a send goes to
abbrev pub other_of : Call → Option ℕ
other_of (Post comm (From source) tag room) = Some source
other_of (Send comm dest tag ints sync) = Some dest
other_of call = None

-- a receive from any source
abbrev pub takes_any : Call → Bool
takes_any (Post comm Any tag room) = true
takes_any call = false

-- 1. what one accepts

record Accepts (rank comm : ℕ) (source : Source) (sender c dest : ℕ) : Type 0 where
  dest_is : dest ≡ rank
  source_is : source_agrees source sender ≡ true

accepts_parts : (rank comm : ℕ) (source : Source) (tag : Tag) (sender c dest t : ℕ) (ints : List ℤ) (sync : Bool) → accepts rank comm source tag sender (Send c dest t ints sync) ≡ true
    → Accepts rank comm source sender c dest
accepts_parts rank comm source tag sender c dest t ints sync h =
    let one = and_parts (c == comm) ((dest == rank) && (source_agrees source sender && tag_agrees tag t)) h in
    let two = and_parts (dest == rank) (source_agrees source sender && tag_agrees tag t) one.1 in
    record { dest_is = eqb-true dest rank two.0; source_is = (and_parts (source_agrees source sender) (tag_agrees tag t) two.1).0 }

-- the call of `rank` accepts a start: a send to that rank
to_rank : (rank comm : ℕ) (source : Source) (tag : Tag) (owner : ℕ) (start : Call) → accepts rank comm source tag owner start ≡ true
    → (other_of start ≡ Some rank) × (source_agrees source owner ≡ true)
to_rank rank comm source tag owner (Send c dest t ints sync) h =
    let a = accepts_parts rank comm source tag owner c dest t ints sync h in
    (ap (λ (r : ℕ). Some r) a.dest_is, a.source_is)
to_rank rank comm source tag owner start h = absurd (cc)

-- a receive accepts a send: its source is any, or the sender
from_rank : (owner : ℕ) (start : Call) (me comm dest tag : ℕ) (ints : List ℤ) (sync : Bool) → post_accepts owner start me (Send comm dest tag ints sync) ≡ true
    → (owner ≡ dest) × ((takes_any start ≡ true) ⊎ (other_of start ≡ Some me))
from_rank owner (Post c Any t room) me comm dest tag ints sync h = (sym (accepts_parts owner c Any t me comm dest tag ints sync h).dest_is, inl refl)
from_rank owner (Post c (From source) t room) me comm dest tag ints sync h =
    let a = accepts_parts owner c (From source) t me comm dest tag ints sync h in
    (sym a.dest_is, inr (ap (λ (r : ℕ). Some r) (eqb-true source me a.source_is)))
from_rank owner (Post c Null t room) me comm dest tag ints sync h =
    (let no : false ≡ true = (accepts_parts owner c Null t me comm dest tag ints sync h).source_is in absurd (cc))
from_rank owner start me comm dest tag ints sync h = absurd (cc)

-- 2. such a call suits starts of the other rank

pub suits_other : (me : ℕ) (call : Call) (w owner : ℕ) (start : Call) → other_of call ≡ Some w → suits me call owner start ≡ true → owner ≡ w
suits_other me (Post comm (From source) tag room) w owner start named h =
    let a = to_rank me comm (From source) tag owner start h in
    let one : source ≡ owner = eqb-true source owner a.1 in
    let two : source ≡ w = cc in
    sym one ∙ two
suits_other me (Post comm Any tag room) w owner start named h = absurd (cc)
suits_other me (Post comm Null tag room) w owner start named h = absurd (cc)
suits_other me (Send comm dest tag ints sync) w owner start named h =
    let a = from_rank owner start me comm dest tag ints sync h in
    let two : dest ≡ w = cc in
    a.0 ∙ two
suits_other me call w owner start named h = absurd (cc)

-- and is suited by calls of that rank
pub other_suits : (p : ℕ) (d : Call) (me : ℕ) (call : Call) (w : ℕ) → other_of call ≡ Some w → suits p d me call ≡ true → p ≡ w
other_suits p (Send c dest t ints sync) me (Post comm (From source) tag room) w named h =
    let a = from_rank me (Post comm (From source) tag room) p c dest t ints sync h in
    elim a.1 [
      | inl any ↦ absurd (let no : false ≡ true = any in cc)
      | inr same ↦ (let e : Some w ≡ Some p = sym named ∙ same in let two : w ≡ p = cc in sym two)
    ]
other_suits p (Send c dest t ints sync) me (Post comm Any tag room) w named h = absurd (cc)
other_suits p (Send c dest t ints sync) me (Post comm Null tag room) w named h = absurd (cc)
other_suits p (Send c dest t ints sync) me call w named h = absurd (cc)
other_suits p (Post c source t room) me call w named h =
    let a = to_rank p c source t me call h in
    let e : Some w ≡ Some p = sym named ∙ a.0 in
    let two : w ≡ p = cc in
    sym two
other_suits p (Peek c source t wait) me call w named h =
    let a = to_rank p c source t me call h in
    let e : Some w ≡ Some p = sym named ∙ a.0 in
    let two : w ≡ p = cc in
    sym two
other_suits p d me call w named h = absurd (cc)

-- a start that it suits names its rank, unless it is a receive from any source
pub suited_named : (me : ℕ) (call : Call) (w owner : ℕ) (start : Call) → other_of call ≡ Some w → takes_any start ≡ false → suits me call owner start ≡ true → other_of start ≡ Some me
suited_named me (Post comm (From source) tag room) w owner start named plain h = (to_rank me comm (From source) tag owner start h).0
suited_named me (Post comm Any tag room) w owner start named plain h = absurd (cc)
suited_named me (Post comm Null tag room) w owner start named plain h = absurd (cc)
suited_named me (Send comm dest tag ints sync) w owner start named plain h =
    elim (from_rank owner start me comm dest tag ints sync h).1 [
      | inl any ↦ (let no : true ≡ false = sym any ∙ plain in absurd (cc))
      | inr same ↦ same
    ]
suited_named me call w owner start named plain h = absurd (cc)

-- so no other rank's call suits that start
pub suits_apart : (me : ℕ) (call : Call) (w owner : ℕ) (start : Call) (p : ℕ) (d : Call) → other_of call ≡ Some w → takes_any start ≡ false → suits me call owner start ≡ true
    → suits p d owner start ≡ true → p ≡ me
suits_apart me call w owner start p d named plain h k = other_suits p d owner start me (suited_named me call w owner start named plain h) k

-- what a pick narrows a call to it suits itself
pub suits_looking : (p : ℕ) (d : Call) (pick : Pick) (owner : ℕ) (start : Call) → suits p (looking d pick) owner start ≡ true → suits p d owner start ≡ true
suits_looking p d First owner start h = h
suits_looking p d (Index index) owner start h = h
suits_looking p (Post comm source tag room) (Sender sender) owner start h = (suits_back p sender (Post comm source tag room) owner start refl h).0
suits_looking p (Peek comm source tag wait) (Sender sender) owner start h = (suits_back p sender (Peek comm source tag wait) owner start refl h).0
suits_looking p d (Sender sender) owner start h = h

-- 3. it starts, enters nothing and makes nothing

pub named_starts : (call : Call) (w : ℕ) → other_of call ≡ Some w → is_starting call ≡ true
named_starts (Post comm source tag room) w h = refl
named_starts (Send comm dest tag ints sync) w h = refl
named_starts call w h = absurd (cc)

pub named_off : (comm : ℕ) (call : Call) (w : ℕ) → other_of call ≡ Some w → is_on comm call ≡ false
named_off comm (Enter c kind root op count ints) w h = absurd (cc)
named_off comm call w h = refl

pub named_makes : (gathered : Result (List (List ℤ)) ℕ) (instance : ℕ) (call : Call) (w : ℕ) → other_of call ≡ Some w → origins_from gathered instance call ≡ []
named_makes (Err missing) instance call w h = refl
named_makes (Ok inputs) instance (Enter comm kind root op count ints) w h = absurd (cc)
named_makes (Ok inputs) instance call w h = refl

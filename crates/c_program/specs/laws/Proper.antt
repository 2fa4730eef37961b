-- What the effect of an MPI call keeps, where its checks have passed.
use Rattle.std.proofs.Common.{◌≡◌, ◌<◌, ◌≤◌, ◌+◌, ◌^◌, ◌==◌, ℕ, zero, suc, ℤ, pos, negsuc, Bool, true, false, List, [], ◌∷◌, Option, Some, None, Result, Ok, Err, if◌then◌else◌, nat_le, length, slice_get, refl, ap, sym, ◌∙◌, subst, arith}
use Rattle.std.specs.Prelude.{IfSome}
use Rattle.std.specs.Ordering.{int_eq}
use Rattle.std.proofs.lemmas.Bool.{leb-true, ltb-true, eq-eqb, or_left, or_right}
use Rattle.mpi_call.specs.declared.limits.TheConstants.{GREATEST_TAG, MOST_INTS}
use Rattle.mpi_call.specs.declared.call.Fault.{Fault}
use Rattle.mpi_call.specs.declared.call.Fault.TheVariants.{BadRank, BadComm}
use Rattle.mpi_call.specs.declared.call.Source.{Source}
use Rattle.mpi_call.specs.declared.call.Tag.{Tag}
use Rattle.mpi_call.specs.Collectives.{is_member}
use Rattle.run_model.specs.Communicators.{known_in}
use Rattle.run_model.specs.Forms.{AreMembers}
use Rattle.run_model.specs.Program.{IsInForm, IsSourceBelow, IsTagInBounds}
use Rattle.run_model.specs.Views.{View}
use Rattle.run_model.proofs.MemberLists.{below_member}
use Rattle.c_program.specs.declared.constants.TheConstants.{MOST_CELLS}
use Rattle.c_program.specs.declared.effect.Collective.{Collective}
use Rattle.c_program.specs.declared.effect.Effect.{Effect}
use Rattle.c_program.specs.declared.effect.Effect.TheVariants.{Starts, Sends, Receives, Completes, Probes, Joins}
use Rattle.c_program.specs.declared.effect.EnterInput.{EnterInput}
use Rattle.c_program.specs.declared.effect.EnterInput.TheVariants.{Nothing as EntersNothing, Cells as EntersCells, Pair}
use Rattle.c_program.specs.declared.effect.Message.{Message}
use Rattle.c_program.specs.declared.effect.Start.TheVariants.{Send as StartSend, Receive as StartReceive}
use Rattle.c_program.specs.Tree.{Reference}
use Rattle.c_program.specs.Cells.{Cells}
use Rattle.c_program.specs.Effects.{Communicator, communicator_of, count_of, destination, first_of_range, member, source_of, tag_of, wanted_tag}
use Rattle.c_program.specs.laws.Keeping.{IsGoodState}
use Rattle.c_program.specs.Performing.{enter_call, entered_ints}
use Rattle.c_program.specs.Program.{rank_of}
use Rattle.c_program.specs.laws.RangeLaws.{SlotsFit, range_fits}
use Rattle.c_program.specs.State.{State, any_source, members_known, null, values_from}
use Rattle.c_program.specs.Values.{given, or_fault, range}

-- ---- what is kept

-- a message goes to a rank below n, with a tag in bounds and at most 65,536 ints
pub record IsProperMessage (n : ℕ) (m : Message) : Type 0 where
  pub dest : m.dest < n
  pub tag : m.tag < 2 ^ 31
  pub ints : m.ints.length ≤ MOST_INTS

-- a source and a tag are in bounds
pub record IsWanted (n : ℕ) (from : Source) (wanted : Tag) : Type 0 where
  pub source : IsSourceBelow n from
  pub tag : IsTagInBounds wanted

-- whatever the state, the Enter is in bounds and in form
pub record IsProperCollective (n me : ℕ) (own : View) (j : Collective) : Type 0 where
  pub root : IfSome j.root (λ rank. rank < n)
  pub form : (s : State) → IsInForm n me own (enter_call j s)

-- how many ints are entered
abbrev pub entered_length : EnterInput → ℕ
entered_length EntersNothing = 0
entered_length (EntersCells cells) = cells.length
entered_length (Pair colour key) = 2

pub length-values_from : (cell n : ℕ) (s : State) → length (values_from cell n s) ≡ n
length-values_from cell zero s = refl
length-values_from cell (suc n) s = ap suc (length-values_from (cell + 1) n s)

pub length-entered : (entered : EnterInput) (s : State) → length (entered_ints entered s) ≡ entered_length entered
length-entered EntersNothing s = refl
length-entered (EntersCells cells) s = length-values_from cells.from cells.length s
length-entered (Pair colour key) s = refl

-- an effect within the bounds of calls
abbrev pub IsProperEffect : ℕ → ℕ → View → Effect → Type 0
IsProperEffect n me own (Starts (StartSend m) request) = IsProperMessage n m
IsProperEffect n me own (Starts (StartReceive r) request) = IsWanted n r.source r.tag
IsProperEffect n me own (Sends m) = IsProperMessage n m
IsProperEffect n me own (Receives r send status) = IsWanted n r.source r.tag × IfSome send (λ m. IsProperMessage n m)
IsProperEffect n me own (Completes requests mode answer) = requests.length ≤ MOST_CELLS
IsProperEffect n me own (Probes comm source tag waits flag status) = IsWanted n source tag
IsProperEffect n me own (Joins j) = IsProperCollective n me own j
IsProperEffect n me own effect = Unit {0}

-- ---- results without a fault

-- a property of a result, where it is no fault
abbrev pub HoldsUnlessFault : {A : Type 0} → (A → Type 0) → Result A Fault → Type 0
HoldsUnlessFault P (Ok x) = P x
HoldsUnlessFault P (Err fault) = Unit {0}

pub given_holds : {A B : Type 0} (P : B → Type 0) (Q : A → Type 0) (r : Result A Fault) (go : A → Result B Fault) → HoldsUnlessFault Q r → ((x : A) → Q x → HoldsUnlessFault P (go x)) → HoldsUnlessFault P (given r go)
given_holds P Q (Ok x) go holds on = on x holds
given_holds P Q (Err fault) go holds on = tt

-- the same of a result of which nothing has to be known
pub given_free : {A B : Type 0} (P : B → Type 0) (r : Result A Fault) (go : A → Result B Fault) → ((x : A) → HoldsUnlessFault P (go x)) → HoldsUnlessFault P (given r go)
given_free P (Ok x) go on = on x
given_free P (Err fault) go on = tt

pub of_holds : {A : Type 0} (P : A → Type 0) (r : Result A Fault) (x : A) → HoldsUnlessFault P r → r ≡ Ok x → P x
of_holds P r x holds is = let F : Result _ Fault → Type 0 = λ r. HoldsUnlessFault P r in subst F is holds

holds_from : {A : Type 0} (P : A → Type 0) (r : Result A Fault) → ((x : A) → r ≡ Ok x → P x) → HoldsUnlessFault P r
holds_from P (Ok x) from = from x refl
holds_from P (Err fault) from = tt

pub or_fault_holds : {A : Type 0} (P : A → Type 0) (fault : Fault) (o : Option A) → ((x : A) → o ≡ Some x → P x) → HoldsUnlessFault P (or_fault fault o)
or_fault_holds P fault None on = tt
or_fault_holds P fault (Some x) on = on x refl

pub if_holds : {A : Type 0} (P : A → Type 0) (b : Bool) (x y : Result A Fault) → (b ≡ true → HoldsUnlessFault P x) → (b ≡ false → HoldsUnlessFault P y) → HoldsUnlessFault P (if b then x else y)
if_holds P true x y holds fails = holds refl
if_holds P false x y holds fails = fails refl

-- ---- ranges

-- cells that are no more than may be passed
abbrev pub HasFewCells : Cells → Type 0
HasFewCells cells = cells.length ≤ MOST_CELLS

pub range_few : (reference : Reference) (s : State) → SlotsFit s → HoldsUnlessFault HasFewCells (range reference s)
range_few reference s fit = holds_from HasFewCells (range reference s) (λ cells is. range_fits reference s cells fit is)

-- ---- checks

-- a communicator that the rank knows
pub record IsKnownCommunicator (n me : ℕ) (own : View) (comm : Communicator) : Type 0 where
  pub known : known_in n own comm.number ≡ Some comm.members
  pub are : AreMembers n me comm.members

communicator_known : (n me : ℕ) (own : View) (s : State) (v : ℤ) → IsGoodState n me own s → HoldsUnlessFault (IsKnownCommunicator n me own) (communicator_of (rank_of n me) s v)
communicator_known n me own s (negsuc i) good = tt
communicator_known n me own s (pos i) good =
    given_holds (IsKnownCommunicator n me own) (λ members. members_known n s i ≡ Some members) (or_fault BadComm (members_known n s i)) _
    (or_fault_holds (λ members. members_known n s i ≡ Some members) BadComm (members_known n s i) (λ members is. is))
    (λ members is. let known : known_in n own i ≡ Some members = sym (good.known i) ∙ is in record { known = known; are = good.order.known i members known })

count_few : (v : ℤ) → HoldsUnlessFault (λ count. count ≤ MOST_INTS) (count_of v)
count_few (negsuc i) = tt
count_few (pos i) = if_holds (λ count. count ≤ MOST_INTS) (nat_le i MOST_INTS) _ _ (λ t. leb-true i MOST_INTS t) (λ f. tt)

list_has : (members : List ℕ) (k rank : ℕ) → slice_get members k ≡ Some rank → is_member members rank ≡ true
list_has [] k rank is = absurd (cc)
list_has (m ∷ members) zero rank is = (let same : m ≡ rank = cc in or_left (m == rank) (is_member members rank) (eq-eqb m rank same))
list_has (m ∷ members) (suc k) rank is = or_right (m == rank) (is_member members rank) (list_has members k rank is)

member_is : (comm : Communicator) (v : ℤ) → HoldsUnlessFault (λ rank. is_member comm.members rank ≡ true) (member comm v)
member_is comm (negsuc i) = tt
member_is comm (pos i) = or_fault_holds (λ rank. is_member comm.members rank ≡ true) BadRank (slice_get comm.members i) (λ rank is. list_has comm.members i rank is)

-- a member is a rank below n
pub below : (n me : ℕ) (own : View) (comm : Communicator) (rank : ℕ) → IsKnownCommunicator n me own comm → is_member comm.members rank ≡ true → rank < n
below n me own comm rank known is = ltb-true rank n (below_member n comm.members rank known.are.below is)

destination_below : (n me : ℕ) (own : View) (comm : Communicator) (v : ℤ) → IsKnownCommunicator n me own comm → HoldsUnlessFault (λ dest. IfSome dest (λ rank. rank < n)) (destination comm v)
destination_below n me own comm v known =
    if_holds (λ dest. IfSome dest (λ rank. rank < n)) (int_eq v null) _ _ (λ t. tt) (λ f.
    given_holds (λ dest. IfSome dest (λ rank. rank < n)) (λ rank. is_member comm.members rank ≡ true) (member comm v) _ (member_is comm v) (λ rank is.
    below n me own comm rank known is))

source_below : (n me : ℕ) (own : View) (comm : Communicator) (v : ℤ) → IsKnownCommunicator n me own comm → HoldsUnlessFault (λ source. IsSourceBelow n source) (source_of comm v)
source_below n me own comm v known =
    if_holds (λ source. IsSourceBelow n source) (int_eq v null) _ _ (λ t. tt) (λ f.
    if_holds (λ source. IsSourceBelow n source) (int_eq v any_source) _ _ (λ t. tt) (λ f.
    given_holds (λ source. IsSourceBelow n source) (λ rank. is_member comm.members rank ≡ true) (member comm v) _ (member_is comm v) (λ rank is.
    below n me own comm rank known is)))

tag_small : (v : ℤ) → HoldsUnlessFault (λ tag. tag < 2 ^ 31) (tag_of v)
tag_small (negsuc i) = tt
tag_small (pos i) = if_holds (λ tag. tag < 2 ^ 31) (nat_le i GREATEST_TAG) _ _ (λ t. let most = leb-true i GREATEST_TAG t in omega (arith, most)) (λ f. tt)

wanted_small : (v : ℤ) → HoldsUnlessFault IsTagInBounds (wanted_tag v)
wanted_small v =
    if_holds IsTagInBounds (int_eq v null) _ _ (λ t. tt) (λ f.
    given_holds IsTagInBounds (λ tag. tag < 2 ^ 31) (tag_of v) _ (tag_small v) (λ tag small. small))

-- the first elements of a range
pub record IsFirstPart (n : ℕ) (cells part : Cells) : Type 0 where
  pub length : part.length ≡ n
  pub within : n ≤ cells.length

pub first_is : (n : ℕ) (cells : Cells) → HoldsUnlessFault (IsFirstPart n cells) (first_of_range n cells)
first_is n cells = if_holds (IsFirstPart n cells) (nat_le n cells.length) _ _ (λ t. record { length = refl; within = leb-true n cells.length t }) (λ f. tt)

-- ---- going on behind a check

pub on_range : {B : Type 0} (P : B → Type 0) (s : State) (few : SlotsFit s) (reference : Reference) (go : Cells → Result B Fault) → ((cells : Cells) → HasFewCells cells → HoldsUnlessFault P (go cells)) → HoldsUnlessFault P (given (range reference s) go)
on_range P s few reference go on = given_holds P HasFewCells (range reference s) go (range_few reference s few) on

pub on_comm : {B : Type 0} (P : B → Type 0) (n me : ℕ) (own : View) (s : State) (good : IsGoodState n me own s) (v : ℤ) (go : Communicator → Result B Fault) → ((comm : Communicator) → IsKnownCommunicator n me own comm → HoldsUnlessFault P (go comm)) → HoldsUnlessFault P (given (communicator_of (rank_of n me) s v) go)
on_comm P n me own s good v go on = given_holds P (IsKnownCommunicator n me own) (communicator_of (rank_of n me) s v) go (communicator_known n me own s v good) on

pub on_count : {B : Type 0} (P : B → Type 0) (v : ℤ) (go : ℕ → Result B Fault) → ((count : ℕ) → count ≤ MOST_INTS → HoldsUnlessFault P (go count)) → HoldsUnlessFault P (given (count_of v) go)
on_count P v go on = given_holds P (λ count. count ≤ MOST_INTS) (count_of v) go (count_few v) on

pub on_destination : {B : Type 0} (P : B → Type 0) (n me : ℕ) (own : View) (comm : Communicator) (known : IsKnownCommunicator n me own comm) (v : ℤ) (go : Option ℕ → Result B Fault) → ((dest : Option ℕ) → IfSome dest (λ rank. rank < n) → HoldsUnlessFault P (go dest)) → HoldsUnlessFault P (given (destination comm v) go)
on_destination P n me own comm known v go on = given_holds P (λ dest. IfSome dest (λ rank. rank < n)) (destination comm v) go (destination_below n me own comm v known) on

pub on_source : {B : Type 0} (P : B → Type 0) (n me : ℕ) (own : View) (comm : Communicator) (known : IsKnownCommunicator n me own comm) (v : ℤ) (go : Source → Result B Fault) → ((source : Source) → IsSourceBelow n source → HoldsUnlessFault P (go source)) → HoldsUnlessFault P (given (source_of comm v) go)
on_source P n me own comm known v go on = given_holds P (λ source. IsSourceBelow n source) (source_of comm v) go (source_below n me own comm v known) on

pub on_member : {B : Type 0} (P : B → Type 0) (comm : Communicator) (v : ℤ) (go : ℕ → Result B Fault) → ((rank : ℕ) → is_member comm.members rank ≡ true → HoldsUnlessFault P (go rank)) → HoldsUnlessFault P (given (member comm v) go)
on_member P comm v go on = given_holds P (λ rank. is_member comm.members rank ≡ true) (member comm v) go (member_is comm v) on

pub on_tag : {B : Type 0} (P : B → Type 0) (v : ℤ) (go : ℕ → Result B Fault) → ((tag : ℕ) → tag < 2 ^ 31 → HoldsUnlessFault P (go tag)) → HoldsUnlessFault P (given (tag_of v) go)
on_tag P v go on = given_holds P (λ tag. tag < 2 ^ 31) (tag_of v) go (tag_small v) on

pub on_wanted : {B : Type 0} (P : B → Type 0) (v : ℤ) (go : Tag → Result B Fault) → ((tag : Tag) → IsTagInBounds tag → HoldsUnlessFault P (go tag)) → HoldsUnlessFault P (given (wanted_tag v) go)
on_wanted P v go on = given_holds P IsTagInBounds (wanted_tag v) go (wanted_small v) on

pub on_first : {B : Type 0} (P : B → Type 0) (n : ℕ) (cells : Cells) (go : Cells → Result B Fault) → ((part : Cells) → IsFirstPart n cells part → HoldsUnlessFault P (go part)) → HoldsUnlessFault P (given (first_of_range n cells) go)
on_first P n cells go on = given_holds P (IsFirstPart n cells) (first_of_range n cells) go (first_is n cells) on

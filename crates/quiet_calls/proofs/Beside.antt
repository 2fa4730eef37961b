-- What a history has with one still event more: for the ranks beside its own, what it had.
use Rattle.std.proofs.Common.{◌≡◌, ◌∙◌, ◌++◌, ◌==◌, ◌+◌, ◌<◌, ◌&&◌, ◌||◌, ◌∷◌, ◌⊎◌, if◌then◌else◌, ℕ, List, [], Option, Some, None, Bool, true, false, append-nil, inl, inr, is_some, length, not, slice_get, take, refl, ap, sym, subst, arith}
use Rattle.std.proofs.Math.Path.{fun_ext}
use Rattle.std.proofs.lemmas.Bool.{cases_order, eqb-true}
use Rattle.std.proofs.lemmas.List.{take-append-le}
use Rattle.std.specs.List.{list_any}
use Rattle.mpi_call.specs.declared.call.Call.{Call}
use Rattle.mpi_call.specs.declared.call.Source.{Source}
use Rattle.mpi_call.specs.declared.call.Tag.{Tag}
use Rattle.mpi_call.specs.declared.reply.Got.TheVariants.{Nothing}
use Rattle.mpi_call.specs.declared.reply.Reply.{Reply}
use Rattle.mpi_call.specs.Acceptance.{accepts}
use Rattle.run_model.specs.declared.event.Event.{Event}
use Rattle.run_model.specs.Allowed.{has_open, open_in, probe_of}
use Rattle.run_model.specs.Choice.{choice, suits}
use Rattle.run_model.specs.Chosen.{message_of_pair, message_of}
use Rattle.run_model.specs.Communicators.{Entered, enter_at, entered_from, is_on, known_after, known_first}
use Rattle.run_model.specs.Lists.{world}
use Rattle.run_model.specs.Numbers.{communicators_of, made_at}
use Rattle.run_model.specs.Pairs.{Name, name_at, named, pair_of, pairs_of, partner_of}
use Rattle.run_model.specs.Views.{View, is_start, start_at, starts_of, view_of}
use Rattle.run_model.proofs.Choosing.{IsOpenAt, choice_is, choice_is_none, choice_none, choice_some}
use Rattle.run_model.proofs.Enters.{entered_from-split}
use Rattle.run_model.proofs.Numbered.{communicators_of-push}
use Rattle.run_model.proofs.Orders.{start_back}
use Rattle.run_model.proofs.Positions.{name_at-rises, name_parts, name_position}
use Rattle.run_model.proofs.Prefixes.{Begins-more}
use Rattle.run_model.proofs.StartLemmas.{slice_get-append, slice_get-below, start_at-kept, starts_of-append}
use Rattle.run_model.proofs.Views.{option_cases, test_cases, view_of-mine, view_of-other}
use Rattle.picked_runs.proofs.Grown.{pairs_of-push}
use Rattle.quiet_calls.proofs.Still.{IsStill, accepts_still, is_still, still_makes, still_message, still_on, still_suits}

-- 1. Enters

entered_one : (comm number : ℕ) (known : Option (List ℕ)) (call : Call) (reply : Reply) → is_on comm call ≡ false → entered_from comm number known ((call, reply) ∷ []) ≡ []
entered_one comm number known call reply off =
    elim (test_cases (is_start (call, reply))) [
      | inl t ↦ rw (t, off) refl
      | inr t ↦ rw t refl
    ]

pub enter_beside : (n : ℕ) (view : View) (call : Call) (reply : Reply) (comm instance : ℕ) → is_on comm call ≡ false
    → enter_at n (view ++ (call, reply) ∷ []) comm instance ≡ enter_at n view comm instance
enter_beside n view call reply comm instance off =
    let known : Option (List ℕ) = known_first n comm in
    let front : List Entered = entered_from comm 0 known view in
    let whole : entered_from comm 0 known (view ++ (call, reply) ∷ []) ≡ front =
    entered_from-split comm 0 known view ((call, reply) ∷ [])
    ∙ (ap (λ l. front ++ l) (entered_one comm (0 + length (starts_of view)) (known_after comm known view) call reply off) ∙ append-nil front) in
    ap (λ l. slice_get l instance) whole

-- of all ranks
pub enters_stay : (n : ℕ) (before : List Event) (event : Event) → IsStill event → (comm instance m : ℕ)
    → enter_at n (view_of (before ++ event ∷ []) m) comm instance ≡ enter_at n (view_of before m) comm instance
enters_stay n before event still comm instance m =
    elim (test_cases (event.rank == m)) [
      | inl t ↦
          ap (λ (v : View). enter_at n v comm instance) (view_of-mine before event m (eqb-true event.rank m t))
          ∙ enter_beside n (view_of before m) event.call event.reply comm instance (still_on comm event.call still.call)
      | inr f ↦ ap (λ (v : View). enter_at n v comm instance) (view_of-other before event m f)
    ]

-- 2. pairs and communicators

pub pair_still : (before : List Event) (event : Event) → IsStill event → pair_of before event ≡ []
pair_still before event still = rw (still.mate, still.none_met) refl

pub pairs_stay : (before : List Event) (event : Event) → IsStill event → pairs_of (before ++ event ∷ []) ≡ pairs_of before
pairs_stay before event still =
    pairs_of-push before event ∙ (ap (λ l. pairs_of before ++ l) (pair_still before event still) ∙ append-nil (pairs_of before))

pub made_still : (n : ℕ) (before : List Event) (event : Event) → IsStill event → made_at n before event ≡ []
made_still n before event still =
    elim (test_cases (is_start (event.call, event.reply))) [
      | inl t ↦ rw t (still_makes _ _ event.call still.call)
      | inr t ↦ rw t refl
    ]

pub made_stay : (n : ℕ) (before : List Event) (event : Event) → IsStill event → communicators_of n (before ++ event ∷ []) ≡ communicators_of n before
made_stay n before event still =
    communicators_of-push n before event
    ∙ (ap (λ l. communicators_of n before ++ l) (made_still n before event still) ∙ append-nil (communicators_of n before))

-- 3. starts

-- what is there stays
pub named_on : (before more : List Event) (name : Name) (start : Call) → named before name ≡ Some start → named (before ++ more) name ≡ Some start
named_on before more name start h =
    (start_at-kept (view_of before name.0) (view_of (before ++ more) name.0) name.1 (Begins-more before more name.0)).kept start h

-- and what is new is the event's
pub named_back : (before : List Event) (event : Event) (name : Name) (start : Call) → named (before ++ event ∷ []) name ≡ Some start
    → (named before name ≡ Some start) ⊎ (event.call ≡ start)
named_back before event name start h =
    elim (test_cases (event.rank == name.0)) [
      | inl t ↦
          let F : View → Type 0 = λ v. start_at v name.1 ≡ Some start in
          start_back (view_of before name.0) event.call event.reply name.1 start (subst F (view_of-mine before event name.0 (eqb-true event.rank name.0 t)) h)
      | inr f ↦
          let F : View → Type 0 = λ v. start_at v name.1 ≡ Some start in
          inl (subst F (view_of-other before event name.0 f) h)
    ]

pub name_on : (before more : List Event) (at : ℕ) (name : Name) → name_at before at ≡ Some name → name_at (before ++ more) at ≡ Some name
name_on before more at name h =
    let p = name_parts (take at before) (slice_get before at) name h in
    let below : at < length before = slice_get-below before at p.event p.there in
    rw (take-append-le at before more (omega (arith, below)), slice_get-append before more at p.event p.there, p.start) (ap (λ (x : Name). Some x) p.name_is)

pub one_place : (events : List Event) (i j : ℕ) (name : Name) → name_at events i ≡ Some name → name_at events j ≡ Some name → i ≡ j
one_place events i j name h k =
    elim (cases_order i j) [
      | inl same ↦ same
      | inr apart ↦ elim apart [
        | inl less ↦ (let no : name.1 < name.1 = name_at-rises events i j name name h k refl less in absurd (omega (arith, no)))
        | inr more ↦ (let no : name.1 < name.1 = name_at-rises events j i name name k h refl more in absurd (omega (arith, no)))
      ]
    ]

pub message_stays : (before : List Event) (event : Event) → IsStill event → (partner : Option Name) → message_of (before ++ event ∷ []) partner ≡ message_of before partner
message_stays before event still None = refl
message_stays before event still (Some name) =
    elim (option_cases (named before name)) [
      | inl some ↦ ap (message_of_pair name) (named_on before (event ∷ []) name some.0 some.1 ∙ sym some.1)
      | inr none ↦ elim (option_cases (named (before ++ event ∷ []) name)) [
        | inl new ↦ elim (named_back before event name new.0 new.1) [
          | inl was ↦ (let no : None ≡ Some new.0 = sym none ∙ was in absurd (cc))
          | inr here ↦
              let F : Call → Type 0 = λ c. message_of_pair name (Some c) ≡ Nothing in
              let nothing : message_of_pair name (Some new.0) ≡ Nothing = subst F here (still_message name event.call still.call) in
              ap (message_of_pair name) new.1 ∙ (nothing ∙ sym (ap (message_of_pair name) none))
        ]
        | inr free ↦ ap (message_of_pair name) (free ∙ sym none)
      ]
    ]

-- 4. the earliest open start

pub open_on : (before : List Event) (event : Event) → IsStill event → (me : ℕ) (call : Call) (at : ℕ) → IsOpenAt before me call at
    → IsOpenAt (before ++ event ∷ []) me call at
open_on before event still me call at o =
    record {
      name = o.name;
      start = o.start;
      there = name_on before (event ∷ []) at o.name o.there;
      made = named_on before (event ∷ []) o.name o.start o.made;
      free = ap (λ l. partner_of l o.name) (pairs_stay before event still) ∙ o.free;
      suited = o.suited;
    }

pub open_back : (before : List Event) (event : Event) → IsStill event → (me : ℕ) (call : Call) (at : ℕ) → IsOpenAt (before ++ event ∷ []) me call at
    → IsOpenAt before me call at
open_back before event still me call at o =
    let free : partner_of (pairs_of before) o.name ≡ None = ap (λ l. partner_of l o.name) (sym (pairs_stay before event still)) ∙ o.free in
    elim (named_back before event o.name o.start o.made) [
      | inl was ↦
          let place = name_position before o.name o.start was in
          let same : place.0 ≡ at = one_place (before ++ event ∷ []) place.0 at o.name (name_on before (event ∷ []) place.0 o.name place.1) o.there in
          let F : ℕ → Type 0 = λ i. name_at before i ≡ Some o.name in
          record { name = o.name; start = o.start; there = subst F same place.1; made = was; free = free; suited = o.suited }
      | inr here ↦
          let F : Call → Type 0 = λ c. suits me call o.name.0 c ≡ false in
          let never : suits me call o.name.0 o.start ≡ false = subst F here (still_suits me call o.name.0 event.call still.call) in
          let no : true ≡ false = sym o.suited ∙ never in
          absurd (cc)
    ]

pub choice_stays : (before : List Event) (event : Event) → IsStill event → (me : ℕ) (call : Call) → choice (before ++ event ∷ []) me call ≡ choice before me call
choice_stays before event still me call =
    elim (option_cases (choice before me call)) [
      | inl some ↦
          let c = choice_some before me call some.0 some.1 in
          choice_is (before ++ event ∷ []) me call some.0
          (record {
            chosen = open_on before event still me call some.0 c.chosen;
            first = λ other o. c.first other (open_back before event still me call other o);
          })
          ∙ sym some.1
      | inr none ↦
          choice_is_none (before ++ event ∷ []) me call (λ at o. choice_none before me call none at (open_back before event still me call at o)) ∙ sym none
    ]

-- 5. what a probe looks for

or_false : (a : Bool) → (a || false) ≡ a
or_false true = refl
or_false false = refl

open_in-more : (pairs : List (Name × Name)) (me comm : ℕ) (source : Source) (tag : Tag) (sender start : ℕ) (calls : List Call) (call : Call) → is_still call ≡ true
    → open_in pairs (probe_of me comm source tag) sender start (calls ++ call ∷ []) ≡ open_in pairs (probe_of me comm source tag) sender start calls
open_in-more pairs me comm source tag sender start [] call h =
    ap (λ (b : Bool). (b && not (is_some (partner_of pairs (sender, start)))) || false) (accepts_still me comm source tag sender call h)
open_in-more pairs me comm source tag sender start (c ∷ calls) call h =
    ap (λ (b : Bool). (accepts me comm source tag sender c && not (is_some (partner_of pairs (sender, start)))) || b)
    (open_in-more pairs me comm source tag sender (start + 1) calls call h)

starts_more : (before : List Event) (event : Event) (rank : ℕ) → event.rank ≡ rank
    → starts_of (view_of (before ++ event ∷ []) rank) ≡ starts_of (view_of before rank) ++ (if is_start (event.call, event.reply) then event.call ∷ [] else [])
starts_more before event rank same =
    ap starts_of (view_of-mine before event rank same) ∙ starts_of-append (view_of before rank) ((event.call, event.reply) ∷ [])

looked_stays : (before : List Event) (event : Event) → IsStill event → (me comm : ℕ) (source : Source) (tag : Tag) (sender : ℕ)
    → open_in (pairs_of (before ++ event ∷ [])) (probe_of me comm source tag) sender 0 (starts_of (view_of (before ++ event ∷ []) sender))
    ≡ open_in (pairs_of before) (probe_of me comm source tag) sender 0 (starts_of (view_of before sender))
looked_stays before event still me comm source tag sender =
    let look : List (Name × Name) → List Call → Bool = λ pairs calls. open_in pairs (probe_of me comm source tag) sender 0 calls in
    let calls : List Call = starts_of (view_of before sender) in
    let starts : look (pairs_of before) (starts_of (view_of (before ++ event ∷ []) sender)) ≡ look (pairs_of before) calls =
    elim (test_cases (event.rank == sender)) [
      | inl t ↦
          ap (look (pairs_of before)) (starts_more before event sender (eqb-true event.rank sender t))
          ∙ (elim (test_cases (is_start (event.call, event.reply))) [
            | inl s ↦ rw s (open_in-more (pairs_of before) me comm source tag sender 0 calls event.call still.call)
            | inr s ↦ rw s (ap (look (pairs_of before)) (append-nil calls))
          ])
      | inr f ↦ ap (λ (v : View). look (pairs_of before) (starts_of v)) (view_of-other before event sender f)
    ] in
    ap (λ l. look l (starts_of (view_of (before ++ event ∷ []) sender))) (pairs_stay before event still) ∙ starts

pub has_open-stays : (n : ℕ) (before : List Event) (event : Event) → IsStill event → (me comm : ℕ) (source : Source) (tag : Tag)
    → has_open n (before ++ event ∷ []) me comm source tag ≡ has_open n before me comm source tag
has_open-stays n before event still me comm source tag =
    ap (λ (look : ℕ → Bool). list_any look (world n 0)) (fun_ext (λ sender. looked_stays before event still me comm source tag sender))

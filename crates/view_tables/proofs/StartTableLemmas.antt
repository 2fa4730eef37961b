-- The table of starts after one more event.
use Rattle.std.proofs.Common.{◌≡◌, ◌≢◌, ◌≤◌, ◌<◌, ◌+◌, ℕ, zero, suc, List, [], ◌∷◌, ◌++◌, ◌==◌, ◌&&◌, ◌||◌, Bool, inl, inr, Some, None, true, false, refl, ap, sym, ◌∙◌, subst, replicate, length, set, get_or, slice_get, slice_index, map, nat_le, nat_lt, not, append-nil, append_assoc, length-append, length-set, arith, is_some, get_or-set_same, get_or-set_other}
use Rattle.std.proofs.lemmas.List.{length-replicate}
use Rattle.std.proofs.lemmas.Bool.{and_parts, eqb-true, eq-eqb, ltb-true, ne_eqb, or_cases}
use Rattle.std.specs.List.{list_all}
use Rattle.mpi_call.specs.declared.call.Call.{Call}
use Rattle.mpi_call.specs.declared.call.Call.TheVariants.{Take}
use Rattle.mpi_call.specs.declared.reply.Item.{Item}
use Rattle.mpi_call.specs.declared.reply.Reply.{Reply}
use Rattle.mpi_call.specs.declared.reply.Reply.TheVariants.{Done, Took, NotYet, Peeked, Stopped}
use Rattle.mpi_call.specs.Calls.{is_starting, listed_by}
use Rattle.mpi_call.specs.Collectives.{is_member}
use Rattle.run_model.specs.declared.event.Event.{Event}
use Rattle.run_model.specs.Shape.{can_take, gots_fit, has_count, has_shape, rise_within}
use Rattle.run_model.specs.Views.{View, is_start, items_taken, start_at, starts_of, taken_of, view_of}
use Rattle.run_model.proofs.StartLemmas.{slice_get-append, slice_get-below, slice_get-last, slice_get-push, starts_of-append}
use Rattle.run_model.proofs.Views.{length-view_of, option_cases, test_cases, view_of-other, view_of-own}
use Rattle.view_tables.specs.declared.start_table.StartRow.{StartRow}
use Rattle.view_tables.specs.StartTable.{AreStarts, IsStartRow, IsStartTable, TakesMade, starts_after, with_all_taken, with_start_taken}

pub replicate_more : {A : Type 0} (n : ℕ) (x : A) → replicate (n + 1) x ≡ replicate n x ++ x ∷ []
replicate_more n x = (let one : n + 1 ≡ suc n = omega arith in ap (λ (k : ℕ). replicate k x) one ∙ more n x)
  where
    more : {A : Type 0} (n : ℕ) (x : A) → replicate (suc n) x ≡ replicate n x ++ x ∷ []
    more zero x = refl
    more (suc n) x = ap (λ xs. x ∷ xs) (more n x)

pub get_or-replicate : {A : Type 0} (n k : ℕ) (x : A) → get_or (replicate n x) k x ≡ x
get_or-replicate zero k x = refl
get_or-replicate (suc n) zero x = refl
get_or-replicate (suc n) (suc k) x = get_or-replicate n k x

some_below : {A : Type 0} (xs : List A) (k : ℕ) → is_some (slice_get xs k) ≡ true → k < length xs
some_below [] k h = absurd (cc)
some_below (x ∷ xs) zero h = omega arith
some_below (x ∷ xs) (suc k) h = (let rest = some_below xs k h in omega (arith, rest))

below_some : {A : Type 0} (xs : List A) (k : ℕ) → k < length xs → (x : A) × (slice_get xs k ≡ Some x)
below_some [] k h = absurd (omega (arith, h))
below_some (x ∷ xs) zero h = (x, refl)
below_some (x ∷ xs) (suc k) h = below_some xs k (omega (arith, h))

or_swap : (a b : Bool) → (a || b) ≡ (b || a)
or_swap true true = refl
or_swap true false = refl
or_swap false true = refl
or_swap false false = refl

-- marking one start, as a write at its place
pub with_taken-at : (starts : List StartRow) (number : ℕ) (start : StartRow) → number < length starts → start ≡ get_or starts number start → set starts number (record start { taken = true }) ≡ with_start_taken starts number
with_taken-at [] number start below is = absurd (omega (arith, below))
with_taken-at (first ∷ starts) zero start below is = ap (λ (s : StartRow). (record s { taken = true }) ∷ starts) is
with_taken-at (first ∷ starts) (suc number) start below is =
    ap (λ rest. first ∷ rest) (with_taken-at starts number start (omega (arith, below)) is)

pub with_taken-past : (starts : List StartRow) (number : ℕ) → length starts ≤ number → with_start_taken starts number ≡ starts
with_taken-past [] number past = refl
with_taken-past (first ∷ starts) zero past = absurd (omega (arith, past))
with_taken-past (first ∷ starts) (suc number) past = ap (λ rest. first ∷ rest) (with_taken-past starts number (omega (arith, past)))

length-with_taken : (starts : List StartRow) (number : ℕ) → length (with_start_taken starts number) ≡ length starts
length-with_taken [] number = refl
length-with_taken (first ∷ starts) zero = refl
length-with_taken (first ∷ starts) (suc number) = ap suc (length-with_taken starts number)

length-with_all_taken : (starts : List StartRow) (numbers : List ℕ) → length (with_all_taken starts numbers) ≡ length starts
length-with_all_taken starts [] = refl
length-with_all_taken starts (number ∷ numbers) = length-with_all_taken (with_start_taken starts number) numbers ∙ length-with_taken starts number

-- a start before it was marked, or not
record IsMarked (starts : List StartRow) (k : ℕ) (start : StartRow) (now : Bool) : Type 0 where
  pub old : StartRow
  pub there : slice_get starts k ≡ Some old
  pub at : start.at ≡ old.at
  pub taken : start.taken ≡ (now || old.taken)

eqb-suc : (a b : ℕ) → (suc a == suc b) ≡ (a == b)
eqb-suc a b =
    elim (test_cases (a == b)) [
      | inl h ↦ rw h (eq-eqb (suc a) (suc b) (ap suc (eqb-true a b h)))
      | inr h ↦ rw h (ne_eqb (suc a) (suc b) (λ e. let no : (a == b) ≡ true = eq-eqb a b (omega (arith, e)) in cc))
    ]

with_taken-back : (starts : List StartRow) (number k : ℕ) (start : StartRow) → slice_get (with_start_taken starts number) k ≡ Some start → IsMarked starts k start (number == k)
with_taken-back [] number k start h = absurd (cc)
with_taken-back (first ∷ starts) zero zero start h =
    let marked : StartRow = record first { taken = true } in
    let same : marked ≡ start = cc in
    record { old = first; there = refl; at = ap (λ (s : StartRow). s.at) (sym same); taken = ap (λ (s : StartRow). s.taken) (sym same) }
with_taken-back (first ∷ starts) zero (suc k) start h =
    let apart : (zero == suc k) ≡ false = ne_eqb zero (suc k) (λ e. omega (arith, e)) in
    record { old = start; there = h; at = refl; taken = rw apart refl }
with_taken-back (first ∷ starts) (suc number) zero start h =
    let apart : (suc number == zero) ≡ false = ne_eqb (suc number) zero (λ e. omega (arith, e)) in
    record { old = start; there = h; at = refl; taken = rw apart refl }
with_taken-back (first ∷ starts) (suc number) (suc k) start h =
    let rest = with_taken-back starts number k start h in
    record { old = rest.old; there = rest.there; at = rest.at; taken = rw (eqb-suc number k) rest.taken }

or_turn : (a b c : Bool) → (b || (a || c)) ≡ ((a || b) || c)
or_turn true true c = refl
or_turn true false c = refl
or_turn false b c = refl

with_all_taken-back : (starts : List StartRow) (numbers : List ℕ) (k : ℕ) (start : StartRow) → slice_get (with_all_taken starts numbers) k ≡ Some start → IsMarked starts k start (is_member numbers k)
with_all_taken-back starts [] k start h = record { old = start; there = h; at = refl; taken = refl }
with_all_taken-back starts (number ∷ numbers) k start h =
    let later = with_all_taken-back (with_start_taken starts number) numbers k start h in
    let first = with_taken-back starts number k later.old later.there in
    record {
      old = first.old;
      there = first.there;
      at = later.at ∙ first.at;
      taken = later.taken ∙ ap (λ t. is_member numbers k || t) first.taken ∙ or_turn (number == k) (is_member numbers k) first.old.taken;
    }

-- what was taken, after one more call
pub is_member-append : (xs ys : List ℕ) (k : ℕ) → is_member (xs ++ ys) k ≡ (is_member xs k || is_member ys k)
is_member-append [] ys k = refl
is_member-append (x ∷ xs) ys k =
    elim (test_cases (x == k)) [
      | inl h ↦ rw h refl
      | inr h ↦ rw h (is_member-append xs ys k)
    ]

pub taken_of-append : (xs ys : View) → taken_of (xs ++ ys) ≡ taken_of xs ++ taken_of ys
taken_of-append [] ys = refl
taken_of-append ((call, Took items) ∷ xs) ys =
    ap (λ rest. items_taken (listed_by call) items ++ rest) (taken_of-append xs ys)
    ∙ sym (append_assoc (items_taken (listed_by call) items) (taken_of xs) (taken_of ys))
taken_of-append ((call, Done) ∷ xs) ys = taken_of-append xs ys
taken_of-append ((call, NotYet) ∷ xs) ys = taken_of-append xs ys
taken_of-append ((call, Peeked source start tag count) ∷ xs) ys = taken_of-append xs ys
taken_of-append ((call, Stopped halt) ∷ xs) ys = taken_of-append xs ys

-- a start of before stays
IsStart-kept : (events : List Event) (event : Event) (own more : View) (k : ℕ) (start : StartRow) → taken_of more ≡ [] → IsStartRow events own k start → IsStartRow (events ++ event ∷ []) (own ++ more) k start
IsStart-kept events event own more k start none is =
    let same : taken_of (own ++ more) ≡ taken_of own = taken_of-append own more ∙ rw (none, append-nil) refl in
    record {
      event = is.event;
      at = slice_get-append events (event ∷ []) start.at is.event is.at;
      call = rw starts_of-append (slice_get-append (starts_of own) (starts_of more) k is.event.call is.call);
      taken = rw same is.taken;
    }

done_takes_none : (call : Call) (reply : Reply) → is_start (call, reply) ≡ true → taken_of ((call, reply) ∷ []) ≡ []
done_takes_none call Done h = refl
done_takes_none call (Took items) h = (let two = and_parts (is_starting call) false h in absurd (cc))
done_takes_none call NotYet h = refl
done_takes_none call (Peeked source start tag count) h = refl
done_takes_none call (Stopped halt) h = refl

-- a start is added
added : (events : List Event) (event : Event) (own : View) (starts : List StartRow) → is_start (event.call, event.reply) ≡ true → AreStarts events own starts → AreStarts (events ++ event ∷ []) (own ++ (event.call, event.reply) ∷ []) (starts ++ (record { at = length events; taken = false }) ∷ [])
added events event own starts is are =
    let seen : View = (event.call, event.reply) ∷ [] in
    let none : taken_of seen ≡ [] = done_takes_none event.call event.reply is in
    let one : starts_of seen ≡ event.call ∷ [] = rw is refl in
    let new : StartRow = record { at = length events; taken = false } in
    let same : taken_of (own ++ seen) ≡ taken_of own = taken_of-append own seen ∙ rw (none, append-nil) refl in
    let many = are.as_many in
    record {
      as_many = rw (starts_of-append, one, length-append, length-append) (omega (arith, many));
      each = λ k start h. elim (slice_get-push starts new k start h) [
        | inr was ↦ IsStart-kept events event own seen k start none (are.each k start was)
        | inl e ↦ (
            let here : slice_get (starts ++ new ∷ []) (length starts) ≡ Some start = rw e at h in
            let some : Some new ≡ Some start = sym (slice_get-last starts new) ∙ here in
            let is_new : new ≡ start = cc in
            let F : StartRow → Type 0 = λ s. IsStartRow (events ++ event ∷ []) (own ++ seen) k s in
            let untaken : is_member (taken_of own) k ≡ false = elim (test_cases (is_member (taken_of own) k)) [
              | inl t ↦ (let low = are.made k t in absurd (omega (arith, low, e)))
              | inr t ↦ t
            ] in
            subst F is_new (record {
              event = event;
              at = slice_get-last events event;
              call = rw (starts_of-append, one, e, many) (slice_get-last (starts_of own) event.call);
              taken = rw (same, untaken) refl;
            }))
      ];
      made = λ k h. (let low = are.made k (rw same at h) in rw length-append (omega (arith, low)));
    }

-- starts are taken
marked : (events : List Event) (event : Event) (own : View) (starts : List StartRow) → is_start (event.call, event.reply) ≡ false → TakesMade own event.call event.reply → AreStarts events own starts → AreStarts (events ++ event ∷ []) (own ++ (event.call, event.reply) ∷ []) (with_all_taken starts (taken_of ((event.call, event.reply) ∷ [])))
marked events event own starts is made are =
    let seen : View = (event.call, event.reply) ∷ [] in
    let none : starts_of seen ≡ [] = rw is refl in
    let same : starts_of (own ++ seen) ≡ starts_of own = starts_of-append own seen ∙ rw (none, append-nil) refl in
    let many = are.as_many in
    let long = length-with_all_taken starts (taken_of seen) in
    record {
      as_many = rw same (long ∙ many);
      each = λ k start h.
          let back = with_all_taken-back starts (taken_of seen) k start h in
          let old = are.each k back.old back.there in
          record {
            event = old.event;
            at = ap (λ at. slice_get (events ++ event ∷ []) at) back.at ∙ slice_get-append events (event ∷ []) back.old.at old.event old.at;
            call = rw same old.call;
            taken =
                back.taken
                ∙ ap (λ t. is_member (taken_of seen) k || t) old.taken
                ∙ or_swap (is_member (taken_of seen) k) (is_member (taken_of own) k)
                ∙ sym (is_member-append (taken_of own) (taken_of seen) k)
                ∙ ap (λ numbers. is_member numbers k) (sym (taken_of-append own seen));
          };
      made = λ k h.
          let either : (is_member (taken_of own) k || is_member (taken_of seen) k) ≡ true = sym (is_member-append (taken_of own) (taken_of seen) k) ∙ ap (λ numbers. is_member numbers k) (sym (taken_of-append own seen)) ∙ h in
          let low : k < length starts = elim (or_cases (is_member (taken_of own) k) (is_member (taken_of seen) k) either) [
            | inl was ↦ are.made k was
            | inr now ↦ (let below = some_below (starts_of own) k (made k now) in omega (arith, below, many))
          ] in
          omega (arith, long, low);
    }

-- the starts of the rank after one more event of it
pub AreStarts-after : (events : List Event) (event : Event) (own : View) (starts : List StartRow) → TakesMade own event.call event.reply → AreStarts events own starts → AreStarts (events ++ event ∷ []) (own ++ (event.call, event.reply) ∷ []) (starts_after starts (length events) event.call event.reply)
AreStarts-after events event own starts made are =
    elim (test_cases (is_start (event.call, event.reply))) [
      | inl h ↦ rw h (added events event own starts h are)
      | inr h ↦ rw h (marked events event own starts h made are)
    ]

-- and after one more of another
pub AreStarts-kept : (events : List Event) (event : Event) (own : View) (starts : List StartRow) → AreStarts events own starts → AreStarts (events ++ event ∷ []) own starts
AreStarts-kept events event own starts are =
    let P : View → Type 0 = λ v. AreStarts (events ++ event ∷ []) v starts in
    subst P (append-nil own) (record {
      as_many = rw append-nil are.as_many;
      each = λ k start h. IsStart-kept events event own [] k start refl (are.each k start h);
      made = λ k h. are.made k (rw append-nil at h);
    })

-- the table of all ranks without events, and after one more event
pub IsStartTable-new : (n : ℕ) → IsStartTable n [] (replicate n [])
IsStartTable-new n =
    record {
      as_many = length-replicate n [];
      each = λ rank.
          let none : List StartRow = [] in
          let P : List StartRow → Type 0 = λ starts. AreStarts [] [] starts in
          subst P (sym (get_or-replicate n rank none))
          (record {
            as_many = refl;
            each = λ k start h. absurd (cc);
            made = λ k h. absurd (cc);
          });
    }

pub IsStartTable-after : (n : ℕ) (events : List Event) (event : Event) (table : List (List StartRow)) → event.rank < n → TakesMade (view_of events event.rank) event.call event.reply → IsStartTable n events table → IsStartTable n (events ++ event ∷ []) (set table event.rank (starts_after (get_or table event.rank []) (length events) event.call event.reply))
IsStartTable-after n events event table below made are =
    let now : List StartRow = starts_after (get_or table event.rank []) (length events) event.call event.reply in
    let many = are.as_many in
    let within : event.rank < length table = omega (arith, many, below) in
    record {
      as_many = length-set table event.rank now ∙ many;
      each = λ rank. elim (test_cases (event.rank == rank)) [
        | inl h ↦ (
            let P : ℕ → Type 0 = λ r. AreStarts (events ++ event ∷ []) (view_of (events ++ event ∷ []) r) (get_or (set table event.rank now) r []) in
            let own : P event.rank =
            rw (view_of-own events event, get_or-set_same table event.rank now [] within)
            (AreStarts-after events event (view_of events event.rank) (get_or table event.rank []) made (are.each event.rank)) in
            subst P (eqb-true event.rank rank h) own)
        | inr h ↦ (
            let ne : rank ≢ event.rank = λ e. let t : (event.rank == rank) ≡ true = eq-eqb event.rank rank (sym e) in cc in
            rw (view_of-other events event rank h, get_or-set_other table event.rank rank now [] ne)
            (AreStarts-kept events event (view_of events rank) (get_or table rank []) (are.each rank)))
      ];
    }

-- a rank has no more starts than there are events
pub length-starts_of : (own : View) → length (starts_of own) ≤ length own
length-starts_of [] = omega arith
length-starts_of (seen ∷ own) =
    elim (test_cases (is_start seen)) [
      | inl h ↦ rw h (let rest = length-starts_of own in omega (arith, rest))
      | inr h ↦ rw h (let rest = length-starts_of own in omega (arith, rest))
    ]

pub few_starts : (n : ℕ) (events : List Event) (table : List (List StartRow)) (rank : ℕ) → IsStartTable n events table → length (get_or table rank []) ≤ length events
few_starts n events table rank is =
    let many = (is.each rank).as_many in
    let own = length-starts_of (view_of events rank) in
    let all = length-view_of events rank in
    omega (arith, many, own, all)

-- what the table tells of a start
pub start_within : (events : List Event) (own : View) (starts : List StartRow) (k : ℕ) (start : StartRow) → AreStarts events own starts → Some start ≡ slice_get starts k → start.at < length events
start_within events own starts k start are found =
    let is = are.each k start (sym found) in
    slice_get-below events start.at is.event is.at

pub start_there : (events : List Event) (own : View) (starts : List StartRow) (k : ℕ) (start : StartRow) (event : Event) → AreStarts events own starts → Some start ≡ slice_get starts k → slice_get events start.at ≡ Some event → Some event.call ≡ start_at own k
start_there events own starts k start event are found at =
    let is = are.each k start (sym found) in
    let some : Some event ≡ Some is.event = sym at ∙ is.at in
    let same : event ≡ is.event = cc in
    ap (λ (e : Event). Some e.call) same ∙ sym is.call

pub start_absent : (events : List Event) (own : View) (starts : List StartRow) (k : ℕ) → AreStarts events own starts → None ≡ slice_get starts k → None ≡ start_at own k
start_absent events own starts k are none =
    elim (option_cases (start_at own k)) [
      | inl some ↦ (
          let low = slice_get-below (starts_of own) k some.0 some.1 in
          let many = are.as_many in
          let within : k < length starts = omega (arith, low, many) in
          let there = below_some starts k within in
          absurd (cc))
      | inr absent ↦ sym absent
    ]

pub taken_there : (events : List Event) (own : View) (starts : List StartRow) (k : ℕ) (start : StartRow) → AreStarts events own starts → Some start ≡ slice_get starts k → start.taken ≡ is_member (taken_of own) k
taken_there events own starts k start are found = (are.each k start (sym found)).taken

pub taken_absent : (events : List Event) (own : View) (starts : List StartRow) (k : ℕ) → AreStarts events own starts → None ≡ slice_get starts k → false ≡ is_member (taken_of own) k
taken_absent events own starts k are none =
    elim (test_cases (is_member (taken_of own) k)) [
      | inl t ↦ (let there = below_some starts k (are.made k t) in absurd (cc))
      | inr t ↦ sym t
    ]

-- a reply in its call's shape completes starts that were made alone
listed_made : (own : View) (starts : List ℕ) (index : ℕ) → list_all (λ k. can_take own k) starts ≡ true → index < length starts → is_some (start_at own (slice_index starts index)) ≡ true
listed_made own [] index all h = absurd (omega (arith, h))
listed_made own (k ∷ starts) zero all h =
    (and_parts (is_some (start_at own k)) (not (is_member (taken_of own) k)) (and_parts (can_take own k) (list_all (λ k. can_take own k) starts) all).0).0
listed_made own (k ∷ starts) (suc index) all h =
    listed_made own starts index (and_parts (can_take own k) (list_all (λ k. can_take own k) starts) all).1 (omega (arith, h))

completed_made : (own : View) (starts : List ℕ) (low : ℕ) (items : List Item) (k : ℕ) → rise_within low (length starts) (map (λ (item : Item). item.index) items) ≡ true → list_all (λ k. can_take own k) starts ≡ true → is_member (items_taken starts items) k ≡ true → is_some (start_at own k) ≡ true
completed_made own starts low [] k rising all h = absurd (cc)
completed_made own starts low (item ∷ items) k rising all h =
    let one = and_parts (nat_le low item.index) (nat_lt item.index (length starts) && rise_within (item.index + 1) (length starts) (map (λ (item : Item). item.index) items)) rising in
    let two = and_parts (nat_lt item.index (length starts)) (rise_within (item.index + 1) (length starts) (map (λ (item : Item). item.index) items)) one.1 in
    elim (or_cases (slice_index starts item.index == k) (is_member (items_taken starts items) k) h) [
      | inl here ↦ (
          let F : ℕ → Type 0 = λ number. is_some (start_at own number) ≡ true in
          subst F (eqb-true (slice_index starts item.index) k here) (listed_made own starts item.index all (ltb-true item.index (length starts) two.0)))
      | inr later ↦ completed_made own starts (item.index + 1) items k two.1 all later
    ]

pub takes_made : (n me : ℕ) (own : View) (call : Call) (reply : Reply) → has_shape n me own call reply ≡ true → TakesMade own call reply
takes_made n me own (Take starts mode) (Took items) shape k h =
    let one = and_parts (has_count mode (length starts) (length items)) _ shape in
    let two = and_parts (rise_within 0 (length starts) (map (λ (item : Item). item.index) items)) _ one.1 in
    let three = and_parts (list_all (λ k. can_take own k) starts) (gots_fit n me own starts items) two.1 in
    completed_made own starts 0 items k two.0 three.0 (rw append-nil at h)
takes_made n me own call (Took items) shape k h = absurd (cc)
takes_made n me own call Done shape k h = absurd (cc)
takes_made n me own call NotYet shape k h = absurd (cc)
takes_made n me own call (Peeked source start tag count) shape k h = absurd (cc)
takes_made n me own call (Stopped halt) shape k h = absurd (cc)

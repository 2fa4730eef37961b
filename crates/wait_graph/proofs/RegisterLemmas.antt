-- What is kept beside the events of a run, with one more event.
use Rattle.std.proofs.Common.{◌≡◌, ◌≢◌, ◌<◌, ◌≤◌, ◌+◌, ◌-◌, ◌^◌, ◌∙◌, ◌++◌, ◌∷◌, ◌||◌, ◌==◌, [], ℕ, zero, suc, List, Option, Some, None, Bool, true, false, inl, inr, ap, arith, append-nil, append_assoc, drop, filter, get_or, if◌then◌else◌, is_some, length, length-append, option_map, refl, get_or-set_other, get_or-set_same, length-set, nat_lt, slice_get, slice_set, subst, sym, take}
use Rattle.std.proofs.lemmas.Bool.{cases_order, eq-eqb, eqb-true, lt-ltb, ltb-true}
use Rattle.std.proofs.lemmas.Option.{slice_get-get_or}
use Rattle.std.specs.List.{list_any, slice_index_or}
use Rattle.mpi_call.specs.declared.call.Call.{Call}
use Rattle.mpi_call.specs.declared.reply.Reply.{Reply}
use Rattle.run_model.specs.declared.event.Event.{Event}
use Rattle.run_model.specs.Communicators.{count_on, enter_at, entered_from, is_on, known_first, learned}
use Rattle.run_model.specs.Pairs.{Name, mated, name_at, name_of_start, pair_with, pairs_of, partner_of, same_name}
use Rattle.run_model.specs.Program.{ends}
use Rattle.run_model.specs.Views.{View, is_start, starts_of, view_of}
use Rattle.run_model.proofs.StartLemmas.{starts_of-append}
use Rattle.run_model.proofs.Views.{length-view_of, option_cases, test_cases, view_of-other, view_of-own}
use Rattle.run_model.proofs.Meeting.{pairs_of-push}
use Rattle.srr_entry.specs.Known.{IsKnownOf}
use Rattle.wait_graph.specs.declared.register.Register.{Register}
use Rattle.wait_graph.specs.declared.own.RankRecord.{RankRecord}
use Rattle.msg_races.specs.declared.names.Name.{Name as StartName}
use Rattle.wait_graph.specs.Register.{AreNames, ArePartners, IsRegister, IsRankRecord, count_one, count_start, earlier_in, name_pair, named_by}
use Rattle.msg_races.specs.Names.{same_start}
use Rattle.wait_graph.specs.inside.Names.{is_either}
use Rattle.wait_graph.specs.Partners.{is_paired_in}
use Rattle.wait_graph.specs.Taken.{AreTaken}

-- 1. a rank

any-append : {A : Type 0} (p : A → Bool) (xs : List A) (x : A) → list_any p (xs ++ x ∷ []) ≡ (list_any p xs || p x)
any-append p [] x = or-nil (p x)
  where
    or-nil : (b : Bool) → (b || false) ≡ b
    or-nil true = refl
    or-nil false = refl
any-append p (y ∷ xs) x = elim (test_cases (p y)) [
  | inl t ↦ rw t refl
  | inr t ↦ rw t (any-append p xs x)
]

starts_more : (view : View) (call : Call) (reply : Reply) → length (starts_of (view ++ (call, reply) ∷ [])) ≡ length (starts_of view) + count_start (call, reply)
starts_more view call reply =
    let both = ap length (starts_of-append view ((call, reply) ∷ [])) in
    let sizes = length-append (starts_of view) (starts_of ((call, reply) ∷ [])) in
    elim (test_cases (is_start (call, reply))) [
      | inl t ↦ rw t (let e : length (starts_of (view ++ (call, reply) ∷ [])) ≡ length (starts_of view) + 1 = rw t at (both ∙ sizes) in e)
      | inr t ↦ rw t (let e : length (starts_of (view ++ (call, reply) ∷ [])) ≡ length (starts_of view) + 0 = rw t at (both ∙ sizes) in e)
    ]

pub own_more : (n : ℕ) (view : View) (call : Call) (reply : Reply) (old new : RankRecord) → IsRankRecord n view old → IsKnownOf n (view ++ (call, reply) ∷ []) new.known
    → AreTaken (view ++ (call, reply) ∷ []) new.taken → new.calls ≡ old.calls + 1 → new.starts ≡ old.starts + count_start (call, reply) → new.has_ended ≡ (old.has_ended || ends (call, reply))
    → IsRankRecord n (view ++ (call, reply) ∷ []) new
own_more n view call reply old new is known taken calls starts ended =
    record {
      known = known;
      taken = taken;
      calls = (let a = is.calls in let b = length-append view ((call, reply) ∷ []) in omega (arith, a, b, calls));
      starts = (let a = is.starts in let b = starts_more view call reply in omega (arith, a, b, starts));
      has_ended = ended ∙ ap (λ b. b || ends (call, reply)) is.has_ended ∙ sym (any-append ends view (call, reply));
    }

-- 2. names

take-front : (xs : List Event) (x : Event) (k : ℕ) → k ≤ length xs → take k (xs ++ x ∷ []) ≡ take k xs
take-front xs x zero h = refl
take-front [] x (suc k) h = absurd (omega (arith, h))
take-front (y ∷ xs) x (suc k) h = ap (λ l. y ∷ l) (take-front xs x k (omega (arith, h)))

get-front : {A : Type 0} (xs : List A) (x : A) (k : ℕ) → k < length xs → slice_get (xs ++ x ∷ []) k ≡ slice_get xs k
get-front [] x k h = absurd (omega (arith, h))
get-front (y ∷ xs) x zero h = refl
get-front (y ∷ xs) x (suc k) h = get-front xs x k (omega (arith, h))

get-seam : {A : Type 0} (xs : List A) (x : A) → slice_get (xs ++ x ∷ []) (length xs) ≡ Some x
get-seam [] x = refl
get-seam (y ∷ xs) x = get-seam xs x

get-past : {A : Type 0} (xs : List A) (k : ℕ) → length xs ≤ k → slice_get xs k ≡ None
get-past [] k h = refl
get-past (x ∷ xs) zero h = absurd (omega (arith, h))
get-past (x ∷ xs) (suc k) h = get-past xs k (omega (arith, h))

or-front : {A : Type 0} (xs : List A) (x d : A) (k : ℕ) → k < length xs → slice_index_or (xs ++ x ∷ []) k d ≡ slice_index_or xs k d
or-front [] x d k h = absurd (omega (arith, h))
or-front (y ∷ xs) x d zero h = refl
or-front (y ∷ xs) x d (suc k) h = or-front xs x d k (omega (arith, h))

or-seam : {A : Type 0} (xs : List A) (x d : A) → slice_index_or (xs ++ x ∷ []) (length xs) d ≡ x
or-seam [] x d = refl
or-seam (y ∷ xs) x d = or-seam xs x d

or-past : {A : Type 0} (xs : List A) (d : A) (k : ℕ) → length xs ≤ k → slice_index_or xs k d ≡ d
or-past [] d k h = refl
or-past (x ∷ xs) d zero h = absurd (omega (arith, h))
or-past (x ∷ xs) d (suc k) h = or-past xs d k (omega (arith, h))

take-size : (xs : List Event) → take (length xs) xs ≡ xs
take-size [] = refl
take-size (x ∷ xs) = ap (λ l. x ∷ l) (take-size xs)

name-here : (before : List Event) (event : Event) (name : StartName) → name.rank ≡ event.rank → name.start ≡ length (starts_of (view_of before event.rank))
    → option_map name_pair (named_by event name) ≡ name_of_start before (Some event)
name-here before event name rank start = elim (test_cases (is_start (event.call, event.reply))) [
  | inl t ↦ rw t (let p : Name = (name.rank, name.start) in let q : Name = (event.rank, length (starts_of (view_of before event.rank))) in let same : p ≡ q = cc in ap (λ x. Some x) same)
  | inr t ↦ rw t refl
]

pub names_more : (before : List Event) (event : Event) (names : List (Option StartName)) (name : StartName) → AreNames before names → name.rank ≡ event.rank
    → name.start ≡ length (starts_of (view_of before event.rank)) → AreNames (before ++ event ∷ []) (names ++ named_by event name ∷ [])
names_more before event names name are rank start =
    let many = are.as_many in
    record {
      as_many = (let a = length-append names (named_by event name ∷ []) in let b = length-append before (event ∷ []) in omega (arith, a, b, many));
      each = λ at. elim (cases_order at (length before)) [
        | inl same ↦ (
            let F : ℕ → Type 0 = λ k. option_map name_pair (slice_index_or (names ++ named_by event name ∷ []) k None) ≡ name_at (before ++ event ∷ []) k in
            let here : slice_index_or (names ++ named_by event name ∷ []) (length before) None ≡ named_by event name =
            ap (λ k. slice_index_or (names ++ named_by event name ∷ []) k None) (sym many) ∙ or-seam names (named_by event name) None in
            let there : name_at (before ++ event ∷ []) (length before) ≡ name_of_start before (Some event) =
            ap (λ l. name_of_start l (slice_get (before ++ event ∷ []) (length before))) (take-front before event (length before) (omega arith) ∙ take-size before)
            ∙ ap (name_of_start before) (get-seam before event) in
            subst F (sym same) (ap (option_map name_pair) here ∙ name-here before event name rank start ∙ sym there))
        | inr apart ↦ elim apart [
          | inl less ↦ (
              let mine = or-front names (named_by event name) None at (omega (arith, less, many)) in
              let yours : name_at (before ++ event ∷ []) at ≡ name_at before at =
              ap (λ l. name_of_start l (slice_get (before ++ event ∷ []) at)) (take-front before event at (omega (arith, less))) ∙ ap (name_of_start (take at before)) (get-front before event at less) in
              ap (option_map name_pair) mine ∙ are.each at ∙ sym yours)
          | inr more ↦ (
              let a = length-append names (named_by event name ∷ []) in
              let b = length-append before (event ∷ []) in
              let mine = or-past (names ++ named_by event name ∷ []) None at (omega (arith, a, many, more)) in
              let yours : name_at (before ++ event ∷ []) at ≡ None = ap (name_of_start (take at (before ++ event ∷ []))) (get-past (before ++ event ∷ []) at (omega (arith, b, more))) in
              ap (option_map name_pair) mine ∙ sym yours)
        ]
      ];
    }

-- 3. pairs

some-push : (P : List (Name × Name)) (a b x : Name) → is_some (partner_of (P ++ (a, b) ∷ []) x) ≡ (is_some (partner_of P x) || (same_name a x || same_name b x))
some-push [] a b x = elim (test_cases (same_name a x)) [
  | inl t ↦ rw t refl
  | inr t ↦ elim (test_cases (same_name b x)) [
    | inl u ↦ rw (t, u) refl
    | inr u ↦ rw (t, u) refl
  ]
]
some-push (pair ∷ P) a b x = elim (test_cases (same_name pair.0 x)) [
  | inl t ↦ rw t refl
  | inr t ↦ elim (test_cases (same_name pair.1 x)) [
    | inl u ↦ rw (t, u) refl
    | inr u ↦ rw (t, u) (some-push P a b x)
  ]
]

some-append : (P Q : List (Name × Name)) (x : Name) → is_some (partner_of (P ++ Q) x) ≡ (is_some (partner_of P x) || is_some (partner_of Q x))
some-append [] Q x = refl
some-append (pair ∷ P) Q x = elim (test_cases (same_name pair.0 x)) [
  | inl t ↦ rw t refl
  | inr t ↦ elim (test_cases (same_name pair.1 x)) [
    | inl u ↦ rw (t, u) refl
    | inr u ↦ rw (t, u) (some-append P Q x)
  ]
]

-- one pair more of those that are listed
take_more : (pairs : List (Name × Name)) (at : ℕ) (pair : Name × Name) → slice_get pairs at ≡ Some pair → take (suc at) pairs ≡ take at pairs ++ pair ∷ []
take_more [] at pair h = absurd (cc)
take_more (x ∷ pairs) zero pair h = (let same : x ≡ pair = cc in ap (λ (p : Name × Name). p ∷ []) same)
take_more (x ∷ pairs) (suc at) pair h = ap (λ l. x ∷ l) (take_more pairs at pair h)

or-assoc : (a b c : Bool) → ((a || b) || c) ≡ (a || (b || c))
or-assoc true b c = refl
or-assoc false b c = refl

pub joined_more : (pairs : List (Name × Name)) (at : ℕ) (d : Name × Name) (first old new : Bool) (one other name : StartName) → at < length pairs
    → one ≡ record { rank = (slice_index_or pairs at d).0.0; start = (slice_index_or pairs at d).0.1 }
    → other ≡ record { rank = (slice_index_or pairs at d).1.0; start = (slice_index_or pairs at d).1.1 }
    → old ≡ (first || is_some (partner_of (take at pairs) (name_pair name))) → new ≡ (old || (same_start one name || same_start other name))
    → new ≡ (first || is_some (partner_of (take (at + 1) pairs) (name_pair name)))
joined_more pairs at d first old new one other name low one_is other_is old_is new_is =
    let pair : Name × Name = slice_index_or pairs at d in
    let some : Bool = is_some (partner_of (take at pairs) (name_pair name)) in
    let next : at + 1 ≡ suc at = omega arith in
    let grown : is_some (partner_of (take (at + 1) pairs) (name_pair name)) ≡ (some || (same_name pair.0 (name_pair name) || same_name pair.1 (name_pair name))) =
    ap (λ k. is_some (partner_of (take k pairs) (name_pair name))) next ∙ (ap (λ l. is_some (partner_of l (name_pair name))) (take_more pairs at pair (slice_get-get_or pairs at d low))
    ∙ some-push (take at pairs) pair.0 pair.1 (name_pair name)) in
    let names : (same_start one name || same_start other name) ≡ (same_name pair.0 (name_pair name) || same_name pair.1 (name_pair name)) =
    ap (λ (s : StartName). same_start s name || same_start other name) one_is ∙ ap (λ (s : StartName). same_name pair.0 (name_pair name) || same_start s name) other_is in
    new_is ∙ (ap (λ b. b || (same_start one name || same_start other name)) old_is
    ∙ (or-assoc first some (same_start one name || same_start other name) ∙ ap (λ b. first || b) (ap (λ b. some || b) names ∙ sym grown)))

pub joined_all : (pairs : List (Name × Name)) (at : ℕ) → length pairs ≤ at → take at pairs ≡ pairs
joined_all [] zero h = refl
joined_all [] (suc at) h = refl
joined_all (x ∷ pairs) zero h = absurd (omega (arith, h))
joined_all (x ∷ pairs) (suc at) h = (let less : suc (length pairs) ≤ suc at = h in ap (λ l. x ∷ l) (joined_all pairs at (omega (arith, less))))

or-nothing : (b : Bool) → b ≡ (b || false)
or-nothing true = refl
or-nothing false = refl

some-with : (P : List (Name × Name)) (earlier : Option StartName) (name other : StartName)
    → is_some (partner_of (P ++ pair_with (option_map name_pair earlier) (name_pair name)) (name_pair other)) ≡ (is_some (partner_of P (name_pair other)) || is_either earlier name other)
some-with P None name other = ap (λ l. is_some (partner_of l (name_pair other))) (append-nil P) ∙ or-nothing (is_some (partner_of P (name_pair other)))
some-with P (Some earlier) name other = some-push P (name_pair earlier) (name_pair name) (name_pair other)

pub partners_more : (before : List Event) (event : Event) (names : List (Option StartName)) (old new : List (List Bool)) (name : StartName) → AreNames before names → ArePartners before old
    → name.rank ≡ event.rank → name.start ≡ length (starts_of (view_of before event.rank))
    → ((other : StartName) → is_paired_in new other ≡ ((is_paired_in old other || is_either (earlier_in names event.mate) name other) || is_some (partner_of event.met (name_pair other))))
    → ArePartners (before ++ event ∷ []) new
partners_more before event names old new name are partners rank start joined =
    let later : Name = (event.rank, length (starts_of (view_of before event.rank))) in
    let mine : Name = (name.rank, name.start) in
    let same : mine ≡ later = cc in
    let P : List (Name × Name) = pairs_of before in
    let F : Option ℕ → Type 0 = λ m. (other : StartName)
    → is_some (partner_of (P ++ elim m [ None ↦ [] | Some at ↦ pair_with (name_at before at) later ]) (name_pair other)) ≡ (is_some (partner_of P (name_pair other)) || is_either (earlier_in names m) name other) in
    let grown : F event.mate = elim (option_cases event.mate) [
      | inl some ↦ subst F (sym some.1) (λ other.
          ap (λ q. is_some (partner_of (P ++ pair_with q later) (name_pair other))) (sym (are.each some.0))
          ∙ ap (λ l. is_some (partner_of (P ++ pair_with (option_map name_pair (slice_index_or names some.0 None)) l) (name_pair other))) (sym same)
          ∙ some-with P (slice_index_or names some.0 None) name other)
      | inr none ↦ subst F (sym none) (λ other. ap (λ l. is_some (partner_of l (name_pair other))) (append-nil P) ∙ or-nothing (is_some (partner_of P (name_pair other))))
    ] in
    record {
      each = λ other.
          joined other ∙ ap (λ b. (b || is_either (earlier_in names event.mate) name other) || is_some (partner_of event.met (name_pair other))) (partners.each other)
          ∙ sym (ap (λ l. is_some (partner_of l (name_pair other))) (pairs_of-push before event ∙ sym (append_assoc P (mated before event) event.met))
          ∙ some-append (P ++ mated before event) event.met (name_pair other)
          ∙ ap (λ b. b || is_some (partner_of event.met (name_pair other))) (grown other));
    }

-- 4. the register

apart : (k j : ℕ) → (k == j) ≡ false → k ≢ j
apart k j h same = (let e : true ≡ false = sym (eq-eqb k j same) ∙ h in cc)

length-starts : (view : View) → length (starts_of view) ≤ length view
length-starts [] = omega arith
length-starts (seen ∷ view) = (let rest = length-starts view in elim (test_cases (is_start seen)) [
  | inl t ↦ rw t (omega (arith, rest))
  | inr t ↦ rw t (omega (arith, rest))
])

pub register_more : (n : ℕ) (before : List Event) (event : Event) (old new : Register) (name : StartName) (own : RankRecord) → IsRegister n before old → event.rank < n
    → new.ranks.items ≡ slice_set old.ranks.items event.rank own
    → ((d : RankRecord) → IsRankRecord n (view_of before event.rank) (slice_index_or old.ranks.items event.rank d) → IsRankRecord n (view_of before event.rank ++ (event.call, event.reply) ∷ []) own)
    → new.names.items ≡ old.names.items ++ named_by event name ∷ [] → name.rank ≡ event.rank → ((d : RankRecord) → name.start ≡ (slice_index_or old.ranks.items event.rank d).starts)
    → ((other : StartName) → is_paired_in new.partners other ≡ ((is_paired_in old.partners other || is_either (earlier_in old.names.items event.mate) name other) || is_some (partner_of event.met (name_pair other))))
    → IsRegister n (before ++ event ∷ []) new
register_more n before event old new name own is low ranks grown names rank start joined =
    let number : name.start ≡ length (starts_of (view_of before event.rank)) = start own ∙ (is.ranks event.rank own low).starts in
    let N : List (Option StartName) → Type 0 = λ l. AreNames (before ++ event ∷ []) l in
    record {
      as_many = ap length ranks ∙ length-set old.ranks.items event.rank own ∙ is.as_many;
      ranks = λ r d below. elim (test_cases (event.rank == r)) [
        | inl t ↦ (
            let same = eqb-true event.rank r t in
            let within : event.rank < length old.ranks.items = (let many = is.as_many in omega (arith, many, low)) in
            let here : slice_index_or new.ranks.items event.rank d ≡ own = ap (λ l. slice_index_or l event.rank d) ranks ∙ get_or-set_same old.ranks.items event.rank own d within in
            let F : ℕ → Type 0 = λ k. IsRankRecord n (view_of (before ++ event ∷ []) k) (slice_index_or new.ranks.items k d) in
            let G : View → Type 0 = λ v. IsRankRecord n v (slice_index_or new.ranks.items event.rank d) in
            subst F same (subst G (sym (view_of-own before event)) (subst (IsRankRecord n (view_of before event.rank ++ (event.call, event.reply) ∷ [])) (sym here) (grown d (is.ranks event.rank d low)))))
        | inr t ↦ (
            let here : slice_index_or new.ranks.items r d ≡ slice_index_or old.ranks.items r d = ap (λ l. slice_index_or l r d) ranks ∙ get_or-set_other old.ranks.items event.rank r own d (λ e. apart event.rank r t (sym e)) in
            let G : View → Type 0 = λ v. IsRankRecord n v (slice_index_or new.ranks.items r d) in
            subst G (sym (view_of-other before event r t)) (subst (IsRankRecord n (view_of before r)) (sym here) (is.ranks r d below)))
      ];
      others = λ r above. view_of-other before event r (elim (test_cases (event.rank == r)) [
        | inl t ↦ (let same = eqb-true event.rank r t in absurd (omega (arith, same, low, above)))
        | inr t ↦ t
      ]) ∙ is.others r above;
      names = subst N (sym names) (names_more before event old.names.items name is.names rank number);
      partners = partners_more before event old.names.items old.partners new.partners name is.names is.partners rank number joined;
    }

-- at first
none_at : {A : Type 0} (k : ℕ) (d : A) → slice_index_or [] k d ≡ d
none_at k d = refl

pub register_first : (n : ℕ) (register : Register) → length register.ranks.items ≡ n → ((rank : ℕ) (d : RankRecord) → rank < n → IsRankRecord n [] (slice_index_or register.ranks.items rank d)) → register.names.items ≡ [] → register.partners ≡ []
    → IsRegister n [] register
register_first n register many each names partners =
    let N : List (Option StartName) → Type 0 = λ l. AreNames [] l in
    let P : List (List Bool) → Type 0 = λ l. ArePartners [] l in
    record {
      as_many = many;
      ranks = each;
      others = λ rank above. refl;
      names = subst N (sym names) (record { as_many = refl; each = λ at. refl });
      partners = subst P (sym partners) (record { each = λ name. refl });
    }

-- ranks are made one after the other
pub record AreFirst (n count : ℕ) (ranks : List RankRecord) : Type 0 where
  pub many : length ranks ≡ count
  pub each : (rank : ℕ) (d : RankRecord) → rank < count → IsRankRecord n [] (slice_index_or ranks rank d)

pub first_more : (n count next : ℕ) (ranks : List RankRecord) (own : RankRecord) → AreFirst n count ranks → IsRankRecord n [] own → next ≡ count + 1 → AreFirst n next (ranks ++ own ∷ [])
first_more n count next ranks own are is more =
    let many = are.many in
    record {
      many = (let a = length-append ranks (own ∷ []) in omega (arith, a, many, more));
      each = λ rank d below. elim (cases_order rank count) [
        | inl same ↦ (
            let F : ℕ → Type 0 = λ k. IsRankRecord n [] (slice_index_or (ranks ++ own ∷ []) k d) in
            subst F (many ∙ sym same) (subst (IsRankRecord n []) (sym (or-seam ranks own d)) is))
        | inr other ↦ elim other [
          | inl less ↦ subst (IsRankRecord n []) (sym (or-front ranks own d rank (omega (arith, less, many)))) (are.each rank d less)
          | inr above ↦ absurd (omega (arith, above, below, more))
        ]
      ];
    }

pub few_calls : (n : ℕ) (before : List Event) (rank : ℕ) (own : RankRecord) → IsRankRecord n (view_of before rank) own → length before + 1 < 2 ^ 32 → (own.calls + 1 < 2 ^ 32) × (own.starts + 1 < 2 ^ 32)
few_calls n before rank own is short =
    let few = length-view_of before rank in
    let fewer = length-starts (view_of before rank) in
    let calls = is.calls in
    let starts = is.starts in
    (omega (arith, few, calls, short), omega (arith, few, fewer, starts, short))

-- 5. what is asked of the register

-- as many Enters as have entered
is_some-get : {A : Type 0} (xs : List A) (k : ℕ) → is_some (slice_get xs k) ≡ nat_lt k (length xs)
is_some-get [] k = (elim (test_cases (nat_lt k 0)) [
  | inl t ↦ absurd (let less = ltb-true k 0 t in omega (arith, less))
  | inr t ↦ sym t
])
is_some-get (x ∷ xs) zero = sym (lt-ltb 0 (length (x ∷ xs)) (omega arith))
is_some-get (x ∷ xs) (suc k) = is_some-get xs k ∙ same_less k (length xs)
  where
    same_less : (a b : ℕ) → nat_lt a b ≡ nat_lt (suc a) (suc b)
    same_less a b = elim (test_cases (nat_lt a b)) [
      | inl t ↦ t ∙ sym (lt-ltb (suc a) (suc b) (let less = ltb-true a b t in omega (arith, less)))
      | inr t ↦ t ∙ sym (elim (test_cases (nat_lt (suc a) (suc b))) [
        | inl u ↦ absurd (let less = ltb-true (suc a) (suc b) u in let not_so : true ≡ false = sym (lt-ltb a b (omega (arith, less))) ∙ t in cc)
        | inr u ↦ u
      ])
    ]

entered-count : (comm number : ℕ) (known : Option (List ℕ)) (view : View) → length (entered_from comm number known view) ≡ count_on comm (starts_of view)
entered-count comm number known [] = refl
entered-count comm number known ((call, reply) ∷ view) = elim (test_cases (is_start (call, reply))) [
  | inl t ↦ elim (test_cases (is_on comm call)) [
    | inl u ↦ rw (t, u) (ap suc (entered-count comm (suc number) (learned comm known reply) view))
    | inr u ↦ rw (t, u) (entered-count comm (suc number) (learned comm known reply) view)
  ]
  | inr t ↦ rw t (entered-count comm number (learned comm known reply) view)
]

pub entered-some : (n : ℕ) (view : View) (comm instance : ℕ) → is_some (enter_at n view comm instance) ≡ nat_lt instance (count_on comm (starts_of view))
entered-some n view comm instance =
    is_some-get (entered_from comm 0 (known_first n comm) view) instance ∙ ap (nat_lt instance) (entered-count comm 0 (known_first n comm) view)

-- one start more
pub count-more : (comm k : ℕ) (calls : List Call) (call : Call) → slice_get calls k ≡ Some call
    → count_on comm (take (suc k) calls) ≡ (if is_on comm call then suc (count_on comm (take k calls)) else count_on comm (take k calls))
count-more comm k [] call h = absurd (cc)
count-more comm zero (c ∷ calls) call h =
    let same : c ≡ call = cc in
    let F : Call → Type 0 = λ x. count_on comm (x ∷ []) ≡ (if is_on comm call then suc 0 else 0) in
    subst F (sym same) (elim (test_cases (is_on comm call)) [ inl t ↦ rw t refl | inr t ↦ rw t refl ])
count-more comm (suc k) (c ∷ calls) call h =
    let rest = count-more comm k calls call h in
    elim (test_cases (is_on comm c)) [
      | inl t ↦ elim (test_cases (is_on comm call)) [
        | inl u ↦ rw (t, u) (ap suc (rw u at rest))
        | inr u ↦ rw (t, u) (ap suc (rw u at rest))
      ]
      | inr t ↦ elim (test_cases (is_on comm call)) [
        | inl u ↦ rw (t, u) (rw u at rest)
        | inr u ↦ rw (t, u) (rw u at rest)
      ]
    ]

pub count-end : (comm k : ℕ) (calls : List Call) → slice_get calls k ≡ None → take k calls ≡ calls
count-end comm zero [] h = refl
count-end comm (suc k) [] h = refl
count-end comm zero (c ∷ calls) h = absurd (cc)
count-end comm (suc k) (c ∷ calls) h = ap (λ l. c ∷ l) (count-end comm k calls h)

take-same : (calls : List Call) (k j : ℕ) → slice_get calls k ≡ None → k ≤ j → take j calls ≡ take k calls
take-same [] zero zero h low = refl
take-same [] zero (suc j) h low = refl
take-same [] (suc k) zero h low = refl
take-same [] (suc k) (suc j) h low = refl
take-same (c ∷ calls) zero j h low = absurd (cc)
take-same (c ∷ calls) (suc k) zero h low = absurd (omega (arith, low))
take-same (c ∷ calls) (suc k) (suc j) h low = ap (λ l. c ∷ l) (take-same calls k j h (omega (arith, low)))

pub counted_all : (comm k j count : ℕ) (calls : List Call) → slice_get calls k ≡ None → k ≤ j → count ≡ count_on comm (take k calls) → count ≡ count_on comm (take j calls)
counted_all comm k j count calls none low is = is ∙ ap (count_on comm) (sym (take-same calls k j none low))

pub counted_more : (comm k j count more : ℕ) (calls : List Call) (call : Call) → slice_get calls k ≡ Some call → j ≡ k + 1 → more ≡ count_one comm call → count ≡ count_on comm (take k calls)
    → count + more ≡ count_on comm (take j calls)
counted_more comm k j count more calls call there next one is =
    let grown = count-more comm k calls call there in
    let at : suc k ≡ j = omega (arith, next) in
    let F : ℕ → Type 0 = λ i. count + more ≡ count_on comm (take i calls) in
    subst F at (elim (test_cases (is_on comm call)) [
      | inl t ↦ (
          let g : count_on comm (take (suc k) calls) ≡ suc (count_on comm (take k calls)) = rw t at grown in
          let o : more ≡ 1 = rw t at one in
          omega (arith, g, o, is))
      | inr t ↦ (
          let g : count_on comm (take (suc k) calls) ≡ count_on comm (take k calls) = rw t at grown in
          let o : more ≡ 0 = rw t at one in
          omega (arith, g, o, is))
    ])

pub one_at_most : (comm : ℕ) (call : Call) → count_one comm call ≤ 1
one_at_most comm call = elim (test_cases (is_on comm call)) [
  | inl t ↦ rw t (omega arith)
  | inr t ↦ rw t (omega arith)
]

take-list : (xs : List ℕ) (k : ℕ) → length xs ≤ k → take k xs ≡ xs
take-list [] zero h = refl
take-list [] (suc k) h = refl
take-list (x ∷ xs) zero h = absurd (omega (arith, h))
take-list (x ∷ xs) (suc k) h = ap (λ l. x ∷ l) (take-list xs k (omega (arith, h)))

take-calls : (xs : List Call) (k : ℕ) → length xs ≤ k → take k xs ≡ xs
take-calls [] zero h = refl
take-calls [] (suc k) h = refl
take-calls (x ∷ xs) zero h = absurd (omega (arith, h))
take-calls (x ∷ xs) (suc k) h = ap (λ l. x ∷ l) (take-calls xs k (omega (arith, h)))

-- one rank more of those that pass a test
pub filter-step : (p : ℕ → Bool) (b : Bool) (ranks rest new all : List ℕ) (d : ℕ) → 1 ≤ length rest → b ≡ p (get_or rest 0 d)
    → new ≡ ranks ++ (if b then get_or rest 0 d ∷ [] else []) → ranks ++ filter p rest ≡ all → new ++ filter p (take (length rest - 1) (drop 1 rest)) ≡ all
filter-step p b ranks [] new all d some is made so_far = absurd (omega (arith, some))
filter-step p b ranks (x ∷ xs) new all d some is made so_far =
    let tail : take (length (x ∷ xs) - 1) xs ≡ xs = take-list xs (length (x ∷ xs) - 1) (omega arith) in
    let F : List ℕ → Type 0 = λ l. new ++ filter p l ≡ all in
    subst F (sym tail) (elim (test_cases (p x)) [
      | inl t ↦ (
          let one : new ≡ ranks ++ x ∷ [] = made ∙ rw (is ∙ t) refl in
          let whole : ranks ++ x ∷ filter p xs ≡ all = rw t at so_far in
          ap (λ l. l ++ filter p xs) one ∙ append_assoc ranks (x ∷ []) (filter p xs) ∙ whole)
      | inr t ↦ (
          let one : new ≡ ranks = made ∙ rw (is ∙ t) (append-nil ranks) in
          let whole : ranks ++ filter p xs ≡ all = rw t at so_far in
          ap (λ l. l ++ filter p xs) one ∙ whole)
    ])

pub filter-end : (p : ℕ → Bool) (ranks rest all : List ℕ) → length rest < 1 → ranks ++ filter p rest ≡ all → ranks ≡ all
filter-end p ranks [] all none so_far = sym (append-nil ranks) ∙ so_far
filter-end p ranks (x ∷ xs) all none so_far = absurd (omega (arith, none))

pub start-all : (n : ℕ) (events : List Event) (rank k : ℕ) (own : RankRecord) → IsRankRecord n (view_of events rank) own → k ≡ own.starts → take k (starts_of (view_of events rank)) ≡ starts_of (view_of events rank)
start-all n events rank k own is same = take-calls (starts_of (view_of events rank)) k (let size = is.starts in omega (arith, size, same))

-- Arguments ask for one command.
use Rattle.std.proofs.Common.{◌≡◌, ◌∙◌, ap, ap₂, inl, inr, refl, sym, subst, ℕ, Bool, Option, Some, None, List, ◌∷◌, arith}
use Rattle.wiz_base.specs.Decimals.{decimal_text}
use Rattle.wiz_base.proofs.DecimalLaws.{decimal_text-and_rest, decimal_text_injective}
use Rattle.clap.specs.Words.{Row, Text, matches_of}
use Rattle.wiz_words.specs.declared.command.Command.{Command}
use Rattle.wiz_words.specs.declared.command.Command.TheVariants.{Record, Check, Races, Advise, Demo, Replay, Show, Stats, Convert, Refine, Join, Diff, Waits, Picture, Watch, At, Where, Explore}
use Rattle.wiz_words.specs.declared.command.ReplayWords.{ReplayWords}
use Rattle.wiz_words.specs.declared.command.RunWords.{RunWords}
use Rattle.wiz_words.specs.declared.command.Verb.{Verb}
use Rattle.wiz_words.specs.Forms.{form_of}
use Rattle.wiz_words.specs.Values.{IsBreakpoint, IsBreakpointText, IsNameIn, IsNameText, IsNumberIn, IsNumberOr}
use Rattle.wiz_words.specs.Words.{AreReplayWords, AreRunWords, AreSearchWords, AreWordsOf, AskForOneThing, verb_of}
use Rattle.wiz_words.proofs.FormLemmas.{some_is, verb_is}

one_text : (found : Option Text) (a b : Text) → found ≡ Some a → found ≡ Some b → a ≡ b
one_text found a b here there = some_is a b (sym here ∙ there)

one_number : (given : List Row) (name : Text) (least most m n : ℕ) → IsNumberIn given name least most m → IsNumberIn given name least most n → m ≡ n
one_number given name least most m n a b = decimal_text_injective m n (one_text _ _ _ a.spelled b.spelled)

pair_is : (a b : ℕ × ℕ) → a.0 ≡ b.0 → a.1 ≡ b.1 → a ≡ b
pair_is a b first second = ap₂ (λ x y. (x, y)) first second

one_breakpoint_text : (text : Text) (s t : ℕ × ℕ) → IsBreakpointText text s → IsBreakpointText text t → s ≡ t
one_breakpoint_text text s t a b =
    let parts = decimal_text-and_rest s.0 t.0 (58 ∷ decimal_text s.1) (58 ∷ decimal_text t.1) (λ digit. omega (arith, digit.1)) (λ digit. omega (arith, digit.1)) (sym a.spelled ∙ b.spelled) in
    pair_is s t parts.0 (decimal_text_injective s.1 t.1 (rest_is _ _ parts.1))
  where
    rest_is : (xs ys : List ℕ) → 58 ∷ xs ≡ 58 ∷ ys → xs ≡ ys
    rest_is xs ys h = cc

one_name_text : (text : Text) (s t : ℕ × ℕ) → IsNameText text s → IsNameText text t → s ≡ t
one_name_text text s t a b =
    let parts = decimal_text-and_rest s.0 t.0 (46 ∷ decimal_text s.1) (46 ∷ decimal_text t.1) (λ digit. omega (arith, digit.0)) (λ digit. omega (arith, digit.0)) (sym a.spelled ∙ b.spelled) in
    pair_is s t parts.0 (decimal_text_injective s.1 t.1 (rest_is _ _ parts.1))
  where
    rest_is : (xs ys : List ℕ) → 46 ∷ xs ≡ 46 ∷ ys → xs ≡ ys
    rest_is xs ys h = cc

one_name : (given : List Row) (argument : Text) (s t : ℕ × ℕ) → IsNameIn given argument s → IsNameIn given argument t → s ≡ t
one_name given argument s t a b =
    let same = one_text _ _ _ a.given_is b.given_is in
    one_name_text b.text s t (subst (λ (text : Text). IsNameText text s) same a.is_name) b.is_name

one_breakpoint : (found : Option Text) (s t : Option (ℕ × ℕ)) → IsBreakpoint found s → IsBreakpoint found t → s ≡ t
one_breakpoint None s t a b = a ∙ sym b
one_breakpoint (Some text) None t a b = absurd a
one_breakpoint (Some text) (Some s) None a b = absurd b
one_breakpoint (Some text) (Some s) (Some t) a b = ap Some (one_breakpoint_text text s t a b)

abbrev run_of : Text → Text → Option Text → Bool → RunWords Text
run_of program plan order is_serial = record { program = program; plan = plan; order = order; is_serial = is_serial }

run_is : (p p' l l' : Text) (o o' : Option Text) (b b' : Bool) → p ≡ p' → l ≡ l' → o ≡ o' → b ≡ b' → run_of p l o b ≡ run_of p' l' o' b'
run_is p p' l l' o o' b b' pp ll oo bb = rw (pp, ll, oo, bb) refl

one_run : (given : List Row) (order : Option Text) (r s : RunWords Text) → AreRunWords given order r → AreRunWords given order s → r ≡ s
one_run given order r s a b =
    run_is _ _ _ _ _ _ _ _ (one_text _ _ _ a.program b.program) (one_text _ _ _ a.plan b.plan) (a.order ∙ sym b.order) (a.is_serial ∙ sym b.is_serial)

one_replay : (given : List Row) (r s : ReplayWords Text) → AreReplayWords given r → AreReplayWords given s → r ≡ s
one_replay given r s a b =
    build _ _ _ _ _ _ _ _ (one_text _ _ _ a.log b.log) (a.program ∙ sym b.program) (one_breakpoint _ _ _ a.stop b.stop) (a.is_serial ∙ sym b.is_serial)
  where
    replay_of : Text → Option Text → Option (ℕ × ℕ) → Bool → ReplayWords Text
    replay_of log program stop is_serial = record { log = log; program = program; stop = stop; is_serial = is_serial }

    build : (l l' : Text) (p p' : Option Text) (s s' : Option (ℕ × ℕ)) (b b' : Bool) → l ≡ l' → p ≡ p' → s ≡ s' → b ≡ b' → replay_of l p s b ≡ replay_of l' p' s' b'
    build l l' p p' s s' b b' ll pp ss bb = rw (ll, pp, ss, bb) refl

one_number_or : (given : List Row) (name : Text) (least most usual m n : ℕ) → IsNumberOr given name least most usual m
    → IsNumberOr given name least most usual n → m ≡ n
one_number_or given name least most usual m n (inl a) (inl b) = one_number given name least most m n a b
one_number_or given name least most usual m n (inl a) (inr b) = (let no : Some (decimal_text m) ≡ None = sym a.spelled ∙ b.0 in absurd (cc))
one_number_or given name least most usual m n (inr a) (inl b) = (let no : Some (decimal_text n) ≡ None = sym b.spelled ∙ a.0 in absurd (cc))
one_number_or given name least most usual m n (inr a) (inr b) = a.1 ∙ sym b.1

one_search : (given : List Row) (r s : RunWords Text) → AreSearchWords given r → AreSearchWords given s → r ≡ s
one_search given r s a b =
    run_is _ _ _ _ _ _ _ _ (one_text _ _ _ a.program b.program) (one_text _ _ _ a.plan b.plan) (a.order ∙ sym b.order) (a.is_serial ∙ sym b.is_serial)

convert_is : (l l' f f' : Text) (b b' : Bool) → l ≡ l' → f ≡ f' → b ≡ b' → Convert l f b ≡ Convert l' f' b'
convert_is l l' f f' b b' ll ff bb = rw (ll, ff, bb) refl

refine_is : (l l' p p' f f' : Text) → l ≡ l' → p ≡ p' → f ≡ f' → Refine l p f ≡ Refine l' p' f'
refine_is l l' p p' f f' ll pp ff = rw (ll, pp, ff) refl

join_is : (l l' o o' f f' : Text) → l ≡ l' → o ≡ o' → f ≡ f' → Join l o f ≡ Join l' o' f'
join_is l l' o o' f f' ll oo ff = rw (ll, oo, ff) refl

picture_is : (r s : RunWords Text) (f g : Text) (b c : Bool) → r ≡ s → f ≡ g → b ≡ c → Picture r f b ≡ Picture s g c
picture_is r s f g b c rr ff bb = rw (rr, ff, bb) refl

watch_is : (r s : ReplayWords Text) (rank other : ℕ) (n m : Text) → r ≡ s → rank ≡ other → n ≡ m → Watch r rank n ≡ Watch s other m
watch_is r s rank other n m rr kk nn = rw (rr, kk, nn) refl

explore_is : (r s : RunWords Text) (p q : Text) (m n k l : ℕ) → r ≡ s → p ≡ q → m ≡ n → k ≡ l → Explore r p m k ≡ Explore s q n l
explore_is r s p q m n k l rr pp mm kk = rw (rr, pp, mm, kk) refl

where_is : (r s : ReplayWords Text) (source other start number : ℕ) → r ≡ s → source ≡ other → start ≡ number → Where r source start ≡ Where s other number
where_is r s source other start number rr ss kk = rw (rr, ss, kk) refl

one_said : (given : List Row) (a b : Command Text) → verb_of a ≡ verb_of b → AreWordsOf given a → AreWordsOf given b → a ≡ b
one_said given (Record r prefix) (Record s other) same a b = ap₂ Record (one_run given _ r s a.0 b.0) (one_text _ _ _ a.1 b.1)
one_said given (Check r) (Check s) same a b = ap Check (one_run given None r s a b)
one_said given (Races r orders) (Races s others) same a b = ap₂ Races (one_run given _ r s a.0 b.0) (a.1 ∙ sym b.1)
one_said given (Advise r most) (Advise s other) same a b = ap₂ Advise (one_run given _ r s a.0 b.0) (one_number _ _ _ _ _ _ a.1 b.1)
one_said given (Demo seed rounds) (Demo seed' rounds') same a b = ap₂ Demo (one_number _ _ _ _ _ _ a.0 b.0) (one_number _ _ _ _ _ _ a.1 b.1)
one_said given (Replay r) (Replay s) same a b = ap Replay (one_replay given r s a b)
one_said given (Show log) (Show other) same a b = ap Show (one_text _ _ _ a b)
one_said given (Stats log) (Stats other) same a b = ap Stats (one_text _ _ _ a b)
one_said given (Convert log file is_text) (Convert other name is_one) same a b =
    convert_is _ _ _ _ _ _ (one_text _ _ _ a.0 b.0) (one_text _ _ _ a.1 b.1) (a.2 ∙ sym b.2)
one_said given (Refine log plan prefix) (Refine other groups front) same a b =
    refine_is _ _ _ _ _ _ (one_text _ _ _ a.0 b.0) (one_text _ _ _ a.1 b.1) (one_text _ _ _ a.2 b.2)
one_said given (Join one other file) (Join first second name) same a b =
    join_is _ _ _ _ _ _ (one_text _ _ _ a.0 b.0) (one_text _ _ _ a.1 b.1) (one_text _ _ _ a.2 b.2)
one_said given (Diff one other) (Diff first second) same a b = ap₂ Diff (one_text _ _ _ a.0 b.0) (one_text _ _ _ a.1 b.1)
one_said given (Waits r) (Waits s) same a b = ap Waits (one_run given _ r s a b)
one_said given (Picture r file is_trace) (Picture s name is_one) same a b =
    picture_is _ _ _ _ _ _ (one_run given _ r s a.0 b.0) (one_text _ _ _ a.1 b.1) (a.2 ∙ sym b.2)
one_said given (Watch r rank name) (Watch s other text) same a b =
    watch_is _ _ _ _ _ _ (one_replay given r s a.0 b.0) (one_number _ _ _ _ _ _ a.1 b.1) (one_text _ _ _ a.2 b.2)
one_said given (At r) (At s) same a b = ap At (one_replay given r s a b)
one_said given (Where r source start) (Where s other number) same a b =
    let names = one_name _ _ _ _ a.1 b.1 in where_is _ _ _ _ _ _ (one_replay given r s a.0 b.0) (ap (λ (n : ℕ × ℕ). n.0) names) (ap (λ (n : ℕ × ℕ). n.1) names)
one_said given (Explore r prefix most polls) (Explore s front states looks) same a b =
    explore_is _ _ _ _ _ _ _ _ (one_search given r s a.0 b.0) (one_text _ _ _ a.1 b.1) (one_number_or _ _ _ _ _ _ _ a.2 b.2) (one_number_or _ _ _ _ _ _ _ a.3 b.3)
one_said given one other same a b = absurd (cc)

pub one_command : AskForOneThing
one_command words one other a b =
    let same = verb_is words one (verb_of other) a b.begin in
    let says : AreWordsOf (matches_of (form_of (verb_of other)) words) one = subst (λ (verb : Verb). AreWordsOf (matches_of (form_of verb) words) one) same a.says in
    one_said _ one other same says b.says

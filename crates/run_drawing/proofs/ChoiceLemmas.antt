-- Sends that are skipped.
use Rattle.std.proofs.Common.{◌≡◌, ◌≤◌, ◌<◌, ◌⊎◌, ◌==◌, ◌&&◌, ℕ, zero, suc, Bool, List, [], ◌∷◌, Option, Some, None, true, false, not, find, if◌then◌else◌, inl, inr, refl, ap, sym, ◌∙◌, arith, get_or, length, nat_eq, nat_lt, slice_get, subst}
use Rattle.std.proofs.lemmas.Bool.{and_parts, eqb-true, lt-ltb, ltb-true}
use Rattle.std.specs.Option.{option_eq}
use Rattle.run_model.proofs.Views.{test_cases}
use Rattle.causes.specs.Positions.{positions}
use Rattle.msg_races.specs.declared.sends.Way.{Way}
use Rattle.msg_races.specs.Ways.{goes_way, same_way}
use Rattle.run_drawing.specs.declared.links.CompletedStart.{CompletedStart}
use Rattle.run_drawing.specs.Basis.{Basis}
use Rattle.run_drawing.specs.Choices.{first_untaken, is_done_before, is_untaken}
use Rattle.run_drawing.specs.Links.{links, taker_in}
use Rattle.run_drawing.specs.inside.Scenes.{ArePast, skipped_at}

-- the first that passes a test stands behind those that do not
pub find_behind : (test : ℕ → Bool) (xs : List ℕ) (k : ℕ) → ((j : ℕ) → j < k → j < length xs → test (get_or xs j 0) ≡ false)
    → (k < length xs → test (get_or xs k 0) ≡ true) → find test xs ≡ slice_get xs k
find_behind test [] k none one = refl
find_behind test (x ∷ xs) zero none one = (let h = one (omega arith) in rw h refl)
find_behind test (x ∷ xs) (suc k) none one =
    let h = none zero (omega arith) (omega arith) in
    rw h (find_behind test xs k (λ j low within. none (suc j) (omega (arith, low)) (omega (arith, within))) (λ low. one (omega (arith, low))))

-- what was taken before a position was taken before a later one
done_later : (p q : ℕ) (link : Option CompletedStart) → p ≤ q → not (is_done_before p link) ≡ false → not (is_done_before q link) ≡ false
done_later p q None h closed = absurd (cc)
done_later p q (Some link) h closed =
    elim (test_cases (nat_lt link.at p)) [
      | inl t ↦ (
          let low = ltb-true link.at p t in
          let later : nat_lt link.at q ≡ true = lt-ltb link.at q (omega (arith, low, h)) in
          rw later refl)
      | inr t ↦ (let e : true ≡ false = rw t at closed in absurd (cc))
    ]

pub past_later : (basis : Basis) (p q : ℕ) (table : List (Way × ℕ)) → p ≤ q → ArePast basis p table → ArePast basis q table
past_later basis p q table h past = λ way k low within.
    done_later p q (taker_in (links basis) (get_or (positions (goes_way way) 0 basis.events) k 0)) h (past way k low within)

-- two ways of which all parts are equal
same_tags : (a b : Option ℕ) → option_eq nat_eq a b ≡ true → a ≡ b
same_tags None None h = refl
same_tags None (Some y) h = absurd (cc)
same_tags (Some x) None h = absurd (cc)
same_tags (Some x) (Some y) h = ap Some (eqb-true x y h)

pub one_way : (a b : Way) → same_way a b ≡ true → a ≡ b
one_way a b h =
    let first = and_parts (a.sender == b.sender) ((a.comm == b.comm) && ((a.receiver == b.receiver) && option_eq nat_eq a.tag b.tag)) h in
    let second = and_parts (a.comm == b.comm) ((a.receiver == b.receiver) && option_eq nat_eq a.tag b.tag) first.1 in
    let third = and_parts (a.receiver == b.receiver) (option_eq nat_eq a.tag b.tag) second.1 in
    let sender = eqb-true a.sender b.sender first.0 in
    let comm = eqb-true a.comm b.comm second.0 in
    let receiver = eqb-true a.receiver b.receiver third.0 in
    let tag = same_tags a.tag b.tag third.1 in
    let W : ℕ → ℕ → ℕ → Option ℕ → Way = λ w x y z. record { sender = w; comm = x; receiver = y; tag = z } in
    ap (λ (w : ℕ). W w a.comm a.receiver a.tag) sender
    ∙ ap (λ (x : ℕ). W b.sender x a.receiver a.tag) comm
    ∙ ap (λ (y : ℕ). W b.sender b.comm y a.tag) receiver
    ∙ ap (λ (z : Option ℕ). W b.sender b.comm b.receiver z) tag

-- one way skips as many as were taken
pub past_set : (basis : Basis) (p : ℕ) (old new : List (Way × ℕ)) (way : Way) (count : ℕ) → ArePast basis p old
    → ((other : Way) → skipped_at new other ≡ (if same_way way other then count else skipped_at old other))
    → ((k : ℕ) → k < count → k < length (positions (goes_way way) 0 basis.events) → is_untaken basis p (get_or (positions (goes_way way) 0 basis.events) k 0) ≡ false)
    → ArePast basis p new
past_set basis p old new way count past set taken = λ other k low within.
    elim (test_cases (same_way way other)) [
      | inl h ↦ (
          let same = one_way way other h in
          let value : skipped_at new other ≡ count = set other ∙ rw h refl in
          let P : Way → Type 0 = λ w. k < length (positions (goes_way w) 0 basis.events) → is_untaken basis p (get_or (positions (goes_way w) 0 basis.events) k 0) ≡ false in
          let here : P way = λ inside. taken k (omega (arith, value, low)) inside in
          (subst P same here) within)
      | inr h ↦ (
          let value : skipped_at new other ≡ skipped_at old other = set other ∙ rw h refl in
          past other k (omega (arith, value, low)) within)
    ]

-- nothing is skipped at first
pub past_none : (basis : Basis) (p : ℕ) → ArePast basis p []
past_none basis p = λ way k low within. absurd (omega (arith, low))

-- so many Sends were skipped, and the next was not taken
pub record SkipsTo (basis : Basis) (p : ℕ) (sent : List ℕ) (low high : ℕ) : Type 0 where
  pub taken : (k : ℕ) → low ≤ k → k < high → k < length sent → is_untaken basis p (get_or sent k 0) ≡ false
  pub first : high < length sent → is_untaken basis p (get_or sent high 0) ≡ true

less_or_not : (a b : ℕ) → (a < b) ⊎ (b ≤ a)
less_or_not a zero = inr (omega arith)
less_or_not zero (suc b) = inl (omega arith)
less_or_not (suc a) (suc b) = elim (less_or_not a b) [ inl h ↦ inl (omega (arith, h)) | inr h ↦ inr (omega (arith, h)) ]

pub all_taken : (basis : Basis) (p : ℕ) (table : List (Way × ℕ)) (way : Way) (low high : ℕ) → ArePast basis p table → low ≡ skipped_at table way
    → SkipsTo basis p (positions (goes_way way) 0 basis.events) low high → (k : ℕ) → k < high → k < length (positions (goes_way way) 0 basis.events)
    → is_untaken basis p (get_or (positions (goes_way way) 0 basis.events) k 0) ≡ false
all_taken basis p table way low high past is skips k less within = elim (less_or_not k low) [
  | inl before ↦ past way k (omega (arith, is, before)) within
  | inr after ↦ skips.taken k after less within
]

pub first_is : (basis : Basis) (p : ℕ) (table : List (Way × ℕ)) (way : Way) (low high : ℕ) → ArePast basis p table → low ≡ skipped_at table way
    → SkipsTo basis p (positions (goes_way way) 0 basis.events) low high
    → slice_get (positions (goes_way way) 0 basis.events) high ≡ first_untaken basis p (positions (goes_way way) 0 basis.events)
first_is basis p table way low high past is skips =
    sym (find_behind (is_untaken basis p) (positions (goes_way way) 0 basis.events) high (λ k less within. all_taken basis p table way low high past is skips k less within) skips.first)

-- One more event traced.
use Rattle.std.proofs.Common.{◌≡◌, ◌≤◌, ◌<◌, ◌⊎◌, ◌+◌, ◌++◌, ◌∷◌, ◌^◌, [], ℕ, zero, suc, List, Option, Some, None, inl, inr, refl, ap, sym, ◌∙◌, arith, get_or, length, length-append, slice_get, subst, take, take-take, take_all}
use Rattle.std.proofs.lemmas.List.{take-append-le}
use Rattle.run_model.specs.declared.event.Event.{Event}
use Rattle.causes.specs.Beside.{AreTables}
use Rattle.causes.specs.Steps.{rests_on}
use Rattle.msg_races.specs.Listing.{lists_below}
use Rattle.run_drawing.specs.declared.tracing.Tracing.{Tracing}
use Rattle.run_drawing.specs.Depths.{AreDepths, IsDepth}
use Rattle.run_drawing.specs.Links.{cause_at, cause_in, deeper, deepest, depth_after, last_position, links_at, links_by, event_links}
use Rattle.run_drawing.specs.inside.Scenes.{AreIndexed, AreTraced, IsTraced}
use Rattle.run_drawing.proofs.DepthLemmas.{depth_low, equal_or_less, next_depth}

pub take_next : {A : Type 0} (xs : List A) (k : ℕ) (x : A) → slice_get xs k ≡ Some x → take (suc k) xs ≡ take k xs ++ x ∷ []
take_next [] k x h = absurd (cc)
take_next (y ∷ xs) zero x h = (let e : y ≡ x = cc in ap (λ z. z ∷ []) e)
take_next (y ∷ xs) (suc k) x h = ap (λ l. y ∷ l) (take_next xs k x h)

front : {A : Type 0} (xs ys : List A) (k : ℕ) (d : A) → k < length xs → get_or (xs ++ ys) k d ≡ get_or xs k d
front [] ys k d h = absurd (omega (arith, h))
front (x ∷ xs) ys zero d h = refl
front (x ∷ xs) ys (suc k) d h = front xs ys k d (omega (arith, h))

last : {A : Type 0} (xs : List A) (x d : A) (k : ℕ) → k ≡ length xs → get_or (xs ++ x ∷ []) k d ≡ x
last [] x d zero h = refl
last [] x d (suc k) h = absurd (omega (arith, h))
last (y ∷ xs) x d zero h = absurd (omega (arith, h))
last (y ∷ xs) x d (suc k) h = last xs x d k (omega (arith, h))

-- the events before the next one, its depth and what it had to wait for
pub record IsAdded (n : ℕ) (events : List Event) (k : ℕ) (event : Event) (old new : Tracing) : Type 0 where
  pub depth : ℕ
  pub cause : Option ℕ
  pub there : slice_get events k ≡ Some event
  pub tables : AreTables (take k events ++ event ∷ []) new.tables
  pub ranks : new.tables.ranks ≡ old.tables.ranks
  pub depths : new.depths.items ≡ old.depths.items ++ depth ∷ []
  pub is_depth : IsDepth n events k depth
  pub causes : new.causes.items ≡ old.causes.items ++ cause ∷ []
  pub is_cause : cause ≡ deepest old.depths.items (rests_on n (take k events) event.rank event.call event.reply)
  pub indexed : AreIndexed new.links
  pub links : new.links.list.items ≡ old.links.list.items ++ links_by n old.depths.items (take k events) event.rank event.call event.reply

-- the depths before are those of the events before
prefix_of : (k : ℕ) (old whole : List ℕ) (depth : ℕ) → length old ≡ k → take (suc k) whole ≡ old ++ depth ∷ [] → take k whole ≡ old
prefix_of k old whole depth many is =
    sym (take-take k (suc k) whole (omega arith))
    ∙ ap (take k) is
    ∙ take-append-le k old (depth ∷ []) (omega (arith, many))
    ∙ take_all k old (omega (arith, many))

causes_more : (n : ℕ) (events : List Event) (k : ℕ) (event : Event) (old new : Tracing) (whole : List ℕ) → IsTraced n events k old
    → (added : IsAdded n events k event old new) → take k whole ≡ old.depths.items → (p : ℕ) → p < suc k
    → get_or new.causes.items p None ≡ cause_at n events whole p
causes_more n events k event old new whole traced added same p low =
    let many = traced.as_many_causes in
    ap (λ l. get_or l p None) added.causes
    ∙ elim (equal_or_less p k (omega (arith, low))) [
      | inl e ↦ (
          let here : get_or (old.causes.items ++ added.cause ∷ []) p None ≡ added.cause = last old.causes.items added.cause None p (omega (arith, e, many)) in
          let P : ℕ → Type 0 = λ q. added.cause ≡ cause_at n events whole q in
          let value : P k =
          added.is_cause
          ∙ ap (λ l. deepest l (rests_on n (take k events) event.rank event.call event.reply)) (sym same)
          ∙ ap (cause_in n (take k whole) (take k events)) (sym added.there) in
          here ∙ subst P (sym e) value)
      | inr less ↦ (
          front old.causes.items (added.cause ∷ []) p None (omega (arith, less, many))
          ∙ (traced.traced whole same).causes p less)
    ]

pub traced_more : (n : ℕ) (events : List Event) (k : ℕ) (event : Event) (old new : Tracing) → IsTraced n events k old → IsAdded n events k event old new
    → IsTraced n events (suc k) new
traced_more n events k event old new traced added =
    let many = traced.as_many in
    let many_causes = traced.as_many_causes in
    let T : List Event → Type 0 = λ l. AreTables l new.tables in
    record {
      ranks = added.ranks ∙ traced.ranks;
      tables = subst T (sym (take_next events k event added.there)) added.tables;
      as_many = ap length added.depths ∙ (let long = length-append old.depths.items (added.depth ∷ []) in omega (arith, long, many));
      as_many_causes = ap length added.causes ∙ (let long = length-append old.causes.items (added.cause ∷ []) in omega (arith, long, many_causes));
      depths = λ u low.
          let P : ℕ → Type 0 = λ d. IsDepth n events u d in
          subst P (sym (ap (λ l. get_or l u 0) added.depths))
          (elim (equal_or_less u k (omega (arith, low))) [
            | inl e ↦ (
                let here : get_or (old.depths.items ++ added.depth ∷ []) u 0 ≡ added.depth = last old.depths.items added.depth 0 u (omega (arith, e, many)) in
                let Q : ℕ → Type 0 = λ v. IsDepth n events v added.depth in
                subst P (sym here) (subst Q (sym e) added.is_depth))
            | inr less ↦ subst P (sym (front old.depths.items (added.depth ∷ []) u 0 (omega (arith, less, many)))) (traced.depths u less)
          ]);
      indexed = added.indexed;
      traced = λ whole is.
          let same = prefix_of k old.depths.items whole added.depth many (is ∙ added.depths) in
          record {
            causes = λ p low. causes_more n events k event old new whole traced added same p low;
            links =
                added.links
                ∙ ap (λ l. l ++ links_by n old.depths.items (take k events) event.rank event.call event.reply) (traced.traced whole same).links
                ∙ ap (λ l. lists_below (links_at n events whole) k ++ links_by n l (take k events) event.rank event.call event.reply) (sym same)
                ∙ ap (λ o. lists_below (links_at n events whole) k ++ event_links n (take k whole) (take k events) o) (sym added.there);
          };
    }

-- the depths of all events
pub depths_of : (n : ℕ) (events : List Event) (tracing : Tracing) → IsTraced n events (length events) tracing → AreDepths n events tracing.depths.items
depths_of n events tracing traced = record { as_many = traced.as_many; each = traced.depths }

past : {A : Type 0} (xs : List A) (k : ℕ) (d : A) → length xs ≤ k → get_or xs k d ≡ d
past [] k d h = refl
past (x ∷ xs) zero d h = absurd (omega (arith, h))
past (x ∷ xs) (suc k) d h = past xs k d (omega (arith, h))

none_past : {A : Type 0} (xs : List A) (k : ℕ) → length xs ≤ k → slice_get xs k ≡ None
none_past [] k h = refl
none_past (x ∷ xs) zero h = absurd (omega (arith, h))
none_past (x ∷ xs) (suc k) h = none_past xs k (omega (arith, h))

less_or_past : (a b : ℕ) → (a < b) ⊎ (b ≤ a)
less_or_past a zero = inr (omega arith)
less_or_past zero (suc b) = inl (omega arith)
less_or_past (suc a) (suc b) = elim (less_or_past a b) [ inl h ↦ inl (omega (arith, h)) | inr h ↦ inr (omega (arith, h)) ]

-- what each event had to wait for, and all links
all_traced : (n : ℕ) (events : List Event) (tracing : Tracing) → IsTraced n events (length events) tracing → AreTraced n events (length events) tracing.depths.items tracing
all_traced n events tracing traced = (let many = traced.as_many in traced.traced tracing.depths.items (take_all (length events) tracing.depths.items (omega (arith, many))))

pub late_of : (n : ℕ) (events : List Event) (tracing : Tracing) → IsTraced n events (length events) tracing → (p : ℕ)
    → get_or tracing.causes.items p None ≡ cause_at n events tracing.depths.items p
late_of n events tracing traced p = elim (less_or_past p (length events)) [
  | inl low ↦ (all_traced n events tracing traced).causes p low
  | inr high ↦ (
      let many = traced.as_many_causes in
      past tracing.causes.items p None (omega (arith, many, high))
      ∙ ap (cause_in n (take p tracing.depths.items) (take p events)) (sym (none_past events p high)))
]

pub links_of : (n : ℕ) (events : List Event) (tracing : Tracing) → IsTraced n events (length events) tracing
    → tracing.links.list.items ≡ lists_below (links_at n events tracing.depths.items) (length events)
links_of n events tracing traced = (all_traced n events tracing traced).links

-- depths are small
pub few_depths : (n : ℕ) (events : List Event) (k : ℕ) (tracing : Tracing) (depths : List ℕ) (p : ℕ) → IsTraced n events k tracing → k ≤ length events → length events < 2 ^ 32
    → depths ≡ tracing.depths.items → get_or depths p 0 + 1 < 2 ^ 32
few_depths n events k tracing depths p traced there short same =
    let value : get_or depths p 0 ≡ get_or tracing.depths.items p 0 = ap (λ (l : List ℕ). get_or l p 0) same in
    elim (less_or_past p k) [
      | inl low ↦ (let few = depth_low n events p (get_or tracing.depths.items p 0) (traced.depths p low) in omega (arith, value, few, low, there, short))
      | inr high ↦ (
          let many = traced.as_many in
          let none = past tracing.depths.items p 0 (omega (arith, many, high)) in
          omega (arith, value, none))
    ]

-- what is told of the event that was added
pub record IsNoted (n : ℕ) (events : List Event) (k : ℕ) (event : Event) (old new : Tracing) : Type 0 where
  pub depth : ℕ
  pub cause : Option ℕ
  pub there : slice_get events k ≡ Some event
  pub tables : AreTables (take k events ++ event ∷ []) new.tables
  pub ranks : new.tables.ranks ≡ old.tables.ranks
  pub depths_new : new.depths.items ≡ old.depths.items ++ depth ∷ []
  pub depth_is : depth ≡ depth_after old.depths.items (deeper old.depths.items (last_position (take k events) event.rank) cause)
  pub causes : new.causes.items ≡ old.causes.items ++ cause ∷ []
  pub cause_is : cause ≡ deepest old.depths.items (rests_on n (take k events) event.rank event.call event.reply)
  pub indexed : AreIndexed new.links
  pub links : new.links.list.items ≡ old.links.list.items ++ links_by n old.depths.items (take k events) event.rank event.call event.reply

pub traced_next : (n : ℕ) (events : List Event) (k : ℕ) (event : Event) (old new : Tracing) → IsTraced n events k old → IsNoted n events k event old new
    → IsTraced n events (k + 1) new
traced_next n events k event old new traced noted =
    let D : ℕ → Type 0 = λ d. IsDepth n events k d in
    let is = next_depth n events k event old.depths.items noted.cause (record { there = noted.there; as_many = traced.as_many; each = traced.depths }) noted.cause_is in
    let T : ℕ → Type 0 = λ j. IsTraced n events j new in
    let up : suc k ≡ k + 1 = omega arith in
    subst T up (traced_more n events k event old new traced (record {
      depth = noted.depth;
      cause = noted.cause;
      there = noted.there;
      tables = noted.tables;
      ranks = noted.ranks;
      depths = noted.depths_new;
      is_depth = subst D (sym noted.depth_is) is;
      causes = noted.causes;
      is_cause = noted.cause_is;
      indexed = noted.indexed;
      links = noted.links;
    }))

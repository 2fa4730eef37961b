-- A token is split, two are joined, a table is opened and closed: each keeps the rule or begins with it.
use Rattle.std.proofs.Common.{◌≡◌, ◌≢◌, ℕ, zero, suc, ◌+◌, ◌<◌, ◌≤◌, List, [], ◌∷◌, ◌++◌, length, All, set, sym, refl, ap, ◌∙◌, subst, ⊎_elim, inl, inr, ◌⊎◌, arith, Option, Some, length-set, length-append}
use mathlib.Core.Option.{some, some-ne-none, some-injective}
use lib.ListN.{get_elem?}
use Rattle.atomic_table.specs.Table.{Splits, Joins, opening, Seen, Final}
use Rattle.atomic_table.proofs.Lists.{set_else, at_longer}
use Rattle.turn_lock.specs.declared.lock.TheConstants.{MOST_SEATS}
use Rattle.turn_lock.specs.Rule.{account, fresh_accounts, first_view, seen_in, total, tickets_at, tickets, accounts_of, Queue, StageFits, AccountsFit, ViewFits, SlotTable, TurnRule}
use Rattle.turn_lock.specs.Steps.{first_only, but_first, without_first, first_alone, both_views, spent_view}
use Rattle.turn_lock.specs.inside.Ends.{HasAccount, AllStand, EndsWith}
use Rattle.turn_lock.specs.declared.view.Account.{Account}
use Rattle.turn_lock.specs.declared.view.TokenView.{TokenView}
use Rattle.turn_lock.specs.declared.view.Stage.{Stage}
use Rattle.turn_lock.specs.declared.view.Stage.TheVariants.{Idle, Turn}
use Rattle.turn_lock.proofs.Accounts.{fits_owner, fits_append, fits_lacking, all_stand, owner_at, some_owned, length-fresh, fresh_lacks, fits_fresh}
use Rattle.turn_lock.proofs.Keeps.{each_set, IsHome, HasTurn, slot_stays, idle_not_turn, home_at}
use Rattle.turn_lock.proofs.Sums.{total_set, total_append, put, put_here, put_else, moved, moved_here, moved_else}

-- nothing drawn, nothing served
abbrev empty : Queue
empty = record { serving = 0; next = 0; holder = λ t. 0 }

-- an idle view has no ticket that could misfit
idle_fits : (q : Queue) (latest : Type 0) (j : ℕ) (a : Stage) → a ≡ Idle → StageFits q latest j a
idle_fits q latest j a idle = subst (StageFits q latest j) (sym idle) tt

-- an element of a list one longer is within, or is the last
at_end : {A : Type 0} (xs : List A) (a b : A) (j : ℕ) → get_elem? (xs ++ a ∷ []) j ≡ some b → ((j < length xs) × (get_elem? xs j ≡ some b)) ⊎ ((j ≡ length xs) × (a ≡ b))
at_end [] a b zero e = inr (refl, some-injective a b e)
at_end [] a b (suc j) e = absurd (some-ne-none b (sym e))
at_end (x ∷ xs) a b zero e = inl (omega arith, e)
at_end (x ∷ xs) a b (suc j) e = ⊎_elim (λ (t : (j < length xs) × (get_elem? xs j ≡ some b)). let l : j < length xs = t.0 in inl (omega arith, t.1))
    (λ (t : (j ≡ length xs) × (a ≡ b)). inr (ap suc t.0, t.1)) (at_end xs a b j e)

-- what is said of each view, after one was added
each_last : {A : Type 0} (P : ℕ → A → Type 0) (vs : List A) (w : A) → P (length vs) w → ((j : ℕ) (v : A) → j < length vs → get_elem? vs j ≡ some v → P j v)
    → (j : ℕ) (v : A) → get_elem? (vs ++ w ∷ []) j ≡ some v → P j v
each_last {A} P vs w mine others j v e = elim (at_end vs w v j e) [
  | inl t ↦ others j v t.0 t.1
  | inr t ↦ subst (λ (x : ℕ × A). P x.0 x.1) (λ i. (sym t.0 i, t.1 i)) mine
]

module _ {T E F : Type 0} (entries : T → List (ℕ × E)) (frame_of : T → F) (seats : ℕ) (told : F) where
  abbrev KeptBy : SlotTable T E F → Type 0
  KeptBy = TurnRule entries frame_of seats told

  pub splits : (id k n : ℕ) (v : TokenView E F) → v.stage ≡ Idle → v.accounts ≡ fresh_accounts k (suc n) → Splits KeptBy id v (without_first v) (first_alone v)
  splits id k n v idle all s r at =
      let left : TokenView E F = without_first v in
      let right : TokenView E F = first_alone v in
      let f : ViewFits seats told r.history r.queue r.owner id v = r.each id v at in
      let new : ℕ = length s.views in
      let owner : ℕ → ℕ = put r.owner k new in
      let had : AccountsFit seats r.owner r.history id (account k [] [] ∷ fresh_accounts (suc k) n) = subst (AccountsFit seats r.owner r.history id) all f.accounts in
      let kept : but_first v.accounts ≡ fresh_accounts (suc k) n = ap (λ (l : List (Account E)). but_first l) all in
      let cut : first_only v.accounts ≡ account k [] [] ∷ [] = ap (λ (l : List (Account E)). first_only l) all in
      let count : length v.accounts ≡ suc (length (fresh_accounts {E = E} (suc k) n)) = ap (λ (l : List (Account E)). length l) all in
      let kept_count : length (but_first v.accounts) ≡ length (fresh_accounts {E = E} (suc k) n) = ap (λ (l : List (Account E)). length l) kept in
      let cut_count : length (first_only v.accounts) ≡ 1 = ap (λ (l : List (Account E)). length l) cut in
      let no_ticket : tickets_at v.stage ≡ 0 = ap tickets_at idle in
      let waiting : r.queue.next ≡ r.queue.serving + total tickets (set s.views id left ++ right ∷ []) =
      (let e = r.waiting in let u = total_set tickets s.views id v left at in let a = total_append tickets (set s.views id left) (right ∷ []) in omega arith) in
      let shares : total accounts_of (set s.views id left ++ right ∷ []) ≡ seats =
      (let e = r.shares in let u = total_set accounts_of s.views id v left at in let a = total_append accounts_of (set s.views id left) (right ∷ []) in omega arith) in
      let P : ℕ → TokenView E F → Type 0 = ViewFits seats told r.history r.queue owner in
      record {
        history = r.history;
        queue = r.queue;
        owner = owner;
        few = r.few;
        numbers = r.numbers;
        words = r.words;
        waiting = waiting;
        shares = shares;
        each = each_last P (set s.views id left) right
            (subst (λ (i : ℕ). P i right) (sym (length-set s.views id left)) record {
              stage = tt;
              accounts = subst (AccountsFit seats owner r.history new) (sym cut)
                  (record { number = had.0.number; owned = put_here r.owner k new; own = had.0.own; seen = had.0.seen }, tt);
              frame = λ h. f.frame (omega arith);
              live = omega arith;
            })
            (λ j u lt here. each_set P s.views id left
            record {
              stage = idle_fits r.queue (seen_in left.accounts ≡ r.history) id v.stage idle;
              accounts = subst (AccountsFit seats owner r.history id) (sym kept)
                  (fits_lacking seats r.owner r.history id new k (fresh_accounts (suc k) n) (fresh_lacks E n (suc k) k (omega arith)) had.1);
              frame = λ h. f.frame (omega arith);
              live = omega arith;
            }
            (λ j' u' other there. let g : ViewFits seats told r.history r.queue r.owner j' u' = r.each j' u' there in
            record {
              stage = g.stage;
              accounts = fits_owner seats r.owner owner r.history j' j' u'.accounts
                  (λ k' o. put_else r.owner k new k' (λ e. other (sym o ∙ (ap r.owner e ∙ had.0.owned))) ∙ o) g.accounts;
              frame = g.frame;
              live = g.live;
            }) j u here);
        slot = ⊎_elim (λ (home : IsHome entries frame_of seats told r.history s). inl home)
            (λ (u : HasTurn entries frame_of seats told (set s.views id left)). inr (u.0, u.1, u.2, at_longer (set s.views id left) (right ∷ []) u.0 u.1 u.3, u.4))
            (slot_stays entries frame_of seats told s r id v left s.words at (idle_not_turn entries frame_of seats told v idle));
      }

  pub joins : (id other : ℕ) (v w : TokenView E F) → v.stage ≡ Idle → w.stage ≡ Idle → 0 < length v.accounts → Joins KeptBy id v other w (both_views v w) spent_view
  joins id other v w idle idle' some_account s r at ne at' =
      let both : TokenView E F = both_views v w in
      let spent : TokenView E F = spent_view in
      let first : List (TokenView E F) = set s.views id both in
      let there : get_elem? s.views other ≡ some w = sym (set_else s.views id other both ne) ∙ at' in
      let f : ViewFits seats told r.history r.queue r.owner id v = r.each id v at in
      let g : ViewFits seats told r.history r.queue r.owner other w = r.each other w there in
      let owner : ℕ → ℕ = moved r.owner other id in
      let P : ℕ → TokenView E F → Type 0 = ViewFits seats told r.history r.queue owner in
      let no_ticket : tickets_at v.stage ≡ 0 = ap tickets_at idle in
      let no_ticket' : tickets_at w.stage ≡ 0 = ap tickets_at idle' in
      let count : length (w.accounts ++ v.accounts) ≡ length w.accounts + length v.accounts = length-append w.accounts v.accounts in
      let waiting : r.queue.next ≡ r.queue.serving + total tickets (set first other spent) =
      (let e = r.waiting in let u = total_set tickets s.views id v both at in let u' = total_set tickets first other w spent at' in omega arith) in
      let shares : total accounts_of (set first other spent) ≡ seats =
      (let e = r.shares in let u = total_set accounts_of s.views id v both at in let u' = total_set accounts_of first other w spent at' in omega arith) in
      record {
        history = r.history;
        queue = r.queue;
        owner = owner;
        few = r.few;
        numbers = r.numbers;
        words = r.words;
        waiting = waiting;
        shares = shares;
        each = each_set P first other spent
            record { stage = tt; accounts = tt; frame = λ h. absurd (omega arith); live = omega arith }
            (λ j u apart here. each_set (λ (i : ℕ) (z : TokenView E F). i ≢ other → P i z) s.views id both
            (λ a. record {
              stage = idle_fits r.queue (seen_in both.accounts ≡ r.history) id v.stage idle;
              accounts = fits_append seats owner r.history id w.accounts v.accounts
                  (fits_owner seats r.owner owner r.history other id w.accounts (λ k o. moved_here r.owner other id k o) g.accounts)
                  (fits_owner seats r.owner owner r.history id id v.accounts (λ k o. moved_else r.owner other id k (λ e. ne (sym e ∙ o)) ∙ o) f.accounts);
              frame = λ h. f.frame some_account;
              live = omega arith;
            })
            (λ i z mine at_i a. let h : ViewFits seats told r.history r.queue r.owner i z = r.each i z at_i in
            record {
              stage = h.stage;
              accounts = fits_owner seats r.owner owner r.history i i z.accounts (λ k o. moved_else r.owner other id k (λ e. a (sym o ∙ e)) ∙ o) h.accounts;
              frame = h.frame;
              live = h.live;
            }) j u here apart);
        slot = ⊎_elim (λ (home : IsHome entries frame_of seats told r.history s). inl home)
            (λ (u : HasTurn entries frame_of seats told first).
            inr (
              u.0,
              u.1,
              u.2,
              set_else first other u.0 spent (λ e. let same : w ≡ u.1 = some-injective w u.1 (sym at' ∙ (ap (λ (k : ℕ). get_elem? first k) (sym e) ∙ u.3)) in
                  let no : Idle ≡ Turn u.2 = sym idle' ∙ (ap (λ (z : TokenView E F). z.stage) same ∙ u.4) in absurd (cc)) ∙ u.3,
              u.4,
            ))
            (slot_stays entries frame_of seats told s r id v both s.words at (idle_not_turn entries frame_of seats told v idle));
      }

  pub opens : (x : T) → seats ≤ MOST_SEATS → entries x ≡ [] → frame_of x ≡ told → KeptBy (opening (0 ∷ 0 ∷ []) (Some x ∷ []) (first_view seats told))
  opens x few none_yet is_told = record {
    history = [];
    queue = empty;
    owner = λ k. 0;
    few = few;
    numbers = λ i d lt. absurd (omega arith);
    words = refl;
    waiting = refl;
    shares = (let h : length (fresh_accounts {E = E} 0 seats) ≡ seats = length-fresh E seats 0 in omega arith);
    each = only;
    slot = inl (x, refl, none_yet, is_told);
  }
    where
      only : (j : ℕ) (v : TokenView E F) → get_elem? (first_view seats told ∷ []) j ≡ some v → ViewFits seats told [] empty (λ k. 0) j v
      only zero v e = subst (ViewFits seats told [] empty (λ k. 0) 0) (some-injective (first_view seats told) v e)
          record { stage = tt; accounts = fits_fresh E seats seats 0 (omega arith); frame = λ h. refl; live = omega arith }
      only (suc j) v e = absurd (some-ne-none v (sym e))

  -- the token with every account is idle, so no seat has the turn, and the value is in the slot
  pub closes : (id : ℕ) (v : TokenView E F) (ws : List ℕ) (xs : List (Option T)) (o : Option T) → v.stage ≡ Idle → ((k : ℕ) → k < seats → HasAccount k v.accounts)
      → Final (Seen KeptBy id v) ws xs → get_elem? xs 0 ≡ some o → (x : T) × (o ≡ Some x) × EndsWith entries frame_of seats told v.accounts x
  closes id v ws xs o idle all end out =
      let s : SlotTable T E F = end.0 in let r : KeptBy s = end.1.0 in let at : get_elem? s.views id ≡ some v = end.1.1 in
      let f : ViewFits seats told r.history r.queue r.owner id v = r.each id v at in
      ⊎_elim (λ (home : IsHome entries frame_of seats told r.history s).
      let there : get_elem? xs 0 ≡ some (Some home.0) = end.4 0 (Some home.0) (home_at entries frame_of seats told s home.0 home.1) in (
        home.0,
        some-injective o (Some home.0) (sym out ∙ there),
        record {
          frame = home.3;
          numbers = subst (λ (h : List (ℕ × E)). All (λ (e : ℕ × E). e.0 < seats) h) (sym home.2) r.numbers;
          stand = subst (λ (h : List (ℕ × E)). AllStand h v.accounts) (sym home.2) (all_stand seats r.owner r.history id v.accounts f.accounts);
        },
      ))
      (λ (u : HasTurn entries frame_of seats told s.views).
      let g : ViewFits seats told r.history r.queue r.owner u.0 u.1 = r.each u.0 u.1 u.3 in
      let one_ticket : tickets_at u.1.stage ≡ 1 = ap tickets_at u.4 in
      let some_account : 0 < length u.1.accounts = (let l = g.live in omega arith) in
      let k = some_owned seats r.owner r.history u.0 u.1.accounts g.accounts some_account in
      let mine : r.owner k.0 ≡ id = owner_at seats r.owner r.history id k.0 v.accounts f.accounts (all k.0 k.1) in
      let same_j : id ≡ u.0 = sym mine ∙ k.2 in
      let same : v ≡ u.1 = some-injective v u.1 (sym at ∙ (ap (λ (i : ℕ). get_elem? s.views i) same_j ∙ u.3)) in
      let no : Idle ≡ Turn u.2 = sym idle ∙ (ap (λ (z : TokenView E F). z.stage) same ∙ u.4) in absurd (cc)) r.slot

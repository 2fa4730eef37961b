-- Each step of a seat keeps the rule of the lock's table.
use Rattle.std.proofs.Common.{◌≡◌, ◌≢◌, ℕ, zero, suc, ◌+◌, ◌%◌, ◌^◌, ◌<◌, ◌≤◌, List, [], ◌∷◌, length, get_or, set, sym, refl, ap, ◌∙◌, subst, ⊎_elim, inl, inr, arith, Option, Some, None}
use mathlib.Core.Logic.{dite}
use mathlib.Core.Option.{none, some, some-ne-none, some-injective}
use native.Mathlib.Decide.{ℕ_discrete}
use lib.ListN.{get_elem?}
use lib.Seq.{set-get_or}
use Rattle.std.proofs.Math.Nat.{mod-add-mod}
use Rattle.atomic_table.specs.Table.{Act, Valid, carried_after, step, keeps, takes, gives, stepped, Allows}
use Rattle.atomic_table.proofs.Lists.{at_set, set_here, set_else, set_again, one_turn}
use Rattle.turn_lock.specs.Entries.{entries_of, Grows}
use Rattle.turn_lock.specs.Rule.{account, seen_in, total, tickets_at, tickets, accounts_of, Queue, StageFits, AccountsFit, ViewFits, SlotTable, SlotFits, TurnRule}
use Rattle.turn_lock.specs.Steps.{Here, IsOneAccount, informed, renewed, with_stage, turned_to, turn_passed, Draws, ReadsTurn, Advances}
use Rattle.turn_lock.specs.declared.view.Account.{Account}
use Rattle.turn_lock.specs.declared.view.TokenView.{TokenView}
use Rattle.turn_lock.specs.declared.view.Stage.{Stage}
use Rattle.turn_lock.specs.declared.view.Stage.TheVariants.{Idle, Waiting, Turn}
use Rattle.turn_lock.proofs.Growth.{starts_whole, grown_numbers}
use Rattle.turn_lock.proofs.Accounts.{fits_grown, fits_informed, seen_begins, own_stands, length-informed, seen_in-informed, renewed-one}
use Rattle.turn_lock.proofs.Sums.{total_set, total_le, put, put_here, put_else}

-- what is said of each view, after one view changed
pub each_set : {A : Type 0} (P : ℕ → A → Type 0) (vs : List A) (me : ℕ) (w : A) → P me w → ((j : ℕ) (v : A) → j ≢ me → get_elem? vs j ≡ some v → P j v)
    → (j : ℕ) (v : A) → get_elem? (set vs me w) j ≡ some v → P j v
each_set {A} P vs me w mine others j v e = ⊎_elim (λ (t : (j ≡ me) × (w ≡ v)). subst (λ (x : ℕ × A). P x.0 x.1) (λ i. (sym t.0 i, t.1 i)) mine)
    (λ (t : (j ≢ me) × (get_elem? vs j ≡ some v)). others j v t.0 t.1) (at_set vs me j w v e)

pub at_inside : {A : Type 0} (xs : List A) (i : ℕ) (a : A) → get_elem? xs i ≡ some a → i < length xs
at_inside [] i a e = absurd (some-ne-none a (sym e))
at_inside (x ∷ xs) zero a e = omega arith
at_inside (x ∷ xs) (suc i) a e = let h = at_inside xs i a e in omega arith

words_drawn : (ws : List ℕ) (a b : ℕ) → ws ≡ a % 2 ^ 64 ∷ b ∷ [] → set ws 0 ((get_or ws 0 0 + 1) % 2 ^ 64) ≡ (a + 1) % 2 ^ 64 ∷ b ∷ []
words_drawn ws a b e = let P : List ℕ → Type 0 = λ ws. set ws 0 ((get_or ws 0 0 + 1) % 2 ^ 64) ≡ (a + 1) % 2 ^ 64 ∷ b ∷ [] in
    subst P (sym e) (ap (λ (n : ℕ). n ∷ b ∷ []) (mod-add-mod a (2 ^ 64) 1))

words_served : (ws : List ℕ) (a b : ℕ) → ws ≡ a ∷ b % 2 ^ 64 ∷ [] → set ws 1 ((get_or ws 1 0 + 1) % 2 ^ 64) ≡ a ∷ (b + 1) % 2 ^ 64 ∷ []
words_served ws a b e = let P : List ℕ → Type 0 = λ ws. set ws 1 ((get_or ws 1 0 + 1) % 2 ^ 64) ≡ a ∷ (b + 1) % 2 ^ 64 ∷ [] in
    subst P (sym e) (ap (λ (n : ℕ). a ∷ n ∷ []) (mod-add-mod b (2 ^ 64) 1))

-- the view me has drawn the next ticket
drawn : Queue → ℕ → Queue
drawn q me = record { serving = q.serving; next = q.next + 1; holder = put q.holder q.next me }

-- the ticket that was served is passed
served : Queue → Queue
served q = record { serving = q.serving + 1; next = q.next; holder = q.holder }

-- the new ticket is no other view's
stage_drawn : (q : Queue) (latest : Type 0) (me j : ℕ) (a : Stage) → StageFits q latest j a → StageFits (drawn q me) latest j a
unfolding drawn
stage_drawn q latest me j Idle h = tt
stage_drawn q latest me j (Waiting t) h = let lt : t < q.next = h.1 in (h.0, omega arith, put_else q.holder q.next me t (λ e. omega arith) ∙ h.2)
stage_drawn q latest me j (Turn t) h = let lt : t < q.next = h.1 in (h.0, omega arith, put_else q.holder q.next me t (λ e. omega arith) ∙ h.2, h.3)

-- the ticket that is passed was no other view's
stage_served : (q : Queue) (latest latest' : Type 0) (me j : ℕ) (a : Stage) → q.holder q.serving ≡ me → j ≢ me → StageFits q latest j a → StageFits (served q) latest' j a
unfolding served
stage_served q latest latest' me j Idle here other h = tt
stage_served q latest latest' me j (Waiting t) here other h =
    let ne : q.serving ≢ t = λ e. other (sym h.2 ∙ (ap q.holder (sym e) ∙ here)) in let le : q.serving ≤ t = h.0 in (omega arith, h.1, h.2)
stage_served q latest latest' me j (Turn t) here other h = absurd (other (sym h.2 ∙ (ap q.holder (sym h.0) ∙ here)))

module _ {T E F : Type 0} (entries : T → List (ℕ × E)) (frame_of : T → F) (seats : ℕ) (told : F) where
  abbrev pub Rule : SlotTable T E F → Type 0
  Rule = TurnRule entries frame_of seats told

  -- the value lies in the slot
  abbrev pub IsHome : List (ℕ × E) → SlotTable T E F → Type 0
  IsHome history s = (x : T) × (s.homes ≡ some (Some x) ∷ []) × (entries x ≡ history) × (frame_of x ≡ told)

  -- some view of these has the turn
  abbrev pub HasTurn : List (TokenView E F) → Type 0
  HasTurn vs = (j : ℕ) × (v : TokenView E F) × (t : ℕ) × (get_elem? vs j ≡ some v) × (v.stage ≡ Turn t)

  unchanged : (s : SlotTable T E F) → Rule s → (i id : ℕ) (v : TokenView E F) → get_elem? s.views id ≡ some v → (c : List (ℕ × Option T)) → Rule (stepped s i (get_or s.words i 0) id c v keeps)
  unchanged s r i id v at c = subst Rule (λ p. record { words = sym (set-get_or s.words i 0) p; homes = s.homes; views = sym (set_again s.views id v at) p }) r

  -- the seat with the turn keeps it when another view changes
  pub slot_stays : (s : SlotTable T E F) (r : Rule s) (me : ℕ) (v w : TokenView E F) (ws : List ℕ) → get_elem? s.views me ≡ some v → ((t : ℕ) → v.stage ≢ Turn t)
      → SlotFits entries frame_of told r.history record { words = ws; homes = s.homes; views = set s.views me w }
  slot_stays s r me v w ws at idle = ⊎_elim (λ (home : IsHome r.history s). inl home)
      (λ (u : HasTurn s.views).
      inr (u.0, u.1, u.2, set_else s.views me u.0 w (λ e. idle u.2 (let same : v ≡ u.1 = some-injective v u.1 (sym at ∙ (ap (λ (k : ℕ). get_elem? s.views k) (sym e) ∙ u.3)) in ap (λ (z : TokenView E F). z.stage) same ∙ u.4)) ∙ u.3, u.4))
      r.slot

  pub not_turn : (v : TokenView E F) (a : Stage) → v.stage ≡ a → ((t : ℕ) → a ≢ Turn t) → (t : ℕ) → v.stage ≢ Turn t
  not_turn v a is ne t e = ne t (sym is ∙ e)

  pub idle_not_turn : (v : TokenView E F) → v.stage ≡ Idle → (t : ℕ) → v.stage ≢ Turn t
  idle_not_turn v idle = not_turn v Idle idle (λ t e. cc)

  draws : (slots id : ℕ) (v : TokenView E F) → v.stage ≡ Idle → 0 < length v.accounts → Allows Rule slots id (v, []) 0 (λ n. (n + 1) % 2 ^ 64) (Draws (step slots 0 1 0 none) (v, []))
  unfolding drawn
  draws slots id v idle some_account s r deep at small =
      let q : Queue = r.queue in
      let q' : Queue = drawn q id in
      let w : TokenView E F = with_stage (Waiting q.next) v in
      let f : ViewFits seats told r.history q r.owner id v = r.each id v at in
      let no_ticket : tickets_at v.stage ≡ 0 = ap tickets_at idle in
      let waiting : q.next + 1 ≡ q.serving + total tickets (set s.views id w) = (let e = r.waiting in let t = total_set tickets s.views id v w at in omega arith) in
      let shares : total accounts_of (set s.views id w) ≡ seats = (let e = r.shares in let t = total_set accounts_of s.views id v w at in omega arith) in
      let le : q.serving ≤ q.next = (let e = r.waiting in omega arith) in (
        w,
        keeps,
        tt,
        record {
          history = r.history;
          queue = q';
          owner = r.owner;
          few = r.few;
          numbers = r.numbers;
          words = words_drawn s.words q.next (q.serving % 2 ^ 64) r.words;
          waiting = waiting;
          shares = shares;
          each = each_set (ViewFits seats told r.history q' r.owner) s.views id w
              record { stage = (le, omega arith, put_here q.holder q.next id); accounts = f.accounts; frame = f.frame; live = omega arith }
              (λ j u other here. let g : ViewFits seats told r.history q r.owner j u = r.each j u here in
              record { stage = stage_drawn q (seen_in u.accounts ≡ r.history) id j u.stage g.stage; accounts = g.accounts; frame = g.frame; live = g.live });
          slot = slot_stays s r id v w (set s.words 0 ((get_or s.words 0 0 + 1) % 2 ^ 64)) at (idle_not_turn v idle);
        },
        (q.next, ap (λ (ws : List ℕ). get_or ws 0 0) r.words, refl),
      )

  -- what a ticket says of the one that is served
  waits_at : (q : Queue) (latest : Type 0) (j t : ℕ) (a : Stage) → a ≡ Waiting t → StageFits q latest j a → (q.serving ≤ t) × (t < q.next) × (q.holder t ≡ j)
  waits_at q latest j t a is h = subst (StageFits q latest j) is h

  turn_at : (q : Queue) (latest : Type 0) (j t : ℕ) (a : Stage) → a ≡ Turn t → StageFits q latest j a → (q.serving ≡ t) × (t < q.next) × (q.holder t ≡ j) × latest
  turn_at q latest j t a is h = subst (StageFits q latest j) is h

  pub home_at : (s : SlotTable T E F) (x : T) → s.homes ≡ some (Some x) ∷ [] → get_elem? s.homes 0 ≡ some (some (Some x))
  home_at s x is = ap (λ (hs : List _). get_elem? hs 0) is

  -- a read of the served word keeps the rule, and tells what `ReadsTurn` says
  abbrev Read : SlotTable T E F → TokenView E F → ℕ → ℕ → Type 0
  Read s v slots id = (w : TokenView E F) × (a : Act (Option T)) × Valid s.homes [] a × Rule (stepped s 1 (get_or s.words 1 0) id [] w a)
      × ReadsTurn entries frame_of (step slots 1 0 0 none) (v, []) (get_or s.words 1 0) (w, carried_after [] a)

  same_ticket : (v : TokenView E F) (t t' : ℕ) → v.stage ≡ Waiting t → v.stage ≡ Waiting t' → t ≡ t'
  same_ticket v t t' is is' = let both : Waiting t ≡ Waiting t' = sym is ∙ is' in cc

  -- where the seat's ticket is served and the value lies in the slot, the seat takes it
  gains : (s : SlotTable T E F) (r : Rule s) (slots id t : ℕ) (v : TokenView E F) → get_elem? s.views id ≡ some v → v.stage ≡ Waiting t → r.queue.serving ≡ t → IsHome r.history s → Read s v slots id
  gains s r slots id t v at waits now home =
      let x : T = home.0 in
      let q : Queue = r.queue in
      let w : TokenView E F = turned_to t (entries x) v in
      let f : ViewFits seats told r.history q r.owner id v = r.each id v at in
      let mine = waits_at q (seen_in v.accounts ≡ r.history) id t v.stage waits f.stage in
      let one_ticket : tickets_at v.stage ≡ 1 = ap tickets_at waits in
      let some_account : 0 < length v.accounts = (let l = f.live in omega arith) in
      let as_many : length (informed (entries x) v.accounts) ≡ length v.accounts = length-informed (entries x) v.accounts in
      let framed : v.frame ≡ Some told = f.frame some_account in
      let waiting : q.next ≡ q.serving + total tickets (set s.views id w) = (let e = r.waiting in let u = total_set tickets s.views id v w at in omega arith) in
      let shares : total accounts_of (set s.views id w) ≡ seats = (let e = r.shares in let u = total_set accounts_of s.views id v w at in omega arith) in
      let begins = seen_begins seats r.owner r.history id v.accounts f.accounts in (
        w,
        takes 0 (Some x),
        home_at s x home.1,
        record {
          history = r.history;
          queue = q;
          owner = r.owner;
          few = r.few;
          numbers = r.numbers;
          words = set-get_or s.words 1 0 ∙ r.words;
          waiting = waiting;
          shares = shares;
          each = each_set (ViewFits seats told r.history q r.owner) s.views id w
              record {
                stage = (now, mine.1, mine.2, seen_in-informed (entries x) v.accounts some_account ∙ home.2);
                accounts = fits_informed seats r.owner r.history id (entries x) v.accounts home.2 f.accounts;
                frame = λ h. framed;
                live = omega arith;
              }
              (λ j u other here. r.each j u here);
          slot = inr (id, w, t, set_here s.views id w (at_inside s.views id v at), refl);
        },
        λ t' is. let same : t ≡ t' = same_ticket v t t' waits is in (
          λ hit. (
            x,
            ap (λ (n : ℕ). (turned_to n (entries x) v, (0, Some x) ∷ [])) same,
            record {
              frame = ap Some home.3 ∙ sym framed;
              seen = (begins.0, home.2 ∙ begins.1);
              own = λ k one. own_stands seats r.owner r.history id v.accounts f.accounts k one ∙ ap (entries_of k) (sym home.2);
            },
          ),
          λ miss. absurd (miss (ap (λ (ws : List ℕ). get_or ws 1 0) r.words ∙ ap (λ (n : ℕ). n % 2 ^ 64) (now ∙ same))),
        ),
      )

  -- where the seat's ticket is served, no other seat has the turn
  not_away : (s : SlotTable T E F) (r : Rule s) (id t : ℕ) (v : TokenView E F) → get_elem? s.views id ≡ some v → v.stage ≡ Waiting t → r.queue.serving ≡ t → ¬ (HasTurn s.views)
  not_away s r id t v at waits now u =
      let q : Queue = r.queue in
      let mine = waits_at q (seen_in v.accounts ≡ r.history) id t v.stage waits (r.each id v at).stage in
      let theirs = turn_at q (seen_in u.1.accounts ≡ r.history) u.0 u.2 u.1.stage u.4 (r.each u.0 u.1 u.3).stage in
      let same_j : id ≡ u.0 = sym mine.2 ∙ (ap q.holder (sym now ∙ theirs.0) ∙ theirs.2) in
      let same_v : v ≡ u.1 = some-injective v u.1 (sym at ∙ (ap (λ (k : ℕ). get_elem? s.views k) same_j ∙ u.3)) in
      let no : Waiting t ≡ Turn u.2 = sym waits ∙ (ap (λ (z : TokenView E F). z.stage) same_v ∙ u.4) in cc

  -- the word found is the ticket's only where that ticket is served: fewer than 2 ^ 64 tickets are drawn and not passed
  is_served : (s : SlotTable T E F) (r : Rule s) (id t : ℕ) (v : TokenView E F) → get_elem? s.views id ≡ some v → v.stage ≡ Waiting t → get_or s.words 1 0 ≡ t % 2 ^ 64 → r.queue.serving ≡ t
  is_served s r id t v at waits hit =
      let q : Queue = r.queue in
      let mine = waits_at q (seen_in v.accounts ≡ r.history) id t v.stage waits (r.each id v at).stage in
      let drawn_by : t < q.next = mine.1 in
      let bound : total tickets s.views ≤ total accounts_of s.views = total_le tickets accounts_of s.views (λ j u e. (r.each j u e).live) in
      let near : t < q.serving + 2 ^ 64 = (let e = r.waiting in let p = r.shares in let n = r.few in omega arith) in
      let found : get_or s.words 1 0 ≡ q.serving % 2 ^ 64 = ap (λ (ws : List ℕ). get_or ws 1 0) r.words in
      one_turn q.serving t (2 ^ 64) mine.0 near (sym found ∙ hit)

  reads : (slots id t : ℕ) (v : TokenView E F) → v.stage ≡ Waiting t → Allows Rule slots id (v, []) 1 (λ n. n) (ReadsTurn entries frame_of (step slots 1 0 0 none) (v, []))
  reads slots id t v waits s r deep at small =
      let miss : get_or s.words 1 0 ≢ t % 2 ^ 64 → Read s v slots id = λ ne. (
        v,
        keeps,
        tt,
        unchanged s r 1 id v at [],
        λ t' is. ((λ hit. absurd (ne (hit ∙ ap (λ (n : ℕ). n % 2 ^ 64) (same_ticket v t' t is waits)))), λ other. refl),
      ) in
      let hit : get_or s.words 1 0 ≡ t % 2 ^ 64 → Read s v slots id = λ e.
      let now = is_served s r id t v at waits e in
      ⊎_elim (λ (home : IsHome r.history s). gains s r slots id t v at waits now home) (λ (u : HasTurn s.views). absurd (not_away s r id t v at waits now u)) r.slot in
      dite (ℕ_discrete (get_or s.words 1 0) (t % 2 ^ 64)) hit miss

  one_home : {A : Type 0} (hs : List A) (a : A) → length hs ≡ 1 → set hs 0 a ≡ a ∷ []
  one_home [] a n = absurd (omega arith)
  one_home (x ∷ []) a n = refl
  one_home (x ∷ y ∷ ys) a n = absurd (omega arith)

  abbrev carried_value : List (ℕ × Option T) → Option T
  carried_value [] = None
  carried_value (p ∷ ps) = p.1

  same_carried : (x y : T) (c : List (ℕ × Option T)) → c ≡ (0, Some x) ∷ [] → c ≡ (0, Some y) ∷ [] → x ≡ y
  same_carried x y c is is' = let e : Some x ≡ Some y = ap carried_value (sym is ∙ is') in cc

  advances : (id t k : ℕ) (x : T) (v : TokenView E F) → v.stage ≡ Turn t → IsOneAccount k v.accounts → Grows k (seen_in v.accounts) (entries x) → Some (frame_of x) ≡ v.frame
      → Allows Rule 1 id (v, (0, Some x) ∷ []) 1 (λ n. (n + 1) % 2 ^ 64) (Advances entries (step 1 1 1 0 none) (v, (0, Some x) ∷ []))
  unfolding served
  advances id t k x v turn one grows frame s r deep at small =
      let q : Queue = r.queue in
      let w : TokenView E F = turn_passed (entries x) v in
      let f : ViewFits seats told r.history q r.owner id v = r.each id v at in
      let mine = turn_at q (seen_in v.accounts ≡ r.history) id t v.stage turn f.stage in
      let one_ticket : tickets_at v.stage ≡ 1 = ap tickets_at turn in
      let one_account : length v.accounts ≡ 1 = ap (λ (l : List (Account E)). length l) one in
      let renew : renewed (entries x) v.accounts ≡ account k (entries_of k (entries x)) (entries x) ∷ [] = renewed-one (entries x) k v.accounts one in
      let still_one : length (renewed (entries x) v.accounts) ≡ 1 = ap (λ (l : List (Account E)). length l) renew in
      let framed : v.frame ≡ Some told = f.frame (omega arith) in
      let is_told : frame_of x ≡ told = (let e : Some (frame_of x) ≡ Some told = frame ∙ framed in cc) in
      let had = subst (AccountsFit seats r.owner r.history id) one f.accounts in
      let here : q.holder q.serving ≡ id = ap q.holder mine.0 ∙ mine.2 in
      let grown : Grows k r.history (entries x) = subst (λ (h : List (ℕ × E)). Grows k h (entries x)) mine.3 grows in
      let waiting : q.next ≡ (q.serving + 1) + total tickets (set s.views id w) = (let e = r.waiting in let u = total_set tickets s.views id v w at in omega arith) in
      let shares : total accounts_of (set s.views id w) ≡ seats = (let e = r.shares in let u = total_set accounts_of s.views id v w at in omega arith) in (
        w,
        gives,
        tt,
        record {
          history = entries x;
          queue = served q;
          owner = r.owner;
          few = r.few;
          numbers = grown_numbers seats k r.history (entries x) had.0.number grown r.numbers;
          words = words_served s.words (q.next % 2 ^ 64) q.serving r.words;
          waiting = waiting;
          shares = shares;
          each = each_set (ViewFits seats told (entries x) (served q) r.owner) s.views id w
              record {
                stage = tt;
                accounts = subst (AccountsFit seats r.owner (entries x) id) (sym renew)
                    (record { number = had.0.number; owned = had.0.owned; own = refl; seen = starts_whole (entries x) (entries x) refl }, tt);
                frame = λ h. framed;
                live = omega arith;
              }
              (λ j u other there. let g : ViewFits seats told r.history q r.owner j u = r.each j u there in
              record {
                stage = stage_served q (seen_in u.accounts ≡ r.history) (seen_in u.accounts ≡ entries x) id j u.stage here other g.stage;
                accounts = fits_grown seats r.owner k id j r.history (entries x) u.accounts had.0.owned other grown g.accounts;
                frame = g.frame;
                live = g.live;
              });
          slot = inl (x, one_home s.homes (some (Some x)) deep, refl, is_told);
        },
        λ y is. ap (λ (z : T). (turn_passed (entries z) v, [])) (same_carried x y ((0, Some x) ∷ []) refl is),
      )

  -- the same, said of a view and its slots together
  pub draws_at : (slots id : ℕ) (m : Here T E F) → m.0.stage ≡ Idle → m.1 ≡ [] → 0 < length m.0.accounts → Allows Rule slots id m 0 (λ n. (n + 1) % 2 ^ 64) (Draws (step slots 0 1 0 none) m)
  draws_at slots id m idle empty some_account =
      subst (λ (c : List (ℕ × Option T)). Allows Rule slots id (m.0, c) 0 (λ n. (n + 1) % 2 ^ 64) (Draws (step slots 0 1 0 none) (m.0, c))) (sym empty) (draws slots id m.0 idle some_account)

  pub reads_at : (slots id t : ℕ) (m : Here T E F) → m.0.stage ≡ Waiting t → m.1 ≡ [] → Allows Rule slots id m 1 (λ n. n) (ReadsTurn entries frame_of (step slots 1 0 0 none) m)
  reads_at slots id t m waits empty =
      subst (λ (c : List (ℕ × Option T)). Allows Rule slots id (m.0, c) 1 (λ n. n) (ReadsTurn entries frame_of (step slots 1 0 0 none) (m.0, c))) (sym empty) (reads slots id t m.0 waits)

  pub advances_at : (slots id t k : ℕ) (x : T) (m : Here T E F) → slots ≡ 1 → m.0.stage ≡ Turn t → IsOneAccount k m.0.accounts → Grows k (seen_in m.0.accounts) (entries x)
      → Some (frame_of x) ≡ m.0.frame → m.1 ≡ (0, Some x) ∷ [] → Allows Rule slots id m 1 (λ n. (n + 1) % 2 ^ 64) (Advances entries (step slots 1 1 0 none) m)
  advances_at slots id t k x m one_slot turn one grows frame full =
      subst (λ (c : ℕ × List (ℕ × Option T)). Allows Rule c.0 id (m.0, c.1) 1 (λ n. (n + 1) % 2 ^ 64) (Advances entries (step c.0 1 1 0 none) (m.0, c.1))) (λ i. (sym one_slot i, sym full i))
      (advances id t k x m.0 turn one grows frame)

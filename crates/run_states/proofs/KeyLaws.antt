-- Runs of one key leave the same, and what leaves the same has one key.
use Rattle.std.proofs.Common.{◌≡◌, ◌≤◌, ◌<◌, ◌+◌, ◌∙◌, ℕ, zero, suc, List, [], Option, Some, None, inl, inr, length, map, slice_get, refl, ap, sym, subst, arith}
use Rattle.std.proofs.Math.Path.{fun_ext}
use Rattle.std.proofs.lemmas.Bool.{cases_lt, cases_order}
use Rattle.run_model.specs.declared.event.Event.{Event}
use Rattle.run_model.specs.Lists.{world}
use Rattle.run_model.specs.Numbers.{Origin, communicators_of}
use Rattle.run_model.specs.Pairs.{IsAllMatched, Name, named, pairs_of, partner_of}
use Rattle.run_model.specs.Views.{Next, View, starts_of, view_of}
use Rattle.run_model.proofs.Origins.{AllBelow}
use Rattle.run_model.proofs.StartLemmas.{slice_get-below}
use Rattle.run_model.proofs.Prompt.{prompt_is_run}
use Rattle.run_model.proofs.Views.{option_cases}
use Rattle.srr_entry.specs.declared.entry.Entry.{Entry}
use Rattle.srr_entry.specs.declared.log.Log.{Log}
use Rattle.srr_entry.specs.Entries.{entries_from, log_of}
use Rattle.replay_model.specs.Laws.{IsRunWith}
use Rattle.run_states.specs.Keys.{FuturesFixKeys, Key, KeysFixFutures, partners_in}
use Rattle.run_states.proofs.RunFacts.{all_below, run_matched}
use Rattle.run_states.proofs.SameEntries.{views_same}

-- what two lists say of each number below a count
map_at : {A : Type 0} (f g : ℕ → A) (count from k : ℕ) → map f (world count from) ≡ map g (world count from) → from ≤ k → k < from + count → f k ≡ g k
map_at f g zero from k e low high = absurd (omega arith)
map_at f g (suc count) from k e low high =
    let first : f from ≡ g from = cc in
    let later : map f (world count (from + 1)) ≡ map g (world count (from + 1)) = cc in
    elim (cases_order from k) [
      | inl same ↦ (let F : ℕ → Type 0 = λ x. f x ≡ g x in subst F same first)
      | inr apart ↦ elim apart [
        | inl less ↦ map_at f g count (from + 1) k later (omega arith) (omega arith)
        | inr more ↦ absurd (omega arith)
      ]
    ]

-- what is no start has no partner
no_partner : (events : List Event) (name : Name) → IsAllMatched events → named events name ≡ None → partner_of (pairs_of events) name ≡ None
no_partner events name matched none =
    elim (option_cases (partner_of (pairs_of events) name)) [
      | inl some ↦ elim (matched.matched.pairs_accept name some.0 some.1) [
        | inl takes ↦ (let no : None ≡ Some takes.post_call = sym none ∙ takes.post_is in absurd (cc))
        | inr takes ↦ (let no : None ≡ Some takes.send_call = sym none ∙ takes.send_is in absurd (cc))
      ]
      | inr free ↦ free
    ]

none_past : (events : List Event) (rank k : ℕ) → length (starts_of (view_of events rank)) ≤ k → named events (rank, k) ≡ None
none_past events rank k above =
    elim (option_cases (slice_get (starts_of (view_of events rank)) k)) [
      | inl some ↦
          let below : k < length (starts_of (view_of events rank)) = slice_get-below (starts_of (view_of events rank)) k some.0 some.1 in
          absurd (omega arith)
      | inr none ↦ none
    ]

partners_same : (n : ℕ) (one other : List Event) → AllBelow n one → IsAllMatched one → IsAllMatched other → ((rank : ℕ) → view_of one rank ≡ view_of other rank)
    → map (partners_in one) (world n 0) ≡ map (partners_in other) (world n 0) → (rank k : ℕ)
    → partner_of (pairs_of one) (rank, k) ≡ partner_of (pairs_of other) (rank, k)
partners_same n one other low first second views e rank k =
    let count : View → ℕ = λ v. length (starts_of v) in
    let many : count (view_of one rank) ≡ count (view_of other rank) = ap count (views rank) in
    elim (cases_lt k (count (view_of one rank))) [
      | inl there ↦
          let below : rank < n = elim (cases_lt rank n) [
            | inl b ↦ b
            | inr above ↦ (let empty : count (view_of one rank) ≡ 0 = ap count (low.empty rank above) in absurd (omega (arith, empty, there)))
          ] in
          let f : ℕ → Option Name = λ x. partner_of (pairs_of one) (rank, x) in
          let g : ℕ → Option Name = λ x. partner_of (pairs_of other) (rank, x) in
          let lists : map f (world (count (view_of one rank)) 0) ≡ map g (world (count (view_of other rank)) 0) = map_at (partners_in one) (partners_in other) n 0 rank e (omega arith) (omega arith) in
          let same : map f (world (count (view_of one rank)) 0) ≡ map g (world (count (view_of one rank)) 0) = lists ∙ ap (λ c. map g (world c 0)) (sym many) in
          map_at f g (count (view_of one rank)) 0 k same (omega arith) (omega (arith, there))
      | inr past ↦
          let also : count (view_of other rank) ≤ k = (let F : ℕ → Type 0 = λ c. c ≤ k in subst F many past) in
          no_partner one (rank, k) first (none_past one rank k past) ∙ sym (no_partner other (rank, k) second (none_past other rank k also))
    ]

pub keys_fix_futures : (next : Next) (n : ℕ) → KeysFixFutures next n
keys_fix_futures next n one other first second key =
    let entries : (log_of [] n one (world n 0)).lists ≡ (log_of [] n other (world n 0)).lists = ap (λ (k : Key). k.entries) key in
    let log : Log = log_of [] n one (world n 0) in
    let made : List (List Entry) → Log = λ lists. record { ranks = n; group = world n 0; program = []; lists = lists } in
    let mine : IsRunWith next log one = record { is_run = prompt_is_run next n one first; same_log = refl } in
    let theirs : IsRunWith next log other = record { is_run = prompt_is_run next n other second; same_log = ap made entries } in
    let low : AllBelow n one = all_below next n one first in
    let views : (rank : ℕ) → view_of one rank ≡ view_of other rank = views_same next log one other mine theirs refl low (all_below next n other second) in
    record {
      views = views;
      pairs = λ name. partners_same n one other low (run_matched next n one first) (run_matched next n other second) views (ap (λ (k : Key). k.partners) key) name.0 name.1;
      made = ap (λ (k : Key). k.made) key;
    }

-- and what leaves the same has one key
pub futures_fix_keys : (n : ℕ) → FuturesFixKeys n
futures_fix_keys n one other same =
    let K : (ℕ → View) → (Name → Option Name) → List Origin → Key = λ v p made. record {
      entries = map (λ rank. entries_from n (world n 0) rank [] (v rank)) (world n 0);
      partners = map (λ rank. map (λ k. p (rank, k)) (world (length (starts_of (v rank))) 0)) (world n 0);
      made = made;
    } in
    let views : view_of one ≡ view_of other = fun_ext same.views in
    let pairs : partner_of (pairs_of one) ≡ partner_of (pairs_of other) = fun_ext same.pairs in
    ap (λ (v : ℕ → View). K v (partner_of (pairs_of one)) (communicators_of n one)) views
    ∙ (ap (λ (p : Name → Option Name). K (view_of other) p (communicators_of n one)) pairs ∙ ap (K (view_of other) (partner_of (pairs_of other))) same.made)

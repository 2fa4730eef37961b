-- The message that the machine finds for a probe is one that it may find, and it finds one where there is one.
use Rattle.std.proofs.Common.{◌≡◌, ◌≤◌, ◌<◌, ◌&&◌, ◌∙◌, ◌∷◌, ◌+◌, Bool, List, None, Some, [], ap, arith, false, inl, inr, is_some, not, refl, slice_get, subst, suc, sym, true, zero, ℕ}
use Rattle.std.proofs.lemmas.Bool.{and_parts, cases_lt, cases_order, or_cases, or_parts}
use Rattle.std.specs.List.{list_any}
use Rattle.mpi_call.specs.declared.call.Call.{Call}
use Rattle.mpi_call.specs.declared.call.Call.TheVariants.{Peek, Send}
use Rattle.mpi_call.specs.declared.call.Source.{Source}
use Rattle.mpi_call.specs.declared.call.Tag.{Tag}
use Rattle.mpi_call.specs.Acceptance.{accepts}
use Rattle.run_model.specs.declared.event.Event.{Event}
use Rattle.run_model.specs.Allowed.{IsPeeked, has_open, open_in, probe_of}
use Rattle.run_model.specs.Choice.{choice}
use Rattle.run_model.specs.Chosen.{peeked_at, peeked_in}
use Rattle.run_model.specs.Lists.{world}
use Rattle.run_model.specs.Pairs.{Name, name_at, named, pairs_of, partner_of}
use Rattle.run_model.specs.Views.{starts_of, view_of}
use Rattle.run_model.proofs.Choosing.{choice_none, choice_some}
use Rattle.run_model.proofs.ChosenGots.{accepted_send}
use Rattle.run_model.proofs.Origins.{AllBelow}
use Rattle.run_model.proofs.Positions.{name_at-lower, name_position}
use Rattle.run_model.proofs.Views.{option_cases, test_cases}

pub peek_found : (before : List Event) (me comm : ℕ) (source : Source) (tag : Tag) (wait : Bool) (at : ℕ)
    → choice before me (Peek comm source tag wait) ≡ Some at → IsPeeked before (probe_of me comm source tag) (peeked_at before (name_at before at))
peek_found before me comm source tag wait at h =
    let c = choice_some before me (Peek comm source tag wait) at h in
    let o = c.chosen in
    let s = accepted_send me comm source tag o.name.0 o.start o.suited in
    let sent : named before o.name ≡ Some (Send s.comm s.dest s.tag s.ints s.sync) = o.made ∙ ap (λ (c : Call). Some c) s.is in
    let F : Call → Type 0 = λ c. accepts me comm source tag o.name.0 c ≡ true in
    record {
      send = o.name;
      c = s.comm;
      dest = s.dest;
      t = s.tag;
      ints = s.ints;
      sync = s.sync;
      sent = sent;
      accepted = subst F s.is o.suited;
      unpaired = o.free;
      first = λ start call less there accepted. elim (option_cases (partner_of (pairs_of before) (o.name.0, start))) [
        | inl some ↦ rw some.1
        | inr none ↦
            let p = name_position before (o.name.0, start) call there in
            let low : at ≤ p.0 = c.first p.0 (record { name = (o.name.0, start); start = call; there = p.1; made = there; free = none; suited = accepted }) in
            let below : p.0 < at = name_at-lower before p.0 at (o.name.0, start) o.name p.1 o.there refl less in
            absurd (omega arith)
      ];
      reply_is = ap (peeked_at before) o.there ∙ ap (peeked_in o.name) sent;
    }

-- a message that is open to a probe
record IsOpenIn (pairs : List (Name × Name)) (me comm : ℕ) (source : Source) (tag : Tag) (sender start : ℕ) (calls : List Call) : Type 0 where
  k : ℕ
  call : Call
  there : slice_get calls k ≡ Some call
  accepted : accepts me comm source tag sender call ≡ true
  free : partner_of pairs (sender, start + k) ≡ None

unpaired_is : (pairs : List (Name × Name)) (name : Name) → not (is_some (partner_of pairs name)) ≡ true → partner_of pairs name ≡ None
unpaired_is pairs name h =
    elim (option_cases (partner_of pairs name)) [
      | inl some ↦ (let no : false ≡ true = rw some.1 at h in absurd (cc))
      | inr none ↦ none
    ]

open_found : (pairs : List (Name × Name)) (me comm : ℕ) (source : Source) (tag : Tag) (sender start : ℕ) (calls : List Call)
    → open_in pairs (probe_of me comm source tag) sender start calls ≡ true → IsOpenIn pairs me comm source tag sender start calls
open_found pairs me comm source tag sender start [] h = absurd (cc)
open_found pairs me comm source tag sender start (call ∷ calls) h =
    let here : Bool = accepts me comm source tag sender call && not (is_some (partner_of pairs (sender, start))) in
    elim (or_cases here (open_in pairs (probe_of me comm source tag) sender (start + 1) calls) h) [
      | inl t ↦
          let parts = and_parts (accepts me comm source tag sender call) (not (is_some (partner_of pairs (sender, start)))) t in
          let F : ℕ → Type 0 = λ x. partner_of pairs (sender, x) ≡ None in
          let e : start ≡ start + 0 = omega arith in
          record { k = 0; call = call; there = refl; accepted = parts.0; free = subst F e (unpaired_is pairs (sender, start) parts.1) }
      | inr t ↦
          let later = open_found pairs me comm source tag sender (start + 1) calls t in
          let F : ℕ → Type 0 = λ x. partner_of pairs (sender, x) ≡ None in
          let e : start + 1 + later.k ≡ start + suc later.k = omega arith in
          record { k = suc later.k; call = later.call; there = later.there; accepted = later.accepted; free = subst F e later.free }
    ]

missed_at : (pairs : List (Name × Name)) (me comm : ℕ) (source : Source) (tag : Tag) (sender start : ℕ) (calls : List Call) (k : ℕ) (call : Call)
    → open_in pairs (probe_of me comm source tag) sender start calls ≡ false → slice_get calls k ≡ Some call → accepts me comm source tag sender call ≡ true
    → partner_of pairs (sender, start + k) ≡ None → ⊥
missed_at pairs me comm source tag sender start [] k call h there accepted free = cc
missed_at pairs me comm source tag sender start (x ∷ calls) zero call h there accepted free =
    let parts = or_parts (accepts me comm source tag sender x && not (is_some (partner_of pairs (sender, start)))) (open_in pairs (probe_of me comm source tag) sender (start + 1) calls) h in
    let same : x ≡ call = cc in
    let F : ℕ → Type 0 = λ x. partner_of pairs (sender, x) ≡ None in
    let e : start + 0 ≡ start = omega arith in
    let none : partner_of pairs (sender, start) ≡ None = subst F e free in
    let G : Call → Type 0 = λ c. accepts me comm source tag sender c ≡ true in
    let here : accepts me comm source tag sender x ≡ true = subst G (sym same) accepted in
    let no : true ≡ false = rw (here, none) at parts.0 in
    cc
missed_at pairs me comm source tag sender start (x ∷ calls) (suc k) call h there accepted free =
    let parts = or_parts (accepts me comm source tag sender x && not (is_some (partner_of pairs (sender, start)))) (open_in pairs (probe_of me comm source tag) sender (start + 1) calls) h in
    let F : ℕ → Type 0 = λ x. partner_of pairs (sender, x) ≡ None in
    let e : start + suc k ≡ start + 1 + k = omega arith in
    missed_at pairs me comm source tag sender (start + 1) calls k call parts.1 there accepted (subst F e free)

open_missed : (pairs : List (Name × Name)) (me comm : ℕ) (source : Source) (tag : Tag) (sender start : ℕ) (calls : List Call)
    → open_in pairs (probe_of me comm source tag) sender start calls ≡ false → IsOpenIn pairs me comm source tag sender start calls → ⊥
open_missed pairs me comm source tag sender start calls h o = missed_at pairs me comm source tag sender start calls o.k o.call h o.there o.accepted o.free

any_of_world : (f : ℕ → Bool) (n low : ℕ) → list_any f (world n low) ≡ true → (m : ℕ) × (f m ≡ true)
any_of_world f zero low h = absurd (cc)
any_of_world f (suc n) low h =
    elim (or_cases (f low) (list_any f (world n (low + 1))) h) [ inl t ↦ (low, t) | inr t ↦ any_of_world f n (low + 1) t ]

none_of_world : (f : ℕ → Bool) (n low m : ℕ) → list_any f (world n low) ≡ false → low ≤ m → m < low + n → f m ≡ false
none_of_world f zero low m h above below = absurd (omega arith)
none_of_world f (suc n) low m h above below =
    let parts = or_parts (f low) (list_any f (world n (low + 1))) h in
    elim (cases_order low m) [
      | inl e ↦ (let F : ℕ → Type 0 = λ x. f x ≡ false in subst F e parts.0)
      | inr rest ↦ none_of_world f n (low + 1) m parts.1 (elim rest [ inl less ↦ omega arith | inr more ↦ absurd (omega arith) ]) (omega arith)
    ]

pub peek_missed : (n : ℕ) (before : List Event) (me comm : ℕ) (source : Source) (tag : Tag) (wait : Bool)
    → choice before me (Peek comm source tag wait) ≡ None → has_open n before me comm source tag ≡ false
peek_missed n before me comm source tag wait none =
    elim (test_cases (has_open n before me comm source tag)) [
      | inl t ↦
          let any = any_of_world (λ sender. open_in (pairs_of before) (probe_of me comm source tag) sender 0 (starts_of (view_of before sender))) n 0 t in
          let o = open_found (pairs_of before) me comm source tag any.0 0 (starts_of (view_of before any.0)) any.1 in
          let p = name_position before (any.0, o.k) o.call o.there in
          let F : ℕ → Type 0 = λ x. partner_of (pairs_of before) (any.0, x) ≡ None in
          let e : 0 + o.k ≡ o.k = omega arith in
          absurd (choice_none before me (Peek comm source tag wait) none p.0 (record { name = (any.0, o.k); start = o.call; there = p.1; made = o.there; free = subst F e o.free; suited = o.accepted }))
      | inr t ↦ t
    ]

pub peek_there : (n : ℕ) (before : List Event) (me comm : ℕ) (source : Source) (tag : Tag) (wait : Bool) (at : ℕ) → AllBelow n before
    → choice before me (Peek comm source tag wait) ≡ Some at → has_open n before me comm source tag ≡ true
peek_there n before me comm source tag wait at all h =
    elim (test_cases (has_open n before me comm source tag)) [
      | inl t ↦ t
      | inr t ↦
          let o = (choice_some before me (Peek comm source tag wait) at h).chosen in
          let F : ℕ → Type 0 = λ x. partner_of (pairs_of before) (o.name.0, x) ≡ None in
          let e : o.name.1 ≡ 0 + o.name.1 = omega arith in
          let open_at : IsOpenIn (pairs_of before) me comm source tag o.name.0 0 (starts_of (view_of before o.name.0)) =
          record { k = o.name.1; call = o.start; there = o.made; accepted = o.suited; free = subst F e o.free } in
          elim (cases_lt o.name.0 n) [
            | inl below ↦
                let closed = none_of_world (λ sender. open_in (pairs_of before) (probe_of me comm source tag) sender 0 (starts_of (view_of before sender))) n 0 o.name.0 t (omega arith) (omega arith) in
                absurd (open_missed (pairs_of before) me comm source tag o.name.0 0 (starts_of (view_of before o.name.0)) closed open_at)
            | inr above ↦ (let no : None ≡ Some o.start = rw (all.empty o.name.0 above) at o.made in absurd (cc))
          ]
    ]

-- A quiet call moves to the front of what goes on without a halt; where it does not come there, it is put in.
use Rattle.std.proofs.Common.{◌≡◌, ◌∙◌, ◌++◌, ◌==◌, ◌+◌, ◌||◌, ◌∷◌, ◌⊎◌, ℕ, suc, List, [], None, Bool, true, false, append-nil, append_assoc, inl, inr, length, refl, ap, sym, subst}
use Rattle.std.proofs.lemmas.Bool.{eqb-true}
use Rattle.std.proofs.lemmas.List.{length-map}
use Rattle.std.specs.List.{list_any}
use Rattle.mpi_call.specs.declared.call.Call.{Call}
use Rattle.mpi_call.specs.declared.reply.Reply.{Reply}
use Rattle.mpi_call.specs.Calls.{ints_of, listed_by}
use Rattle.run_model.specs.declared.event.Event.{Event}
use Rattle.run_model.specs.Chosen.{order_of}
use Rattle.run_model.specs.Due.{halted, is_mismatched, size_of, size_of_reply}
use Rattle.run_model.specs.Lists.{Along}
use Rattle.run_model.specs.Run.{IsPromptEvent}
use Rattle.run_model.specs.Views.{Next, View, view_of}
use Rattle.run_model.proofs.Along.{Along-back, Along-front}
use Rattle.run_model.proofs.Prompt.{IsPromptRun-front}
use Rattle.run_model.proofs.RunLaws.{Lawful}
use Rattle.run_model.proofs.Views.{test_cases, view_of-other}
use Rattle.picked_runs.specs.Numbering.{IsNumberedInOrder}
use Rattle.srr_entry.specs.Outputs.{Output}
use Rattle.run_states.specs.Futures.{SameFuture}
use Rattle.run_states.specs.Outcomes.{IsProbeKept}
use Rattle.run_states.specs.StateLaws.{FuturesAreSame, HasLike}
use Rattle.quiet_calls.specs.Quiet.{IsAgreed, Races, is_calm}
use Rattle.quiet_calls.proofs.Room.{HasRoom, not_full, room_front, room_like, room_swapped}
use Rattle.quiet_calls.proofs.Runs.{IsGood}
use Rattle.quiet_calls.proofs.Commuting.{halted_front}
use Rattle.quiet_calls.proofs.Crossing.{with_mate}
use Rattle.quiet_calls.proofs.Diamond.{IsBesideFirst, IsDiamond, IsFirst, diamond, first_good, own_first}

-- 1. lists

pub good_front : (next : Next) (n : ℕ) (xs ys : List Event) → IsGood next n (xs ++ ys) → IsGood next n xs
good_front next n xs ys good =
    record { run = IsPromptRun-front next n xs ys good.run; numbered = Along-front (IsNumberedInOrder n) [] xs ys good.numbered }

pub same_as : (n : ℕ) (a b c d : List Event) → a ≡ c → b ≡ d → SameFuture n a b → SameFuture n c d
same_as n a b c d p q same =
    let F : List Event → Type 0 = λ l. SameFuture n l b in
    let G : List Event → Type 0 = λ l. SameFuture n c l in
    subst G q (subst F p same)

pub same_on : (n : ℕ) (one two three : List Event) → SameFuture n one two → SameFuture n two three → SameFuture n one three
same_on n one two three p q =
    record { views = λ rank. p.views rank ∙ q.views rank; pairs = λ name. p.pairs name ∙ q.pairs name; made = p.made ∙ q.made }

pub same_itself : (n : ℕ) (events : List Event) → SameFuture n events events
same_itself n events = record { views = λ rank. refl; pairs = λ name. refl; made = refl }

pub as_long : (xs ys : List Event) → order_of xs ≡ order_of ys → length xs ≡ length ys
as_long xs ys h =
    let rank : Event → ℕ = λ (event : Event). event.rank in
    sym (length-map xs rank) ∙ (ap length h ∙ length-map ys rank)

two_more : (xs ys : List Event) (a b : Event) → ((xs ++ a ∷ []) ++ b ∷ []) ++ ys ≡ xs ++ a ∷ b ∷ ys
two_more xs ys a b = append_assoc (xs ++ a ∷ []) (b ∷ []) ys ∙ append_assoc xs (a ∷ []) (b ∷ ys)

-- whether a rank has an event among these
abbrev pub has_event : ℕ → List Event → Bool
has_event rank events = list_any (λ (event : Event). event.rank == rank) events

-- 2. what is left

-- the call was made in what goes on: it is as if it had been made first
pub record IsMoved (n : ℕ) (root front rest : List Event) (q : Event) : Type 0 where
  pub future : SameFuture n (root ++ front) (root ++ q ∷ rest)
  pub count : suc (length rest) ≡ length front

-- it was not, and can be made behind it: it is as if it had been made first, and the rest behind it
pub record IsPutIn (next : Next) (n : ℕ) (races : Races) (root front rest : List Event) (me : ℕ) (call : Call) (q : Event) : Type 0 where
  pub last : Event
  pub there : IsFirst next n races (root ++ front) me call last
  pub reply : last.reply ≡ q.reply
  pub future : SameFuture n ((root ++ front) ++ last ∷ []) (root ++ q ∷ rest)
  pub count : length rest ≡ length front
  pub none : has_event me front ≡ false

pub record GoesBehind (next : Next) (n : ℕ) (races : Races) (root front : List Event) (me : ℕ) (call : Call) (q : Event) : Type 0 where
  pub rest : List Event
  pub good : IsGood next n (root ++ q ∷ rest)
  pub probes : Along IsProbeKept root front → Along IsProbeKept root (q ∷ rest)
  pub left : IsMoved n root front rest q ⊎ IsPutIn next n races root front rest me call q

-- 3. along the events

-- what is needed to go on, with what comes behind a first halt
pub record IsAt (next : Next) (n : ℕ) (races : Races) (root front tail : List Event) (me : ℕ) (call : Call) (q : Event) : Type 0 where
  pub good : IsGood next n (root ++ front)
  pub first : IsFirst next n races root me call q
  pub calm : is_calm races (root ++ (front ++ tail)) ≡ true
  pub free : halted (root ++ front) ≡ None
  pub room : HasRoom (root ++ q ∷ front)
  pub agreed : IsAgreed n (root ++ (front ++ tail)) (view_of root me) call

at_end : (next : Next) (n : ℕ) → Lawful next → (races : Races) (root tail : List Event) (me : ℕ) (call : Call) (q : Event) → IsAt next n races root [] tail me call q
    → GoesBehind next n races root [] me call q
at_end next n lawful races root tail me call q at =
    let end : root ≡ root ++ [] = sym (append-nil root) in
    let G : List Event → Type 0 = λ l. IsGood next n l in
    let good : IsGood next n root = subst G (sym end) at.good in
    let A : List Event → Type 0 = λ l. IsFirst next n races l me call q in
    record {
      rest = [];
      good = first_good next n lawful races root tail me call q good at.first at.calm (halted_front root [] at.free);
      probes = λ kept. (at.first.probe, tt);
      left = inr (record {
        last = q;
        there = subst A end at.first;
        reply = refl;
        future = same_as n (root ++ q ∷ []) (root ++ q ∷ []) ((root ++ []) ++ q ∷ []) (root ++ q ∷ []) (ap (λ l. l ++ q ∷ []) end) refl (same_itself n (root ++ q ∷ []));
        count = refl;
        none = refl;
      });
    }

-- the rank's own event comes next
at_own : (next : Next) (n : ℕ) → Lawful next → (races : Races) (root front tail : List Event) (x : Event) (me : ℕ) (call : Call) (q : Event) → IsAt next n races root (x ∷ front) tail me call q
    → x.rank ≡ me → GoesBehind next n races root (x ∷ front) me call q
at_own next n lawful races root front tail x me call q at own =
    let good : IsGood next n root = good_front next n root (x ∷ front) at.good in
    let steps = Along-back (IsPromptEvent next n) [] root (x ∷ front) at.good.run.along in
    let ordered = Along-back (IsNumberedInOrder n) [] root (x ∷ front) at.good.numbered in
    let same : x ≡ q = own_first next n lawful races root me call q x good at.first steps.0 ordered.0 own in
    let G : Event → Type 0 = λ e. IsGood next n (root ++ e ∷ front) in
    let P : Event → Type 0 = λ e. Along IsProbeKept root (e ∷ front) in
    record {
      rest = front;
      good = subst G same at.good;
      probes = λ kept. subst P same kept;
      left = inl (record {
        future = same_as n (root ++ x ∷ front) (root ++ x ∷ front) (root ++ x ∷ front) (root ++ q ∷ front) refl (ap (λ e. root ++ e ∷ front) same) (same_itself n (root ++ x ∷ front));
        count = refl;
      });
    }

-- another rank's event comes next
beside_at : (next : Next) (n : ℕ) (races : Races) (root front tail : List Event) (x : Event) (me : ℕ) (call : Call) (q : Event) → IsAt next n races root (x ∷ front) tail me call q
    → (x.rank == me) ≡ false → IsBesideFirst next n races root me call q x (front ++ tail)
beside_at next n races root front tail x me call q at apart =
    let R : List Event → Type 0 = λ l. HasRoom l in
    let room : HasRoom (root ++ q ∷ []) = room_front (root ++ q ∷ []) (x ∷ front) (subst R (sym (append_assoc root (q ∷ []) (x ∷ front))) at.room) in
    record {
      good = good_front next n root (x ∷ front) at.good;
      first = at.first;
      step = (Along-back (IsPromptEvent next n) [] root (x ∷ front) at.good.run.along).0;
      ordered = (Along-back (IsNumberedInOrder n) [] root (x ∷ front) at.good.numbered).0;
      apart = apart;
      calm = at.calm;
      halts = halted_front root (x ∷ front) at.free;
      full = not_full (root ++ q ∷ []) room;
      agreed = at.agreed;
    }

as_room : (root front : List Event) (q later : Event) → size_of later ≡ size_of q → HasRoom (root ++ q ∷ front) → HasRoom (root ++ later ∷ front)
as_room root front q later same room = room_like root front q later (sym same) room

at_diamond : (next : Next) (n : ℕ) → Lawful next → (races : Races) (root front tail : List Event) (x : Event) (me : ℕ) (call : Call) (q : Event) → IsAt next n races root (x ∷ front) tail me call q
    → (x.rank == me) ≡ false → IsDiamond next n races root me call q x
at_diamond next n lawful races root front tail x me call q at apart =
    let whole : (root ++ x ∷ []) ++ front ≡ root ++ x ∷ front = append_assoc root (x ∷ []) front in
    let H : List Event → Type 0 = λ l. halted l ≡ None in
    let free : halted ((root ++ x ∷ []) ++ front) ≡ None = subst H (sym whole) at.free in
    let room : HasRoom ((root ++ x ∷ []) ++ q ∷ front) = room_swapped root front q x at.room in
    diamond next n lawful races root me call q x (front ++ tail) (beside_at next n races root front tail x me call q at apart) (halted_front (root ++ x ∷ []) front free)
    (not_full (root ++ x ∷ []) (room_front (root ++ x ∷ []) (q ∷ front) room))

pub later_size : (next : Next) (n : ℕ) (races : Races) (before after : List Event) (me : ℕ) (call : Call) (q later : Event) → IsFirst next n races before me call q
    → IsFirst next n races after me call later → later.reply ≡ q.reply → size_of later ≡ size_of q
later_size next n races before after me call q later f g same =
    let S : Call → Reply → ℕ = λ c r. length (ints_of c) + (length (listed_by c) + size_of_reply r) in
    ap (λ c. S c later.reply) (ap (λ (e : Event). e.call) (sym g.event) ∙ ap (λ (e : Event). e.call) f.event) ∙ ap (S q.call) same

later : (next : Next) (n : ℕ) (races : Races) (root front tail : List Event) (x : Event) (me : ℕ) (call : Call) (q : Event) → IsAt next n races root (x ∷ front) tail me call q
    → (x.rank == me) ≡ false → (d : IsDiamond next n races root me call q x) → IsAt next n races (root ++ x ∷ []) front tail me call d.later
later next n races root front tail x me call q at apart d =
    let whole : (root ++ x ∷ []) ++ front ≡ root ++ x ∷ front = append_assoc root (x ∷ []) front in
    let all : (root ++ x ∷ []) ++ (front ++ tail) ≡ root ++ x ∷ (front ++ tail) = append_assoc root (x ∷ []) (front ++ tail) in
    let G : List Event → Type 0 = λ l. IsGood next n l in
    let H : List Event → Type 0 = λ l. halted l ≡ None in
    let C : List Event → Type 0 = λ l. is_calm races l ≡ true in
    record {
      good = subst G (sym whole) at.good;
      first = d.there;
      calm = subst C (sym all) at.calm;
      free = subst H (sym whole) at.free;
      room = as_room (root ++ x ∷ []) front q d.later (later_size next n races root (root ++ x ∷ []) me call q d.later at.first d.there d.reply) (room_swapped root front q x at.room);
      agreed = λ enters.
          let A : List Event → Type 0 = λ l. is_mismatched n l (view_of root me) call ≡ false in
          let V : View → Type 0 = λ v. is_mismatched n ((root ++ x ∷ []) ++ (front ++ tail)) v call ≡ false in
          subst V (sym (view_of-other root x me apart)) (subst A (sym all) (at.agreed enters));
    }

at_other : (next : Next) (output : Output) (n : ℕ) → Lawful next → FuturesAreSame next output n → (races : Races) (root front tail : List Event) (x : Event) (me : ℕ) (call : Call) (q : Event)
    → IsAt next n races root (x ∷ front) tail me call q → (x.rank == me) ≡ false → (d : IsDiamond next n races root me call q x)
    → GoesBehind next n races (root ++ x ∷ []) front me call d.later → GoesBehind next n races root (x ∷ front) me call q
at_other next output n lawful futures races root front tail x me call q at apart d g =
    let one : List Event = (root ++ x ∷ []) ++ d.later ∷ [] in
    let like_x : Event = with_mate x d.mate in
    let other : List Event = (root ++ q ∷ []) ++ like_x ∷ [] in
    let G : List Event → Type 0 = λ l. IsGood next n l in
    let longer : one ++ g.rest ≡ (root ++ x ∷ []) ++ d.later ∷ g.rest = append_assoc (root ++ x ∷ []) (d.later ∷ []) g.rest in
    let is : IsGood next n (one ++ g.rest) = subst G (sym longer) g.good in
    let like : HasLike next output n one other g.rest = futures one other g.rest is.run is.numbered d.good.run d.good.numbered d.future in
    let rest : List Event = like.rest in
    let whole : other ++ rest ≡ root ++ q ∷ like_x ∷ rest = two_more root rest q like_x in
    let here : (root ++ x ∷ []) ++ front ≡ root ++ x ∷ front = append_assoc root (x ∷ []) front in
    let count : length rest ≡ length g.rest = as_long rest g.rest like.order in
    let after : SameFuture n ((root ++ x ∷ []) ++ d.later ∷ g.rest) (root ++ q ∷ like_x ∷ rest) =
    same_as n (one ++ g.rest) (other ++ rest) ((root ++ x ∷ []) ++ d.later ∷ g.rest) (root ++ q ∷ like_x ∷ rest) longer whole like.future in
    record {
      rest = like_x ∷ rest;
      good = subst G whole (record { run = like.run; numbered = like.numbered });
      probes = λ kept. (at.first.probe, (d.probe kept.0, like.probes (g.probes kept.1).1));
      left = elim g.left [
        | inl moved ↦ inl (record {
          future = same_on n (root ++ x ∷ front) ((root ++ x ∷ []) ++ d.later ∷ g.rest) (root ++ q ∷ like_x ∷ rest)
              (same_as n ((root ++ x ∷ []) ++ front) ((root ++ x ∷ []) ++ d.later ∷ g.rest) (root ++ x ∷ front) ((root ++ x ∷ []) ++ d.later ∷ g.rest) here refl moved.future) after;
          count = ap suc (ap suc count ∙ moved.count);
        })
        | inr put ↦
            let A : List Event → Type 0 = λ l. IsFirst next n races l me call put.last in
            inr (record {
              last = put.last;
              there = subst A here put.there;
              reply = put.reply ∙ d.reply;
              future = same_on n ((root ++ x ∷ front) ++ put.last ∷ []) ((root ++ x ∷ []) ++ d.later ∷ g.rest) (root ++ q ∷ like_x ∷ rest)
                  (same_as n (((root ++ x ∷ []) ++ front) ++ put.last ∷ []) ((root ++ x ∷ []) ++ d.later ∷ g.rest) ((root ++ x ∷ front) ++ put.last ∷ []) ((root ++ x ∷ []) ++ d.later ∷ g.rest)
                  (ap (λ l. l ++ put.last ∷ []) here) refl put.future) after;
              count = ap suc (count ∙ put.count);
              none = ap (λ (b : Bool). b || has_event me front) apart ∙ put.none;
            })
      ];
    }

pub goes_behind : (next : Next) (output : Output) (n : ℕ) → Lawful next → FuturesAreSame next output n → (races : Races) (root front tail : List Event) (me : ℕ) (call : Call) (q : Event)
    → IsAt next n races root front tail me call q → GoesBehind next n races root front me call q
goes_behind next output n lawful futures races root [] tail me call q at = at_end next n lawful races root tail me call q at
goes_behind next output n lawful futures races root (x ∷ front) tail me call q at =
    elim (test_cases (x.rank == me)) [
      | inl t ↦ at_own next n lawful races root front tail x me call q at (eqb-true x.rank me t)
      | inr f ↦
          let d = at_diamond next n lawful races root front tail x me call q at f in
          at_other next output n lawful futures races root front tail x me call q at f d
          (goes_behind next output n lawful futures races (root ++ x ∷ []) front tail me call d.later (later next n races root front tail x me call q at f d))
    ]

-- No two other picks of a run have one name.
use Rattle.std.proofs.Common.{◌≡◌, ◌<◌, ◌≤◌, ◌+◌, ◌⊎◌, ◌∙◌, ◌++◌, ◌∷◌, ℕ, zero, suc, List, [], Option, Some, None, Bool, true, false, inl, inr, length, length-append, map, filter, take, ap, ap₂, refl, subst, sym, append_assoc, arith}
use Rattle.mpi_call.specs.declared.call.Call.{Call}
use Rattle.mpi_call.specs.declared.call.Call.TheVariants.{Post}
use Rattle.mpi_call.specs.declared.call.Source.TheVariants.{Any}
use Rattle.mpi_call.specs.Lists.{IsIn}
use Rattle.run_model.specs.declared.event.Event.{Event}
use Rattle.run_model.specs.Lists.{world}
use Rattle.run_model.specs.Pairs.{Name, name_at}
use Rattle.run_model.specs.Views.{is_start}
use Rattle.run_model.proofs.Positions.{new_name}
use Rattle.run_model.proofs.Views.{test_cases}
use Rattle.match_core.proofs.Positions.{name_at-kept, name_at-new, name_at-one}
use Rattle.picked_runs.specs.declared.turn.Pick.{Pick}
use Rattle.picked_runs.specs.Picked.{ArePicked}
use Rattle.picked_runs.proofs.Numbering.{picked_at}
use Rattle.other_picks.specs.declared.other.OtherPick.{OtherPick}
use Rattle.other_picks.specs.Others.{AreApart, IsApart, could_pick, other_of, others_at, others_by, others_from, others_of}
use Rattle.other_picks.proofs.Cutting.{in_cut}
use Rattle.other_picks.proofs.Following.{idle_mate}
use Rattle.other_picks.proofs.Taken.{found_in, in_kept, in_mapped, others_parts}

-- by receives, and then by senders
abbrev ComesBefore : OtherPick → OtherPick → Type 0
ComesBefore a b = (a.at < b.at) ⊎ ((a.at ≡ b.at) × (a.sender < b.sender))

abbrev AreInOrder : List OtherPick → Type 0
AreInOrder [] = Unit {0}
AreInOrder (other ∷ others) = ((later : OtherPick) → IsIn later others → ComesBefore other later) × AreInOrder others

from_world : (x count from : ℕ) → IsIn x (world count from) → from ≤ x
from_world x zero from among = absurd among
from_world x (suc count) from among = elim among [
  | inl e ↦ omega (arith, e)
  | inr later ↦ (let low = from_world x count (from + 1) later in omega arith)
]

-- the senders of an event rise
senders_by : (before : List Event) (event : Event) (test : ℕ → Bool) (count from : ℕ) (passes : Bool) → test from ≡ passes
    → AreInOrder (map (other_of before event) (filter test (world count (from + 1)))) → AreInOrder (map (other_of before event) (filter test (world (suc count) from)))
senders_by before event test count from true is rest =
    let whole : AreInOrder (map (other_of before event) (from ∷ filter test (world count (from + 1)))) = (
      λ later among. (
          let m = in_mapped (other_of before event) (filter test (world count (from + 1))) later among in
          let k = in_kept test m.0 (world count (from + 1)) m.1 in
          let low = from_world m.0 count (from + 1) k.0 in
          let at : length before ≡ later.at = ap (λ (o : OtherPick). o.at) m.2 in
          let sender : m.0 ≡ later.sender = ap (λ (o : OtherPick). o.sender) m.2 in
          inr (at, omega arith)),
      rest,
    ) in
    rw is whole
senders_by before event test count from false is rest = rw is rest

senders_rise : (before : List Event) (event : Event) (test : ℕ → Bool) (count from : ℕ) → AreInOrder (map (other_of before event) (filter test (world count from)))
senders_rise before event test zero from = tt
senders_rise before event test (suc count) from = senders_by before event test count from (test from) refl (senders_rise before event test count (from + 1))

event_ordered : (n : ℕ) (before : List Event) (event : Event) (call : Call) (mate : Option ℕ) → AreInOrder (others_by n before event call mate)
event_ordered n before event (Post comm Any tag room) (Some mate) = senders_rise before event (could_pick n before event mate) n 0
event_ordered n before event (Post comm Any tag room) None = tt
event_ordered n before event call mate = tt

ordered_both : (xs ys : List OtherPick) → AreInOrder xs → AreInOrder ys → ((x y : OtherPick) → IsIn x xs → IsIn y ys → ComesBefore x y) → AreInOrder (xs ++ ys)
ordered_both [] ys front back between = back
ordered_both (x ∷ xs) ys front back between = (
  λ later among. either x xs ys later front.0 (λ there. between x later (inl refl) there) among,
  ordered_both xs ys front.1 back (λ a b here there. between a b (inr here) there),
)
  where
    either : (x : OtherPick) (xs ys : List OtherPick) (later : OtherPick) → ((a : OtherPick) → IsIn a xs → ComesBefore x a) → (IsIn later ys → ComesBefore x later)
        → IsIn later (xs ++ ys) → ComesBefore x later
    either x [] ys later front back among = back among
    either x (a ∷ xs) ys later front back among = elim among [
      | inl e ↦ front later (inl e)
      | inr rest ↦ either x xs ys later (λ b here. front b (inr here)) back rest
    ]

all_ordered : (n : ℕ) (before events : List Event) → AreInOrder (others_from n before events)
all_ordered n before [] = tt
all_ordered n before (event ∷ events) =
    ordered_both (others_at n before event) (others_from n (before ++ event ∷ []) events) (event_ordered n before event event.call event.mate)
    (all_ordered n (before ++ event ∷ []) events)
    (λ x y here there. (
    let o = others_parts n before event event.call event.mate x refl refl here in
    let f = found_in n (before ++ event ∷ []) events y there in
    let p = others_parts n ((before ++ event ∷ []) ++ f.front) f.receive f.receive.call f.receive.mate y refl refl f.among in
    let low : length before ≡ x.at = ap (λ (q : OtherPick). q.at) o.other_is in
    let high : length ((before ++ event ∷ []) ++ f.front) ≡ y.at = ap (λ (q : OtherPick). q.at) p.other_is in
    let long : length ((before ++ event ∷ []) ++ f.front) ≡ length before + 1 + length f.front =
    length-append (before ++ event ∷ []) f.front ∙ ap (λ k. k + length f.front) (length-append before (event ∷ [])) in
    inl (omega arith)))

-- the name of a receive is that of the start at its position
named_at : (n : ℕ) (run : List Event) (picks : List Pick) (other : OtherPick) → ArePicked n [] picks run → IsIn other (others_of n run)
    → name_at run other.at ≡ Some (other.rank, other.start)
named_at n run picks other all among =
    let f = found_in n [] run other among in
    let o = others_parts n f.front f.receive f.receive.call f.receive.mate other refl refl f.among in
    let R : List Event → Type 0 = λ l. ArePicked n [] picks l in
    let p = picked_at n [] f.front f.after picks f.receive (subst R f.whole all) in
    let start : is_start (f.receive.call, f.receive.reply) ≡ true = elim (test_cases (is_start (f.receive.call, f.receive.reply))) [
      | inl t ↦ t
      | inr t ↦ (let no : Some o.mate ≡ None = sym o.mate_is ∙ idle_mate n f.front f.receive p.0 p.1 t in absurd (cc))
    ] in
    let here : name_at ((f.front ++ f.receive ∷ []) ++ f.after) (length f.front) ≡ Some (new_name f.front f.receive) =
    name_at-kept (f.front ++ f.receive ∷ []) f.after (length f.front) (new_name f.front f.receive) (name_at-new f.front f.receive start) in
    let whole : (f.front ++ f.receive ∷ []) ++ f.after ≡ run = append_assoc f.front (f.receive ∷ []) f.after ∙ sym f.whole in
    let F : OtherPick → Type 0 = λ x. name_at run x.at ≡ Some (x.rank, x.start) in
    subst F o.other_is (ap (λ l. name_at l (length f.front)) (sym whole) ∙ here)

apart_in : (n : ℕ) (run : List Event) (picks : List Pick) (one other : OtherPick) → ArePicked n [] picks run → IsIn one (others_of n run) → IsIn other (others_of n run)
    → ComesBefore one other → IsApart one other
apart_in n run picks one other all here there before rank start sender =
    let name : ℕ → ℕ → Name = λ r s. (r, s) in
    let names : name one.rank one.start ≡ name other.rank other.start = ap₂ name rank start in
    let at : one.at ≡ other.at =
    name_at-one run one.at other.at (name one.rank one.start) (name other.rank other.start) (named_at n run picks one all here) (named_at n run picks other all there) names in
    elim before [ inl less ↦ absurd (omega arith) | inr same ↦ absurd (omega (arith, same.1, sender)) ]

cut_apart : (n : ℕ) (run : List Event) (picks : List Pick) (most : ℕ) (others : List OtherPick) → ArePicked n [] picks run → AreInOrder others
    → ((other : OtherPick) → IsIn other others → IsIn other (others_of n run)) → AreApart (take most others)
cut_apart n run picks zero others all ordered among = tt
cut_apart n run picks (suc most) [] all ordered among = tt
cut_apart n run picks (suc most) (other ∷ others) all ordered among = (
  λ later there. (
      let behind = in_cut most later others there in
      apart_in n run picks other later all (among other (inl refl)) (among later (inr behind)) (ordered.0 later behind)),
  cut_apart n run picks most others all ordered.1 (λ x there. among x (inr there)),
)

pub others_apart : (n : ℕ) (run : List Event) (picks : List Pick) (most : ℕ) → ArePicked n [] picks run → AreApart (take most (others_of n run))
others_apart n run picks most all = cut_apart n run picks most (others_of n run) all (all_ordered n [] run) (λ other among. among)

-- The messages that a rank took last, with one more call.
use Rattle.std.proofs.Common.{◌≡◌, ◌<◌, ◌≤◌, ◌-◌, ◌∙◌, ◌&&◌, ◌++◌, ◌∷◌, ◌==◌, [], ℕ, zero, suc, List, Option, Some, None, Bool, true, false, inl, inr, ap, append-nil, append_assoc, arith, drop, get_or, if◌then◌else◌, length, nat_eq, refl, slice_index, sym, take}
use Rattle.std.proofs.lemmas.Bool.{eq-eqb, eqb-true}
use Rattle.std.specs.Map.{lookup}
use Rattle.std.specs.Option.{option_eq}
use Rattle.mpi_call.specs.declared.call.Call.{Call}
use Rattle.mpi_call.specs.declared.call.Tag.{Tag}
use Rattle.mpi_call.specs.declared.call.Tag.TheVariants.{Any as AnyTag, Is}
use Rattle.mpi_call.specs.declared.reply.Item.{Item}
use Rattle.mpi_call.specs.declared.reply.Reply.{Reply}
use Rattle.mpi_call.specs.Acceptance.{tag_agrees, tag_named}
use Rattle.msg_races.specs.Ways.{named_tag}
use Rattle.run_model.specs.Views.{View, start_at}
use Rattle.run_model.proofs.Views.{test_cases}
use Rattle.wait_graph.specs.declared.message.Taken.{Taken}
use Rattle.wait_graph.specs.declared.taken.InboundWay.{InboundWay}
use Rattle.wait_graph.specs.Taken.{AreTaken, taken_after_got, taken_after_items, taken_after_reply, asked_of, same_inbound_way, last_taken_from}

taken_both : (comm : ℕ) (tag : Tag) (sender : ℕ) (before xs ys : View) (known : Option Taken)
    → last_taken_from (asked_of comm tag sender) before (xs ++ ys) known ≡ last_taken_from (asked_of comm tag sender) (before ++ xs) ys (last_taken_from (asked_of comm tag sender) before xs known)
taken_both comm tag sender before [] ys known = ap (λ l. last_taken_from (asked_of comm tag sender) l ys known) (sym (append-nil before))
taken_both comm tag sender before ((call, reply) ∷ xs) ys known =
    let one : Option Taken = taken_after_reply (asked_of comm tag sender) (length before) before call reply known in
    taken_both comm tag sender (before ++ (call, reply) ∷ []) xs ys one
    ∙ ap (λ l. last_taken_from (asked_of comm tag sender) l ys (last_taken_from (asked_of comm tag sender) (before ++ (call, reply) ∷ []) xs one)) (append_assoc before ((call, reply) ∷ []) xs)

pub taken_more : (own : View) (call : Call) (reply : Reply) (number : ℕ) (old new : List (InboundWay × Taken)) → number ≡ length own → AreTaken own old
    → ((way : InboundWay) → lookup (same_inbound_way way) new ≡ taken_after_reply (asked_of way.comm (named_tag way.tag) way.sender) number own call reply (lookup (same_inbound_way way) old))
    → AreTaken (own ++ (call, reply) ∷ []) new
taken_more own call reply number old new is are adds = record {
  each = λ way.
      adds way
      ∙ ap (λ k. taken_after_reply (asked_of way.comm (named_tag way.tag) way.sender) k own call reply (lookup (same_inbound_way way) old)) is
      ∙ ap (taken_after_reply (asked_of way.comm (named_tag way.tag) way.sender) (length own) own call reply) (are.each way)
      ∙ sym (taken_both way.comm (named_tag way.tag) way.sender [] own ((call, reply) ∷ []) None);
}

flip-eq : (a b : ℕ) → (a == b) ≡ (b == a)
flip-eq a b = elim (test_cases (a == b)) [
  | inl t ↦ t ∙ sym (eq-eqb b a (sym (eqb-true a b t)))
  | inr t ↦ elim (test_cases (b == a)) [
    | inl u ↦ absurd (let no : true ≡ false = sym (eq-eqb a b (sym (eqb-true b a u))) ∙ t in cc)
    | inr u ↦ t ∙ sym u
  ]
]

ifs_any : {A : Type 0} (s c : Bool) (x y : A) → (if s && (c && false) then x else if s && (c && true) then x else y) ≡ (if c && (s && true) then x else y)
ifs_any true true x y = refl
ifs_any true false x y = refl
ifs_any false true x y = refl
ifs_any false false x y = refl

ifs_tag : {A : Type 0} (s c t : Bool) (x y : A) → (if s && (c && t) then x else if s && (c && false) then x else y) ≡ (if c && (s && t) then x else y)
ifs_tag true true true x y = refl
ifs_tag true true false x y = refl
ifs_tag true false t x y = refl
ifs_tag false true t x y = refl
ifs_tag false false t x y = refl

-- one item
pub items_step : (comm : ℕ) (tag : Tag) (sender number : ℕ) (own : View) (starts : List ℕ) (rest : List Item) (d : Item) (old new all : Option Taken) → 1 ≤ length rest
    → new ≡ taken_after_got (asked_of comm tag sender) number (start_at own (slice_index starts (get_or rest 0 d).index)) (get_or rest 0 d).got old
    → taken_after_items (asked_of comm tag sender) number own starts rest old ≡ all
    → taken_after_items (asked_of comm tag sender) number own starts (take (length rest - 1) (drop 1 rest)) new ≡ all
items_step comm tag sender number own starts [] d old new all some is so_far = absurd (omega (arith, some))
items_step comm tag sender number own starts (x ∷ xs) d old new all some is so_far =
    let tail : take (length (x ∷ xs) - 1) xs ≡ xs = take-items xs (length (x ∷ xs) - 1) (omega arith) in
    ap (λ l. taken_after_items (asked_of comm tag sender) number own starts l new) tail ∙ ap (taken_after_items (asked_of comm tag sender) number own starts xs) is ∙ so_far
  where
    take-items : (ys : List Item) (k : ℕ) → length ys ≤ k → take k ys ≡ ys
    take-items [] zero h = refl
    take-items [] (suc k) h = refl
    take-items (y ∷ ys) zero h = absurd (omega (arith, h))
    take-items (y ∷ ys) (suc k) h = ap (λ l. y ∷ l) (take-items ys k (omega (arith, h)))

pub items_end : (comm : ℕ) (tag : Tag) (sender number : ℕ) (own : View) (starts : List ℕ) (rest : List Item) (old all : Option Taken) → length rest < 1
    → taken_after_items (asked_of comm tag sender) number own starts rest old ≡ all → old ≡ all
items_end comm tag sender number own starts [] old all none so_far = so_far
items_end comm tag sender number own starts (x ∷ xs) old all none so_far = absurd (omega (arith, none))

pub tag_back : (tag : Tag) → named_tag (tag_named tag) ≡ tag
tag_back AnyTag = refl
tag_back (Is tag) = refl

-- a message is added for its tag and for any tag
pub added : (sender comm tag s c : ℕ) (t : Option ℕ) (taken : Taken) (known : Option Taken)
    → (if (sender == s) && ((comm == c) && option_eq nat_eq (Some tag) t) then Some taken
    else if (sender == s) && ((comm == c) && option_eq nat_eq None t) then Some taken else known)
    ≡ (if (comm == c) && ((sender == s) && tag_agrees (named_tag t) tag) then Some taken else known)
added sender comm tag s c None taken known = ifs_any (sender == s) (comm == c) (Some taken) known
added sender comm tag s c (Some t) taken known =
    ap (λ b. if (sender == s) && ((comm == c) && b) then Some taken else if (sender == s) && ((comm == c) && false) then Some taken else known) (flip-eq tag t)
    ∙ ifs_tag (sender == s) (comm == c) (t == tag) (Some taken) known

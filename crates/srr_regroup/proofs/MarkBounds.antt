-- What a log's mark stands for in a replay has a mark within the bounds of a log of any group with the rank in it.
use Rattle.std.proofs.Common.{◌≡◌, ◌≤◌, ◌<◌, ◌∷◌, ◌==◌, All, Bool, Err, List, None, Ok, Option, Result, Some, [], ap, arith, inl, inr, length, map, refl, slice_index, subst, suc, sym, true, ℕ, ℤ}
use Rattle.std.proofs.lemmas.Bool.{and_parts}
use Rattle.std.proofs.lemmas.List.Elements.{All-cons, All-nil, All-tail}
use Rattle.mpi_call.specs.declared.call.Call.{Call}
use Rattle.mpi_call.specs.declared.call.Call.TheVariants.{Send}
use Rattle.mpi_call.specs.declared.reply.Got.{Got}
use Rattle.mpi_call.specs.declared.reply.Got.TheVariants.{Joined, Made, Message, Nothing, Sent}
use Rattle.mpi_call.specs.declared.reply.Item.{Item}
use Rattle.mpi_call.specs.Calls.{comm_of}
use Rattle.mpi_call.specs.Collectives.{is_member, members_made, result_of}
use Rattle.run_model.specs.Communicators.{members_for_rank}
use Rattle.run_model.specs.Forms.{IsInOrder}
use Rattle.run_model.specs.Inputs.{inputs_of}
use Rattle.run_model.specs.Shape.{got_fits, gots_fit}
use Rattle.run_model.specs.Views.{View, start_at}
use Rattle.run_model.proofs.Views.{test_cases}
use Rattle.srr_entry.specs.declared.entry.Mark.{Mark}
use Rattle.srr_entry.specs.declared.entry.Mark.TheVariants.{Inner, Inside, Made as MarkMade, MadeOutside, Nothing as MarkNothing, Outer, Outside, Sent as MarkSent}
use Rattle.srr_entry.specs.declared.entry.Marked.{Marked}
use Rattle.srr_entry.specs.Entries.{mark_of_got, marks_of_items}
use Rattle.srr_log.specs.Bounds.{IsMark}
use Rattle.log_bounds.specs.RunBounds.{GotFits32}
use Rattle.log_bounds.proofs.RunMarks.{IsGotBound, IsItem, mark_bound}
use Rattle.replay_model.specs.declared.step.Missing.{Missing}
use Rattle.replay_model.specs.Filling.{asker_of, fill_inner, fill_made, fill_mark, fill_marks, filled_message, joined_result, made_new, push_item}

-- the tags and lengths of what ranks have sent
pub record AreSendsBound (V : ℕ → View) : Type 0 where
  pub each : (source start c d tag : ℕ) (ints : List ℤ) (sync : Bool) → start_at (V source) start ≡ Some (Send c d tag ints sync)
      → (tag ≤ 2147483647) × (length ints ≤ 65536)

-- a message from inside has the bounds of its Send
inside_bound : (n : ℕ) (V : ℕ → View) (source start : ℕ) (found : Option Call) (got : Got) → AreSendsBound V → source < n → start ≤ 999999
    → start_at (V source) start ≡ found → filled_message source start found ≡ Ok got → IsGotBound n got
inside_bound n V source start None got sends below small at h = absurd (cc)
inside_bound n V source start (Some (Send c d tag ints sync)) got sends below small at h =
    let same : Message source start tag ints ≡ got = cc in
    let s = sends.each source start c d tag ints sync at in
    subst (IsGotBound n) same (below, small, s.0, s.1)
inside_bound n V source start (Some call) got sends below small at h =
    (let same : Nothing ≡ got = cc in subst (IsGotBound n) same tt)

joined_bound : (n : ℕ) (own : View) (me k : ℕ) (enter : Call) (inputs : Result (List (List ℤ)) ℕ) (got : Got) → joined_result n me own k enter inputs ≡ Ok got
    → IsGotBound n got
joined_bound n own me k enter (Err m) got h = absurd (cc)
joined_bound n own me k enter (Ok inputs) got h =
    (let same : Joined (result_of enter (members_for_rank n own (comm_of enter)) inputs me) ≡ got = cc in subst (IsGotBound n) same tt)

inner_bound : (n : ℕ) (V : ℕ → View) (own : View) (me k : ℕ) (start : Option Call) (got : Got) → fill_inner n V me own k start ≡ Ok got → IsGotBound n got
inner_bound n V own me k None got h = (let same : Nothing ≡ got = cc in subst (IsGotBound n) same tt)
inner_bound n V own me k (Some enter) got h = joined_bound n own me k enter (inputs_of n V me own k enter) got h

new_bound : (comm n : ℕ) (own : View) (me k : ℕ) (enter : Call) (inputs : Result (List (List ℤ)) ℕ) (got : Got) → comm ≤ 999999
    → made_new comm (asker_of n me own) k enter inputs ≡ Ok got → IsGotBound n got
new_bound comm n own me k enter (Err m) got small h = absurd (cc)
new_bound comm n own me k enter (Ok inputs) got small h =
    (let same : Made comm (members_made enter (members_for_rank n own (comm_of enter)) inputs me) ≡ got = cc in subst (IsGotBound n) same small)

made_bound : (comm n : ℕ) (V : ℕ → View) (own : View) (me k : ℕ) (start : Option Call) (got : Got) → comm ≤ 999999 → fill_made comm V (asker_of n me own) k start ≡ Ok got
    → IsGotBound n got
made_bound comm n V own me k None got small h = (let same : Nothing ≡ got = cc in subst (IsGotBound n) same tt)
made_bound comm n V own me k (Some enter) got small h = new_bound comm n own me k enter (inputs_of n V me own k enter) got small h

-- what a mark within its bounds stands for has numbers within theirs
got_bound : (n : ℕ) (inside : List ℕ) (V : ℕ → View) (own : View) (me k : ℕ) (mark : Mark) (got : Got) → AreSendsBound V → IsMark n inside mark
    → fill_mark n V me own k mark ≡ Ok got → IsGotBound n got
got_bound n inside V own me k MarkSent got sends is h = (let same : Sent ≡ got = cc in subst (IsGotBound n) same tt)
got_bound n inside V own me k MarkNothing got sends is h = (let same : Nothing ≡ got = cc in subst (IsGotBound n) same tt)
got_bound n inside V own me k (Inside source start) got sends is h =
    inside_bound n V source start (start_at (V source) start) got sends is.0.0 is.1 refl h
got_bound n inside V own me k (Outside source start tag ints) got sends is h =
    (let same : Message source start tag ints ≡ got = cc in subst (IsGotBound n) same (is.0.0, is.1, is.2, is.3.0))
got_bound n inside V own me k Inner got sends is h = inner_bound n V own me k (start_at own k) got h
got_bound n inside V own me k (Outer ints) got sends is h = (let same : Joined ints ≡ got = cc in subst (IsGotBound n) same tt)
got_bound n inside V own me k (MarkMade comm) got sends is h =
    elim (test_cases (comm == 0)) [
      | inl t ↦ (
          let made : Ok (Made 0 []) ≡ Ok got = rw t at h in
          let same : Made 0 [] ≡ got = cc in
          subst (IsGotBound n) same (omega arith))
      | inr t ↦ made_bound comm n V own me k (start_at own k) got is (rw t at h)
    ]
got_bound n inside V own me k (MadeOutside comm members) got sends is h =
    (let same : Made comm members ≡ got = cc in subst (IsGotBound n) same is.1)

-- an entry's items and the marks that stand for the same things in another group have the same indices
pub record AreItems (n : ℕ) (group : List ℕ) (marks others : List Marked) : Type 0 where
  pub indices : map (λ (item : Marked). item.index) others ≡ map (λ (item : Marked). item.index) marks
  pub many : length others ≡ length marks
  pub each : All (IsItem n group) others

-- the first item and the others of what marks stand for
record Pushed (index : ℕ) (first : Result Got Missing) (others : Result (List Item) Missing) (items : List Item) : Type 0 where
  got : Got
  rest : List Item
  first_is : first ≡ Ok got
  others_are : others ≡ Ok rest
  all : record { index = index; got = got } ∷ rest ≡ items

pushed : (index : ℕ) (first : Result Got Missing) (others : Result (List Item) Missing) (items : List Item) → push_item index first others ≡ Ok items
    → Pushed index first others items
pushed index (Err missing) others items h = absurd (cc)
pushed index (Ok got) (Err missing) items h = absurd (cc)
pushed index (Ok got) (Ok rest) items h = record { got = got; rest = rest; first_is = refl; others_are = refl; all = cc }

-- what is asked of what the marks stand for
record AreGiven (n : ℕ) (own : View) (me : ℕ) (starts : List ℕ) (items : List Item) : Type 0 where
  fit : gots_fit n me own starts items ≡ true
  words : All (λ (item : Item). GotFits32 item.got) items

pub items_bound : (n : ℕ) (inside group : List ℕ) (V : ℕ → View) (own : View) (me : ℕ) (starts : List ℕ) (marks : List Marked) (items : List Item)
    → n ≤ 64 → is_member group me ≡ true → IsInOrder n me own → AreSendsBound V → All (IsItem n inside) marks → fill_marks n V me own starts marks ≡ Ok items
    → gots_fit n me own starts items ≡ true → All (λ (item : Item). GotFits32 item.got) items → AreItems n group marks (marks_of_items n group me own starts items)
items_bound n inside group V own me starts [] items few mine order sends are h fit words =
    let none : [] ≡ items = cc in
    let F : List Item → Type 0 = λ l. AreItems n group [] (marks_of_items n group me own starts l) in
    subst F none (record { indices = refl; many = refl; each = All-nil (IsItem n group) })
items_bound n inside group V own me starts (marked ∷ marks) items few mine order sends are h fit words =
    let k : ℕ = slice_index starts marked.index in
    let p = pushed marked.index (fill_mark n V me own k marked.mark) (fill_marks n V me own starts marks) items h in
    let item : Item = record { index = marked.index; got = p.got } in
    let G : List Item → Type 0 = λ l. AreGiven n own me starts l in
    let given : AreGiven n own me starts (item ∷ p.rest) = subst G (sym p.all) (record { fit = fit; words = words }) in
    let fits = and_parts (got_fits n me own (start_at own k) p.got) (gots_fit n me own starts p.rest) given.fit in
    let here = are 0 marked (omega arith) in
    let bound = got_bound n inside V own me k marked.mark p.got sends here.1 p.first_is in
    let later = items_bound n inside group V own me starts marks p.rest few mine order sends (All-tail (IsItem n inside) marked marks are) p.others_are fits.1 (All-tail (λ (item : Item). GotFits32 item.got) item p.rest given.words) in
    let mark = mark_bound n group me own k p.got few mine order bound fits.0 (given.words 0 item (omega arith)) in
    let F : List Item → Type 0 = λ l. AreItems n group (marked ∷ marks) (marks_of_items n group me own starts l) in
    subst F p.all (record {
      indices = ap (λ (l : List ℕ). marked.index ∷ l) later.indices;
      many = ap suc later.many;
      each = All-cons (IsItem n group) (record { index = marked.index; mark = mark_of_got n group me own k p.got }) (marks_of_items n group me own starts p.rest) (here.0, mark) later.each;
    })

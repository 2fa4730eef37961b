-- The open receives are the starts without a mark.
use Rattle.std.proofs.Common.{◌≡◌, ◌<◌, ◌≤◌, ◌+◌, ◌++◌, ◌∷◌, [], ◌∙◌, ◌||◌, ◌==◌, ℕ, zero, suc, List, Bool, true, false, ap, append_assoc, arith, inl, inr, length, refl, replicate, slice_set, sym}
use Rattle.std.proofs.lemmas.Bool.{ne_eqb}
use Rattle.std.proofs.lemmas.Bool.Decides.{eqb_tells}
use Rattle.std.proofs.lemmas.List.{append-nil}
use Rattle.mpi_call.specs.declared.call.Call.{Call}
use Rattle.mpi_call.specs.declared.reply.Reply.{Reply}
use Rattle.mpi_call.specs.declared.reply.Reply.TheVariants.{Done, Took, NotYet, Peeked, Stopped}
use Rattle.mpi_call.specs.Calls.{listed_by}
use Rattle.mpi_call.specs.Members.{is_member}
use Rattle.run_model.specs.Views.{View, items_taken, starts_of, taken_of}
use Rattle.view_diff.specs.inside.Marking.{unmarked_from, with_mark, with_marks, with_taken_marks}
use Rattle.view_diff.specs.Opens.{open_receives_from}

-- the marks of these starts, by the numbers that were taken; the first start has this number
abbrev marks_from : ℕ → List ℕ → List Call → List Bool
marks_from number taken [] = []
marks_from number taken (call ∷ calls) = is_member taken number ∷ marks_from (suc number) taken calls

no_marks : (number : ℕ) (calls : List Call) → marks_from number [] calls ≡ replicate (length calls) false
no_marks number [] = refl
no_marks number (call ∷ calls) = ap (λ l. false ∷ l) (no_marks (suc number) calls)

member_other : (taken : List ℕ) (number start : ℕ) → (start ≡ number → ⊥) → is_member (taken ++ start ∷ []) number ≡ is_member taken number
member_other [] number start other = rw (ne_eqb start number other) refl
member_other (x ∷ taken) number start other = ap (λ b. (x == number) || b) (member_other taken number start other)

member_last : (taken : List ℕ) (number : ℕ) → is_member (taken ++ number ∷ []) number ≡ true
member_last [] number = elim (eqb_tells number number) [
  | inl same ↦ rw (same.0) refl
  | inr other ↦ absurd (other.1 refl)
]
member_last (x ∷ taken) number = rw (member_last taken number) (or_true (x == number))
  where
    or_true : (b : Bool) → (b || true) ≡ true
    or_true true = refl
    or_true false = refl

marks_past : (number start : ℕ) (taken : List ℕ) (calls : List Call) → start < number → marks_from number (taken ++ start ∷ []) calls ≡ marks_from number taken calls
marks_past number start taken [] low = refl
marks_past number start taken (call ∷ calls) low =
    rw (member_other taken number start (λ same. absurd (omega (arith, low, same))), marks_past (suc number) start taken calls (omega (arith, low))) refl

one_mark : (number start : ℕ) (taken : List ℕ) (calls : List Call) → with_mark (marks_from number taken calls) start ≡ marks_from number (taken ++ (number + start) ∷ []) calls
one_mark number start taken [] = refl
one_mark number zero taken (call ∷ calls) =
    let here : number + 0 ≡ number = omega arith in
    rw (here, member_last taken number, marks_past (suc number) number taken calls (omega arith)) refl
one_mark number (suc start) taken (call ∷ calls) =
    let there : number + suc start ≡ suc number + start = omega arith in
    rw (there, one_mark (suc number) start taken calls, member_other taken number (suc number + start) (λ same. absurd (omega (arith, same)))) refl

all_marks : (numbers taken : List ℕ) (calls : List Call) → with_marks (marks_from 0 taken calls) numbers ≡ marks_from 0 (taken ++ numbers) calls
all_marks [] taken calls = ap (λ l. marks_from 0 l calls) (sym (append-nil taken))
all_marks (number ∷ numbers) taken calls =
    let here : 0 + number ≡ number = omega arith in
    ap (λ m. with_marks m numbers) (one_mark 0 number taken calls) ∙ ap (λ k. with_marks (marks_from 0 (taken ++ k ∷ []) calls) numbers) here
    ∙ all_marks numbers (taken ++ number ∷ []) calls ∙ ap (λ l. marks_from 0 l calls) (append_assoc taken (number ∷ []) numbers)

unmarked_is : (number : ℕ) (taken : List ℕ) (calls : List Call) → unmarked_from number calls (marks_from number taken calls) ≡ open_receives_from number taken calls
unmarked_is number taken [] = refl
unmarked_is number taken (call ∷ calls) = rw (unmarked_is (suc number) taken calls) refl

with_marks-append : (marks : List Bool) (xs ys : List ℕ) → with_marks marks (xs ++ ys) ≡ with_marks (with_marks marks xs) ys
with_marks-append marks [] ys = refl
with_marks-append marks (x ∷ xs) ys = with_marks-append (with_mark marks x) xs ys

taken_more : (call : Call) (reply : Reply) (view : View) → taken_of ((call, reply) ∷ view) ≡ taken_of ((call, reply) ∷ []) ++ taken_of view
taken_more call (Took items) view = ap (λ l. l ++ taken_of view) (sym (append-nil (items_taken (listed_by call) items)))
taken_more call Done view = refl
taken_more call NotYet view = refl
taken_more call (Peeked source start tag count) view = refl
taken_more call (Stopped halt) view = refl

taken_are : (view : View) (marks : List Bool) → with_taken_marks marks view ≡ with_marks marks (taken_of view)
taken_are [] marks = refl
taken_are ((call, reply) ∷ view) marks =
    taken_are view (with_marks marks (taken_of ((call, reply) ∷ [])))
    ∙ sym (with_marks-append marks (taken_of ((call, reply) ∷ [])) (taken_of view))
    ∙ ap (λ l. with_marks marks l) (sym (taken_more call reply view))

pub open_is : (view : View) → unmarked_from 0 (starts_of view) (with_taken_marks (replicate (length (starts_of view)) false) view) ≡ open_receives_from 0 (taken_of view) (starts_of view)
open_is view =
    let starts : List Call = starts_of view in
    let taken : List ℕ = taken_of view in
    ap (λ m. unmarked_from 0 starts m) (taken_are view (replicate (length starts) false))
    ∙ ap (λ m. unmarked_from 0 starts (with_marks m taken)) (sym (no_marks 0 starts)) ∙ ap (λ m. unmarked_from 0 starts m) (all_marks taken [] starts)
    ∙ unmarked_is 0 taken starts

pub mark_at : (marks : List Bool) (number : ℕ) → number < length marks → slice_set marks number true ≡ with_mark marks number
mark_at [] number less = absurd (omega (arith, less))
mark_at (mark ∷ marks) zero less = refl
mark_at (mark ∷ marks) (suc number) less = ap (λ l. mark ∷ l) (mark_at marks number (omega (arith, less)))

pub mark_past : (marks : List Bool) (number : ℕ) → length marks ≤ number → marks ≡ with_mark marks number
mark_past [] number more = refl
mark_past (mark ∷ marks) zero more = absurd (omega (arith, more))
mark_past (mark ∷ marks) (suc number) more = ap (λ l. mark ∷ l) (mark_past marks number (omega (arith, more)))

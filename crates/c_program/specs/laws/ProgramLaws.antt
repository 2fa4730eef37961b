-- The laws of programs, for C programs: along what a rank has seen, its course goes on as the program's next call says.
use Rattle.std.proofs.Common.{◌≡◌, ◌∙◌, ◌++◌, ◌↔◌, inl, inr, ℕ, Bool, true, false, List, [], ◌∷◌, Some, None, MatchBool, length, refl, sym, ap, subst, append_assoc, append-nil}
use Rattle.std.proofs.lemmas.List.{map-append}
use Rattle.std.specs.List.{list_any}
use Rattle.mpi_call.specs.declared.call.Call.{Call}
use Rattle.mpi_call.specs.declared.reply.Reply.{Reply}
use Rattle.run_model.specs.Lists.{Along, IsPrefixOf}
use Rattle.run_model.specs.Program.{IsNextSeen, IsViewOf, IsRankOf, ends, EndsExactly, PrintsOn, IsCallInBounds, AsksInBounds, IsInForm, EntersInForm}
use Rattle.run_model.specs.Shape.{has_shape}
use Rattle.run_model.specs.Views.{View, Next, replies_in}
use Rattle.run_model.proofs.Views.{test_cases}
use Rattle.c_program.specs.Tree.{Program}
use Rattle.c_program.specs.Courses.{Course, Asks, Over, after_replies, call_in, shaped_after, state_in}
use Rattle.c_program.specs.laws.GoodLaws.{keeps_prefix}
use Rattle.run_model.proofs.Prefixes.{prefix_refl, prefix_trans}
use Rattle.c_program.specs.laws.Keeping.{KeepsLaws}
use Rattle.c_program.specs.Meaning.{course_of}
use Rattle.c_program.specs.Program.{next_of, output_of, rank_of}
use Rattle.c_program.specs.State.{State}
use Rattle.c_program.specs.laws.StatementLaws.{course_keeps}

-- ---- a reply in shape

shaped_ends : (n me : ℕ) (own : View) (s : State) (call : Call) (go : Reply → Course) (reply : Reply) (replies : List Reply) → has_shape n me own call reply ≡ true → ends (call, reply) ≡ true → shaped_after n me own (Asks s call go) (reply ∷ replies) ≡ Over s
shaped_ends n me own s call go reply replies shape ending = rw (shape, ending) refl

shaped_goes_on : (n me : ℕ) (own : View) (s : State) (call : Call) (go : Reply → Course) (reply : Reply) (replies : List Reply) → has_shape n me own call reply ≡ true → ends (call, reply) ≡ false → shaped_after n me own (Asks s call go) (reply ∷ replies) ≡ shaped_after n me (own ++ (call, reply) ∷ []) (go reply) replies
shaped_goes_on n me own s call go reply replies shape ending = rw (shape, ending) refl

after_over : (s : State) (replies : List Reply) → after_replies (Over s) replies ≡ Over s
after_over s [] = refl
after_over s (reply ∷ replies) = after_over s replies

after_ends : (s : State) (call : Call) (go : Reply → Course) (reply : Reply) (replies : List Reply) → ends (call, reply) ≡ true → after_replies (Asks s call go) (reply ∷ replies) ≡ Over s
after_ends s call go reply replies ending = rw ending (after_over s replies)

after_goes_on : (s : State) (call : Call) (go : Reply → Course) (reply : Reply) (replies : List Reply) → ends (call, reply) ≡ false → after_replies (Asks s call go) (reply ∷ replies) ≡ after_replies (go reply) replies
after_goes_on s call go reply replies ending = rw ending refl

-- ---- along a view

module _ (n me : ℕ) (next : Next) where
  -- `next` goes on as the course does
  abbrev FollowsCourse : View → Course → Type 0
  FollowsCourse own c = (replies : List Reply) → next n me (replies_in own ++ replies) ≡ call_in (shaped_after n me own c replies)

  same_call : (own : View) (s : State) (asked call : Call) (go : Reply → Course) (reply : Reply) → FollowsCourse own (Asks s asked go) → IsNextSeen next n me own (call, reply) → asked ≡ call
  same_call own s asked call go reply same seen =
      let says : next n me (replies_in own) ≡ Some asked = rw append-nil at (same []) in
      let named : next n me (replies_in own) ≡ Some call = seen.asked in
      cc

  goes_on_behind : (own : View) (s : State) (call : Call) (go : Reply → Course) (reply : Reply) → FollowsCourse own (Asks s call go) → has_shape n me own call reply ≡ true → ends (call, reply) ≡ false → FollowsCourse (own ++ (call, reply) ∷ []) (go reply)
  goes_on_behind own s call go reply same shape ending replies =
      let longer : next n me (replies_in own ++ reply ∷ replies) ≡ call_in (shaped_after n me (own ++ (call, reply) ∷ []) (go reply) replies) =
      same (reply ∷ replies) ∙ ap call_in (shaped_goes_on n me own s call go reply replies shape ending) in
      rw (map-append, append_assoc) longer

  -- where a rank stands after a view: it has ended, or its course keeps the laws
  abbrev KeepsLawsAfter : View → Bool → Course → Type 0
  KeepsLawsAfter own ended c = MatchBool ended (call_in c ≡ None) (KeepsLaws n me own [] c)

  begins : (own : View) (printed : List ℕ) (c : Course) → KeepsLaws n me own printed c → KeepsLaws n me own [] c
  begins own printed c keeps = keeps_prefix n me own [] printed c (printed, refl) keeps

  stands_after : (own view : View) (c : Course) → FollowsCourse own c → KeepsLaws n me own [] c → Along (IsNextSeen next n me) own view → KeepsLawsAfter (own ++ view) (list_any ends view) (shaped_after n me own c (replies_in view))
  stands_after own [] c same keeps along = rw append-nil keeps
  stands_after own (seen ∷ view) (Over s) same keeps along = absurd keeps
  stands_after own ((call, reply) ∷ view) (Asks s asked go) same keeps along =
      let call_is : asked ≡ call = same_call own s asked call go reply same along.0 in
      let shape : has_shape n me own asked reply ≡ true = rw call_is along.0.shaped in
      let later : Along (IsNextSeen next n me) (own ++ (asked, reply) ∷ []) view = rw call_is along.1 in
      let follows : MatchBool (ends (asked, reply)) (Unit {0}) (KeepsLaws n me (own ++ (asked, reply) ∷ []) s.printed (go reply)) = keeps.3 reply shape in
      let here : Call → Type 0 = λ z. KeepsLawsAfter (own ++ (z, reply) ∷ view) (list_any ends ((z, reply) ∷ view)) (shaped_after n me own (Asks s asked go) (reply ∷ replies_in view)) in
      subst here call_is (elim (test_cases (ends (asked, reply))) [
        | inl holds ↦ rw (shaped_ends n me own s asked go reply (replies_in view) shape holds, holds) refl
        | inr fails ↦ rw (shaped_goes_on n me own s asked go reply (replies_in view) shape fails, fails, ← append_assoc own ((asked, reply) ∷ []) view)
            (stands_after (own ++ (asked, reply) ∷ []) view (go reply) (goes_on_behind own s asked go reply same shape fails) (begins (own ++ (asked, reply) ∷ []) s.printed (go reply) (rw fails at follows)) later)
      ])

  -- what is printed behind a state goes on from there
  prints_from : (own view : View) (printed : List ℕ) (c : Course) → FollowsCourse own c → KeepsLaws n me own printed c → Along (IsNextSeen next n me) own view → IsPrefixOf printed (state_in (shaped_after n me own c (replies_in view))).printed
  prints_from own view printed (Over s) same keeps along = absurd keeps
  prints_from own [] printed (Asks s asked go) same keeps along = keeps.0
  prints_from own ((call, reply) ∷ view) printed (Asks s asked go) same keeps along =
      let call_is : asked ≡ call = same_call own s asked call go reply same along.0 in
      let shape : has_shape n me own asked reply ≡ true = rw call_is along.0.shaped in
      let later : Along (IsNextSeen next n me) (own ++ (asked, reply) ∷ []) view = rw call_is along.1 in
      let follows : MatchBool (ends (asked, reply)) (Unit {0}) (KeepsLaws n me (own ++ (asked, reply) ∷ []) s.printed (go reply)) = keeps.3 reply shape in
      elim (test_cases (ends (asked, reply))) [
        | inl holds ↦ rw (shaped_ends n me own s asked go reply (replies_in view) shape holds) keeps.0
        | inr fails ↦ rw (shaped_goes_on n me own s asked go reply (replies_in view) shape fails)
            (prefix_trans printed s.printed _ keeps.0 (prints_from (own ++ (asked, reply) ∷ []) view s.printed (go reply) (goes_on_behind own s asked go reply same shape fails) (rw fails at follows) later))
      ]

  prints_between : (own view more : View) (c : Course) → FollowsCourse own c → KeepsLaws n me own [] c → Along (IsNextSeen next n me) own (view ++ more) → IsPrefixOf (state_in (shaped_after n me own c (replies_in view))).printed (state_in (shaped_after n me own c (replies_in (view ++ more)))).printed
  prints_between own view more (Over s) same keeps along = absurd keeps
  prints_between own [] more (Asks s asked go) same keeps along =
      prints_from own more s.printed (Asks s asked go) same (prefix_refl s.printed, keeps.1, keeps.2, keeps.3) along
  prints_between own ((call, reply) ∷ view) more (Asks s asked go) same keeps along =
      let call_is : asked ≡ call = same_call own s asked call go reply same along.0 in
      let shape : has_shape n me own asked reply ≡ true = rw call_is along.0.shaped in
      let later : Along (IsNextSeen next n me) (own ++ (asked, reply) ∷ []) (view ++ more) = rw call_is along.1 in
      let follows : MatchBool (ends (asked, reply)) (Unit {0}) (KeepsLaws n me (own ++ (asked, reply) ∷ []) s.printed (go reply)) = keeps.3 reply shape in
      elim (test_cases (ends (asked, reply))) [
        | inl holds ↦ rw (shaped_ends n me own s asked go reply (replies_in view) shape holds, shaped_ends n me own s asked go reply (replies_in (view ++ more)) shape holds) (prefix_refl s.printed)
        | inr fails ↦ rw (shaped_goes_on n me own s asked go reply (replies_in view) shape fails, shaped_goes_on n me own s asked go reply (replies_in (view ++ more)) shape fails)
            (prints_between (own ++ (asked, reply) ∷ []) view more (go reply) (goes_on_behind own s asked go reply same shape fails) (begins (own ++ (asked, reply) ∷ []) s.printed (go reply) (rw fails at follows)) later)
      ]

  -- in a view in shape no reply need be tested again
  same_after : (own view : View) (c : Course) → FollowsCourse own c → Along (IsNextSeen next n me) own view → shaped_after n me own c (replies_in view) ≡ after_replies c (replies_in view)
  same_after own [] c same along = refl
  same_after own ((call, reply) ∷ view) (Over s) same along = sym (after_over s (replies_in ((call, reply) ∷ view)))
  same_after own ((call, reply) ∷ view) (Asks s asked go) same along =
      let call_is : asked ≡ call = same_call own s asked call go reply same along.0 in
      let shape : has_shape n me own asked reply ≡ true = rw call_is along.0.shaped in
      let later : Along (IsNextSeen next n me) (own ++ (asked, reply) ∷ []) view = rw call_is along.1 in
      elim (test_cases (ends (asked, reply))) [
        | inl holds ↦ shaped_ends n me own s asked go reply (replies_in view) shape holds ∙ sym (after_ends s asked go reply (replies_in view) holds)
        | inr fails ↦ shaped_goes_on n me own s asked go reply (replies_in view) shape fails
            ∙ same_after (own ++ (asked, reply) ∷ []) view (go reply) (goes_on_behind own s asked go reply same shape fails) later
            ∙ sym (after_goes_on s asked go reply (replies_in view) fails)
      ]

  ends_where : (own : View) (ended : Bool) (c : Course) → KeepsLawsAfter own ended c → (call_in c ≡ None) ↔ (ended ≡ true)
  ends_where own true c stands = (λ none. refl, λ t. stands)
  ends_where own false (Over s) stands = absurd stands
  ends_where own false (Asks s call go) stands = (λ none. absurd (cc), λ t. absurd (cc))

  -- a call that is made is in bounds and in form
  proper_call : (own : View) (ended : Bool) (c : Course) (call : Call) → KeepsLawsAfter own ended c → call_in c ≡ Some call → IsCallInBounds n (length own) call × IsInForm n me own call
  proper_call own true c call stands made = absurd (cc)
  proper_call own false (Over s) call stands made = absurd stands
  proper_call own false (Asks s asked go) call stands made =
      let same : asked ≡ call = cc in
      subst (λ call. IsCallInBounds n (length own) call × IsInForm n me own call) same (stands.1, stands.2)

-- ---- the laws of the program

-- a view in shape leads where its replies lead
pub after_in_shape : (program : Program) (n me : ℕ) (view : View) → IsViewOf (next_of program) n me view → shaped_after n me [] (course_of program (rank_of n me)) (replies_in view) ≡ after_replies (course_of program (rank_of n me)) (replies_in view)
after_in_shape program n me view along = same_after n me (next_of program) [] view (course_of program (rank_of n me)) (λ replies. refl) along

module _ (program : Program) where
  stands_at : (n me : ℕ) (view : View) → IsRankOf n me → IsViewOf (next_of program) n me view → KeepsLawsAfter n me (next_of program) view (list_any ends view) (shaped_after n me [] (course_of program (rank_of n me)) (replies_in view))
  stands_at n me view is along = stands_after n me (next_of program) [] view (course_of program (rank_of n me)) (λ replies. refl) (course_keeps program n me is) along

  pub ends_exactly : EndsExactly (next_of program)
  ends_exactly n me view is along = ends_where n me (next_of program) view (list_any ends view) _ (stands_at n me view is along)

  pub prints_on : PrintsOn (next_of program) (output_of program)
  prints_on n me view more is along = prints_between n me (next_of program) [] view more (course_of program (rank_of n me)) (λ replies. refl) (course_keeps program n me is) along

  pub asks_in_bounds : AsksInBounds (next_of program)
  asks_in_bounds n me view call is along made = (proper_call n me (next_of program) view (list_any ends view) _ call (stands_at n me view is along) made).0

  pub enters_in_form : EntersInForm (next_of program)
  enters_in_form n me view call is along made = (proper_call n me (next_of program) view (list_any ends view) _ call (stands_at n me view is along) made).1

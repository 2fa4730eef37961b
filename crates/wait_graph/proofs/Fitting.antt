-- No message that nobody has received fits a receive that waits.
use Rattle.std.proofs.Common.{◌≡◌, ◌∙◌, ◌+◌, ◌++◌, ◌&&◌, ◌==◌, ◌∷◌, [], ℕ, zero, suc, Bool, List, None, Some, false, true, ap, arith, is_some, not, refl, slice_get, subst, sym}
use Rattle.std.proofs.lemmas.Bool.{eq-eqb, or_left, or_right}
use Rattle.mpi_call.specs.declared.call.Call.{Call}
use Rattle.mpi_call.specs.declared.call.Call.TheVariants.{Post, Send}
use Rattle.mpi_call.specs.declared.call.Source.{Source}
use Rattle.mpi_call.specs.declared.call.Tag.{Tag}
use Rattle.mpi_call.specs.Acceptance.{accepts, source_agrees, tag_agrees}
use Rattle.run_model.specs.Allowed.{open_in, probe_of}
use Rattle.run_model.specs.Lists.{world}
use Rattle.run_model.specs.Pairs.{Name, pairs_of, partner_of}
use Rattle.run_model.specs.Views.{starts_of, view_of}
use Rattle.run_model.proofs.MemberLists.{AreMembers-world}
use Rattle.wait_graph.proofs.Reasons.{any_member}
use Rattle.run_model.specs.declared.event.Event.{Event}
use Rattle.wait_graph.specs.declared.difference.Difference.TheVariants.{Comm, Source as BySource, Tag as ByTag}
use Rattle.wait_graph.specs.Opens.{NoneFits, NoneFound, difference_unless}

all_agree : (a b d : Bool) → difference_unless a Comm ++ (difference_unless b BySource ++ difference_unless d ByTag) ≡ [] → (a && (true && (b && d))) ≡ true
all_agree true true true h = refl
all_agree true true false h = absurd (cc)
all_agree true false d h = absurd (cc)
all_agree false b d h = absurd (cc)

pub none_fits : (G : List Event) → NoneFits G
none_fits G post send comm room c sent source tag ints sync matched post_is post_free send_is send_free none =
    let here : (post.0 == post.0) ≡ true = eq-eqb post.0 post.0 refl in
    let all = all_agree (c == comm) (source_agrees source send.0) (tag_agrees tag sent) none in
    matched.nothing_waits post send
    (record {
      post_call = Post comm source tag room;
      send_call = Send c post.0 sent ints sync;
      post_is = post_is;
      send_is = send_is;
      accepted = rw here all;
    })
    post_free send_free

-- an unpaired Send that a probe accepts, among the starts of its sender
open_there : (P : List (Name × Name)) (me comm : ℕ) (source : Source) (tag : Tag) (sender start k : ℕ) (calls : List Call) (call : Call)
    → slice_get calls k ≡ Some call → accepts me comm source tag sender call ≡ true → partner_of P (sender, start + k) ≡ None
    → open_in P (probe_of me comm source tag) sender start calls ≡ true
open_there P me comm source tag sender start k [] call there accepted free = absurd (cc)
open_there P me comm source tag sender start zero (c ∷ calls) call there accepted free =
    let same : c ≡ call = cc in
    let F : ℕ → Type 0 = λ i. partner_of P (sender, i) ≡ None in
    let none : partner_of P (sender, start) ≡ None = subst F (omega arith) free in
    let is : accepts me comm source tag sender c ≡ true = ap (accepts me comm source tag sender) same ∙ accepted in
    or_left (accepts me comm source tag sender c && not (is_some (partner_of P (sender, start)))) (open_in P (probe_of me comm source tag) sender (start + 1) calls) (rw (is, none) refl)
open_there P me comm source tag sender start (suc k) (c ∷ calls) call there accepted free =
    let F : ℕ → Type 0 = λ i. partner_of P (sender, i) ≡ None in
    or_right (accepts me comm source tag sender c && not (is_some (partner_of P (sender, start)))) (open_in P (probe_of me comm source tag) sender (start + 1) calls)
    (open_there P me comm source tag sender (start + 1) k calls call there accepted (subst F (omega arith) free))

pub none_found : (n : ℕ) (G : List Event) → NoneFound n G
none_found n G me comm c sent send source tag ints sync nothing below send_is free none =
    let here : (me == me) ≡ true = eq-eqb me me refl in
    let all = all_agree (c == comm) (source_agrees source send.0) (tag_agrees tag sent) none in
    let accepted : accepts me comm source tag send.0 (Send c me sent ints sync) ≡ true = rw here all in
    let found : open_in (pairs_of G) (probe_of me comm source tag) send.0 0 (starts_of (view_of G send.0)) ≡ true =
    (let F : ℕ → Type 0 = λ i. partner_of (pairs_of G) (send.0, i) ≡ None in
    open_there (pairs_of G) me comm source tag send.0 0 send.1 (starts_of (view_of G send.0)) (Send c me sent ints sync) send_is accepted (subst F (omega arith) free)) in
    let some = any_member (λ sender. open_in (pairs_of G) (probe_of me comm source tag) sender 0 (starts_of (view_of G sender))) (world n 0) send.0 ((AreMembers-world n send.0 below).has_me) found in
    let no : true ≡ false = sym some ∙ nothing in
    cc

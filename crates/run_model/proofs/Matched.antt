-- A message that a receive gets is one that it accepts.
use Rattle.std.proofs.Common.{◌&&◌, ◌==◌, ◌∙◌, ◌≡◌, Bool, List, Some, [], false, inl, inr, sym, true, ℕ, ℤ}
use Rattle.std.proofs.lemmas.Bool.{and_parts}
use Rattle.mpi_call.specs.declared.call.Call.TheVariants.{Post, Send}
use Rattle.mpi_call.specs.declared.call.Source.{Source}
use Rattle.mpi_call.specs.declared.call.Tag.{Tag}
use Rattle.mpi_call.specs.Acceptance.{accepts, source_agrees, tag_agrees}
use Rattle.run_model.specs.declared.event.Event.{Event}
use Rattle.run_model.specs.Pairs.{IsMatched, Name, named, pairs_of, partner_of}

-- No divergence and no starvation.
pub none_matched : IsMatched []
none_matched =
    record {
      pairs_accept = λ a b h. absurd (cc);
      one_partner = λ a b h. absurd (cc);
      no_overtaking = λ post sent h start less takes. absurd (cc);
      earliest_receive = λ post sent h start less takes. absurd (cc);
    }

-- In a run, an entry fits its call, and breaks on no start.
-- what accepting says
pub record Agrees (source : Source) (tag : Tag) (sender sent : ℕ) : Type 0 where
  pub source_is : source_agrees source sender ≡ true
  pub tag_is : tag_agrees tag sent ≡ true

pub accepts-parts : (me comm : ℕ) (source : Source) (tag : Tag) (sender c dest t : ℕ) (ints : List ℤ) (sync : Bool)
    → accepts me comm source tag sender (Send c dest t ints sync) ≡ true → Agrees source tag sender t
accepts-parts me comm source tag sender c dest t ints sync h =
    let one = and_parts (c == comm) ((dest == me) && (source_agrees source sender && tag_agrees tag t)) h in
    let two = and_parts (dest == me) (source_agrees source sender && tag_agrees tag t) one.1 in
    let three = and_parts (source_agrees source sender) (tag_agrees tag t) two.1 in
    record { source_is = three.0; tag_is = three.1 }

-- a partner's Send is accepted
pub taken_pair : (before : List Event) (post send : Name) (comm : ℕ) (source : Source) (tag : Tag) (room c dest t : ℕ) (ints : List ℤ) (sync : Bool)
    → IsMatched before → partner_of (pairs_of before) post ≡ Some send → named before post ≡ Some (Post comm source tag room)
    → named before send ≡ Some (Send c dest t ints sync) → accepts post.0 comm source tag send.0 (Send c dest t ints sync) ≡ true
taken_pair before post send comm source tag room c dest t ints sync matched paired post_is send_is =
    elim (matched.pairs_accept post send paired) [
      | inl takes ↦
          let p : Some takes.post_call ≡ Some (Post comm source tag room) = sym takes.post_is ∙ post_is in
          let q : Some takes.send_call ≡ Some (Send c dest t ints sync) = sym takes.send_is ∙ send_is in
          let p2 : takes.post_call ≡ Post comm source tag room = cc in
          let q2 : takes.send_call ≡ Send c dest t ints sync = cc in
          rw (p2, q2) at takes.accepted
      | inr takes ↦
          let p : Some takes.post_call ≡ Some (Send c dest t ints sync) = sym takes.post_is ∙ send_is in
          let p2 : takes.post_call ≡ Send c dest t ints sync = cc in
          absurd (let no : false ≡ true = rw p2 at takes.accepted in cc)
    ]

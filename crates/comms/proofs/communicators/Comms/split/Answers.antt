use Rattle.std.proofs.Common.{◌≡◌, ◌∙◌, ◌≤◌, ap, arith, get_or, length, List, [], ℕ, subst, sym, ◌<◌}
use Rattle.std.proofs.lemmas.List.{get_or_default}
use Rattle.comms.proofs.CommsLemmas.{numbers_fit, small_split}
use Rattle.comms.specs.Colours.{colours_of}
use Rattle.comms.specs.Communicators.{HaveFewMembers, Communicators}
use Rattle.comms.proofs.communicators.Comms.split.Goals as goal

pub numbers_for-requires-clause-fits : goal.numbers_for-requires-clause-fits
numbers_for-requires-clause-fits c =
    let view : c.self.inside.members.items ≡ c.args.self.now.members = ap (λ (all : Communicators). all.members) c.self.view_is in
    let counted : c.self.inside.members.len ≡ length c.self.inside.members.items = c.self.inside.members.ok.0 in
    let long : length c.self.inside.members.items ≡ length c.args.self.now.members = ap length view in
    let P : List (List ℕ) → Type 0 = λ all. length (get_or all c.args.comm []) ≤ 255 in
    numbers_fit c.len-first.result c.deref.result.now c.args.inputs.now (get_or c.args.self.now.members c.args.comm []) (omega arith)
    (c.deref.ensures.value ∙ (c.in_ok-colours.ensures.value ∙ ap colours_of c.as_slice.ensures)) c.requires.inputs (subst P view (c.self.invariant.at c.args.comm))

pub add-requires : goal.add-requires
add-requires c =
    let view : c.self.inside.members.items ≡ c.args.self.now.members = ap (λ (all : Communicators). all.members) c.self.view_is in
    let long : length c.self.inside.members.items ≡ length c.args.self.now.members = ap length view in
    let within : c.args.comm < length c.self.inside.members.items = omega (arith, c.requires.made) in
    let members_are : c.as_slice-3.result.now ≡ get_or c.self.inside.members.items c.args.comm [] =
    c.as_slice-3.ensures ∙ (c.index-members.ensures ∙ get_or_default c.self.inside.members.items c.args.comm c.index-members.result.now [] within) in
    let same : length c.as_slice-3.result.now ≡ length (get_or c.self.inside.members.items c.args.comm []) = ap length members_are in
    let few : length c.as_slice-3.result.now ≤ 255 = omega (arith, c.self.invariant.at c.args.comm) in
    record { small = subst HaveFewMembers (sym c.in_ok-made.ensures) (small_split c.deref-2.result.now c.as_slice-3.result.now c.as_slice-4.result.now few) }

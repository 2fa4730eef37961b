use Rattle.std.proofs.Common.{◌≡◌, ◌<◌, ◌∙◌, ◌++◌, ◌∷◌, ◌||◌, [], ℕ, ap, arith, get_or, is_some, length, List, refl, subst, sym}
use Rattle.std.proofs.lemmas.List.{get_or_read}
use Rattle.wait_graph.specs.declared.own.RankRecord.{RankRecord}
use Rattle.msg_races.specs.declared.names.Name.{Name as StartName}
use Rattle.wait_graph.specs.Register.{IsRankRecord, name_pair}
use Rattle.wait_graph.specs.inside.Names.{is_either}
use Rattle.wait_graph.specs.Partners.{is_paired_in}
use Rattle.run_model.specs.Pairs.{Name, partner_of}
use Rattle.run_model.specs.Views.{view_of}
use Rattle.wait_graph.proofs.RegisterLemmas.{register_more, few_calls}
use Rattle.wait_graph.proofs.register.Register.note.Goals as goal

pub note-requires-clause-calls : goal.note-requires-clause-calls
note-requires-clause-calls c =
    let F : RankRecord → Type 0 = λ o. IsRankRecord c.requires.0 (view_of c.requires.1 c.args.event.now.rank) o in
    let is = subst F (sym c.index_mut.ensures.value) (c.requires.2.ranks c.args.event.now.rank _ c.requires.3) in
    (few_calls c.requires.0 c.requires.1 c.args.event.now.rank c.index_mut.result.now is c.requires.4).0

pub note-requires-clause-starts : goal.note-requires-clause-starts
note-requires-clause-starts c =
    let F : RankRecord → Type 0 = λ o. IsRankRecord c.requires.0 (view_of c.requires.1 c.args.event.now.rank) o in
    let is = subst F (sym c.index_mut.ensures.value) (c.requires.2.ranks c.args.event.now.rank _ c.requires.3) in
    (few_calls c.requires.0 c.requires.1 c.args.event.now.rank c.index_mut.result.now is c.requires.4).1

pub returns : goal.returns
returns c = λ n before is low.
    let old = c.args.self.now in
    let rank : ℕ = c.args.event.now.rank in
    let within : rank < length old.ranks.items = (let many = is.as_many in omega (arith, many, low)) in
    let name : StartName = record { rank = rank; start = c.index.result.now.starts } in
    let mine : (d : RankRecord) → c.index.result.now ≡ get_or old.ranks.items rank d = λ d. get_or_read old.ranks.items rank c.index.result.now within c.index.ensures d in
    let moved : (d : RankRecord) → c.index_mut.result.now ≡ get_or old.ranks.items rank d = λ d. get_or_read old.ranks.items rank c.index_mut.result.now within c.index_mut.ensures.value d in
    register_more n before c.args.event.now old _ name c.note.new.self is low refl
    (λ d own. c.in_ok-note.ensures n (view_of before rank) (subst (IsRankRecord n (view_of before rank)) (sym (moved d)) own))
    (c.in_ok-push.ensures.items ∙ ap (λ m. old.names.items ++ m ∷ []) c.named.ensures) refl
    (λ d. ap (λ (o : RankRecord). o.starts) (mine d))
    (λ other. c.in_ok-join_all.ensures other
    ∙ (ap (λ (l : List (Name × Name)). is_paired_in c.join_some.new.self other || is_some (partner_of l (name_pair other))) c.as_slice.ensures
    ∙ ap (λ b. b || is_some (partner_of c.args.event.now.met (name_pair other))) (c.in_ok-join_some.ensures other ∙ ap (λ e. is_paired_in old.partners other || is_either e name other) c.earlier-earlier.ensures)))

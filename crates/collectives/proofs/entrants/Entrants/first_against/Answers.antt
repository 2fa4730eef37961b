use Rattle.std.proofs.Common.{◌≡◌, ◌∙◌, ap, sym, subst, List}
use Rattle.collectives.proofs.EntrantLemmas.{first_is_enter, none_against}
use Rattle.collectives.specs.Entrants.{AllAgree, first_against}
use Rattle.collectives.specs.declared.entrants.Entrant.{Entrant}
use Rattle.collectives.proofs.entrants.Entrants.first_against.Goals as goal

pub agree-requires-clause-first : goal.agree-requires-clause-first
agree-requires-clause-first c =
    let same : c.as_slice.result.now ≡ c.args.self.now = c.as_slice.ensures.value ∙ c.self.view_is in
    let all : AllAgree c.as_slice.result.now = subst AllAgree (sym same) c.requires.all in
    first_is_enter c.as_slice.result.now c.first-item.result all c.in-len1-up.len_at_least c.first-item.is

pub returns-then-agree : goal.returns-then-agree
returns-then-agree c =
    let same : c.as_slice.result.now ≡ c.args.self.now = c.as_slice.ensures.value ∙ c.self.view_is in
    let all : AllAgree c.as_slice.result.now = subst AllAgree (sym same) c.requires.all in
    none_against c.as_slice.result.now c.args.call.now c.first-item.result all c.in-len1-up.len_at_least c.first-item.is (sym c.agree.ensures ∙ c.if-agree.true)
    ∙ ap (λ (entrants : List Entrant). first_against entrants c.args.call.now) same

use Rattle.std.proofs.Common.{◌<◌, Option, length, rules, subst, sym}
use Rattle.requests.specs.declared.requests.TakeAnswer.{TakeAnswer}
use Rattle.requests.specs.Starts.{Rows}
use Rattle.requests.specs.States.{IsSound, MatchingState, table_of}
use Rattle.requests.specs.Histories.{AnswersAt, KnowsTakenAt}
use Rattle.requests.proofs.Sounding.{sound_after, sound_picked}
use Rattle.requests.proofs.TakingAt.{answers_at, knows_taken_at}
use Rattle.requests.proofs.requests.Requests.take_at.Goals as goal

pub invariant_of-self : goal.invariant_of-self
invariant_of-self c = sound_after c.self.inside.rows.items c.answer_at.new.rows.items c.self.inside.board c.self.inside.comms c.answer_at.ensures.same c.self.invariant

pub invariant_of-self-2 : goal.invariant_of-self-2
invariant_of-self-2 c =
    let rows : Rows = c.answer_at.new.rows.items in
    let F : MatchingState → Type 0 = λ s. c.args.rank < length s.table.rows in
    let L : Rows → Type 0 = λ r. c.args.rank < length r in
    let within : c.args.rank < length rows = subst L (sym c.answer_at.ensures.same) (subst F (sym c.self.view_is) c.requires.rank) in
    let sound = sound_after c.self.inside.rows.items rows c.self.inside.board c.self.inside.comms c.answer_at.ensures.same c.self.invariant in
    let G : Rows → Type 0 = λ r. IsSound (table_of r c.self.inside.board c.self.inside.comms) in
    subst G (sym c.mark_picked.ensures) (sound_picked rows c.self.inside.board c.self.inside.comms c.args.rank c.as_slice-listed.result.now c.in_ok-answer.answer sound within)

pub returns-clause-answer : goal.returns-clause-answer
returns-clause-answer c = search rules

pub returns-clause-after : goal.returns-clause-after
returns-clause-after c = search rules

pub returns-clause-knows : goal.returns-clause-knows
returns-clause-knows c = λ n events knows.
    let F : Option TakeAnswer → Type 0 = λ a. AnswersAt n events c.args.rank c.args.starts.now c.args.index a in
    subst F (sym (returns-clause-answer c)) (answers_at n events c.args.self.now c.args.rank c.args.starts.now c.args.index knows)

pub returns-clause-knows_on : goal.returns-clause-knows_on
returns-clause-knows_on c = λ n events knows.
    let F : MatchingState → Type 0 = λ s. KnowsTakenAt n events c.args.rank c.args.starts.now c.in_ok-answer.answer s in
    subst F (sym (returns-clause-after c)) (knows_taken_at n events c.args.self.now c.args.rank c.args.starts.now c.args.index c.in_ok-answer.answer knows c.requires.rank (returns-clause-answer c))

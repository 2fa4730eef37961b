use Rattle.std.proofs.Common.{◌∷◌, Option, subst}
use Rattle.std.specs.Option.{option_to_list}
use Rattle.std.proofs.lemmas.Result.{err_from_is_err_and}
use Rattle.wiz_io.specs.Files.{Files}
use Rattle.srr_log.specs.declared.limits.TheConstants.{MOST_LOG_BYTES}
use Rattle.wiz_logs.specs.Logs.{replay_inputs, replay_requirements}
use Rattle.wiz_tool.specs.Inputs.{AreHeld, input, option_input, text_limit}
use Rattle.wiz_task.specs.inside.Refusals.{IsUnmetIn}
use Rattle.wiz_tool.specs.inside.Told.{IsFailureBy}
use Rattle.wiz_words.specs.Texts.{replay_with_texts}
use Rattle.wiz_task.proofs.InputLemmas.{later_unread, unmet}
use Rattle.wiz_logs.proofs.SubjectLemmas.{held_short}
use Rattle.wiz_logs.proofs.replaying.subject.read_subject.Goals as goal

pub accept_subject-requires-clause-text : goal.accept_subject-requires-clause-text
accept_subject-requires-clause-text g c = held_short _ (replay_with_texts c.args.replay.now).program c.in_ok-text.text c.in_ok-text.ensures.held

pub returns-in_err-text-clause-refused : goal.returns-in_err-text-clause-refused
returns-in_err-text-clause-refused g c =
    let replay = replay_with_texts c.args.replay.now in
    let p = err_from_is_err_and c.from_residual-in_err-text.result c.from_residual-in_err-text.ensures.1 in
    rw (p.1, p.2)
    (later_unread (g.S.Store.observed c.args.store.now) (g.S.Store.observed c.read_input.new.store) (g.S.Store.observed c.read_option.new.store)
    (input MOST_LOG_BYTES replay.log) (option_input text_limit replay.program) replay_requirements
    c.in_err-text.field-0.0 (c.in_ok-bytes.bytes, c.in_ok-bytes.ensures.held) c.in_ok-bytes.ensures.files c.in_ok-bytes.ensures.later
    c.in_err-text.ensures.unread)

pub returns-in_err-subject-clause-refused : goal.returns-in_err-subject-clause-refused
returns-in_err-subject-clause-refused g c =
    let replay = replay_with_texts c.args.replay.now in
    let files : Option Files = (g.S.Store.observed c.args.store.now).files in
    let held : AreHeld files (replay_inputs replay) (c.in_ok-bytes.bytes ∷ option_to_list c.in_ok-text.text) =
    (c.in_ok-bytes.ensures.held, rw c.in_ok-bytes.ensures.files at c.in_ok-text.ensures.held) in
    let p = err_from_is_err_and c.from_residual-in_err-subject.result c.from_residual-in_err-subject.ensures.1 in
    rw (p.1, p.2)
    (unmet (g.S.Store.observed c.args.store.now) (g.S.Store.observed c.read_option.new.store) (replay_inputs replay) replay_requirements
    (c.in_ok-bytes.bytes ∷ option_to_list c.in_ok-text.text) c.in_err-subject.field-0.0 held
    (subst (λ bytes. IsFailureBy (IsUnmetIn (replay_requirements (bytes ∷ option_to_list c.in_ok-text.text))) c.in_err-subject.field-0.0) c.as_slice.ensures c.in_err-subject.ensures.refused))

pub returns-clause-subject : goal.returns-clause-subject
returns-clause-subject g c =
    let replay = replay_with_texts c.args.replay.now in
    let files : Option Files = (g.S.Store.observed c.args.store.now).files in
    let held : AreHeld files (replay_inputs replay) (c.in_ok-bytes.bytes ∷ option_to_list c.in_ok-text.text) =
    (c.in_ok-bytes.ensures.held, rw c.in_ok-bytes.ensures.files at c.in_ok-text.ensures.held) in
    (c.in_ok-bytes.bytes ∷ option_to_list c.in_ok-text.text, held, rw c.as_slice.ensures at c.in_ok-subject.ensures.subject)

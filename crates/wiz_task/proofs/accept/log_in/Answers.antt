use Rattle.std.proofs.Common.{◌≡◌, ap, inl, inr, refl, [], ◌∷◌}
use Rattle.srr_log.specs.declared.fault.LogFault.{LogFault}
use Rattle.srr_log2.specs.Formats.{IsFaultOfLog}
use Rattle.wiz_tool.specs.declared.refusal.Refusal.TheVariants.{Log}
use Rattle.wiz_task.specs.Requirements.{a_log}
use Rattle.wiz_task.specs.inside.Refusals.{IsUnmetIn}
use Rattle.wiz_task.proofs.InputLemmas.{weaken}
use Rattle.wiz_task.proofs.LogLemmas.{bounds_of}
use Rattle.wiz_task.proofs.accept.log_in.Goals as goal

pub returns-in-Ok-clause-within : goal.returns-in-Ok-clause-within
returns-in-Ok-clause-within c = (bounds_of c.args.bytes.now c.in-Ok.log c.in-Ok.ensures.log).program

pub returns-in_default-clause-refused : goal.returns-in_default-clause-refused
returns-in_default-clause-refused c =
    let first : IsFaultOfLog c.args.bytes.now c.in-Err.fault = elim c.in-Err.ensures.fault [
      | inl memory ↦ absurd (c.in_default.not-NoMemory (ap (λ (fault : LogFault). fault.why) memory))
      | inr first ↦ first
    ] in
    weaken (λ refused. refused ≡ record { refusal = Log c.in-Err.fault; name = [] }) (IsUnmetIn (a_log c.args.bytes.now ∷ [])) (λ refused is. rw is (inl first, refl)) c.refused.result c.refused.ensures

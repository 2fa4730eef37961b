use Rattle.std.proofs.Common.{◌≡◌, ap, inl, inr, refl, [], ◌∷◌}
use Rattle.wiz_tool.specs.declared.refusal.Refusal.TheVariants.{Program}
use Rattle.wiz_task.specs.Requirements.{a_program}
use Rattle.wiz_task.specs.inside.Refusals.{IsUnmetIn}
use Rattle.c_types.specs.Checks.{IsFaultOf}
use Rattle.c_lex.specs.declared.fault.SourceFault.{SourceFault}
use Rattle.wiz_task.proofs.InputLemmas.{weaken}
use Rattle.wiz_task.proofs.accept.program_in.Goals as goal

pub returns-in_default-clause-refused : goal.returns-in_default-clause-refused
returns-in_default-clause-refused c =
    let first : IsFaultOf c.args.text.now c.in-Err.fault = elim c.in-Err.ensures.fault [
      | inl memory ↦ absurd (c.in_default.not-NoMemory (ap (λ (fault : SourceFault). fault.why) memory))
      | inr first ↦ first
    ] in
    weaken (λ refused. refused ≡ record { refusal = Program c.in-Err.fault; name = [] }) (IsUnmetIn (a_program c.args.text.now ∷ [])) (λ refused is. rw is (inl first, refl)) c.refused.result c.refused.ensures

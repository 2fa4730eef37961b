use Rattle.std.proofs.Common.{◌++◌, [], List, ℕ, ap, ◌∙◌}
use Rattle.std.proofs.lemmas.Result.{on_ok_weaker}
use Rattle.srr_log.specs.inside.Written.{group_text, program_text, lists_text}
use Rattle.srr_log.proofs.WriteLaws.{whole_text}
use Rattle.srr_log.proofs.write_log.push_log.Goals as goal

pub returns : goal.returns
returns c =
    let log = c.args.log.now in
    let second = c.in_ok-push_group.ensures ∙ ap (λ (g : List ℕ). c.push_head.new.out ++ group_text g []) c.as_slice.ensures in
    let third = c.in_ok-push_program.ensures ∙ ap (λ (p : List ℕ). c.push_group.new.out ++ program_text p []) c.as_slice-2.ensures in
    let fourth = c.in_ok-push_lists.ensures ∙ ap (λ (g : List ℕ). c.push_program.new.out ++ lists_text g c.as_slice-4.result.now []) c.as_slice-3.ensures
    ∙ ap (λ ls. c.push_program.new.out ++ lists_text log.group ls []) c.as_slice-4.ensures in
    on_ok_weaker c.push_text.result (whole_text log c.args.out.now c.push_head.new.out c.push_group.new.out c.push_program.new.out c.push_lists.new.out c.push_text.new.out c.in_ok-push_head.ensures second third fourth) c.push_text.ensures.ok

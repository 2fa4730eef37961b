use Rattle.std.proofs.Common.{List, ℕ, subst, sym}
use Rattle.run_model.specs.declared.event.Event.{Event}
use Rattle.run_model.specs.Lists.{world}
use Rattle.run_model.proofs.MemberLists.{AreMembers-world}
use Rattle.run_model.proofs.Prompt.{prompt_is_run}
use Rattle.srr_entry.specs.Seen.{AreRanksViews}
use Rattle.srr_entry.proofs.Making.{ranks_views}
use Rattle.run_states.proofs.key.code_of_run.Goals as goal

pub log_of-requires : goal.log_of-requires
log_of-requires g c =
    let n : ℕ = c.args.n in
    let next = g.P.Program.next c.args.program.now in
    let events : List Event = c.args.history.now.events in
    let F : List ℕ → Type 0 = λ group. AreRanksViews n group events in
    let G : List Event → Type 0 = λ shown. AreRanksViews n c.in_ok-all.all shown in
    subst G (sym c.in_ok-by_rank.ensures) (subst F (sym c.in_ok-all.ensures)
    (ranks_views next n (world n 0) events (record { ends = g.P.Program.ends_exactly c.args.program.now; enters = g.P.Program.enters_in_form c.args.program.now }) (prompt_is_run next n events c.requires)
    (AreMembers-world n 0 c.requires.some).below))

use Rattle.std.proofs.Common.{get_or}
use Rattle.mpi_call.specs.Needs.{needs}
use Rattle.srr_entry.proofs.MemberLemmas.{AreAmong-rest}
use Rattle.plan_advice.proofs.Blocks.{rest_at, span_more}
use Rattle.plan_advice.proofs.span.needed_span.Goals as goal

pub loop-rest-preserved : goal.loop-rest-preserved
loop-rest-preserved c =
    record {
      same = λ begin end has.
          span_more begin end c.loop-rest.span.least c.loop-rest.span.greatest c.with_needed-span.result.least c.with_needed-span.result.greatest (get_or c.loop-rest.rest.now 0 0)
          (needs c.args.call.now c.args.members.now c.args.rank) c.args.members.now c.loop-rest.rest.now _ (rest_at c.loop-rest.rest.now c.in-len1-up.len_at_least)
          (c.with_needed-span.ensures begin end) (c.loop-rest.invariant.same begin end has);
      among = AreAmong-rest c.loop-rest.rest.now c.args.members.now c.loop-rest.invariant.among c.in-len1-up.len_at_least;
    }

use Rattle.std.proofs.Common.{◌++◌, ◌∷◌, []}
use Rattle.srr_entry.proofs.KnownLemmas.{read_more}
use Rattle.srr_entry.proofs.known.Known.after.Goals as goal

pub loop-rest-preserved : goal.loop-rest-preserved
loop-rest-preserved c =
    let own = c.loop-rest.invariant.own in
    let one = c.one-item.result in
    record {
      own = own ++ (one.0, one.1) ∷ [];
      known = c.in_ok-note.ensures c.args.ranks own c.loop-rest.invariant.known;
      all = read_more c.args.seen.now own c.loop-rest.rest.now one _ c.loop-rest.invariant.all c.in-len1-up.len_at_least c.one-item.is;
    }

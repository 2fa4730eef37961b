use Rattle.std.proofs.Common.{◌≡◌, ◌<◌, ap, sym, ◌∙◌, length, true, arith, below_more, slice_index}
use Rattle.mpi_call.specs.Collectives.{is_distinct}
use Rattle.srr_replay.proofs.KeptLemmas.{AreKept-set}
use Rattle.srr_replay.proofs.RoundsLemmas.{RunAll-set, IsExhausted-each, grows_on, longer, no_shorter, one_attempt, same_on}
use Rattle.srr_replay.proofs.serial.round.Goals as goal
use Rattle.srr_replay.proofs.serial.round.Goals.{then-branch, else-branch}

pub loop-k-preserved : goal.loop-k-preserved
loop-k-preserved g c =
    let ok = c.in_ok-try_rank.ensures in
    let inv = c.loop-k.invariant in
    let group_is : c.args.group.now ≡ c.loop-k.replay.log.group = c.requires.group ∙ sym (ap (λ l. l.group) inv.same.log) in
    let distinct : is_distinct c.loop-k.replay.log.group ≡ true = rw inv.same.log c.requires.distinct in
    let lt : c.loop-k.k < length c.loop-k.replay.log.group = omega (arith, inv.runs.as_many) in
    let group_at : c.args.group.now ≡ c.args.replay.now.log.group = c.requires.group in
    record {
      same = same_on c.args.replay.now c.loop-k.replay c.try_rank.new.replay inv.same ok.same;
      runs = rw (ok.same.program, ok.same.log)
          (RunAll-set _ _ _ _ _ _ _ _ c.in_ok-try_rank.field-0 inv.runs distinct lt (rw group_is at ok.grows) (rw group_is at ok.run));
      kept = AreKept-set _ _ _ _ _ _ _ inv.kept (omega (arith, inv.runs.as_many, lt)) ok.kept;
      begins = grows_on (slice_index c.args.group.now c.loop-k.k) c.args.replay.now.events c.loop-k.replay.events c.try_rank.new.replay.events c.in_ok-try_rank.field-0 inv.begins ok.grows;
      grown = λ is. elim c.if-branch.branch [
        | then-branch w ↦
            let more = longer (slice_index c.args.group.now c.loop-k.k) c.loop-k.replay.events c.try_rank.new.replay.events (rw w.if-branch.true at ok.grows) in
            let before = no_shorter c.loop-k.moved c.args.replay.now.events c.loop-k.replay.events inv.grown inv.still in
            omega (arith, more, before)
        | else-branch w ↦
            let same : c.try_rank.new.replay.events ≡ c.loop-k.replay.events = rw w.if-branch.false at ok.grows in
            rw same (inv.grown (sym w.moved-is ∙ is))
      ];
      still = λ is. elim c.if-branch.branch [
        | then-branch w ↦ absurd (cc)
        | else-branch w ↦
            let same : c.try_rank.new.replay.events ≡ c.loop-k.replay.events = rw w.if-branch.false at ok.grows in
            same ∙ inv.still (sym w.moved-is ∙ is)
      ];
      rests = λ is. elim c.if-branch.branch [
        | then-branch w ↦ absurd (cc)
        | else-branch w ↦
            let same : c.try_rank.new.replay.events ≡ c.loop-k.replay.events = rw w.if-branch.false at ok.grows in
            rw same (below_more _ _ (inv.rests (sym w.moved-is ∙ is)) (rw (inv.same.program, inv.same.log, inv.same.stop, group_at) at (ok.rests w.if-branch.false)))
      ];
      goes = one_attempt (g.P.Program.next c.args.replay.now.program) c.args.replay.now.log c.args.replay.now.stop c.args.replay.now.log.group c.loop-k.k
          c.args.replay.now.events c.loop-k.replay.events c.try_rank.new.replay.events (rw inv.same.log at lt) inv.goes (rw (inv.same.program, inv.same.log, inv.same.stop, group_at) at ok.goes);
    }

pub returns-clause-rests : goal.returns-clause-rests
returns-clause-rests g c = λ still.
    IsExhausted-each _ _ _ _ (λ k lt. c.loop-k.invariant.rests still k (omega (arith, c.loop-k.invariant.runs.as_many, ap (λ l. length l.group) c.loop-k.invariant.same.log)))

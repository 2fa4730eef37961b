use Rattle.std.proofs.Common.{arith}
use Rattle.trace_json.proofs.laws.spans_are_disjoint.Goals as goal

pub returns : goal.returns
returns g c = λ plan events drawing one other run is first second same less.
    let rises = c.lanes_rise.ensures plan events drawing one other run is first second same less in
    omega (arith, rises)

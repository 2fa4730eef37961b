-- Calls that are kept while runs are tried.
use Rattle.std.proofs.Common.{◌<◌, ◌∙◌, ℕ, List, Option, inl, inr, sym, length, length-set, set, get_or-set_same, get_or-set_other, arith}
use Rattle.mpi_call.specs.declared.call.Call.{Call}
use Rattle.run_model.specs.Program.{Standing}
use Rattle.run_model.specs.Views.{Next}
use Rattle.srr_replay.specs.inside.Kept.{AreCallsOfRuns, IsKeptCall}
use Rattle.srr_replay.proofs.RoundsLemmas.{number_cases}

-- the calls after one run was tried
pub AreKept-set : {P R : Type 0} (next : P → Next) (standing : R → Standing P) (runs : List R) (calls : List (Option Call)) (k : ℕ) (run : R) (call : Option Call)
    → AreCallsOfRuns next standing runs calls → k < length runs → IsKeptCall next (standing run) call → AreCallsOfRuns next standing (set runs k run) (set calls k call)
AreKept-set {P} {R} next standing runs calls k run call all lt one =
    record {
      as_many = length-set calls k call ∙ all.as_many ∙ sym (length-set runs k run);
      each = λ j d e below. elim (number_cases j k) [
        | inl same ↦
            let within : k < length calls = omega (arith, all.as_many, lt) in
            rw (same, get_or-set_same runs k run d lt, get_or-set_same calls k call e within) one
        | inr other ↦ rw (get_or-set_other runs k j run d other, get_or-set_other calls k j call e other) (all.each j d e (omega (arith, below, length-set runs k run)))
      ];
    }

-- The names of the lists of positions that are kept.
use Rattle.std.specs.Prelude.{ℕ, Bool, ◌==◌}
use Rattle.std.specs.Ordering.{eq_of_both, on}
use Rattle.causes.specs.declared.key.Key.{Key}
use Rattle.causes.specs.declared.key.TheConstants.{ENTERS, EVENTS, STARTS}

-- all parts of two keys are equal
abbrev pub same_key : Key → Key → Bool
same_key =
    eq_of_both (on (λ (k : Key). k.kind) ◌==◌)
    (eq_of_both (on (λ (k : Key). k.number) ◌==◌)
    (on (λ (k : Key). k.rank) ◌==◌))

-- the events of a rank
abbrev pub events_key : ℕ → Key
events_key rank = record { kind = EVENTS; rank = rank; number = 0 }

-- the starts of a rank
abbrev pub starts_key : ℕ → Key
starts_key rank = record { kind = STARTS; rank = rank; number = 0 }

-- the Enters of a rank on a communicator
abbrev pub enters_key : ℕ → ℕ → Key
enters_key rank comm = record { kind = ENTERS; rank = rank; number = comm }

-- Names that stand without a declaration. (MPI 3.1, "Defined Values and Handles" and the C bindings; ISO C, `limits.h`, `stdio.h`.)
-- The numbers of the MPI names are this language's own.
use Rattle.std.specs.Prelude.{ℕ, List, [], ◌∷◌, if◌then◌else◌, Option, Some, None, codes, pos, neg_ℤ}
use Rattle.std.specs.Str.{bytes_eq}
use Rattle.mpi_call.specs.declared.call.Op.TheVariants as o
use Rattle.c_names.specs.declared.function.MpiFunction.TheVariants as f
use Rattle.c_names.specs.declared.predefined.Predefined.{Predefined}
use Rattle.c_names.specs.declared.predefined.Predefined.TheVariants as p

-- each name and what it means
unfoldable pub names : List (List ℕ × Predefined)
names =
    (codes "MPI_ANY_TAG", p.Number (neg_ℤ (pos 1)))
    ∷ (codes "MPI_PROC_NULL", p.Number (neg_ℤ (pos 1)))
    ∷ (codes "MPI_ANY_SOURCE", p.Number (neg_ℤ (pos 2)))
    ∷ (codes "MPI_UNDEFINED", p.Number (neg_ℤ (pos 32766)))
    ∷ (codes "INT_MAX", p.Number (pos 2147483647))
    ∷ (codes "INT_MIN", p.Number (neg_ℤ (pos 2147483648)))
    ∷ (codes "MPI_COMM_WORLD", p.Communicator (pos 0))
    ∷ (codes "MPI_COMM_NULL", p.Communicator (neg_ℤ (pos 1)))
    ∷ (codes "MPI_REQUEST_NULL", p.NullRequest)
    ∷ (codes "MPI_INT", p.Datatype)
    ∷ (codes "MPI_MAX", p.Operation o.Max)
    ∷ (codes "MPI_MIN", p.Operation o.Min)
    ∷ (codes "MPI_SUM", p.Operation o.Sum)
    ∷ (codes "MPI_PROD", p.Operation o.Prod)
    ∷ (codes "MPI_LAND", p.Operation o.Land)
    ∷ (codes "MPI_BAND", p.Operation o.Band)
    ∷ (codes "MPI_LOR", p.Operation o.Lor)
    ∷ (codes "MPI_BOR", p.Operation o.Bor)
    ∷ (codes "MPI_LXOR", p.Operation o.Lxor)
    ∷ (codes "MPI_BXOR", p.Operation o.Bxor)
    ∷ (codes "MPI_STATUS_IGNORE", p.IgnoredStatus)
    ∷ (codes "MPI_STATUSES_IGNORE", p.IgnoredStatuses)
    ∷ (codes "NULL", p.NoReference)
    ∷ (codes "stdout", p.Output)
    ∷ (codes "printf", p.Printf)
    ∷ (codes "fflush", p.Fflush)
    ∷ (codes "MPI_Init", p.Mpi f.Init)
    ∷ (codes "MPI_Finalize", p.Mpi f.Finalize)
    ∷ (codes "MPI_Comm_rank", p.Mpi f.CommRank)
    ∷ (codes "MPI_Comm_size", p.Mpi f.CommSize)
    ∷ (codes "MPI_Get_count", p.Mpi f.GetCount)
    ∷ (codes "MPI_Comm_free", p.Mpi f.CommFree)
    ∷ (codes "MPI_Send", p.Mpi f.Send)
    ∷ (codes "MPI_Ssend", p.Mpi f.Ssend)
    ∷ (codes "MPI_Recv", p.Mpi f.Recv)
    ∷ (codes "MPI_Sendrecv", p.Mpi f.Sendrecv)
    ∷ (codes "MPI_Isend", p.Mpi f.Isend)
    ∷ (codes "MPI_Issend", p.Mpi f.Issend)
    ∷ (codes "MPI_Irecv", p.Mpi f.Irecv)
    ∷ (codes "MPI_Wait", p.Mpi f.Wait)
    ∷ (codes "MPI_Waitall", p.Mpi f.Waitall)
    ∷ (codes "MPI_Waitany", p.Mpi f.Waitany)
    ∷ (codes "MPI_Waitsome", p.Mpi f.Waitsome)
    ∷ (codes "MPI_Test", p.Mpi f.Test)
    ∷ (codes "MPI_Testall", p.Mpi f.Testall)
    ∷ (codes "MPI_Testany", p.Mpi f.Testany)
    ∷ (codes "MPI_Testsome", p.Mpi f.Testsome)
    ∷ (codes "MPI_Probe", p.Mpi f.Probe)
    ∷ (codes "MPI_Iprobe", p.Mpi f.Iprobe)
    ∷ (codes "MPI_Barrier", p.Mpi f.Barrier)
    ∷ (codes "MPI_Bcast", p.Mpi f.Bcast)
    ∷ (codes "MPI_Reduce", p.Mpi f.Reduce)
    ∷ (codes "MPI_Allreduce", p.Mpi f.Allreduce)
    ∷ (codes "MPI_Scan", p.Mpi f.Scan)
    ∷ (codes "MPI_Gather", p.Mpi f.Gather)
    ∷ (codes "MPI_Scatter", p.Mpi f.Scatter)
    ∷ (codes "MPI_Allgather", p.Mpi f.Allgather)
    ∷ (codes "MPI_Alltoall", p.Mpi f.Alltoall)
    ∷ (codes "MPI_Comm_split", p.Mpi f.CommSplit)
    ∷ (codes "MPI_Comm_dup", p.Mpi f.CommDup)
    ∷ (codes "MPI_Abort", p.Mpi f.Abort)
    ∷ []

-- what the row with this name has
abbrev pub predefined_in : List (List ℕ × Predefined) → List ℕ → Option Predefined
predefined_in [] name = None
predefined_in (row ∷ rows) name = if bytes_eq row.0 name then Some row.1 else predefined_in rows name

-- what a name stands for, if it stands without a declaration
abbrev pub predefined : List ℕ → Option Predefined
predefined name = predefined_in names name

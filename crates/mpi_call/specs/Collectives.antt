-- The tables of the collectives, for those who cite them.
pub use Rattle.mpi_call.specs.Members.{is_member, place_of, is_distinct}
pub use Rattle.mpi_call.specs.Needs.{needs, agree, input_length, result_length, is_uncoloured, colour_of, IsEnterOf}
pub use Rattle.mpi_call.specs.Results.{result_of, AreInputsOf}
pub use Rattle.mpi_call.specs.Made.{members_made}

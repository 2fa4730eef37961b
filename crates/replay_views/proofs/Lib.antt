mod CutLemmas
mod GivenLemmas
mod ValueLemmas
mod WatchLemmas
mod SnapshotLemmas
mod PlaceLemmas
mod WorkedExamples

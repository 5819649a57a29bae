pub mod LendingLemmas

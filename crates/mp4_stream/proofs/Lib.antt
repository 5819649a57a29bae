pub mod FragmentLemmas
pub mod CheckLemmas
pub mod FeederLemmas
pub mod BoxFeederLemmas
pub mod PushLemmas

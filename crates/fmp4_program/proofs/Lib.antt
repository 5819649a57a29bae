pub mod Numbers
pub mod Understood
pub mod CopySizes
pub mod FlushLemmas

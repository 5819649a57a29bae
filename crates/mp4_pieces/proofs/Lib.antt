pub mod CutLemmas
pub mod FitLemmas
mod WhatFitsLemmas
mod ShortLemmas
pub mod GrowLemmas
pub mod PieceLemmas
pub mod PlainLemmas
pub mod GroupLemmas
pub mod RoomLemmas
pub mod FitsLemmas
mod LowerRuleLemmas
pub mod OrderLemmas
pub mod SpanLemmas

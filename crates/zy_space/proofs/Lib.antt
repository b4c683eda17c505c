pub mod TagLemmas
pub mod BucketLemmas
pub mod SearchLemmas
pub mod ChangeLemmas
pub mod StateLemmas
pub mod ServiceLaws
